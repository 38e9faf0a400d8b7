-- `edges::StoredEdge::text`: the part of the table behind the fields.
use mathlib.Core.Path.{◌∙◌, ap₂}
use Rattle.model.specs.Layout.{text_length}
use Rattle.edges.proofs.FieldsRead.{text_read}
use Rattle.edges.proofs.StoredEdge.text.Goals as goal

pub returns : goal.returns
returns c =
    let long = c.text_length-length.ensures ∙ ap₂ text_length c.kind.ensures.0 c.count.ensures.0 in
    text_read _ _ _ _ c.start.ensures.0 long c.part_of.ensures
