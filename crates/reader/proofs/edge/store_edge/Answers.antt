-- `reader::edge::store_edge` meets its contract: the edge's kind, its fields, its count, its text, zeros.
use Rattle.reader.proofs.Taken.{edge_most}
use Rattle.reader.proofs.Stored.{edge_stored, text_size}
use Rattle.reader.specs.Records.{kind_number}
use Rattle.reader.proofs.edge.store_edge.Goals as goal

pub returns : goal.returns
returns c =
    let x = c.args.record in
    let few = edge_most x.kind x.body.now c.requires.is_edge x.fits in
    λ zero. edge_stored (kind_number x.kind) x.body.now c.args.edge.now few zero _ c.number.ensures _
    c.copy_numbers.ensures _ (text_size x.body.now) _ c.text_count.ensures _ c.copy_numbers-2.ensures
