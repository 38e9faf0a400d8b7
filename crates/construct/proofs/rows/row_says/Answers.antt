-- `construct::rows::row_says` meets its contract: what is asked of every code is what the codes say.
use Rattle.std.proofs.Common.{◌∙◌, ap, rules}
use Rattle.std.proofs.lemmas.Iterator.Search.{any_from_yields_List}
use Rattle.std.proofs.lemmas.Iterator.{YieldsList-from_slice}
use Rattle.model.specs.Basics.{bit, quotient, one_if}
use Rattle.construct.proofs.RowVerdicts.{codes_asked}
use Rattle.construct.proofs.rows.row_says.Goals as goal

pub returns : goal.returns
returns c =
    let f = c.args.finals in
    c.from.ensures
    ∙ ap one_if
    (any_from_yields_List (λ x. bit (quotient x f.weight) f.ends) _ _ _ c.any-says.ensures.ran
    (YieldsList-from_slice c.args.codes.now (cc))
    (λ x b q k. search rules)
    ∙ codes_asked f.weight f.ends c.args.codes.now)
