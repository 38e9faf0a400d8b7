-- `bits::all_marked` meets its contract: what is asked of every code is asked of the row.
use Rattle.std.proofs.Common.{◌∙◌, rules}
use Rattle.std.proofs.lemmas.Iterator.Search.{all_from_yields_List}
use Rattle.std.proofs.lemmas.Iterator.{YieldsList-from_slice}
use Rattle.bits.specs.Bits.{marked}
use Rattle.bits.proofs.Loops.{row_asked}
use Rattle.bits.proofs.all_marked.Goals as goal

pub returns : goal.returns
returns c =
    all_from_yields_List (λ x. marked c.args.marks.now x) _ _ _ c.all.ensures.ran
    (YieldsList-from_slice c.args.row.now (cc))
    (λ x b q k. search rules)
    ∙ row_asked c.args.marks.now c.args.row.now
