-- `bits::lay_codes` meets its contract: the codes of the first k numbers stand in the table.
use Rattle.std.proofs.Common.{◌∙◌, ap, min, rules}
use Rattle.bits.proofs.Laying.{filling_room, filling_next, filled_all}
use Rattle.bits.proofs.lay_codes.Goals as goal

pub loop-k-preserved : goal.loop-k-preserved
loop-k-preserved c f =
    let before = c.loop-k.invariant f in
    let laid_now = c.lay_number-to.ensures (filling_room before (search rules)) in
    filling_next before _ _ (search rules) laid_now.0 laid_now.1 (search rules)

pub returns : goal.returns
returns c in_span count =
    filled_all c.args.span c.args.marks.now _ _ _ _ _ in_span count
    (c.min-past.ensures ∙ ap (λ n. min n 2048) c.min.ensures) (search rules) c.loop-k.invariant
