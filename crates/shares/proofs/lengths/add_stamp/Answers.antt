-- `shares::lengths::add_stamp` meets its contract: places passed hold the lengths with one stamp more, the others those
-- of before.
use Rattle.std.proofs.Common.{refl, rules}
use Rattle.shares.proofs.LengthLaws.{stamping_start, stamping_turn, stamping_end}
use Rattle.shares.proofs.lengths.add_stamp.Goals as goal

pub loop-n-init : goal.loop-n-init
loop-n-init c = stamping_start _ _

pub loop-n-preserved : goal.loop-n-preserved
loop-n-preserved c = stamping_turn c.loop-n.invariant (search rules) refl refl refl c.cut.ensures

pub returns : goal.returns
returns c =
    let i = c.loop-n.invariant in
    (i.same_length, stamping_end i (search rules))
