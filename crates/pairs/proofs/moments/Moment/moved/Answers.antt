-- `Moment::moved` meets its contract: the bases moved so far, with those to come, are the target's.
use Rattle.std.proofs.Common.{rules}
use Rattle.pairs.proofs.Bases.{moving_start, moving_next, moving_end}
use Rattle.pairs.proofs.moments.Moment.moved.Goals as goal

pub loop-k-init : goal.loop-k-init
loop-k-init c = moving_start _ _ _ _ _ (search rules)

pub loop-k-preserved : goal.loop-k-preserved
loop-k-preserved c = moving_next c.loop-k.invariant _ (search rules) c.moved_base.ensures

pub returns : goal.returns
returns c = moving_end c.loop-k.invariant (search rules)
