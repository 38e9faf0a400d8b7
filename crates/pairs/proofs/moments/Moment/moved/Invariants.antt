-- `Moment::moved` meets its contract: the bases moved so far, with those to come, are the target's.
use Rattle.pairs.proofs.Bases.{Moving}
use Rattle.pairs.proofs.moments.Moment.moved.Given as goal

abbrev pub invariant-loop-k : goal.invariant-loop-k
invariant-loop-k l = Moving l.mask l.timer l.self.top l.self.interval l.k l.fn.bases l.base-items
