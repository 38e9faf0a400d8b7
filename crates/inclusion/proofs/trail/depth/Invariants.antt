-- `inclusion::trail::depth` meets its contract: the count is the level of the place, which rises one at a time.
use Rattle.inclusion.proofs.Levels.{Counting}
use Rattle.inclusion.proofs.trail.depth.Given as goal

abbrev pub invariant-loop-k : goal.invariant-loop-k
invariant-loop-k l = Counting l.scratch l.last l.n l.k
