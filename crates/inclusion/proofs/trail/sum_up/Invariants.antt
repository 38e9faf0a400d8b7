-- `inclusion::trail::sum_up` meets its contract: the stamps so far, then the pauses to come.
use Rattle.inclusion.proofs.Sums.{Summing}
use Rattle.inclusion.proofs.trail.sum_up.Given as goal

abbrev pub invariant-loop-stamp : goal.invariant-loop-stamp
invariant-loop-stamp l = Summing l.initial.stamp-items l.stamp-items l.total l.stamp-index
