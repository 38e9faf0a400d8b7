-- `inclusion::trail::retrace` meets its contract: the pauses and symbols written lead from the place to the last state.
use Rattle.std.proofs.Common.{length}
use Rattle.inclusion.specs.Views.{graph_in}
use Rattle.inclusion.proofs.Back.{Retracing}
use Rattle.inclusion.proofs.trail.retrace.Given as goal

abbrev pub invariant-loop-k : goal.invariant-loop-k
invariant-loop-k l =
    Retracing (graph_in l.two) l.scratch l.last (length l.initial.symbols) l.symbols l.stamps l.k l.left

abbrev pub decreases-loop-k : goal.decreases-loop-k
decreases-loop-k l = l.k
