-- `inclusion::trail::before` meets its contract: none of the places passed leads there.
use Rattle.inclusion.specs.Views.{graph_in}
use Rattle.inclusion.proofs.Sources.{Looking}
use Rattle.inclusion.proofs.trail.before.Given as goal

abbrev pub invariant-loop-k : goal.invariant-loop-k
invariant-loop-k l = Looking (graph_in l.two) l.scratch l.place l.x l.symbol l.level l.k
