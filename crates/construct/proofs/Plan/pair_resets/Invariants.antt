-- `Plan::pair_resets` meets its contract: the edges to come say what all say, while none passed resets.
use Rattle.std.proofs.Common.{◌-◌}
use Rattle.construct.specs.Marks.{rule_by}
use Rattle.construct.proofs.EdgeLaws.{Looking}
use Rattle.construct.proofs.Plan.pair_resets.Given as goal

abbrev pub invariant-loop-e : goal.invariant-loop-e
invariant-loop-e l = Looking (rule_by l.self) l.fn.input.symbol l.fn.input.interval l.code l.e

abbrev pub decreases-loop-e : goal.decreases-loop-e
decreases-loop-e l = l.self.rule.head.count - l.e
