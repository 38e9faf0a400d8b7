-- `Plan::mark_pair` meets its contract: the targets by the edges passed are marked.
use Rattle.std.proofs.Common.{◌-◌}
use Rattle.bits.specs.Bits.{codes_in}
use Rattle.construct.proofs.TargetMarks.{Pairing}
use Rattle.construct.proofs.Plan.mark_pair.Given as goal

abbrev pub invariant-loop-e : goal.invariant-loop-e
invariant-loop-e l =
    Pairing l.self.rule.head l.self.rule.edges.now l.fn.input l.timer l.fn.code l.e (codes_in l.initial.marks) l.marks
    l.span

abbrev pub decreases-loop-e : goal.decreases-loop-e
decreases-loop-e l = l.self.rule.head.count - l.e
