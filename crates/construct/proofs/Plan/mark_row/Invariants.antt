-- `Plan::mark_row` meets its contract: after n pairs the targets of the first n are marked.
use Rattle.construct.proofs.TargetMarks.{Rowing}
use Rattle.construct.proofs.Plan.mark_row.Given as goal

abbrev pub invariant-loop-code : goal.invariant-loop-code
invariant-loop-code l =
    Rowing l.self.rule.head l.self.rule.edges.now l.input l.timer l.row l.code-index l.marks l.span
