-- `Plan::mark_row` meets its contract: after n pairs the targets of the first n are marked.
use Rattle.std.proofs.Common.{rules}
use Rattle.construct.proofs.TargetMarks.{rowing_start, rowing_next, rowing_end, enough_again}
use Rattle.construct.proofs.Plan.mark_row.Goals as goal

pub loop-code-init : goal.loop-code-init
loop-code-init c = rowing_start _ _ _ _ _ _ _ (c.span_of_none-span.ensures c.requires.marks_value)

pub mark_pair-span-requires : goal.mark_pair-span-requires
mark_pair-span-requires c = record {
  enough = enough_again _ c.requires.enough c.loop-code.auto.marks;
  in_span = c.loop-code.invariant.marks_are.in_span;
}

pub loop-code-preserved : goal.loop-code-preserved
loop-code-preserved c = rowing_next c.loop-code.invariant _ _ (search rules) c.mark_pair-span.ensures

pub returns : goal.returns
returns c = rowing_end c.loop-code.invariant (search rules)
