-- `Plan::mark_next` meets its contract: the next row is the row's targets, once it is known whether the timer is reset.
use Rattle.construct.proofs.TargetMarks.{next_marked}
use Rattle.construct.proofs.Plan.mark_next.Goals as goal

pub returns : goal.returns
returns c =
    let rule = c.args.self.rule in
    next_marked rule.head rule.edges.now c.args.input c.args.row.now _ _ _ c.row_resets-timer.ensures
    c.mark_row-span.ensures
