-- `rule::check_rule`: 20, then 21.
use Rattle.std.proofs.Common.{sym}
use Rattle.rule.proofs.Checked.{answers_short, answers_pass, answers_not}
use Rattle.rule.proofs.check_rule.Goals as goal

pub returns-then-rule-lt-EDGE_NEED : goal.returns-then-rule-lt-EDGE_NEED
returns-then-rule-lt-EDGE_NEED c = rw c.into.ensures (answers_short _ _ c.if-rule-lt-EDGE_NEED.true)

pub returns-then-not-readable : goal.returns-then-not-readable
returns-then-not-readable c =
    rw c.into-then-not-readable.ensures
    (answers_not _ _ c.if-rule-lt-EDGE_NEED.false (sym c.if-not-readable.ensures))

pub returns : goal.returns
returns c = answers_pass _ _ c.if-rule-lt-EDGE_NEED.false (sym c.if-not-readable.ensures)
