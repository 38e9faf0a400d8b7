-- `reader::read_rule` meets its promise.
use Rattle.std.proofs.Common.{◌∙◌, ap, rules}
use Rattle.model.specs.Basics.{zeros}
use Rattle.reader.proofs.Whole.{reads_short, reads_refused, reads_rule}
use Rattle.reader.proofs.read_rule.Goals as goal

pub returns-then-edges-lt-EDGE_NEED : goal.returns-then-edges-lt-EDGE_NEED
returns-then-edges-lt-EDGE_NEED c =
    rw c.into.ensures (reads_short c.args.file.now c.args.edges.now c.if-edges-lt-EDGE_NEED.true)

pub returns-then-is_err : goal.returns-then-is_err
returns-then-is_err c =
    reads_refused c.args.file.now c.args.edges.now c.if-edges-lt-EDGE_NEED.false c.fill.ensures.len
    c.read_records-outcome.ensures c.if-is_err.ensures.negation
    (c.fill-then-is_err.ensures.after (λ y e. search rules)
    ∙ ap zeros (c.read_records-outcome.auto.edges ∙ c.fill.ensures.len))

pub returns-else-is_err : goal.returns-else-is_err
returns-else-is_err c =
    reads_rule c.args.file.now c.args.edges.now c.if-edges-lt-EDGE_NEED.false c.fill.ensures.len
    c.read_records-outcome.ensures c.if-is_err.ensures.negation
