-- `reader::finish` meets its contract: 3, then 8, else the head record.
use Rattle.reader.proofs.Ends.{ends_unseen, ends_too_many, ends_read}
use Rattle.reader.proofs.finish.Goals as goal

pub returns-in_default : goal.returns-in_default
returns-in_default c = rw c.in_default.is (λ r state. ends_unseen state)

pub returns-then-pairs-gt-MOST_PAIRS : goal.returns-then-pairs-gt-MOST_PAIRS
returns-then-pairs-gt-MOST_PAIRS c =
    rw c.in-Some.is
    (λ r state. ends_too_many state _ c.head-head.ensures _ c.pairs.ensures c.if-pairs-gt-MOST_PAIRS.true)

pub returns : goal.returns
returns c =
    rw c.in-Some.is
    (λ r state. ends_read state _ c.head-head.ensures _ c.pairs.ensures c.if-pairs-gt-MOST_PAIRS.false)
