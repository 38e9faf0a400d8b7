-- `shape::verdicts::verdicts_ok` meets its contract: what holds of the rows to come is what holds of all.
use Rattle.std.proofs.Common.{length}
use Rattle.shape.proofs.Rows.{Walked}
use Rattle.shape.proofs.Saying.{Checked}
use Rattle.shape.proofs.verdicts.verdicts_ok.Given as goal

abbrev pub invariant-loop-row : goal.invariant-loop-row
invariant-loop-row l = record {
  walked : Walked l.built.rows l.rows l.row-iterator.rest.now l.row-iterator.size (length l.yielded);
  checked : Checked l.built l.rows l.pool (length l.yielded);
}
