-- `shape::rows_chain` meets its contract: what holds of the rows to come is what holds of all.
use Rattle.std.proofs.Common.{length}
use Rattle.shape.proofs.Rows.{Walked}
use Rattle.shape.proofs.Loops.{Chained}
use Rattle.shape.proofs.rows_chain.Given as goal

abbrev pub invariant-loop-row : goal.invariant-loop-row
invariant-loop-row l = record {
  walked : Walked l.count l.rows l.row-iterator.rest.now l.row-iterator.size (length l.yielded);
  chained : Chained l.count l.total l.rows l.end (length l.yielded);
}
