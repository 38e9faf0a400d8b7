-- `shape::resets_ok` meets its contract: what the flag says and what holds of the cells to come is what holds of all.
use Rattle.shape.proofs.Loops.{ResetsOk}
use Rattle.shape.proofs.resets_ok.Given as goal

abbrev pub invariant-loop-pair : goal.invariant-loop-pair
invariant-loop-pair l = ResetsOk l.cells l.pair-iterator.rest.now l.pair-iterator.size l.none
