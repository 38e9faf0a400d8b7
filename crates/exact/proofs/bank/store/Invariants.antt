-- `exact::bank::store` meets its contract: the front of the numbers is as it must be.
use Rattle.std.proofs.Common.{◌≡◌, length}
use Rattle.exact.proofs.Chunks.{Storing}
use Rattle.exact.proofs.bank.store.Given as goal

abbrev pub invariant-loop-k : goal.invariant-loop-k
invariant-loop-k l = (length l.fn.numbers ≡ l.k-end) × Storing l.k l.c l.fn.numbers l.numbers
