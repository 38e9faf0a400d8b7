-- `reader::bytes::copy_numbers` meets its contract: the numbers up to i, then what stood there.
use Rattle.std.proofs.Common.{◌≡◌, ◌++◌, drop}
use Rattle.model.specs.Files.{numbers_of}
use Rattle.reader.proofs.bytes.copy_numbers.Given as goal

abbrev pub invariant-loop-i : goal.invariant-loop-i
invariant-loop-i l = l.out ≡ numbers_of l.i l.bytes ++ drop l.i l.fn.out
