-- `reader::read_records` meets its contract: what goes on from the cursor is what the file spells.
use Rattle.std.proofs.Common.{length}
use Rattle.reader.proofs.Whole.{Reads}
use Rattle.reader.proofs.read_records.Given as goal

abbrev pub invariant-loop-rest : goal.invariant-loop-rest
invariant-loop-rest l = Reads l.file l.rest l.cursor l.edges

abbrev pub decreases-loop-rest : goal.decreases-loop-rest
decreases-loop-rest l = length l.rest
