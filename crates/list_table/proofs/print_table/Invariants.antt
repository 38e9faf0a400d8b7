-- A line of cells has at least one number.
use Rattle.std.proofs.Common.{◌<◌}
use Rattle.std.specs.Slice.Iter.{chunks_exact_size}
use Rattle.list_table.proofs.print_table.Given as goal

abbrev pub invariant-loop : goal.invariant-loop
invariant-loop g l = 0 < chunks_exact_size l.lines

abbrev pub invariant-loop-row : goal.invariant-loop-row
invariant-loop-row g l = 0 < chunks_exact_size l.lines
