-- `writer::output::Output::put`: the numbers from one on are still to be put.
use Rattle.std.proofs.Common.{drop}
use Rattle.model.specs.Files.{numbers}
use Rattle.writer.proofs.Putting.{Putting}
use Rattle.writer.proofs.output.Output.put.Given as goal

abbrev pub invariant-loop-number : goal.invariant-loop-number
invariant-loop-number l =
    Putting (numbers l.table) (numbers (drop l.number-index l.table)) l.initial.self l.self
