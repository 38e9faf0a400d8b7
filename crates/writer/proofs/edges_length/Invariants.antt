-- `writer::edges_length`: the edges so far and those still to come.
use Rattle.writer.proofs.Lengths.{Summed}
use Rattle.writer.proofs.edges_length.Given as goal

abbrev pub invariant-loop-e : goal.invariant-loop-e
invariant-loop-e l = Summed l.rule.head.count l.rule.edges.now l.e l.length
