-- `writer::output::Output::put_edges`: the edges from one on are still to be put.
use Rattle.model.specs.Files.{edge_records}
use Rattle.model.specs.Layout.{edges_in}
use Rattle.writer.proofs.Putting.{Putting}
use Rattle.writer.proofs.Records.{edges_from}
use Rattle.writer.proofs.output.Output.put_edges.Given as goal

abbrev pub invariant-loop-e : goal.invariant-loop-e
invariant-loop-e l =
    Putting (edge_records (edges_in l.rule.head.count l.rule.edges.now))
    (edges_from l.e l.rule.head.count l.rule.edges.now) l.initial.self l.self
