-- `writer::output::Output::put_edge`: behind its first six numbers there is room for the text.
use Rattle.std.proofs.Common.{arith, ap, length}
use Rattle.model.proofs.FileRead.{edge_record_length}
use Rattle.edges.specs.Views.{edge_of}
use Rattle.writer.proofs.Putting.{put_wide, edge_put}
use Rattle.writer.proofs.output.Output.put_edge.Goals as goal

pub put-requires-2 : goal.put-requires-2
put-requires-2 c =
    let first = c.put.ensures.puts in
    omega
    (arith, first.next_is, put_wide first, ap length c.text-text.ensures, edge_record_length (edge_of c.args.edge))

pub returns : goal.returns
returns c =
    edge_put (edge_of c.args.edge) c.kind.ensures.0 c.source.ensures.0 c.target.ensures.0 c.symbol.ensures.0
    c.resets.ensures.0 c.text-text.ensures c.put.ensures c.put-2.ensures
