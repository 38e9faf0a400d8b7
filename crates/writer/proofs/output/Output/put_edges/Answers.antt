-- `writer::output::Output::put_edges`: the edges from one on are still to be put.
use Rattle.std.proofs.Common.{◌≡◌, ap₂, ◌+◌}
use Rattle.model.specs.Files.{edge_record}
use Rattle.model.specs.Layout.{edge_at}
use Rattle.edges.specs.Views.{edge_of}
use Rattle.writer.proofs.Putting.{putting_start, putting_room, putting_next, putting_end}
use Rattle.writer.proofs.Putting.{few_as, edge_room, record_put}
use Rattle.writer.proofs.Records.{edges_from, edges_from_all, edges_from_rest, edges_from_none}
use Rattle.writer.proofs.output.Output.put_edges.Goals as goal
use Rattle.writer.proofs.output.Output.put_edges.Goals.{After-edge}

-- the edge that is handed on
is_edge : (c : After-edge) → edge_of c.edge.result ≡ edge_at c.loop-e.e c.args.rule.edges.now
is_edge c = ap₂ edge_at c.edge.ensures.1 c.edge.ensures.0

pub loop-e-init : goal.loop-e-init
loop-e-init c = putting_start (edges_from_all c.args.rule.head.count c.args.rule.edges.now) c.requires.room

pub put_edge-requires-clause-few : goal.put_edge-requires-clause-few
put_edge-requires-clause-few c =
    few_as (is_edge c) (c.requires.table.few c.loop-e.e c.loop-e-test.true)

pub put_edge-requires-clause-room : goal.put_edge-requires-clause-room
put_edge-requires-clause-room c =
    let h = c.args.rule.head in
    let t = c.args.rule.edges.now in
    let e = c.loop-e.e in
    edge_room (is_edge c) c.loop-e.self.at c.loop-e.self.bytes.now
    (putting_room c.loop-e.invariant (edge_record (edge_at e t)) (edges_from (e + 1) h.count t)
    (edges_from_rest h.count e t c.loop-e-test.true))

pub loop-e-preserved : goal.loop-e-preserved
loop-e-preserved c =
    let h = c.args.rule.head in
    let t = c.args.rule.edges.now in
    let e = c.loop-e.e in
    putting_next c.loop-e.invariant (edge_record (edge_at e t)) (edges_from (e + 1) h.count t)
    (edges_from_rest h.count e t c.loop-e-test.true)
    (record_put (ap₂ edge_at c.edge.ensures.1 c.edge.ensures.0) c.put_edge.ensures)

pub returns : goal.returns
returns c =
    let h = c.args.rule.head in
    putting_end c.loop-e.invariant (edges_from_none h.count _ c.args.rule.edges.now c.loop-e-test.false)
