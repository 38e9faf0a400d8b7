-- `writer::output::Output::put_rule`: kind by kind, what is left is still to be put.
use Rattle.std.proofs.Common.{refl, ◌++◌}
use Rattle.writer.proofs.Putting.{putting_room}
use Rattle.writer.proofs.Whole.{initial, final, edges, sizes_room, sizes_done, initial_done, final_done, edges_done}
use Rattle.writer.proofs.output.Output.put_rule.Goals as goal

pub put-requires : goal.put-requires
put-requires c = sizes_room c.args.rule.head c.args.rule.edges.now c.requires

pub put_locations-requires : goal.put_locations-requires
put_locations-requires c =
    let h = c.args.rule.head in
    let t = c.args.rule.edges.now in
    putting_room (sizes_done h t c.requires c.put.ensures) (initial h t) (final h t ++ edges h t) refl

pub put_locations-requires-2 : goal.put_locations-requires-2
put_locations-requires-2 c =
    let h = c.args.rule.head in
    let t = c.args.rule.edges.now in
    putting_room (initial_done h t (sizes_done h t c.requires c.put.ensures) c.put_locations.ensures) (final h t)
    (edges h t)
    refl

pub put_edges-requires-clause-room : goal.put_edges-requires-clause-room
put_edges-requires-clause-room c =
    let h = c.args.rule.head in
    let t = c.args.rule.edges.now in
    (final_done h t (initial_done h t (sizes_done h t c.requires c.put.ensures) c.put_locations.ensures)
    c.put_locations-2.ensures).room

pub returns : goal.returns
returns c =
    let h = c.args.rule.head in
    let t = c.args.rule.edges.now in
    edges_done h t
    (final_done h t (initial_done h t (sizes_done h t c.requires c.put.ensures) c.put_locations.ensures)
    c.put_locations-2.ensures)
    c.put_edges.ensures
