-- `reader::cursor::Cursor::with_edge` meets its contract: 4, then 6 and 7 at the edge's place, else the table with it.
use Rattle.std.proofs.Common.{sym, ap}
use Rattle.std.proofs.lemmas.Result.{err_from_is_err_and}
use Rattle.checks.specs.Checks.{number_in}
use Rattle.reader.proofs.Taken.{edge_one_too_many, places_zero, edge_refused, edge_taken}
use Rattle.reader.proofs.cursor.Cursor.with_edge.Goals as goal

pub returns-then-count-ge-MOST_EDGES : goal.returns-then-count-ge-MOST_EDGES
returns-then-count-ge-MOST_EDGES c =
    λ r state a. edge_one_too_many state c.args.record.body.now c.args.record.kind c.requires.is_edge a
    c.if-count-ge-MOST_EDGES.true

pub returns-in_err-check_edge : goal.returns-in_err-check_edge
returns-in_err-check_edge c =
    let x = c.args.record in
    let few = c.if-count-ge-MOST_EDGES.false in
    let p = err_from_is_err_and c.from_residual.result c.from_residual.ensures.1 in
    rw (p.1, p.2)
    (λ r state a. edge_refused state x.body.now x.kind c.requires.is_edge x.fits few a _
    (c.store_edge.ensures (places_zero state x.body.now x.kind c.requires.is_edge x.fits few)) _ c.head.ensures _
    c.check_edge.ensures _ (sym (ap number_in c.in_err-check_edge.was)))

pub returns : goal.returns
returns c =
    let x = c.args.record in
    let few = c.if-count-ge-MOST_EDGES.false in
    λ r state a. edge_taken state x.body.now x.kind c.requires.is_edge x.fits few a _
    (c.store_edge.ensures (places_zero state x.body.now x.kind c.requires.is_edge x.fits few)) _ c.head.ensures _
    c.check_edge.ensures (ap number_in c.in_ok-check_edge.was)
