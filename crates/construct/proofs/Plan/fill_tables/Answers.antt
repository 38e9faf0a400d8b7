-- `Plan::fill_tables` meets its contract: the room, the start row, then all rows.
use Rattle.std.proofs.Common.{◌*◌, sym, ap₂, length}
use Rattle.construct.specs.Marks.{rule_by}
use Rattle.construct.proofs.Beginning.{room_few, room_rows, room_cells, room_of, start_refused}
use Rattle.construct.proofs.Beginning.{start_fills, start_done}
use Rattle.construct.proofs.Handing.{handed_on}
use Rattle.construct.proofs.StartLaws.{can_start, start_row_lem}
use Rattle.construct.proofs.SymbolFilling.{symbols_of}
use Rattle.construct.proofs.Plan.fill_tables.Goals as goal

pub place_start-requires : goal.place_start-requires
place_start-requires c =
    let plan = c.args.self in
    rw c.finals.ensures
    (record {
      start = can_start plan.rule.head plan.rule.edges.now plan.scale _ plan.passed plan.scaled c.requires.enough
          c.requires.marks_zero;
      rows_zero = c.requires.rows_zero;
      pool_zero = c.requires.pool_zero;
      room_in = record {
        most = room_few (length c.args.cells.now) (length c.args.rows.now) _ _ c.row_room-room.ensures;
        fits = room_rows (length c.args.cells.now) (length c.args.rows.now) _ _ c.row_room-room.ensures;
      };
    })

pub returns-in_err-start : goal.returns-in_err-start
returns-in_err-start c =
    let plan = c.args.self in
    let r = rule_by plan in
    let each = ap₂ ◌*◌ (sym (symbols_of plan.rule.head plan.rule.edges.now)) c.width.ensures.0 in
    rw (handed_on _ _ c.from_residual.ensures.1)
    (start_refused r (start_row_lem plan.rule.head plan.rule.edges.now plan.scale plan.scaled) c.args.cells.now _
    (room_of r (length c.args.cells.now) (length c.args.rows.now) _ _ each c.row_room-room.ensures)
    (rw c.finals.ensures at c.in_err-start.ensures))

pub fill_rows-requires : goal.fill_rows-requires
fill_rows-requires c =
    let plan = c.args.self in
    let each = ap₂ ◌*◌ (sym (symbols_of plan.rule.head plan.rule.edges.now)) c.width.ensures.0 in
    start_fills (rule_by plan) (start_row_lem plan.rule.head plan.rule.edges.now plan.scale plan.scaled)
    (rw c.finals.ensures at c.in_ok-start.ensures)
    _
    c.requires
    c.place_start.auto.marks
    each
    (room_cells (length c.args.cells.now) (length c.args.rows.now) _ _ c.row_room-room.ensures)

pub returns : goal.returns
returns c =
    let plan = c.args.self in
    let r = rule_by plan in
    let each = ap₂ ◌*◌ (sym (symbols_of plan.rule.head plan.rule.edges.now)) c.width.ensures.0 in
    start_done r (start_row_lem plan.rule.head plan.rule.edges.now plan.scale plan.scaled)
    (rw c.finals.ensures at c.in_ok-start.ensures)
    _
    _
    c.place_start.auto.marks
    (room_of r (length c.args.cells.now) (length c.args.rows.now) _ _ each c.row_room-room.ensures)
    c.fill_rows.ensures
