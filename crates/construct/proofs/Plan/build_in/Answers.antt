-- `Plan::build_in` meets its contract: cleared, filled, and cleared again where a row did not fit.
use Rattle.std.proofs.Common.{◌≡◌, ◌∙◌, ap, ap₂, length, rules}
use Rattle.model.specs.Basics.{zeros}
use Rattle.model.specs.Tables.{row_room}
use Rattle.construct.specs.Marks.{rule_by}
use Rattle.construct.proofs.Beginning.{can_build}
use Rattle.construct.proofs.Outcome.{builds_done, builds_unfit}
use Rattle.construct.proofs.Plan.build_in.Goals as goal

pub fill_tables-requires : goal.fill_tables-requires
fill_tables-requires c =
    let cleared : c.fill.new.self ≡ zeros (length c.args.scratch.now) = search rules in
    can_build (rule_by c.args.self) c.args.scratch.now _ c.args.cells.now _ c.args.rows.now _ c.args.pool.now _
    c.requires
    cleared
    c.clear_tables.ensures.0
    c.clear_tables.ensures.1
    c.clear_tables.ensures.2

pub returns-in-Ok : goal.returns-in-Ok
returns-in-Ok c =
    let plan = c.args.self in
    builds_done plan.rule.head plan.rule.edges.now c.args.scratch.now c.args.cells.now c.args.rows.now c.args.pool.now
    plan.passed c.requires _ plan.scaled
    (ap₂ (row_room (rule_by plan)) c.clear_tables.auto.cells c.clear_tables.auto.rows)
    c.fill.auto.self
    c.clear_tables.auto.cells
    (c.fill_tables.auto.rows ∙ c.clear_tables.auto.rows)
    (c.fill_tables.auto.pool ∙ c.clear_tables.auto.pool)
    c.in-Ok.ensures
    _
    c.built_from.ensures

pub returns-in-Err : goal.returns-in-Err
returns-in-Err c =
    let plan = c.args.self in
    rw c.into.ensures
    (builds_unfit plan.rule.head plan.rule.edges.now c.args.scratch.now c.args.cells.now c.args.rows.now
    c.args.pool.now plan.passed c.requires _ plan.scaled
    (ap₂ (row_room (rule_by plan)) c.clear_tables.auto.cells c.clear_tables.auto.rows)
    c.fill.auto.self
    c.clear_tables.auto.cells
    (c.fill_tables.auto.rows ∙ c.clear_tables.auto.rows)
    (c.fill_tables.auto.pool ∙ c.clear_tables.auto.pool)
    _
    _
    _
    c.in-Err.ensures
    (c.clear_tables-in-Err.ensures.0 ∙ ap zeros (c.fill_tables.auto.cells ∙ c.clear_tables.auto.cells))
    (c.clear_tables-in-Err.ensures.1 ∙ ap zeros (c.fill_tables.auto.rows ∙ c.clear_tables.auto.rows))
    (c.clear_tables-in-Err.ensures.2 ∙ ap zeros (c.fill_tables.auto.pool ∙ c.clear_tables.auto.pool)))
