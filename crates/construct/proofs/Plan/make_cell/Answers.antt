-- `Plan::make_cell` meets its contract: the row's next row is marked and placed.
use Rattle.std.proofs.Common.{sym, ◌∙◌}
use Rattle.construct.specs.Marks.{rule_by}
use Rattle.construct.specs.Rows.{rows_in}
use Rattle.construct.proofs.CellLaws.{cell_made, cell_refused}
use Rattle.construct.proofs.RowSearch.{row_held}
use Rattle.construct.proofs.RowTables.{row_within}
use Rattle.construct.proofs.Handing.{handed_on}
use Rattle.construct.proofs.Plan.make_cell.Goals as goal

pub invariant_of-known : goal.invariant_of-known
invariant_of-known c = record { within = row_within c.requires.held }

pub returns-in_err-progress : goal.returns-in_err-progress
returns-in_err-progress c =
    let a = c.args in
    rw (handed_on _ _ c.from_residual.ensures.1)
    (cell_refused (rule_by a.self) a.row a.input (rows_in a.p.rows a.rows.now a.pool.now) c.mark_next-marked.result
    (c.codes.ensures ∙ sym (row_held a.p.rows a.row a.rows.now a.pool.now c.requires.row_below))
    c.mark_next-marked.auto.marks
    c.mark_next-marked.ensures
    (rw c.finals.ensures at c.in_err-progress.ensures))

pub returns : goal.returns
returns c =
    let a = c.args in
    cell_made (rule_by a.self) a.row a.input (rows_in a.p.rows a.rows.now a.pool.now) c.mark_next-marked.result
    (c.codes.ensures ∙ sym (row_held a.p.rows a.row a.rows.now a.pool.now c.requires.row_below))
    c.mark_next-marked.auto.marks
    c.mark_next-marked.ensures
    _
    (rw c.finals.ensures at c.in_ok-progress.ensures)
    c.cell_of.ensures
