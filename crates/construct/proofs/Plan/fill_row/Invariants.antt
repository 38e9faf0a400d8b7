-- `Plan::fill_row` meets its contract: the cells of the symbols so far stand in their place.
use Rattle.construct.specs.Marks.{rule_by}
use Rattle.construct.specs.Rows.{rows_in, says_by, finals_of}
use Rattle.construct.proofs.RowFilling.{FillingRow}
use Rattle.construct.proofs.Plan.fill_row.Given as goal

abbrev pub invariant-loop-symbol : goal.invariant-loop-symbol
invariant-loop-symbol l =
    FillingRow (says_by (finals_of l.self)) (rule_by l.self) l.row
    (rows_in l.initial.progress.rows l.initial.rows l.initial.pool) l.initial.progress.room l.initial.marks
    l.initial.cells l.symbol l.marks l.cells l.rows l.pool l.progress
