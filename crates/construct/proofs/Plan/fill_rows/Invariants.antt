-- `Plan::fill_rows` meets its contract: the cells of the rows so far stand from place 0 on, and discovery from here
-- gives the rows of the rule.
use Rattle.std.proofs.Common.{suc, ◌-◌}
use Rattle.model.specs.Construction.{most_rows, rows_of}
use Rattle.construct.specs.Marks.{rule_by}
use Rattle.construct.specs.Rows.{says_by, finals_of}
use Rattle.construct.proofs.AllFilling.{FillingAll}
use Rattle.construct.proofs.Plan.fill_rows.Given as goal

abbrev pub invariant-loop-row : goal.invariant-loop-row
invariant-loop-row l =
    FillingAll (says_by (finals_of l.self)) (rule_by l.self) (suc most_rows) (rows_of (rule_by l.self))
    l.initial.progress.room l.initial.marks l.initial.cells l.row l.marks l.cells l.rows l.pool l.progress

abbrev pub decreases-loop-row : goal.decreases-loop-row
decreases-loop-row l = most_rows - l.row
