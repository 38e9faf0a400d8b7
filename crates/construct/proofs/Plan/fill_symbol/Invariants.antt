-- `Plan::fill_symbol` meets its contract: the cells so far stand in their place, until a row does not fit.
use Rattle.construct.specs.Marks.{rule_by}
use Rattle.construct.specs.Rows.{rows_in, says_by, finals_of}
use Rattle.construct.proofs.SymbolFilling.{Filling}
use Rattle.construct.proofs.Plan.fill_symbol.Given as goal

abbrev pub invariant-loop-i : goal.invariant-loop-i
invariant-loop-i l =
    Filling (says_by (finals_of l.self)) (rule_by l.self) l.row l.symbol l.at
    (rows_in l.initial.progress.rows l.initial.rows l.initial.pool) l.initial.progress.room l.initial.marks
    l.initial.cells l.i l.marks l.cells l.rows l.pool l.progress
