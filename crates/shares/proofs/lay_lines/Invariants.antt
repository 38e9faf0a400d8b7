-- `shares::lay_lines` meets its contract: a line for each table, zeros past them.
use Rattle.shares.proofs.LaidLines.{Laying}
use Rattle.shares.proofs.lay_lines.Given as goal

abbrev pub invariant-loop-i : goal.invariant-loop-i
invariant-loop-i l =
    Laying l.tables l.fn.part.cells.now l.fn.part.rows.now l.fn.part.pool.now l.span.events l.span.seconds l.lines
    l.rest.cells.now l.rest.rows.now l.rest.pool.now l.i
