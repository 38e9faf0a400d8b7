-- `shares::check_tables` meets its contract: the first table with a fault, else none.
use Rattle.shares.proofs.BatchLaws.{Standing}
use Rattle.shares.proofs.check_tables.Given as goal

abbrev pub invariant-loop-i : goal.invariant-loop-i
invariant-loop-i l =
    Standing l.tables l.fn.part.cells.now l.fn.part.rows.now l.fn.part.pool.now l.span.events l.span.seconds
    l.rest.cells.now l.rest.rows.now l.rest.pool.now l.i
