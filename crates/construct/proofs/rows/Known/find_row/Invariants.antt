-- `Known::find_row` meets its contract: no row passed is equal, and every code passed in a row is marked.
use Rattle.std.proofs.Common.{◌≡◌, ◌-◌, ◌≤◌, drop}
use Rattle.model.specs.Tables.{codes_at}
use Rattle.bits.specs.Bits.{all_marked, codes_in}
use Rattle.construct.proofs.RowSearch.{Searching}
use Rattle.construct.proofs.rows.Known.find_row.Given as goal

abbrev pub invariant-codes : goal.invariant-codes
invariant-codes l =
    (l.j ≤ l.wanted.span.count)
    × (all_marked l.wanted.marks.now (drop l.j (codes_at l.self.rows.now l.self.pool.now l.row))
    ≡ all_marked l.wanted.marks.now (codes_at l.self.rows.now l.self.pool.now l.row))

abbrev pub decreases-codes : goal.decreases-codes
decreases-codes l = l.wanted.span.count - l.j

abbrev pub invariant-loop-row : goal.invariant-loop-row
invariant-loop-row l =
    Searching l.low l.high l.row l.self.rows.now l.self.pool.now (codes_in l.wanted.marks.now)

abbrev pub decreases-loop-row : goal.decreases-loop-row
decreases-loop-row l = l.high - l.row
