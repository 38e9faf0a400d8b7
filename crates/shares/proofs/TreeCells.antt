-- What a walk reads of a table: the row that a cell leads to.
use mathlib.Core.Path.{◌≡◌}
use mathlib.Core.List.{List}
use Prim.Native.Nat.{ℕ, ◌/◌, ◌<◌}
use lib.ListN.{get_or}
use Rattle.model.specs.declared.Built.{Built}
use Rattle.model.specs.Walks.{built_width, cell_place}
use Rattle.shares.specs.Tree.{Celled}

-- a cell's row is the table's
pub next_below :
    {b : Built} {cells : List ℕ} {row symbol interval cell : ℕ} → Celled b cells → row < b.rows → symbol < b.symbols
    → interval < built_width b
    → cell ≡ get_or cells (cell_place b row symbol interval) 0
    → cell / 2 < b.rows
next_below {row = row} {symbol = symbol} {interval = interval} k r s i e = rw e (k.row_below row symbol interval r s i)
