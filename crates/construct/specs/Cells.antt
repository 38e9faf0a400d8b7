-- Cells as they are filled: of one symbol, of one row, of all rows. A cell holds the number that its next row keeps,
-- whatever rows come after; so what is written is said for every list of rows that begins with those found so far.
-- Where some row does not fit, only the marks are said to be gone.
use Rattle.std.specs.Prelude.{◌≡◌, Result, MatchResult, Bool, List, [], ◌∷◌, ◌++◌, ℕ, ◌+◌, ◌*◌, ◌≤◌, ◌<◌, length}
use Rattle.numbers.specs.Lent.{laid}
use Rattle.model.specs.declared.Fault.{Fault}
use Rattle.model.specs.Basics.{zeros, filled}
use Rattle.model.specs.Rules.{Rule}
use Rattle.model.specs.Construction.{width, start_row, next_row, row_at, with_row, by_intervals, by_symbols, rows_of}
use Rattle.model.specs.Construction.{cell_of}
use Rattle.model.specs.Tables.{cells_from, symbol_cells, cell_numbers}
use Rattle.pairs.specs.declared.Input.{Input}
use Rattle.construct.specs.declared.Progress.{Progress}
use Rattle.construct.specs.declared.Filled.{Filled}
use Rattle.construct.specs.Marks.{Enough}
use Rattle.construct.specs.Rows.{rows_in, Held, Grown, Unfit}

-- a row that can be left: it has a number, and no marks stand
pub record CanLeave
    (says : List ℕ → Bool) (r : Rule) (marks rows pool : List ℕ) (p : Progress) (row : ℕ) : Type 0 where
  pub enough : Enough r marks
  pub marks_zero : marks ≡ zeros (length marks)
  pub held : Held says rows pool p
  pub row_below : row < p.rows

-- a cell, with the row that it leads to
pub record CellDone
    (says : List ℕ → Bool) (r : Rule) (row : ℕ) (at : Input) (rs : List (List ℕ)) (room : ℕ) (rows' pool' : List ℕ)
    (answer : Filled) : Type 0 where
  pub grown :
      Grown says room (with_row (next_row r at.symbol at.interval (row_at rs row)) rs) rows' pool' answer.progress
  pub cell_is : answer.cell ≡ cell_of r rs (row_at rs row) at.symbol at.interval

pub record CellMade
    (says : List ℕ → Bool) (r : Rule) (row : ℕ) (at : Input) (rs : List (List ℕ)) (room : ℕ)
    (marks marks' rows' pool' : List ℕ) (outcome : Result Filled Fault) : Type 0 where
  pub marks_zero : marks' ≡ zeros (length marks)
  pub cell_made :
      MatchResult outcome (CellDone says r row at rs room rows' pool')
      (Unfit room (length pool') (with_row (next_row r at.symbol at.interval (row_at rs row)) rs))

-- there are cells for as many rows as there is room for
pub record CanFill
    (says : List ℕ → Bool) (r : Rule) (marks cells rows pool : List ℕ) (p : Progress) (row : ℕ) : Type 0
  where
    pub leave : CanLeave says r marks rows pool p row
    pub cells_fit : p.room * (r.symbols * width r) ≤ length cells

-- the cells of a row at a symbol
pub record SymbolDone
    (says : List ℕ → Bool) (r : Rule) (row s : ℕ) (rs : List (List ℕ)) (room : ℕ)
    (cells cells' rows' pool' : List ℕ) (p : Progress) : Type 0 where
  pub grown : Grown says room (by_intervals (width r) 0 r s (row_at rs row) rs) rows' pool' p
  pub cells_are :
      (more : List (List ℕ))
      → cells'
      ≡ laid cells ((row * r.symbols + s) * width r)
      (cells_from (width r) 0 r (by_intervals (width r) 0 r s (row_at rs row) rs ++ more) (row_at rs row) s)

pub record SymbolFilled
    (says : List ℕ → Bool) (r : Rule) (row s : ℕ) (rs : List (List ℕ)) (room : ℕ)
    (marks marks' cells cells' rows' pool' : List ℕ) (outcome : Result Progress Fault) : Type 0 where
  pub marks_zero : marks' ≡ zeros (length marks)
  pub symbol_filled :
      MatchResult outcome (SymbolDone says r row s rs room cells cells' rows' pool')
      (Unfit room (length pool') (by_intervals (width r) 0 r s (row_at rs row) rs))

-- the cells of a row
pub record RowDone
    (says : List ℕ → Bool) (r : Rule) (row : ℕ) (rs : List (List ℕ)) (room : ℕ)
    (cells cells' rows' pool' : List ℕ) (p : Progress) : Type 0 where
  pub grown : Grown says room (by_symbols r.symbols 0 r (row_at rs row) rs) rows' pool' p
  pub cells_are :
      (more : List (List ℕ))
      → cells'
      ≡ laid cells (row * r.symbols * width r)
      (symbol_cells r.symbols 0 r (by_symbols r.symbols 0 r (row_at rs row) rs ++ more) (row_at rs row))

pub record RowFilled
    (says : List ℕ → Bool) (r : Rule) (row : ℕ) (rs : List (List ℕ)) (room : ℕ)
    (marks marks' cells cells' rows' pool' : List ℕ) (outcome : Result Progress Fault) : Type 0 where
  pub marks_zero : marks' ≡ zeros (length marks)
  pub row_filled :
      MatchResult outcome (RowDone says r row rs room cells cells' rows' pool')
      (Unfit room (length pool') (by_symbols r.symbols 0 r (row_at rs row) rs))

-- the start row has number 0, and no cell is filled
pub record CanFillAll
    (says : List ℕ → Bool) (r : Rule) (marks cells rows pool : List ℕ) (p : Progress) : Type 0 where
  pub enough : Enough r marks
  pub marks_zero : marks ≡ zeros (length marks)
  pub held : Held says rows pool p
  pub start_is : rows_in p.rows rows pool ≡ start_row r ∷ []
  pub cells_fit : p.room * (r.symbols * width r) ≤ length cells
  pub cells_zero : cells ≡ zeros (length cells)

-- all rows and all cells
pub record AllDone
    (says : List ℕ → Bool) (r : Rule) (room : ℕ) (cells cells' rows' pool' : List ℕ) (p : Progress) : Type 0 where
  pub grown : Grown says room (rows_of r) rows' pool' p
  pub cells_are : cells' ≡ filled (length cells) (cell_numbers r (rows_of r) (rows_of r))

pub record AllFilled
    (says : List ℕ → Bool) (r : Rule) (room : ℕ) (marks marks' cells cells' rows' pool' : List ℕ)
    (outcome : Result Progress Fault) : Type 0 where
  pub marks_zero : marks' ≡ zeros (length marks)
  pub all_filled :
      MatchResult outcome (AllDone says r room cells cells' rows' pool') (Unfit room (length pool') (rows_of r))
