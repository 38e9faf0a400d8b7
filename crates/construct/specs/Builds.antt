-- The whole build: from the start row on, into tables that hold zero.
use Rattle.std.specs.Prelude.{◌≡◌, Result, MatchResult, Bool, List, [], ◌∷◌, ℕ, ◌*◌, ◌≤◌, length}
use Rattle.model.specs.declared.Head.{Head}
use Rattle.model.specs.declared.Built.{Built}
use Rattle.model.specs.declared.Fault.{Fault}
use Rattle.model.specs.Basics.{zeros}
use Rattle.model.specs.Rules.{Rule}
use Rattle.model.specs.Construction.{most_rows}
use Rattle.model.specs.Layout.{locations_in}
use Rattle.model.specs.Tables.{row_width}
use Rattle.codes.specs.declared.Scale.{Scale}
use Rattle.construct.specs.declared.Progress.{Progress}
use Rattle.construct.specs.Marks.{start_codes_by, CanStart, Enough}
use Rattle.construct.specs.Rows.{Grown, Unfit}

-- room for rows in an empty row table
pub record RoomIn (room : ℕ) (rows : List ℕ) : Type 0 where
  pub most : room ≤ most_rows
  pub fits : row_width * room ≤ length rows

-- no row is numbered yet
pub record CanPlaceStart (starts weight : ℕ) (marks rows pool : List ℕ) (room : ℕ) : Type 0 where
  pub start : CanStart marks starts weight
  pub rows_zero : rows ≡ zeros (length rows)
  pub pool_zero : pool ≡ zeros (length pool)
  pub room_in : RoomIn room rows

-- the start row has number 0, or it does not fit
pub record StartPlaced
    (says : List ℕ → Bool) (starts weight room : ℕ) (marks marks' rows' pool' : List ℕ)
    (outcome : Result Progress Fault) : Type 0 where
  pub marks_zero : marks' ≡ zeros (length marks)
  pub start_placed :
      MatchResult outcome (Grown says room (start_codes_by weight (locations_in starts) ∷ []) rows' pool')
      (Unfit room (length pool') (start_codes_by weight (locations_in starts) ∷ []))

-- every table is zero
pub record CanBuild (r : Rule) (marks cells rows pool : List ℕ) : Type 0 where
  pub enough : Enough r marks
  pub marks_zero : marks ≡ zeros (length marks)
  pub cells_zero : cells ≡ zeros (length cells)
  pub rows_zero : rows ≡ zeros (length rows)
  pub pool_zero : pool ≡ zeros (length pool)

-- the built record, from the head record, the scale and the rows
abbrev pub built_from : Head → Scale → Progress → Built
built_from h z p = record {
  locations = h.locations;
  symbols = h.symbols;
  clocks = h.clocks;
  top = z.top;
  ends = h.ends;
  rows = p.rows;
  total = p.total;
}
