-- Before all rows are filled: the tables cleared, the room for rows, the start row refused at once or given number 0.
use mathlib.Core.Path.{◌≡◌, sym, ◌∙◌, ap, subst}
use mathlib.Core.Bool.{Bool}
use mathlib.Core.List.{List, [], ◌∷◌}
use Prim.Native.Nat.{ℕ, zero, suc, ◌*◌, ◌/◌, ◌≤◌}
use native.Mathlib.Omega.{arith}
use native.Mathlib.Nat.{mul-le-mul_right, div-add-mod'}
use lib.ListN.{length, length-replicate}
use Rattle.std.specs.Prelude.{Result, Ok, Err, MatchResult}
use Rattle.model.specs.declared.Fault.{Fault}
use Rattle.model.specs.Basics.{lesser, quotient, zeros}
use Rattle.model.specs.Rules.{Rule}
use Rattle.model.specs.Construction.{width, start_row, most_rows, rows_of}
use Rattle.model.specs.Layout.{locations_in}
use Rattle.model.specs.Tables.{row_width, row_room, scratch_need}
use Rattle.model.proofs.Logic.{lesser_left, lesser_right}
use Rattle.model.proofs.RowNumbers.{Extends}
use Rattle.model.proofs.Discovery.{grows_extends, rows_grow}
use Rattle.model.proofs.TableRoom.{bits_enough}
use Rattle.construct.specs.declared.Progress.{Progress}
use Rattle.construct.specs.Marks.{start_codes_by}
use Rattle.construct.specs.Rows.{Grown, Unfit}
use Rattle.construct.specs.Cells.{CanFillAll, AllDone, AllFilled}
use Rattle.construct.specs.Builds.{StartPlaced, CanBuild}
use Rattle.construct.proofs.TargetMarks.{enough_again}
use Rattle.construct.proofs.SymbolFilling.{unfit_extends}

-- The room for rows: at most 4,096, and the row table and the cell table have places for them.
below_quotient : (n a b : ℕ) → n ≤ quotient a b → n * b ≤ a
below_quotient n a zero h = omega arith
below_quotient n a (suc b) h = omega (arith, mul-le-mul_right (suc b) h, div-add-mod' a (suc b))

module _
    (cells rows each room : ℕ)
    (is_room : room ≡ lesser most_rows (lesser (rows / row_width) (quotient cells each))) where
  inner_most : room ≤ lesser (rows / row_width) (quotient cells each)
  inner_most = rw is_room (lesser_right most_rows (lesser (rows / row_width) (quotient cells each)))

  pub room_few : room ≤ most_rows
  room_few = rw is_room (lesser_left most_rows (lesser (rows / row_width) (quotient cells each)))

  pub room_rows : row_width * room ≤ rows
  room_rows = omega (arith, inner_most, lesser_left (rows / row_width) (quotient cells each))

  pub room_cells : room * each ≤ cells
  room_cells =
      below_quotient room cells each (omega (arith, inner_most, lesser_right (rows / row_width) (quotient cells each)))

pub room_of :
    (r : Rule) (cells rows each room : ℕ) → each ≡ r.symbols * width r
    → room ≡ lesser most_rows (lesser (rows / row_width) (quotient cells each))
    → room ≡ row_room r cells rows
unfolding row_room
room_of r cells rows each room e h = h ∙ rw e

-- From the start row on: refused at once, or all rows to be filled.
rows_begin : (r : Rule) → Extends (start_row r ∷ []) (rows_of r)
unfolding rows_of
rows_begin r = grows_extends (rows_grow (suc most_rows) 0 r (start_row r ∷ []))

module _
    {says : List ℕ → Bool} (r : Rule) {starts weight room : ℕ} {marks marks₁ rows₁ pool₁ : List ℕ}
    (is_start : start_codes_by weight (locations_in starts) ≡ start_row r) where
  -- the start row does not fit
  pub start_refused :
      {fault : Fault} (cells : List ℕ) (whole : ℕ) → room ≡ whole
      → StartPlaced says starts weight room marks marks₁ rows₁ pool₁ (Err fault)
      → AllFilled says r whole marks marks₁ cells cells rows₁ pool₁ (Err fault)
  start_refused {fault} cells whole e placed = record {
    marks_zero = placed.marks_zero;
    all_filled =
        rw (← e)
        (unfit_extends
        (subst (λ (x : List ℕ). Unfit room (length pool₁) (x ∷ []) fault) is_start placed.start_placed)
        (rows_begin r));
  }

  module _ {p : Progress} (placed : StartPlaced says starts weight room marks marks₁ rows₁ pool₁ (Ok p)) where
    grown_start : Grown says room (start_row r ∷ []) rows₁ pool₁ p
    grown_start = subst (λ (x : List ℕ). Grown says room (x ∷ []) rows₁ pool₁ p) is_start placed.start_placed

    -- it has number 0
    pub start_fills :
        {cells rows pool : List ℕ} (each : ℕ) → CanBuild r marks cells rows pool → length marks₁ ≡ length marks
        → each ≡ r.symbols * width r
        → room * each ≤ length cells
        → CanFillAll says r marks₁ cells rows₁ pool₁ p
    start_fills each can long e fits = record {
      enough = enough_again marks₁ can.enough long;
      marks_zero = placed.marks_zero ∙ ap zeros (sym long);
      held = grown_start.held;
      start_is = grown_start.rows_are;
      cells_fit = rw (grown_start.room_kept, ← e) fits;
      cells_zero = can.cells_zero;
    }

    pub start_done :
        {marks' cells cells' rows' pool' : List ℕ} (outcome : Result Progress Fault) (whole : ℕ)
        → length marks₁ ≡ length marks
        → room ≡ whole
        → AllFilled says r p.room marks₁ marks' cells cells' rows' pool' outcome
        → AllFilled says r whole marks marks' cells cells' rows' pool' outcome
    start_done {cells = cells} {cells' = cells'} {rows' = rows'} {pool' = pool'} outcome whole long e all = record {
      marks_zero = all.marks_zero ∙ ap zeros long;
      all_filled =
          subst
          (λ (n : ℕ).
          MatchResult outcome (AllDone says r n cells cells' rows' pool') (Unfit n (length pool') (rows_of r)))
          (grown_start.room_kept ∙ e)
          all.all_filled;
    }

-- a table that was cleared
zeros_again : (s₁ s : List ℕ) → s₁ ≡ zeros (length s) → s₁ ≡ zeros (length s₁)
zeros_again s₁ s e = e ∙ ap zeros (sym (ap length e ∙ length-replicate (length s) 0))

-- a plan and tables to build in
pub can_build :
    (r : Rule) (scratch scratch₁ cells cells₁ rows rows₁ pool pool₁ : List ℕ)
    → scratch_need r ≤ length scratch
    → scratch₁ ≡ zeros (length scratch)
    → cells₁ ≡ zeros (length cells)
    → rows₁ ≡ zeros (length rows)
    → pool₁ ≡ zeros (length pool)
    → CanBuild r scratch₁ cells₁ rows₁ pool₁
can_build r scratch scratch₁ cells cells₁ rows rows₁ pool pool₁ long a b c d = record {
  enough = record {
    marks_long = bits_enough r (length scratch₁) (rw (ap length a, length-replicate {A = ℕ} (length scratch) 0) long);
  };
  marks_zero = zeros_again scratch₁ scratch a;
  cells_zero = zeros_again cells₁ cells b;
  rows_zero = zeros_again rows₁ rows c;
  pool_zero = zeros_again pool₁ pool d;
}
