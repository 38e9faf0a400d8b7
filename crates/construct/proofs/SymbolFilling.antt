-- The cells of a row at a symbol, interval by interval: those so far are laid in their place, and the rows found so far
-- lead to the same rows as those before.
use mathlib.Core.Path.{◌≡◌, refl, sym, ◌∙◌, ap, subst}
use mathlib.Core.Bool.{Bool}
use mathlib.Core.List.{List, [], ◌∷◌, ◌++◌, append_assoc}
use Prim.Native.Nat.{ℕ, suc, ◌+◌, ◌-◌, ◌*◌, ◌≤◌, ◌<◌}
use native.Mathlib.Omega.{arith}
use native.Mathlib.Nat.{mul-le-mul_right}
use native.Mathlib.Numerals.{add-one}
use lib.ListN.{length, set, length-set, length-replicate}
use Rattle.numbers.specs.Lent.{laid}
use Rattle.numbers.proofs.Laid.{laid_none, laid_store}
use Rattle.std.specs.Prelude.{Ok, Err}
use Rattle.model.specs.declared.Fault.{Fault}
use Rattle.model.specs.declared.Head.{Head}
use Rattle.model.specs.Basics.{zeros}
use Rattle.model.specs.Rules.{Rule, most_symbols}
use Rattle.model.specs.Construction.{width, next_row, row_at, with_row, by_intervals, cell_of}
use Rattle.model.specs.Tables.{cells_from}
use Rattle.model.specs.Layout.{rule_in, rule_refusal}
use Rattle.model.proofs.Valid.{valid_of}
use Rattle.model.proofs.Readable.{passes_valid}
use Rattle.model.proofs.RowNumbers.{Extends, with_extends, extends_at, extends_length}
use Rattle.model.proofs.Discovery.{grows_extends, intervals_grow, intervals_turn, intervals_over}
use Rattle.model.proofs.TablePlaces.{cells_length}
use Rattle.pairs.specs.declared.Input.{Input}
use Rattle.construct.specs.declared.Progress.{Progress}
use Rattle.construct.specs.declared.Filled.{Filled}
use Rattle.construct.specs.Marks.{Enough}
use Rattle.construct.specs.Rows.{rows_in, Held, Unfit, Grown}
use Rattle.construct.specs.Cells.{CanLeave, CellMade, CanFill, SymbolFilled}
use Rattle.construct.proofs.RowSearch.{rows_length}
use Rattle.construct.proofs.TargetMarks.{enough_again}
use Rattle.construct.proofs.Laying.{cells_snoc, cell_stays}

pub extends_more :
    {rs after : List (List ℕ)} (e : Extends rs after) (more : List (List ℕ)) → after ++ more ≡ rs ++ (e.added ++ more)
extends_more {rs} e more = ap (λ (l : List (List ℕ)). l ++ more) e.after_is ∙ append_assoc rs e.added more

-- what does not fit among some rows does not fit among more
pub unfit_extends :
    {room pool : ℕ} {fault : Fault} {rs after : List (List ℕ)} → Unfit room pool rs fault → Extends rs after
    → Unfit room pool after fault
unfit_extends u e = record {
  least = u.least;
  refuses = λ more. rw (extends_more e more) (u.refuses (e.added ++ more));
}

-- the place of a cell lies in the table
pub place_fits :
    (row symbols s wide i room n : ℕ) → row < room → s < symbols → i < wide → room * (symbols * wide) ≤ n
    → (row * symbols + s) * wide + i < n
place_fits row symbols s wide i room n h g l f =
    let a : suc (row * symbols + s) * wide ≤ (row * symbols + symbols) * wide = mul-le-mul_right wide (omega arith) in
    let b : suc row * (symbols * wide) ≤ room * (symbols * wide) = mul-le-mul_right (symbols * wide) h in
    omega arith

pub record Filling
    (says : List ℕ → Bool) (r : Rule) (row s at : ℕ) (rs : List (List ℕ)) (room : ℕ) (marks₀ cells₀ : List ℕ) (i : ℕ)
    (marks cells rows pool : List ℕ) (p : Progress) : Type 0 where
  pub turns : i ≤ width r
  pub marks_zero : marks ≡ zeros (length marks₀)
  pub cells_long : length cells ≡ length cells₀
  pub held : Held says rows pool p
  pub room_kept : p.room ≡ room
  pub row_below : row < p.rows
  pub row_is : row_at (rows_in p.rows rows pool) row ≡ row_at rs row
  pub rest_is :
      by_intervals (width r - i) i r s (row_at rs row) (rows_in p.rows rows pool)
      ≡ by_intervals (width r) 0 r s (row_at rs row) rs
  pub cells_are :
      (more : List (List ℕ))
      → cells ≡ laid cells₀ at (cells_from i 0 r (rows_in p.rows rows pool ++ more) (row_at rs row) s)

pub filling_start :
    {says : List ℕ → Bool} (r : Rule) (row s at : ℕ) (marks cells rows pool : List ℕ) (p : Progress)
    → CanFill says r marks cells rows pool p row
    → Filling says r row s at (rows_in p.rows rows pool) p.room marks cells 0 marks cells rows pool p
filling_start r row s at marks cells rows pool p can =
    let e : width r - 0 ≡ width r = omega arith in
    record {
      turns = omega arith;
      marks_zero = can.leave.marks_zero;
      cells_long = refl;
      held = can.leave.held;
      room_kept = refl;
      row_below = can.leave.row_below;
      row_is = refl;
      rest_is = rw e;
      cells_are = λ more. laid_none cells at;
    }

module _
    {says : List ℕ → Bool} {r : Rule} {row s at : ℕ} {rs : List (List ℕ)} {room : ℕ} {marks₀ cells₀ : List ℕ} {i : ℕ}
    {marks cells rows pool : List ℕ} {p : Progress}
    (inv : Filling says r row s at rs room marks₀ cells₀ i marks cells rows pool p) where
  pub filling_leave : Enough r marks₀ → CanLeave says r marks rows pool p row
  filling_leave enough =
      let long : length marks ≡ length marks₀ = ap length inv.marks_zero ∙ length-replicate (length marks₀) 0 in
      record {
        enough = enough_again marks enough long;
        marks_zero = inv.marks_zero ∙ ap zeros (sym long);
        held = inv.held;
        row_below = inv.row_below;
      }

  module _ {at' : Input} (l : i < width r) (is_symbol : at'.symbol ≡ s) (is_interval : at'.interval ≡ i) where
    same_next :
        next_row r at'.symbol at'.interval (row_at (rows_in p.rows rows pool) row)
        ≡ next_row r s i (row_at rs row)
    same_next = rw (is_symbol, is_interval, inv.row_is)

    marks_zero_still : {marks' : List ℕ} → marks' ≡ zeros (length marks) → marks' ≡ zeros (length marks₀)
    marks_zero_still e = e ∙ ap zeros (ap length inv.marks_zero ∙ length-replicate (length marks₀) 0)

    turn_is :
        by_intervals (width r - (i + 1)) (i + 1) r s (row_at rs row)
        (with_row (next_row r s i (row_at rs row)) (rows_in p.rows rows pool))
        ≡ by_intervals (width r) 0 r s (row_at rs row) rs
    turn_is = sym (intervals_turn (width r) i r s (row_at rs row) (rows_in p.rows rows pool) l) ∙ inv.rest_is

    -- a row that does not fit ends the work
    pub filling_refused :
        {marks' rows' pool' : List ℕ} {fault : Fault}
        → CellMade says r row at' (rows_in p.rows rows pool) p.room marks marks' rows' pool' (Err fault)
        → SymbolFilled says r row s rs room marks₀ marks' cells₀ cells rows' pool' (Err fault)
    filling_refused {marks'} {rows'} {pool'} {fault} made =
        let new : List (List ℕ) = with_row (next_row r s i (row_at rs row)) (rows_in p.rows rows pool) in
        let unfit : Unfit room (length pool') new fault =
        subst (λ (x : List ℕ). Unfit room (length pool') (with_row x (rows_in p.rows rows pool)) fault) same_next
        (subst
        (λ (n : ℕ).
        Unfit n (length pool')
        (with_row (next_row r at'.symbol at'.interval (row_at (rows_in p.rows rows pool) row))
        (rows_in p.rows rows pool))
        fault)
        inv.room_kept
        made.cell_made) in
        record {
          marks_zero = marks_zero_still made.marks_zero;
          symbol_filled =
              unfit_extends unfit
              (subst (λ (x : List (List ℕ)). Extends new x) turn_is
              (grows_extends (intervals_grow (width r - (i + 1)) (i + 1) r s (row_at rs row) new)));
        }

    -- else the cell is written
    module _ {marks' rows' pool' : List ℕ} {answer : Filled}
        (made : CellMade says r row at' (rows_in p.rows rows pool) p.room marks marks' rows' pool' (Ok answer)) where
      grown_is :
          Grown says room (with_row (next_row r s i (row_at rs row)) (rows_in p.rows rows pool)) rows' pool'
          answer.progress
      grown_is =
          subst (λ (x : List ℕ). Grown says room (with_row x (rows_in p.rows rows pool)) rows' pool' answer.progress)
          same_next
          (subst
          (λ (n : ℕ).
          Grown says n
          (with_row (next_row r at'.symbol at'.interval (row_at (rows_in p.rows rows pool) row))
          (rows_in p.rows rows pool))
          rows' pool' answer.progress)
          inv.room_kept
          made.cell_made.grown)

      cells_next :
          (cells' : List ℕ) → at + i < length cells₀
          → cells' ≡ set cells (at + i) answer.cell
          → (more : List (List ℕ))
          → cells'
          ≡ laid cells₀ at
          (cells_from (i + 1) 0 r (with_row (next_row r s i (row_at rs row)) (rows_in p.rows rows pool) ++ more)
          (row_at rs row) s)
      cells_next cells' fits w more =
          let x : List ℕ = row_at rs row in
          let old : List (List ℕ) = rows_in p.rows rows pool in
          let new : List (List ℕ) = with_row (next_row r s i x) old in
          let ext : Extends old new = with_extends (next_row r s i x) old in
          let all_are : new ++ more ≡ old ++ (ext.added ++ more) = extends_more ext more in
          let before : cells ≡ laid cells₀ at (cells_from i 0 r (new ++ more) x s) =
          rw all_are (inv.cells_are (ext.added ++ more)) in
          let cell : answer.cell ≡ cell_of r (new ++ more) x s i =
          made.cell_made.cell_is ∙ (rw (is_symbol, is_interval, inv.row_is) (sym (cell_stays r s i x old more))) in
          let n : length (cells_from i 0 r (new ++ more) x s) ≡ i = cells_length r (new ++ more) i 0 x s in
          let z : 0 + i ≡ i = omega arith in
          let done : List ℕ = cells_from i 0 r (new ++ more) x s in
          let snoc : cells_from (i + 1) 0 r (new ++ more) x s ≡ done ++ (cell_of r (new ++ more) x s i ∷ []) =
          rw (add-one i) (cells_snoc r (new ++ more) i 0 x s ∙ rw z) in
          laid_store cells₀ cells cells' at i done answer.cell (cell_of r (new ++ more) x s i) (sym n)
          fits
          before
          cell
          w
          ∙ ap (laid cells₀ at) (sym snoc)

      pub filling_next :
          (cells' : List ℕ) → at + i < length cells₀
          → cells' ≡ set cells (at + i) answer.cell
          → Filling says r row s at rs room marks₀ cells₀ (i + 1) marks' cells' rows' pool' answer.progress
      filling_next cells' fits w =
          let old : List (List ℕ) = rows_in p.rows rows pool in
          let new : List (List ℕ) = with_row (next_row r s i (row_at rs row)) old in
          let are : rows_in answer.progress.rows rows' pool' ≡ new = grown_is.rows_are in
          let ext : Extends old new = with_extends (next_row r s i (row_at rs row)) old in
          let old_count : length old ≡ p.rows = rows_length p.rows 0 rows pool in
          let new_count : length new ≡ answer.progress.rows =
          sym (ap length are) ∙ rows_length answer.progress.rows 0 rows' pool' in
          record {
            turns = omega arith;
            marks_zero = marks_zero_still made.marks_zero;
            cells_long = ap length w ∙ (length-set cells (at + i) answer.cell ∙ inv.cells_long);
            held = grown_is.held;
            room_kept = grown_is.room_kept;
            row_below = omega (arith, inv.row_below, extends_length ext, old_count, new_count);
            row_is = rw are (extends_at row ext (omega (arith, inv.row_below, old_count)) ∙ inv.row_is);
            rest_is = rw are turn_is;
            cells_are = λ more. rw are (cells_next cells' fits w more);
          }

  -- the cell's place lies in the table
  pub filling_fits :
      (wide : ℕ) → wide ≡ width r → i < wide → s < r.symbols → room * (r.symbols * width r) ≤ length cells₀
      → at ≡ (row * r.symbols + s) * wide
      → at + i < length cells₀
  filling_fits wide e l g f place =
      rw (place, e)
      (place_fits row r.symbols s (width r) i room (length cells₀)
      (omega (arith, inv.row_below, inv.held.in_room, inv.room_kept))
      g
      (rw e at l)
      f)

  pub filling_end :
      width r ≤ i → at ≡ (row * r.symbols + s) * width r
      → SymbolFilled says r row s rs room marks₀ marks cells₀ cells rows pool (Ok p)
  filling_end l place =
      let full : i ≡ width r = omega (arith, inv.turns) in
      let are : rows_in p.rows rows pool ≡ by_intervals (width r) 0 r s (row_at rs row) rs =
      sym (intervals_over (width r) i r s (row_at rs row) (rows_in p.rows rows pool) l) ∙ inv.rest_is in
      record {
        marks_zero = inv.marks_zero;
        symbol_filled = record {
          grown = record { held = inv.held; rows_are = are; room_kept = inv.room_kept };
          cells_are = λ more. rw (← are, ← place, ← full) (inv.cells_are more);
        };
      }

-- the sizes that the code goes by are the rule's
pub symbols_of : (h : Head) (t : List ℕ) → (rule_in h t).symbols ≡ h.symbols
unfolding rule_in
symbols_of h t = refl

pub symbols_few : (h : Head) (t : List ℕ) → (rule_refusal h t).number ≡ 0 → h.symbols ≤ most_symbols
symbols_few h t passed =
    omega (arith, symbols_of h t, (valid_of (rule_in h t) (passes_valid h t passed)).sizes.symbols_most)
