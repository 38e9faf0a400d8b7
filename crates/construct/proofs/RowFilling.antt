-- The cells of a row, symbol by symbol: those so far are laid in their place, and the rows found so far lead to the
-- same rows as those before.
use mathlib.Core.Path.{◌≡◌, refl, sym, ◌∙◌, ap, ap₂, subst}
use mathlib.Core.Bool.{Bool}
use mathlib.Core.List.{List, ◌++◌}
use Prim.Native.Nat.{ℕ, suc, ◌+◌, ◌-◌, ◌*◌, ◌≤◌, ◌<◌}
use native.Mathlib.Omega.{arith}
use native.Mathlib.Nat.{mul-le-mul_right}
use native.Mathlib.Numerals.{add-one}
use Rattle.std.specs.Prelude.{Ok, Err}
use lib.ListN.{length, length-replicate}
use Rattle.numbers.specs.Lent.{laid}
use Rattle.numbers.proofs.Laid.{laid_none, laid_join}
use Rattle.model.specs.Basics.{zeros}
use Rattle.model.specs.Rules.{Rule}
use Rattle.model.specs.Construction.{width, row_at, by_intervals, by_symbols}
use Rattle.model.specs.Tables.{cells_from, symbol_cells}
use Rattle.model.proofs.RowNumbers.{Extends, extends_at, extends_length}
use Rattle.model.proofs.Discovery.{grows_extends, intervals_grow, symbols_grow, symbols_turn, symbols_over}
use Rattle.model.proofs.TablePlaces.{symbols_length}
use Rattle.model.specs.declared.Fault.{Fault}
use Rattle.construct.specs.declared.Progress.{Progress}
use Rattle.construct.specs.Marks.{Enough}
use Rattle.construct.specs.Rows.{rows_in, Held, Grown, Unfit}
use Rattle.construct.specs.Cells.{CanFill, SymbolFilled, RowFilled}
use Rattle.construct.proofs.RowSearch.{rows_length}
use Rattle.construct.proofs.TargetMarks.{enough_again}
use Rattle.construct.proofs.Laying.{symbols_snoc}
use Rattle.construct.proofs.SymbolFilling.{extends_more, unfit_extends}

-- the cells of the first s symbols of a row lie in the table
symbols_fit :
    (row symbols s wide room n : ℕ) → row < room → s ≤ symbols → room * (symbols * wide) ≤ n
    → row * symbols * wide + s * wide ≤ n
symbols_fit row symbols s wide room n h g f =
    let a : s * wide ≤ symbols * wide = mul-le-mul_right wide g in
    let b : suc row * (symbols * wide) ≤ room * (symbols * wide) = mul-le-mul_right (symbols * wide) h in
    omega arith

pub record FillingRow
    (says : List ℕ → Bool) (r : Rule) (row : ℕ) (rs : List (List ℕ)) (room : ℕ) (marks₀ cells₀ : List ℕ) (s : ℕ)
    (marks cells rows pool : List ℕ) (p : Progress) : Type 0 where
  pub turns : s ≤ r.symbols
  pub marks_zero : marks ≡ zeros (length marks₀)
  pub cells_long : length cells ≡ length cells₀
  pub held : Held says rows pool p
  pub room_kept : p.room ≡ room
  pub row_below : row < p.rows
  pub row_is : row_at (rows_in p.rows rows pool) row ≡ row_at rs row
  pub rest_is :
      by_symbols (r.symbols - s) s r (row_at rs row) (rows_in p.rows rows pool)
      ≡ by_symbols r.symbols 0 r (row_at rs row) rs
  pub cells_are :
      (more : List (List ℕ))
      → cells
      ≡ laid cells₀ (row * r.symbols * width r) (symbol_cells s 0 r (rows_in p.rows rows pool ++ more) (row_at rs row))

pub row_start :
    {says : List ℕ → Bool} (r : Rule) (row : ℕ) (marks cells rows pool : List ℕ) (p : Progress)
    → CanFill says r marks cells rows pool p row
    → FillingRow says r row (rows_in p.rows rows pool) p.room marks cells 0 marks cells rows pool p
row_start r row marks cells rows pool p can =
    let e : r.symbols - 0 ≡ r.symbols = omega arith in
    record {
      turns = omega arith;
      marks_zero = can.leave.marks_zero;
      cells_long = refl;
      held = can.leave.held;
      room_kept = refl;
      row_below = can.leave.row_below;
      row_is = refl;
      rest_is = rw e;
      cells_are = λ more. laid_none cells (row * r.symbols * width r);
    }

module _
    {says : List ℕ → Bool} {r : Rule} {row : ℕ} {rs : List (List ℕ)} {room : ℕ} {marks₀ cells₀ : List ℕ} {s : ℕ}
    {marks cells rows pool : List ℕ} {p : Progress}
    (inv : FillingRow says r row rs room marks₀ cells₀ s marks cells rows pool p) where
  marks_long : length marks ≡ length marks₀
  marks_long = ap length inv.marks_zero ∙ length-replicate (length marks₀) 0

  pub row_can :
      Enough r marks₀ → room * (r.symbols * width r) ≤ length cells₀ → CanFill says r marks cells rows pool p row
  row_can enough f = record {
    leave = record {
      enough = enough_again marks enough marks_long;
      marks_zero = inv.marks_zero ∙ ap zeros (sym marks_long);
      held = inv.held;
      row_below = inv.row_below;
    };
    cells_fit = rw (inv.room_kept, inv.cells_long) f;
  }

  marks_zero_still : {marks' : List ℕ} → marks' ≡ zeros (length marks) → marks' ≡ zeros (length marks₀)
  marks_zero_still e = e ∙ ap zeros marks_long

  module _ (l : s < r.symbols) where
    turn_is :
        by_symbols (r.symbols - (s + 1)) (s + 1) r (row_at rs row)
        (by_intervals (width r) 0 r s (row_at rs row) (rows_in p.rows rows pool))
        ≡ by_symbols r.symbols 0 r (row_at rs row) rs
    turn_is = sym (symbols_turn r.symbols s r (row_at rs row) (rows_in p.rows rows pool) l) ∙ inv.rest_is

    pub row_refused :
        {marks' cells' rows' pool' : List ℕ} {fault : Fault}
        → SymbolFilled says r row s (rows_in p.rows rows pool) p.room marks marks' cells cells' rows' pool'
        (Err fault)
        → RowFilled says r row rs room marks₀ marks' cells₀ cells' rows' pool' (Err fault)
    row_refused {pool' = pool'} {fault = fault} filled =
        let new : List (List ℕ) = by_intervals (width r) 0 r s (row_at rs row) (rows_in p.rows rows pool) in
        let unfit : Unfit room (length pool') new fault =
        subst
        (λ (x : List ℕ). Unfit room (length pool') (by_intervals (width r) 0 r s x (rows_in p.rows rows pool)) fault)
        inv.row_is
        (subst
        (λ (n : ℕ).
        Unfit n (length pool')
        (by_intervals (width r) 0 r s (row_at (rows_in p.rows rows pool) row) (rows_in p.rows rows pool)) fault)
        inv.room_kept
        filled.symbol_filled) in
        record {
          marks_zero = marks_zero_still filled.marks_zero;
          row_filled =
              unfit_extends unfit
              (subst (λ (x : List (List ℕ)). Extends new x) turn_is
              (grows_extends (symbols_grow (r.symbols - (s + 1)) (s + 1) r (row_at rs row) new)));
        }

    module _ {marks' cells' rows' pool' : List ℕ} {p' : Progress}
        (filled : SymbolFilled says r row s (rows_in p.rows rows pool) p.room marks marks' cells cells' rows' pool'
        (Ok p')) where
      grown_is :
          Grown says room (by_intervals (width r) 0 r s (row_at rs row) (rows_in p.rows rows pool)) rows' pool' p'
      grown_is =
          subst
          (λ (x : List ℕ). Grown says room (by_intervals (width r) 0 r s x (rows_in p.rows rows pool)) rows' pool' p')
          inv.row_is
          (subst
          (λ (n : ℕ).
          Grown says n (by_intervals (width r) 0 r s (row_at (rows_in p.rows rows pool) row) (rows_in p.rows rows pool))
          rows' pool' p')
          inv.room_kept
          filled.symbol_filled.grown)

      cells_next :
          room * (r.symbols * width r) ≤ length cells₀
          → (more : List (List ℕ))
          → cells'
          ≡ laid cells₀ (row * r.symbols * width r)
          (symbol_cells (s + 1) 0 r (by_intervals (width r) 0 r s (row_at rs row) (rows_in p.rows rows pool) ++ more)
          (row_at rs row))
      cells_next fits more =
          let x : List ℕ = row_at rs row in
          let old : List (List ℕ) = rows_in p.rows rows pool in
          let new : List (List ℕ) = by_intervals (width r) 0 r s x old in
          let ext : Extends old new = grows_extends (intervals_grow (width r) 0 r s x old) in
          let all_are : new ++ more ≡ old ++ (ext.added ++ more) = extends_more ext more in
          let at : ℕ = row * r.symbols * width r in
          let u : List ℕ = symbol_cells s 0 r (new ++ more) x in
          let v : List ℕ = cells_from (width r) 0 r (new ++ more) x s in
          let before : cells ≡ laid cells₀ at u = rw all_are (inv.cells_are (ext.added ++ more)) in
          let n : length u ≡ s * width r = symbols_length r (new ++ more) s 0 x in
          let place : (row * r.symbols + s) * width r ≡ at + length u = rw n (omega arith) in
          let room_is : row * r.symbols * width r + s * width r ≤ length cells₀ =
          symbols_fit row r.symbols s (width r) room (length cells₀)
          (omega (arith, inv.row_below, inv.held.in_room, inv.room_kept))
          (omega arith)
          fits in
          let written : cells' ≡ laid cells ((row * r.symbols + s) * width r) v =
          subst
          (λ (y : List ℕ).
          cells'
          ≡ laid cells ((row * r.symbols + s) * width r)
          (cells_from (width r) 0 r (by_intervals (width r) 0 r s y old ++ more) y s))
          inv.row_is
          (filled.symbol_filled.cells_are more) in
          let z : 0 + s ≡ s = omega arith in
          let snoc : symbol_cells (s + 1) 0 r (new ++ more) x ≡ u ++ v =
          rw (add-one s) (symbols_snoc r (new ++ more) s 0 x ∙ rw z) in
          written
          ∙ (ap₂ (λ (l : List ℕ) (k : ℕ). laid l k v) before place
          ∙ (laid_join cells₀ at u (omega (arith, n, room_is)) v ∙ ap (laid cells₀ at) (sym snoc)))

      pub row_next :
          length cells' ≡ length cells → room * (r.symbols * width r) ≤ length cells₀
          → FillingRow says r row rs room marks₀ cells₀ (s + 1) marks' cells' rows' pool' p'
      row_next long fits =
          let old : List (List ℕ) = rows_in p.rows rows pool in
          let new : List (List ℕ) = by_intervals (width r) 0 r s (row_at rs row) old in
          let are : rows_in p'.rows rows' pool' ≡ new = grown_is.rows_are in
          let ext : Extends old new = grows_extends (intervals_grow (width r) 0 r s (row_at rs row) old) in
          let old_count : length old ≡ p.rows = rows_length p.rows 0 rows pool in
          let new_count : length new ≡ p'.rows = sym (ap length are) ∙ rows_length p'.rows 0 rows' pool' in
          record {
            turns = omega arith;
            marks_zero = marks_zero_still filled.marks_zero;
            cells_long = long ∙ inv.cells_long;
            held = grown_is.held;
            room_kept = grown_is.room_kept;
            row_below = omega (arith, inv.row_below, extends_length ext, old_count, new_count);
            row_is = rw are (extends_at row ext (omega (arith, inv.row_below, old_count)) ∙ inv.row_is);
            rest_is = rw are turn_is;
            cells_are = λ more. rw are (cells_next fits more);
          }

  pub row_end :
      r.symbols ≤ s → RowFilled says r row rs room marks₀ marks cells₀ cells rows pool (Ok p)
  row_end l =
      let full : s ≡ r.symbols = omega (arith, inv.turns) in
      let are : rows_in p.rows rows pool ≡ by_symbols r.symbols 0 r (row_at rs row) rs =
      sym (symbols_over r.symbols s r (row_at rs row) (rows_in p.rows rows pool) l) ∙ inv.rest_is in
      record {
        marks_zero = inv.marks_zero;
        row_filled = record {
          grown = record { held = inv.held; rows_are = are; room_kept = inv.room_kept };
          cells_are = λ more.
              rw (← are)
              (subst
              (λ (k : ℕ).
              cells
              ≡ laid cells₀ (row * r.symbols * width r)
              (symbol_cells k 0 r (rows_in p.rows rows pool ++ more) (row_at rs row)))
              full
              (inv.cells_are more));
        };
      }
