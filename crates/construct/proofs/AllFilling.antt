-- All rows, as they are found: the cells of the rows so far stand from place 0 on, and discovery from here gives the
-- rows of the rule.
use mathlib.Core.Path.{◌≡◌, refl, sym, ◌∙◌, ap, subst}
use mathlib.Core.Bool.{Bool}
use mathlib.Core.List.{List, [], ◌∷◌, ◌++◌, append-nil}
use Prim.Native.Nat.{ℕ, suc, ◌+◌, ◌-◌, ◌*◌, ◌≤◌, ◌<◌}
use native.Mathlib.Omega.{arith}
use native.Mathlib.Nat.{mul-le-mul_right}
use native.Mathlib.Numerals.{add-one}
use Rattle.std.specs.Prelude.{Ok, Err}
use lib.ListN.{length, take, length-replicate}
use lib.Seq.{take-suc, take-append-le, take_all, length-take-le}
use Rattle.numbers.specs.Lent.{laid}
use Rattle.numbers.proofs.Laid.{laid_filled}
use Rattle.model.specs.Basics.{zeros, filled}
use Rattle.model.specs.Rules.{Rule}
use Rattle.model.specs.Construction.{width, start_row, row_at, by_symbols, rows_from, most_rows, rows_of}
use Rattle.model.specs.Tables.{symbol_cells, cell_numbers}
use Rattle.model.proofs.RowNumbers.{Extends, extends_length}
use Rattle.model.proofs.Discovery.{grows_extends, symbols_grow, rows_grow, rows_on, rows_end}
use Rattle.model.proofs.TablePlaces.{cell_numbers_length, symbols_length}
use Rattle.model.specs.declared.Fault.{Fault}
use Rattle.construct.specs.declared.Progress.{Progress}
use Rattle.construct.specs.Marks.{Enough}
use Rattle.construct.specs.Rows.{rows_in, Held, Grown, Unfit}
use Rattle.construct.specs.Cells.{CanFill, RowFilled, CanFillAll, AllFilled}
use Rattle.construct.proofs.RowSearch.{rows_length}
use Rattle.construct.proofs.TargetMarks.{enough_again}
use Rattle.construct.proofs.Laying.{numbers_snoc}
use Rattle.construct.proofs.SymbolFilling.{extends_more, unfit_extends}

-- the rows of the rule, whatever rows and fuel are left
pub record FillingAll
    (says : List ℕ → Bool) (r : Rule) (fuel : ℕ) (all_are : List (List ℕ)) (room : ℕ) (marks₀ cells₀ : List ℕ) (n : ℕ)
    (marks cells rows pool : List ℕ) (p : Progress) : Type 0 where
  pub turns : n ≤ p.rows
  pub marks_zero : marks ≡ zeros (length marks₀)
  pub cells_long : length cells ≡ length cells₀
  pub held : Held says rows pool p
  pub room_kept : p.room ≡ room
  pub rest_is : rows_from (fuel - n) n r (rows_in p.rows rows pool) ≡ all_are
  pub cells_are :
      (more : List (List ℕ))
      → cells
      ≡ filled (length cells₀)
      (cell_numbers r (rows_in p.rows rows pool ++ more) (take n (rows_in p.rows rows pool)))

module _
    {says : List ℕ → Bool} {r : Rule} {fuel : ℕ} {all_are : List (List ℕ)} {room : ℕ} {marks₀ cells₀ : List ℕ} {n : ℕ}
    {marks cells rows pool : List ℕ} {p : Progress} (enough : most_rows < fuel)
    (inv : FillingAll says r fuel all_are room marks₀ cells₀ n marks cells rows pool p) where
  marks_long : length marks ≡ length marks₀
  marks_long = ap length inv.marks_zero ∙ length-replicate (length marks₀) 0

  count_is : length (rows_in p.rows rows pool) ≡ p.rows
  count_is = rows_length p.rows 0 rows pool

  pub all_can :
      Enough r marks₀ → room * (r.symbols * width r) ≤ length cells₀ → n < p.rows
      → CanFill says r marks cells rows pool p n
  all_can enough_marks f l = record {
    leave = record {
      enough = enough_again marks enough_marks marks_long;
      marks_zero = inv.marks_zero ∙ ap zeros (sym marks_long);
      held = inv.held;
      row_below = l;
    };
    cells_fit = rw (inv.room_kept, inv.cells_long) f;
  }

  marks_zero_still : {marks' : List ℕ} → marks' ≡ zeros (length marks) → marks' ≡ zeros (length marks₀)
  marks_zero_still e = e ∙ ap zeros marks_long

  module _ (l : n < p.rows) where
    turn_is :
        rows_from (fuel - (n + 1)) (n + 1) r
        (by_symbols r.symbols 0 r (row_at (rows_in p.rows rows pool) n) (rows_in p.rows rows pool))
        ≡ all_are
    turn_is =
        let few : p.rows ≤ most_rows = omega (arith, inv.held.in_room, inv.held.room_most) in
        let a : fuel - n ≡ suc (fuel - suc n) = omega arith in
        rw (add-one n)
        (sym
        (rows_on (fuel - suc n) n r (rows_in p.rows rows pool) (omega (arith, count_is)))
        ∙ (rw a at inv.rest_is))

    pub all_refused :
        {marks' cells' rows' pool' : List ℕ} {fault : Fault}
        → RowFilled says r n (rows_in p.rows rows pool) p.room marks marks' cells cells' rows' pool' (Err fault)
        → all_are ≡ rows_of r
        → AllFilled says r room marks₀ marks' cells₀ cells' rows' pool' (Err fault)
    all_refused {pool' = pool'} {fault = fault} filled_row whole =
        let old : List (List ℕ) = rows_in p.rows rows pool in
        let new : List (List ℕ) = by_symbols r.symbols 0 r (row_at old n) old in
        let unfit : Unfit room (length pool') new fault =
        subst (λ (k : ℕ). Unfit k (length pool') new fault) inv.room_kept filled_row.row_filled in
        record {
          marks_zero = marks_zero_still filled_row.marks_zero;
          all_filled =
              unfit_extends unfit
              (subst (λ (x : List (List ℕ)). Extends new x) (turn_is ∙ whole)
              (grows_extends (rows_grow (fuel - (n + 1)) (n + 1) r new)));
        }

    module _ {marks' cells' rows' pool' : List ℕ} {p' : Progress}
        (filled_row : RowFilled says r n (rows_in p.rows rows pool) p.room marks marks' cells cells' rows' pool'
        (Ok p')) where
      grown_is :
          Grown says room (by_symbols r.symbols 0 r (row_at (rows_in p.rows rows pool) n) (rows_in p.rows rows pool))
          rows' pool' p'
      grown_is =
          subst
          (λ (k : ℕ).
          Grown says k (by_symbols r.symbols 0 r (row_at (rows_in p.rows rows pool) n) (rows_in p.rows rows pool))
          rows' pool' p')
          inv.room_kept
          filled_row.row_filled.grown

      cells_next :
          room * (r.symbols * width r) ≤ length cells₀
          → (more : List (List ℕ))
          → cells'
          ≡ filled (length cells₀)
          (cell_numbers r
          (by_symbols r.symbols 0 r (row_at (rows_in p.rows rows pool) n) (rows_in p.rows rows pool) ++ more)
          (take (n + 1) (by_symbols r.symbols 0 r (row_at (rows_in p.rows rows pool) n) (rows_in p.rows rows pool))))
      cells_next fits more =
          let old : List (List ℕ) = rows_in p.rows rows pool in
          let x : List ℕ = row_at old n in
          let new : List (List ℕ) = by_symbols r.symbols 0 r x old in
          let ext : Extends old new = grows_extends (symbols_grow r.symbols 0 r x old) in
          let xs : List ℕ = cell_numbers r (new ++ more) (take n old) in
          let ys : List ℕ = symbol_cells r.symbols 0 r (new ++ more) x in
          let before : cells ≡ filled (length cells₀) xs =
          rw (extends_more ext more) (inv.cells_are (ext.added ++ more)) in
          let inside : n < length old = omega (arith, count_is) in
          let xs_long : length xs ≡ n * (r.symbols * width r) =
          cell_numbers_length r (new ++ more) (take n old) ∙ rw (length-take-le n old (omega arith)) in
          let ys_long : length ys ≡ r.symbols * width r = symbols_length r (new ++ more) r.symbols 0 x in
          let place : n * r.symbols * width r ≡ length xs = omega (arith, xs_long) in
          let all_fit : suc n * (r.symbols * width r) ≤ room * (r.symbols * width r) =
          mul-le-mul_right (r.symbols * width r) (omega (arith, inv.held.in_room, inv.room_kept)) in
          let first : take (n + 1) new ≡ take n old ++ (x ∷ []) =
          ap (take (n + 1)) ext.after_is
          ∙ (rw (add-one n) (take-append-le (suc n) old ext.added inside ∙ take-suc old n [] inside)) in
          let snoc : cell_numbers r (new ++ more) (take (n + 1) new) ≡ xs ++ ys =
          ap (cell_numbers r (new ++ more)) first ∙ numbers_snoc r (new ++ more) (take n old) x in
          filled_row.row_filled.cells_are more
          ∙ (ap (λ (t : List ℕ). laid t (n * r.symbols * width r) ys) before
          ∙ (laid_filled (length cells₀) (n * r.symbols * width r) xs ys place
          (omega (arith, xs_long, ys_long, all_fit, fits))
          ∙ ap (filled (length cells₀)) (sym snoc)))

      pub all_next :
          length cells' ≡ length cells → room * (r.symbols * width r) ≤ length cells₀
          → FillingAll says r fuel all_are room marks₀ cells₀ (n + 1) marks' cells' rows' pool' p'
      all_next long fits =
          let old : List (List ℕ) = rows_in p.rows rows pool in
          let new : List (List ℕ) = by_symbols r.symbols 0 r (row_at old n) old in
          let are : rows_in p'.rows rows' pool' ≡ new = grown_is.rows_are in
          let ext : Extends old new = grows_extends (symbols_grow r.symbols 0 r (row_at old n) old) in
          let new_count : length new ≡ p'.rows = sym (ap length are) ∙ rows_length p'.rows 0 rows' pool' in
          record {
            turns = omega (arith, extends_length ext, count_is, new_count);
            marks_zero = marks_zero_still filled_row.marks_zero;
            cells_long = long ∙ inv.cells_long;
            held = grown_is.held;
            room_kept = grown_is.room_kept;
            rest_is = rw are turn_is;
            cells_are = λ more. rw are (cells_next fits more);
          }

  pub all_end :
      p.rows ≤ n → all_are ≡ rows_of r → AllFilled says r room marks₀ marks cells₀ cells rows pool (Ok p)
  all_end l whole =
      let rs : List (List ℕ) = rows_in p.rows rows pool in
      let few : p.rows ≤ most_rows = omega (arith, inv.held.in_room, inv.held.room_most) in
      let a : fuel - n ≡ suc (fuel - (n + 1)) = omega (arith, inv.turns) in
      let are : rs ≡ rows_of r =
      sym (rows_end (fuel - (n + 1)) n r rs (omega (arith, count_is))) ∙ ((rw a at inv.rest_is) ∙ whole) in
      let every : take n rs ≡ rs = take_all n rs (omega (arith, count_is)) in
      let last : cells ≡ filled (length cells₀) (cell_numbers r rs rs) =
      rw (append-nil rs, every) at (inv.cells_are []) in
      record {
        marks_zero = inv.marks_zero;
        all_filled = record {
          grown = record { held = inv.held; rows_are = are; room_kept = inv.room_kept };
          cells_are = subst (λ (x : List (List ℕ)). cells ≡ filled (length cells₀) (cell_numbers r x x)) are last;
        };
      }

-- from the start row on
all_begins :
    {says : List ℕ → Bool} (r : Rule) (fuel : ℕ) (marks cells rows pool : List ℕ) (p : Progress)
    → CanFillAll says r marks cells rows pool p
    → FillingAll says r fuel (rows_from fuel 0 r (start_row r ∷ [])) p.room marks cells 0 marks cells rows pool p
all_begins r fuel marks cells rows pool p can =
    let e : fuel - 0 ≡ fuel = omega arith in
    let f : length cells - 0 ≡ length cells = omega arith in
    record {
      turns = omega arith;
      marks_zero = can.marks_zero;
      cells_long = refl;
      held = can.held;
      room_kept = refl;
      rest_is = rw (e, can.start_is);
      cells_are = λ more. rw f can.cells_zero;
    }

pub all_start :
    {says : List ℕ → Bool} (r : Rule) (marks cells rows pool : List ℕ) (p : Progress)
    → CanFillAll says r marks cells rows pool p
    → FillingAll says r (suc most_rows) (rows_of r) p.room marks cells 0 marks cells rows pool p
unfolding rows_of
all_start r marks cells rows pool p can = all_begins r (suc most_rows) marks cells rows pool p can
