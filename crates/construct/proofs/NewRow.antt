-- A new row: it gets the next number, or it is the first that does not fit, whatever rows come after.
use mathlib.Core.Path.{◌≡◌, refl, sym, ◌∙◌, ap, ap₂, subst}
use mathlib.Core.Bool.{Bool, true}
use mathlib.Core.List.{List, [], ◌∷◌, ◌++◌, append_assoc}
use mathlib.Core.Logic.{inl, inr}
use Prim.Native.Nat.{ℕ, suc, ◌+◌, ◌-◌, ◌*◌, ◌≤◌, ◌<◌}
use native.Mathlib.Omega.{arith}
use Rattle.std.specs.Prelude.{Result}
use lib.Dec.{ltb}
use lib.ListN.{length, set, length-append, length-set}
use borrow.Author.Tests.{ltb-true}
use Rattle.numbers.specs.Lent.{laid}
use Rattle.numbers.proofs.Laid.{laid_filled}
use Rattle.model.specs.declared.Fault.{Fault}
use Rattle.model.specs.declared.Fault.TheVariants.{NoRoomForRow, NoRoomForCodes}
use Rattle.model.specs.Basics.{one_if, same, filled, refusal}
use Rattle.model.specs.Construction.{row_at, number_of, with_row}
use Rattle.model.specs.Tables.{row_width, row_numbers, pool_numbers, fit_refusal}
use Rattle.model.proofs.Logic.{and_left, and_right, same_equal, in_append}
use Rattle.model.proofs.Masks.{Asc}
use Rattle.model.proofs.Discovery.{Each}
use Rattle.model.proofs.EdgesWritten.{filled_length}
use Rattle.model.proofs.TablePlaces.{row_numbers_length}
use Rattle.model.proofs.TableRoom.{fit_23, fit_24, fit_on}
use Rattle.model.proofs.RowNumbers.{number_most, with_present, with_new, with_placed}
use Rattle.model.proofs.RowNumbers.{Placed as Apart}
use Rattle.construct.specs.declared.Found.{Found}
use Rattle.construct.specs.declared.Found.TheVariants.{At, Nothing}
use Rattle.construct.specs.declared.Progress.{Progress}
use Rattle.construct.specs.Rows.{rows_in, is_at, found_in, CodeSet, Held, Unfit, HasNumber, Numbered}
use Rattle.construct.proofs.RowSearch.{rows_length, found_at, found_nothing}
use Rattle.construct.proofs.RowTables.{filled_three, rows_append, pool_append}
use Rattle.construct.proofs.RowTables.{rows_again}

-- what holds of every row, and of one more
each_more :
    (P : List ℕ → Type 0) (y : List ℕ) (rows : List (List ℕ)) → P y → Each P rows → Each P (rows ++ (y ∷ []))
each_more P y rows p each x i = elim (in_append x y rows i) [ inl j ↦ each x j | inr q ↦ rw q p ]

-- rows that fit are passed
fit_through :
    (n room used pool : ℕ) (rs more : List (List ℕ)) → n + length rs ≤ room → used + length (pool_numbers rs) ≤ pool
    → fit_refusal n room used pool (rs ++ more)
    ≡ fit_refusal (n + length rs) room (used + length (pool_numbers rs)) pool more
fit_through n room used pool [] more h g =
    let a : n + 0 ≡ n = omega arith in
    let b : used + 0 ≡ used = omega arith in
    rw (a, b)
fit_through n room used pool (x ∷ rs) more h g =
    let k : length (x ++ pool_numbers rs) ≡ length x + length (pool_numbers rs) = length-append x (pool_numbers rs) in
    let a : suc n + length rs ≡ n + suc (length rs) = omega arith in
    let b : used + length x + length (pool_numbers rs) ≡ used + length (x ++ pool_numbers rs) = omega arith in
    fit_on n room used pool x (rs ++ more) (omega arith) (omega arith)
    ∙ (fit_through (suc n) room (used + length x) pool rs more (omega arith) (omega arith) ∙ rw (a, b))

module _ {says : List ℕ → Bool} {rows pool : List ℕ} {p : Progress} (held : Held says rows pool p) where
  count_is : length (rows_in p.rows rows pool) ≡ p.rows
  count_is = rows_length p.rows 0 rows pool

  -- the rows so far fit
  pub passes_held :
      (more : List (List ℕ))
      → fit_refusal 0 p.room 0 (length pool) (rows_in p.rows rows pool ++ more)
      ≡ fit_refusal p.rows p.room p.total (length pool) more
  passes_held more =
      let a : 0 + length (rows_in p.rows rows pool) ≡ p.rows = omega (arith, count_is) in
      let b : 0 + length (pool_numbers (rows_in p.rows rows pool)) ≡ p.total = omega (arith, held.total_is) in
      fit_through 0 p.room 0 (length pool) (rows_in p.rows rows pool) more
      (omega (arith, a, held.in_room))
      (omega (arith, b, held.in_pool))
      ∙ ap₂ (λ (n u : ℕ). fit_refusal n p.room u (length pool) more) a b

  first_unfit :
      (x : List ℕ) (number : ℕ)
      → ((more : List (List ℕ)) → fit_refusal p.rows p.room p.total (length pool) (x ∷ more) ≡ refusal number 0)
      → (more : List (List ℕ))
      → fit_refusal 0 p.room 0 (length pool) ((rows_in p.rows rows pool ++ (x ∷ [])) ++ more) ≡ refusal number 0
  first_unfit x number h more =
      rw (append_assoc (rows_in p.rows rows pool) (x ∷ []) more) (passes_held (x ∷ more) ∙ h more)

  -- 23: no room for one more; 24: the pool is too short
  pub no_room :
      (x : List ℕ) → p.room ≤ p.rows
      → Unfit p.room (length pool) (rows_in p.rows rows pool ++ (x ∷ [])) NoRoomForRow
  no_room x h = record {
    least = omega arith;
    refuses = first_unfit x 23 (λ more. fit_23 p.rows p.room p.total (length pool) x more h);
  }

  pub pool_short :
      (x : List ℕ) → p.rows < p.room → length pool - p.total < length x
      → Unfit p.room (length pool) (rows_in p.rows rows pool ++ (x ∷ [])) NoRoomForCodes
  pool_short x h g = record {
    least = omega arith;
    refuses =
        first_unfit x 24
        (λ more. fit_24 p.rows p.room p.total (length pool) x more h (omega (arith, held.in_pool)));
  }

-- The tables after one row more: its start, its length and what its codes say.
module _
    {says : List ℕ → Bool} {rows pool : List ℕ} {p : Progress} (held : Held says rows pool p) (x rows' pool' : List ℕ)
    (a b c : ℕ)
    (has_room : p.rows < p.room)
    (in_pool : p.total + length x ≤ length pool)
    (codes : CodeSet x)
    (new : number_of x (rows_in p.rows rows pool) ≡ p.rows)
    (is_a : a ≡ p.total) (is_b : b ≡ length x) (is_c : c ≡ one_if (says x))
    (rows_now :
    rows' ≡ set (set (set rows (row_width * p.rows) a) (row_width * p.rows + 1) b) (row_width * p.rows + 2) c)
    (pool_now : pool' ≡ laid pool p.total x) where
  numbers_long : length (row_numbers says 0 (rows_in p.rows rows pool)) ≡ row_width * p.rows
  numbers_long = row_numbers_length says 0 (rows_in p.rows rows pool) ∙ rw (count_is held)

  new_rows : rows' ≡ filled (length rows) (row_numbers says 0 (rows_in p.rows rows pool ++ (x ∷ [])))
  new_rows =
      let rs : List (List ℕ) = rows_in p.rows rows pool in
      let ns : List ℕ = row_numbers says 0 rs in
      let k : ℕ = row_width * p.rows in
      let from : a ≡ 0 + length (pool_numbers rs) = omega (arith, is_a, held.total_is) in
      let same_numbers : ns ++ (a ∷ b ∷ c ∷ []) ≡ row_numbers says 0 (rs ++ (x ∷ [])) =
      rw (from, is_b, is_c) (sym (rows_append says 0 rs x)) in
      rows_now
      ∙ (ap (λ (l : List ℕ). set (set (set l k a) (k + 1) b) (k + 2) c) held.rows_are
      ∙ (filled_three (length rows) ns k a b c numbers_long (omega (arith, held.room_fits))
      ∙ ap (filled (length rows)) same_numbers))

  new_pool : pool' ≡ filled (length pool) (pool_numbers (rows_in p.rows rows pool ++ (x ∷ [])))
  new_pool =
      let rs : List (List ℕ) = rows_in p.rows rows pool in
      let e : p.total ≡ length (pool_numbers rs) = held.total_is in
      pool_now
      ∙ (ap (λ (l : List ℕ). laid l p.total x) held.pool_is
      ∙ (laid_filled (length pool) p.total (pool_numbers rs) x e (omega (arith, in_pool, e))
      ∙ ap (filled (length pool)) (sym (pool_append rs x))))

  total_then :
      length (pool_numbers (rows_in p.rows rows pool ++ (x ∷ []))) ≡ p.total + length x
  total_then =
      let rs : List (List ℕ) = rows_in p.rows rows pool in
      ap length (pool_append rs x)
      ∙ (length-append (pool_numbers rs) x ∙ ap (λ (k : ℕ). k + length x) (sym held.total_is))

  rows_long : length rows' ≡ length rows
  rows_long = ap length rows_now ∙ simp length-set

  pool_long : length pool' ≡ length pool
  pool_long =
      ap length new_pool
      ∙ filled_length (length pool) (pool_numbers (rows_in p.rows rows pool ++ (x ∷ [])))
      (omega (arith, total_then, in_pool))

  rows_then : rows_in (p.rows + 1) rows' pool' ≡ rows_in p.rows rows pool ++ (x ∷ [])
  rows_then =
      rows_again says (rows_in p.rows rows pool ++ (x ∷ [])) rows' pool' (p.rows + 1) (length rows) (length pool)
      (sym (length-append (rows_in p.rows rows pool) (x ∷ []) ∙ ap (λ (k : ℕ). k + 1) (count_is held)))
      new_rows
      new_pool

  apart_then : Apart (rows_in p.rows rows pool ++ (x ∷ []))
  apart_then =
      let rs : List (List ℕ) = rows_in p.rows rows pool in
      subst Apart (with_new x rs (omega (arith, new, count_is held))) (with_placed x rs held.rows_apart)

  pub row_added :
      (total before : ℕ) → total ≡ p.total + length x
      → HasNumber says p.room (rows_in p.rows rows pool ++ (x ∷ [])) p.rows rows' pool'
      (record {
        rows = p.rows + 1;
        total = total;
        room = p.room;
        last = p.rows;
        before = before;
      })
  row_added total before is_total = record {
    grown = record {
      held = record {
        rows_ascend =
            rw rows_then (each_more (Asc 0) x (rows_in p.rows rows pool) codes.ascends held.rows_ascend);
        rows_apart = rw rows_then apart_then;
        rows_are = rw (rows_then, rows_long) new_rows;
        pool_is = rw (rows_then, pool_long) new_pool;
        total_is = rw rows_then (is_total ∙ sym total_then);
        in_room = omega arith;
        in_pool = rw (pool_long, is_total) in_pool;
        total_most = omega (arith, held.total_most, codes.few);
        room_most = held.room_most;
        room_fits = rw rows_long held.room_fits;
      };
      rows_are = rows_then;
      room_kept = refl;
    };
    row_is = refl;
    row_below = omega (arith, held.room_most);
  }

-- another row placed last: what is held stays so
abbrev pub with_last : Progress → ℕ → Progress
with_last p row = record {
  rows = p.rows;
  total = p.total;
  room = p.room;
  last = row;
  before = p.last;
}

held_again :
    {says : List ℕ → Bool} {rows pool : List ℕ} {p : Progress} (row : ℕ) → Held says rows pool p
    → Held says rows pool (with_last p row)
held_again row held = record {
  rows_ascend = held.rows_ascend;
  rows_apart = held.rows_apart;
  rows_are = held.rows_are;
  pool_is = held.pool_is;
  total_is = held.total_is;
  in_room = held.in_room;
  in_pool = held.in_pool;
  total_most = held.total_most;
  room_most = held.room_most;
  room_fits = held.room_fits;
}

-- an equal row has a number: that one is used
placed_there :
    {says : List ℕ → Bool} {rows pool : List ℕ} {p : Progress} (held : Held says rows pool p) (x : List ℕ)
    → number_of x (rows_in p.rows rows pool) < length (rows_in p.rows rows pool)
    → p.last ≡ number_of x (rows_in p.rows rows pool)
    → HasNumber says p.room (with_row x (rows_in p.rows rows pool)) (number_of x (rows_in p.rows rows pool)) rows
    pool p
placed_there {says} {rows} {pool} {p} held x below is = record {
  grown = record {
    held = held;
    rows_are = sym (with_present x (rows_in p.rows rows pool) below);
    room_kept = refl;
  };
  row_is = is;
  row_below = omega (arith, below, is, rows_length p.rows 0 rows pool, held.in_room, held.room_most);
}

module _ {says : List ℕ → Bool} {rows pool : List ℕ} {p : Progress} (held : Held says rows pool p) (x : List ℕ) where
  -- the row placed last: no two rows are equal, so it has the number
  pub placed_last :
      (answer : Bool) → answer ≡ is_at p.last x (rows_in p.rows rows pool) → answer ≡ true
      → HasNumber says p.room (with_row x (rows_in p.rows rows pool)) (number_of x (rows_in p.rows rows pool)) rows
      pool p
  placed_last answer e t =
      let rs : List (List ℕ) = rows_in p.rows rows pool in
      let row : ℕ = p.last in
      let is : is_at row x rs ≡ true = sym e ∙ t in
      let below : row < length rs =
      ltb-true row (length rs) (and_left (ltb row (length rs)) (same x (row_at rs row)) is) in
      let equal : x ≡ row_at rs row =
      same_equal x (row_at rs row) (and_right (ltb row (length rs)) (same x (row_at rs row)) is) in
      let number : number_of x rs ≡ row = ap (λ (l : List ℕ). number_of l rs) equal ∙ held.rows_apart row below in
      placed_there held x (omega (arith, number, below)) (sym number)

  -- by the search
  pub placed_found :
      (row : ℕ) (f : Found) → f ≡ found_in x (rows_in p.rows rows pool) → f ≡ At row
      → HasNumber says p.room (with_row x (rows_in p.rows rows pool)) (number_of x (rows_in p.rows rows pool)) rows
      pool (with_last p row)
  placed_found row f is_found g =
      let k = found_at x (rows_in p.rows rows pool) f row is_found g in
      placed_there (held_again row held) x k.0 k.1

-- none has: the next one is used
module _
    {says : List ℕ → Bool} {rows pool : List ℕ} {p : Progress} (held : Held says rows pool p) (x : List ℕ)
    (f : Found) (is_found : f ≡ found_in x (rows_in p.rows rows pool)) (is_none : f ≡ Nothing) where
  pub number_new : number_of x (rows_in p.rows rows pool) ≡ p.rows
  number_new =
      let rs : List (List ℕ) = rows_in p.rows rows pool in
      omega (arith, number_most 0 x rs, found_nothing x rs f is_found is_none, rows_length p.rows 0 rows pool)

  pub placed_new :
      (rows' pool' : List ℕ) (outcome : Result Progress Fault)
      → Numbered says p.room (rows_in p.rows rows pool ++ (x ∷ [])) p.rows rows' pool' outcome
      → Numbered says p.room (with_row x (rows_in p.rows rows pool)) (number_of x (rows_in p.rows rows pool)) rows'
      pool' outcome
  placed_new rows' pool' outcome added =
      let rs : List (List ℕ) = rows_in p.rows rows pool in
      let are : with_row x rs ≡ rs ++ (x ∷ []) = with_new x rs (found_nothing x rs f is_found is_none) in
      rw (are, number_new) added
