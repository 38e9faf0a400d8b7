-- Tables that fit: where none of 22, 23 and 24 is met there are at most 4,096 rows and every table has room for them. A
-- refusal of the builder with number 0 is no refusal.
use mathlib.Core.Path.{◌≡◌, ap}
use mathlib.Core.List.{List, [], ◌∷◌}
use Prim.Native.Nat.{ℕ, zero, suc, ◌+◌, ◌*◌, ◌≤◌, ◌<◌}
use native.Mathlib.Omega.{arith}
use native.Mathlib.Nat.{div-add-mod', mul-le-mul_right}
use lib.Dec.{ltb}
use lib.ListN.{length, length-append}
use borrow.Author.Tests.{ltb-false, lt-ltb, le-ltb, le-leb, lt-leb}
use Rattle.model.specs.Basics.{lesser, quotient, Refusal, refusal, fine, refuse}
use Rattle.model.specs.Rules.{Rule, pair_count}
use Rattle.model.specs.Construction.{width, rows_of, most_rows}
use Rattle.model.specs.Tables.{row_width, pool_numbers, row_room, fit_refusal, scratch_bits, scratch_need}
use Rattle.model.specs.Tables.{table_refusal}
use Rattle.model.proofs.Logic.{Two, two, less, least, lesser_left, lesser_right}
use Rattle.model.proofs.Discovery.{Closed, discovered}
use Rattle.model.proofs.Refusals.{refused_false, first_passes, then_passes}

-- the three ways on at a row
pub fit_23 :
    (n room used pool : ℕ) (x : List ℕ) (xs : List (List ℕ))
    → room ≤ n
    → fit_refusal n room used pool (x ∷ xs) ≡ refusal 23 0
unfolding fit_refusal
fit_23 n room used pool x xs h = rw (le-leb room n h, fit_refusal)

pub fit_24 :
    (n room used pool : ℕ) (x : List ℕ) (xs : List (List ℕ))
    → n < room
    → pool < used + length x
    → fit_refusal n room used pool (x ∷ xs) ≡ refusal 24 0
unfolding fit_refusal
fit_24 n room used pool x xs h g = rw (lt-leb room n h, fit_refusal, lt-ltb pool (used + length x) g)

pub fit_on :
    (n room used pool : ℕ) (x : List ℕ) (xs : List (List ℕ))
    → n < room
    → used + length x ≤ pool
    → fit_refusal n room used pool (x ∷ xs) ≡ fit_refusal (suc n) room (used + length x) pool xs
unfolding fit_refusal
fit_on n room used pool x xs h g = rw (lt-leb room n h, fit_refusal, le-ltb pool (used + length x) g)

-- rows from number n on that all fit, and the pool that they need
pub record Fit (n room used pool : ℕ) (rows : List (List ℕ)) : Type 0 where
  pub in_room : n + length rows ≤ room
  pub in_pool : used + length (pool_numbers rows) ≤ pool

pub fit_of :
    (n room used pool : ℕ) (rows : List (List ℕ))
    → n ≤ room
    → used ≤ pool
    → (fit_refusal n room used pool rows).number ≡ 0
    → Fit n room used pool rows
unfolding fit_refusal
fit_of n room used pool [] h g e = record { in_room = omega arith; in_pool = omega arith }
fit_of n room used pool (x ∷ xs) h g e =
    go (two n room) (two pool after) (fit_of (suc n) room (used + length x) pool xs)
  where
    after : ℕ
    after = used + length x

    go :
        Two n room
        → Two pool after
        → (suc n ≤ room → after ≤ pool → (fit_refusal (suc n) room after pool xs).number ≡ 0
        → Fit (suc n) room after pool xs)
        → Fit n room used pool (x ∷ xs)
    go (least l) q k = absurd (omega (arith, rw (fit_23 n room used pool x xs l) at e))
    go (less l) (less m) k = absurd (omega (arith, rw (fit_24 n room used pool x xs l m) at e))
    go (less l) (least m) k =
        let f : Fit (suc n) room (used + length x) pool xs = k l m (rw (fit_on n room used pool x xs l m) at e) in
        record {
          in_room = omega (arith, f.in_room);
          in_pool = omega (arith, f.in_pool, length-append x (pool_numbers xs));
        }

-- a number below a quotient, times the divisor
quotient_below : (n a b : ℕ) → n ≤ quotient a b → n * b ≤ a
quotient_below n a zero h = omega arith
quotient_below n a (suc b) h = omega (arith, mul-le-mul_right (suc b) h, div-add-mod' a (suc b))

-- a scratch that is long enough has a bit for every code
pub bits_enough : (r : Rule) (n : ℕ) → scratch_need r ≤ n → pair_count r ≤ scratch_bits * n
unfolding scratch_need
bits_enough r n h = omega (arith, h)

-- what a table that fits shows of the lent lengths
pub record Fitted (r : Rule) (scratch cells rows pool : ℕ) (rs : List (List ℕ)) : Type 0 where
  pub scratch_long : scratch_need r ≤ scratch
  pub few : length rs ≤ most_rows
  pub cells_long : length rs * (r.symbols * width r) ≤ cells
  pub rows_long : row_width * length rs ≤ rows
  pub pool_long : length (pool_numbers rs) ≤ pool

fitted_by :
    (r : Rule) (scratch cells rows pool : ℕ) (rs : List (List ℕ))
    → scratch_need r ≤ scratch
    → Fit 0 (row_room r cells rows) 0 pool rs
    → Fitted r scratch cells rows pool rs
unfolding row_room
fitted_by r scratch cells rows pool rs h f =
    let by_rows : ℕ = quotient rows row_width in
    let by_cells : ℕ = quotient cells (r.symbols * width r) in
    let a : length rs ≤ lesser by_rows by_cells =
    omega (arith, f.in_room, lesser_right most_rows (lesser by_rows by_cells)) in
    record {
      scratch_long = h;
      few = omega (arith, f.in_room, lesser_left most_rows (lesser by_rows by_cells));
      cells_long =
          quotient_below (length rs) cells (r.symbols * width r) (omega (arith, a, lesser_right by_rows by_cells));
      rows_long = omega (arith, a, lesser_left by_rows by_cells);
      pool_long = omega (arith, f.in_pool);
    }

-- the builder's refusal in order: 22, then the rows that do not fit
pub room_passes :
    (r : Rule) (scratch cells rows pool : ℕ)
    → (table_refusal r scratch cells rows pool).number ≡ 0
    → Fitted r scratch cells rows pool (rows_of r)
unfolding table_refusal
room_passes r scratch cells rows pool h =
    let short : Refusal = refuse (ltb scratch (scratch_need r)) 22 0 in
    let fit : Refusal = fit_refusal 0 (row_room r cells rows) 0 pool (rows_of r) in
    fitted_by r scratch cells rows pool (rows_of r)
    (ltb-false scratch (scratch_need r) (refused_false (ltb scratch (scratch_need r)) 21 0 (first_passes short fit h)))
    (fit_of 0 (row_room r cells rows) 0 pool (rows_of r) (omega arith) (omega arith) (then_passes short fit h))

pub fitted :
    (r : Rule) (scratch cells rows pool : ℕ)
    → table_refusal r scratch cells rows pool ≡ fine
    → Fitted r scratch cells rows pool (rows_of r)
fitted r scratch cells rows pool h = room_passes r scratch cells rows pool (ap (λ (f : Refusal). f.number) h)

-- so every successor of a row is a row
few_below : (rs : List (List ℕ)) → length rs ≤ most_rows → length rs < suc most_rows
few_below rs h = omega arith

pub fitted_closed :
    (r : Rule) (scratch cells rows pool : ℕ)
    → table_refusal r scratch cells rows pool ≡ fine
    → Closed r (length (rows_of r)) (rows_of r)
fitted_closed r scratch cells rows pool h =
    (discovered r).closed (few_below (rows_of r) (fitted r scratch cells rows pool h).few)
