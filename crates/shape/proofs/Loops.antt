-- The three passes of the shape check, turn by turn: rows in a chain, codes below N, cells.
use mathlib.Core.Path.{◌≡◌, refl, sym, ◌∙◌, ap}
use mathlib.Core.Bool.{Bool, true, false, ◌&&◌, ◌||◌}
use mathlib.Core.List.{List, [], ◌∷◌, ◌++◌}
use Prim.Native.Nat.{ℕ, suc, ◌+◌, ◌-◌, ◌*◌, ◌/◌, ◌%◌, ◌^◌, ◌≤◌, ◌<◌}
use native.Mathlib.Omega.{arith}
use native.Mathlib.Numerals.{add-one}
use native.Mathlib.Nat.{div-add-mod'}
use lib.Dec.{eqb, ltb}
use lib.ListN.{length, get_or, drop, drop_of_length-le}
use lib.Seq.{drop-cons, drop-drop, get_or-drop}
use borrow.Author.Tests.{lt-ltb, le-ltb, le-leb, eq-eqb, ne_eqb}
use Rattle.model.specs.Basics.{remainder, all_below}
use Rattle.model.specs.Construction.{interval_count}
use Rattle.model.specs.Tables.{row_width, row_start, row_length}
use Rattle.model.specs.Walks.{rows_chain, cells_ok}
use Rattle.model.proofs.Logic.{remainder_is, or_right, or_none, two, less, least}
use Rattle.shape.specs.Ranges.{rows_ok, resets_ok}

-- the list from place i on
from_place : (xs : List ℕ) (i : ℕ) → i < length xs → drop i xs ≡ get_or xs i 0 ∷ drop (i + 1) xs
from_place xs i h = rw (add-one i) (drop-cons xs i 0 h)

and_true : (b : Bool) → (b && true) ≡ b
and_true true = refl
and_true false = refl

and_false : (b : Bool) → (b && false) ≡ false
and_false true = refl
and_false false = refl

-- Codes below N.
pub record CodesBelow (m : ℕ) (xs : List ℕ) (below : Bool) (i : ℕ) : Type 0 where
  pub turns : i ≤ length xs
  pub rest_is : (below && all_below m (drop i xs)) ≡ all_below m xs

pub codes_start : (m : ℕ) (xs : List ℕ) → CodesBelow m xs true 0
codes_start m xs = record { turns = omega arith; rest_is = refl }

module _ {m : ℕ} {xs : List ℕ} {below : Bool} {i : ℕ} (inv : CodesBelow m xs below i) where
  codes_rest : i < length xs → all_below m xs ≡ (below && (ltb (get_or xs i 0) m && all_below m (drop (i + 1) xs)))
  codes_rest h = sym inv.rest_is ∙ ap (λ (l : List ℕ). below && all_below m l) (from_place xs i h)

  pub codes_next : i < length xs → get_or xs i 0 < m → CodesBelow m xs below (i + 1)
  codes_next h b = record { turns = omega arith; rest_is = sym (codes_rest h ∙ rw (lt-ltb (get_or xs i 0) m b)) }

  pub code_high : i < length xs → m ≤ get_or xs i 0 → CodesBelow m xs false (i + 1)
  code_high h b = record {
    turns = omega arith;
    rest_is = sym (codes_rest h ∙ rw (le-ltb (get_or xs i 0) m b) (and_false below));
  }

  pub codes_end : length xs ≤ i → below ≡ all_below m xs
  codes_end h =
      sym (and_true below)
      ∙ (ap (λ (l : List ℕ). below && all_below m l) (sym (drop_of_length-le xs h)) ∙ inv.rest_is)

-- Rows: what holds of those to come, from where the last one ends, is what holds of all.
pub record Chained (count total : ℕ) (xs : List ℕ) (end i : ℕ) : Type 0 where
  pub long : row_width * count ≤ length xs
  pub turns : i ≤ count
  pub end_most : end ≤ i * 4294967295
  pub rest_is : rows_chain (count - i) end (drop (row_width * i) xs) total ≡ rows_chain count 0 xs total

module _ {count total : ℕ} {xs : List ℕ} {end i : ℕ} (inv : Chained count total xs end i) where
  all_is : rows_chain count 0 xs total ≡ rows_ok count xs total
  all_is = rw (le-leb (row_width * count) (length xs) inv.long)

  chain_rest :
      i < count
      → rows_chain count 0 xs total
      ≡ (eqb (row_start xs i) end
      && rows_chain (count - (i + 1)) (end + row_length xs i) (drop (row_width * (i + 1)) xs) total)
  chain_rest h =
      let at = row_width * i in
      let a : count - i ≡ suc (count - (i + 1)) = omega arith in
      let b : at + row_width ≡ row_width * (i + 1) = omega arith in
      let z : at + 0 ≡ at = omega arith in
      sym inv.rest_is ∙ rw (a, drop-drop row_width at xs, b, get_or-drop at xs 0 0, get_or-drop at xs 1 0, z)

  pub chain_next :
      (n : ℕ) → i < count → row_start xs i ≡ end → n ≡ row_length xs i → n < 2 ^ 32
      → Chained count total xs (end + n) (i + 1)
  chain_next n h e q f = record {
    long = inv.long;
    turns = omega arith;
    end_most = omega (arith, inv.end_most);
    rest_is = rw q (sym (chain_rest h ∙ rw (eq-eqb (row_start xs i) end e)));
  }

  pub chain_broken : i < count → (row_start xs i ≡ end → ⊥) → false ≡ rows_ok count xs total
  chain_broken h n = sym (chain_rest h ∙ rw (ne_eqb (row_start xs i) end n)) ∙ all_is

  pub chain_end : count ≤ i → eqb end total ≡ rows_ok count xs total
  chain_end h = let z : count - i ≡ 0 = omega arith in (rw z at inv.rest_is) ∙ all_is

-- Timer resets: only odd places are looked at.
two_on : (at : ℕ) (xs : List ℕ) → resets_ok (suc (suc at)) xs ≡ resets_ok at xs
two_on at [] = refl
two_on at (x ∷ xs) =
    let e : suc (suc at) % 2 ≡ at % 2 = omega arith in
    rw (e, two_on (suc at) xs) refl

few : (xs : List ℕ) → length xs < 2 → resets_ok 0 xs ≡ true
few [] h = refl
few (x ∷ []) h = rw (or_right (eqb (x % 2) 0) true refl) refl
few (x ∷ y ∷ xs) h = absurd (omega arith)

-- `none` so far, `rest` is left
pub record ResetsOk (xs rest : List ℕ) (size : ℕ) (none : Bool) : Type 0 where
  pub size_is : size ≡ 2
  pub rest_is : (none && resets_ok 0 rest) ≡ resets_ok 0 xs

module _ {xs rest : List ℕ} {size : ℕ} {none : Bool} (inv : ResetsOk xs rest size none) where
  pub resets_end : length rest < size → none ≡ resets_ok 0 xs
  resets_end h =
      let left = few rest (omega (arith, h, inv.size_is)) in
      sym (and_true none) ∙ (ap (λ (b : Bool). none && b) (sym left) ∙ inv.rest_is)

  resets_rest :
      (x y : ℕ) (rest' : List ℕ) → rest ≡ x ∷ y ∷ rest'
      → resets_ok 0 xs ≡ (none && (eqb (y % 2) 0 && resets_ok 0 rest'))
  resets_rest x y rest' cut =
      sym (rw cut at inv.rest_is)
      ∙ rw (← two_on 0 rest', or_none (eqb (y % 2) 0), or_right (eqb (x % 2) 0) true refl) refl

  resets_next :
      (now : Bool) (pair rest' : List ℕ) → rest ≡ pair ++ rest' → length pair ≡ size
      → {size' : ℕ} → size' ≡ size
      → ((r : Bool) → (none && (eqb (get_or pair 1 0 % 2) 0 && r)) ≡ (now && r))
      → ResetsOk xs rest' size' now
  resets_next now [] rest' cut len e h = absurd (omega (arith, inv.size_is))
  resets_next now (x ∷ []) rest' cut len e h = absurd (omega (arith, inv.size_is))
  resets_next now (x ∷ y ∷ []) rest' cut len e h =
      record { size_is = e ∙ inv.size_is; rest_is = sym (resets_rest x y rest' cut ∙ h (resets_ok 0 rest')) }
  resets_next now (x ∷ y ∷ z ∷ zs) rest' cut len e h = absurd (omega (arith, inv.size_is))

  pub no_reset :
      (pair rest' : List ℕ) → rest ≡ pair ++ rest' → length pair ≡ size
      → {size' : ℕ} → size' ≡ size
      → (get_or pair 1 0 % 2 ≡ 1 → ⊥)
      → ResetsOk xs rest' size' none
  no_reset pair rest' cut len e n =
      resets_next none pair rest' cut len e
      (λ r. rw (eq-eqb (get_or pair 1 0 % 2) 0 (omega (arith, n))) refl)

  pub odd_reset :
      (pair rest' : List ℕ) → rest ≡ pair ++ rest' → length pair ≡ size
      → {size' : ℕ} → size' ≡ size
      → get_or pair 1 0 % 2 ≡ 1
      → ResetsOk xs rest' size' false
  odd_reset pair rest' cut len e o =
      resets_next false pair rest' cut len e
      (λ r. rw (ne_eqb (get_or pair 1 0 % 2) 0 (λ n. omega (arith, o))) (and_false none))

-- W is even, so an interval number is odd where the cell's place is.
even_rest : (c at q r : ℕ) → q * (2 * c + 2) + r ≡ at → r % 2 ≡ at % 2
even_rest c at q r e = omega arith

parity : (c at : ℕ) → remainder at (interval_count c) % 2 ≡ at % 2
parity c at =
    let w = interval_count c in
    rw (remainder_is at w (omega arith)) (even_rest c at (at / w) (at % w) (div-add-mod' at w))

-- Cells: their rows below R, no timer reset at an odd interval.
row_below : (rows x : ℕ) → ltb (x / 2) rows ≡ ltb x (2 * rows)
row_below rows x =
    elim (two x (2 * rows)) [
      | less h ↦ lt-ltb (x / 2) rows (omega (arith, h)) ∙ sym (lt-ltb x (2 * rows) h)
      | least h ↦ le-ltb (x / 2) rows (omega (arith, h)) ∙ sym (le-ltb x (2 * rows) h)
    ]

and_four : (a b c d : Bool) → ((a && b) && (c && d)) ≡ ((a && c) && (b && d))
and_four true true c d = refl
and_four true false c d = sym (and_false c)
and_four false b c d = refl

pub cells_are :
    (c rows at : ℕ) (xs : List ℕ)
    → (all_below (2 * rows) xs && resets_ok at xs) ≡ cells_ok at (interval_count c) rows xs
cells_are c rows at [] = refl
cells_are c rows at (x ∷ xs) =
    and_four (ltb x (2 * rows)) (all_below (2 * rows) xs) (eqb (x % 2) 0 || eqb (at % 2) 0) (resets_ok (suc at) xs)
    ∙ rw (cells_are c rows (suc at) xs, ← row_below rows x, ← parity c at)
