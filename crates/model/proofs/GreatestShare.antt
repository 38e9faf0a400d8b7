-- The greatest share of a batch: it is a table's, no share is above it, and those before it are below. With it all that
-- is claimed of shares.
use mathlib.Core.Path.{◌≡◌, refl, subst}
use mathlib.Core.Bool.{Bool, true, false}
use mathlib.Core.List.{List, [], ◌∷◌}
use Prim.Native.Nat.{ℕ, zero, suc, ◌+◌, ◌*◌, ◌≤◌, ◌<◌}
use native.Mathlib.Omega.{arith}
use native.Mathlib.Nat.{mul-le-mul_right, mul-lt-mul_of_pos_right, lt_of_mul-lt-mul_right}
use native.Mathlib.Nat.{mul_right_comm}
use lib.ListN.{length}
use borrow.Author.Tests.{ltb-true, ltb-false, lt-ltb, le-ltb}
use Rattle.model.specs.Tables.{Tables}
use Rattle.model.specs.Shares.{accepted_by, words_for, smaller, greatest_from, greatest_of, table_in}
use Rattle.model.specs.Claims.{smaller_share, SharesAre}
use Rattle.model.proofs.ShareCounts.{of_runs, adds_up_0, adds_up, words_add_up, at_most_all, some_words}
use Rattle.model.proofs.ShareCounts.{some_in_all}
use Rattle.model.proofs.SameParts.{laid}
use Rattle.model.proofs.SameShape.{same_shape}
use Rattle.model.proofs.LowestTerms.{same_share, lowest, not_by_0, nothing}

-- Shares a of b, a' of b', a'' of b'', compared by products: below, then not above; not above, then below.
below_first : (a b a' b' a'' b'' : ℕ) → 1 ≤ b'' → a * b' < a' * b → a' * b'' ≤ a'' * b' → a * b'' < a'' * b
below_first a b a' b' a'' b'' h p q =
    lt_of_mul-lt-mul_right b' {m = a * b''} {n = a'' * b}
    (omega (
      arith,
      mul_right_comm a b'' b',
      mul-lt-mul_of_pos_right {m = a * b'} {n = a' * b} {k = b''} p h,
      mul_right_comm a' b b'',
      mul-le-mul_right {m = a' * b''} {n = a'' * b'} b q,
      mul_right_comm a'' b' b,
    ))

below_then : (a b a' b' a'' b'' : ℕ) → 1 ≤ b → a * b' ≤ a' * b → a' * b'' < a'' * b' → a * b'' < a'' * b
below_then a b a' b' a'' b'' h p q =
    lt_of_mul-lt-mul_right b' {m = a * b''} {n = a'' * b}
    (omega (
      arith,
      mul_right_comm a b'' b',
      mul-le-mul_right {m = a * b'} {n = a' * b} b'' p,
      mul_right_comm a' b b'',
      mul-lt-mul_of_pos_right {m = a' * b''} {n = a'' * b'} {k = b} q h,
      mul_right_comm a'' b' b,
    ))

module _ (m h : ℕ) where
  abbrev A : Tables → ℕ
  A t = accepted_by t h m

  abbrev B : Tables → ℕ
  B t = words_for t h m

  some_of : (t : Tables) → 1 ≤ B t
  some_of t = some_in_all t.built.symbols h m

  -- of two tables: the first's share is not above the second's, and is below it
  abbrev NotAbove : Tables → Tables → Type 0
  NotAbove t u = A t * B u ≤ A u * B t

  abbrev IsBelow : Tables → Tables → Type 0
  IsBelow t u = A t * B u < A u * B t

  -- the best so far, number `at` with a of b, against the tables from number i on
  data Best (at a b i : ℕ) (ts : List Tables) (g : ℕ) : Type 0 where
    kept : g ≡ at → ((j : ℕ) → j < length ts → A (table_in ts j) * b ≤ a * B (table_in ts j)) → Best at a b i ts g
    moved :
        (p : ℕ) → g ≡ i + p → p < length ts → a * B (table_in ts p) < A (table_in ts p) * b
        → ((j : ℕ) → j < length ts → NotAbove (table_in ts j) (table_in ts p))
        → ((j : ℕ) → j < p → IsBelow (table_in ts j) (table_in ts p))
        → Best at a b i ts g

  best : (ts : List Tables) (at a b i : ℕ) → 1 ≤ b → Best at a b i ts (greatest_from at a b i ts m h)
  best [] at a b i hb = kept refl (λ j l. absurd (omega arith))
  best (t ∷ ts) at a b i hb =
      go (smaller a b (A t) (B t)) refl (best ts i (A t) (B t) (suc i) (some_of t)) (best ts at a b (suc i) hb)
    where
      up :
          a * B t < A t * b → Best i (A t) (B t) (suc i) ts (greatest_from i (A t) (B t) (suc i) ts m h)
          → Best at a b i (t ∷ ts) (greatest_from i (A t) (B t) (suc i) ts m h)
      up l (kept e all) =
          moved 0 (omega (arith, e)) (omega arith) l all_of (λ j k. absurd (omega arith))
        where
          all_of : (j : ℕ) → j < suc (length ts) → NotAbove (table_in (t ∷ ts) j) t
          all_of zero k = omega arith
          all_of (suc j) k = all j (omega arith)
      up l (moved p e k strict all before) =
          moved (suc p) (omega (arith, e)) (omega arith)
          (below_first a b (A t) (B t) (A (table_in ts p)) (B (table_in ts p)) (some_of (table_in ts p)) l
          (omega (arith, strict)))
          all_of
          before_of
        where
          all_of : (j : ℕ) → j < suc (length ts) → NotAbove (table_in (t ∷ ts) j) (table_in ts p)
          all_of zero k = omega (arith, strict)
          all_of (suc j) k = all j (omega arith)

          before_of : (j : ℕ) → j < suc p → IsBelow (table_in (t ∷ ts) j) (table_in ts p)
          before_of zero k = strict
          before_of (suc j) k = before j (omega arith)

      stay :
          A t * b ≤ a * B t → Best at a b (suc i) ts (greatest_from at a b (suc i) ts m h)
          → Best at a b i (t ∷ ts) (greatest_from at a b (suc i) ts m h)
      stay l (kept e all) = kept e all_of
        where
          all_of : (j : ℕ) → j < suc (length ts) → A (table_in (t ∷ ts) j) * b ≤ a * B (table_in (t ∷ ts) j)
          all_of zero k = l
          all_of (suc j) k = all j (omega arith)
      stay l (moved p e k strict all before) =
          moved (suc p) (omega (arith, e)) (omega arith) strict all_of before_of
        where
          first : IsBelow t (table_in ts p)
          first = below_then (A t) (B t) a b (A (table_in ts p)) (B (table_in ts p)) (some_of t) l strict

          all_of : (j : ℕ) → j < suc (length ts) → NotAbove (table_in (t ∷ ts) j) (table_in ts p)
          all_of zero k = omega (arith, first)
          all_of (suc j) k = all j (omega arith)

          before_of : (j : ℕ) → j < suc p → IsBelow (table_in (t ∷ ts) j) (table_in ts p)
          before_of zero k = first
          before_of (suc j) k = before j (omega arith)

      go :
          (z : Bool) → smaller a b (A t) (B t) ≡ z
          → Best i (A t) (B t) (suc i) ts (greatest_from i (A t) (B t) (suc i) ts m h)
          → Best at a b (suc i) ts (greatest_from at a b (suc i) ts m h)
          → Best at a b i (t ∷ ts) (greatest_from at a b i (t ∷ ts) m h)
      go true e yes_best no_best = rw (e, greatest_from) (up (ltb-true (a * B t) (A t * b) e) yes_best)
      go false e yes_best no_best = rw (e, greatest_from) (stay (ltb-false (a * B t) (A t * b) e) no_best)

  -- a whole batch
  best_of : (t : Tables) (ts : List Tables) → Best 1 (A t) (B t) 2 ts (greatest_of (t ∷ ts) m h)
  unfolding greatest_of
  best_of t ts = best ts 1 (A t) (B t) 2 (some_of t)

  at_place : (t : Tables) (ts : List Tables) (g : ℕ) → greatest_of (t ∷ ts) m h ≡ suc g
      → Best 1 (A t) (B t) 2 ts (suc g)
  at_place t ts g e = subst (λ (x : ℕ). Best 1 (A t) (B t) 2 ts x) e (best_of t ts)

  in_batch : (t : Tables) (ts : List Tables) (g : ℕ) → Best 1 (A t) (B t) 2 ts g → (1 ≤ g) × (g ≤ suc (length ts))
  in_batch t ts g (kept e all) = (omega arith, omega arith)
  in_batch t ts g (moved p e k strict all before) = (omega (arith, e), omega (arith, e))

  not_above :
      (t : Tables) (ts : List Tables) (i g : ℕ) → i < suc (length ts) → Best 1 (A t) (B t) 2 ts (suc g)
      → NotAbove (table_in (t ∷ ts) i) (table_in (t ∷ ts) g)
  not_above t ts i g l (kept e all) = let f : g ≡ 0 = omega (arith, e) in rw f (of_first i l)
    where
      of_first : (i : ℕ) → i < suc (length ts) → NotAbove (table_in (t ∷ ts) i) t
      of_first zero l = omega arith
      of_first (suc i) l = all i (omega arith)
  not_above t ts i g l (moved p e k strict all before) =
      let f : g ≡ suc p = omega (arith, e) in
      rw f (of_later i l)
    where
      of_later : (i : ℕ) → i < suc (length ts) → NotAbove (table_in (t ∷ ts) i) (table_in ts p)
      of_later zero l = omega (arith, strict)
      of_later (suc i) l = all i (omega arith)

  is_below :
      (t : Tables) (ts : List Tables) (i g : ℕ) → i < g → Best 1 (A t) (B t) 2 ts (suc g)
      → IsBelow (table_in (t ∷ ts) i) (table_in (t ∷ ts) g)
  is_below t ts i g l (kept e all) = absurd (omega (arith, e))
  is_below t ts i g l (moved p e k strict all before) =
      let f : g ≡ suc p = omega (arith, e) in
      rw f (of_earlier i (omega (arith, l, f)))
    where
      of_earlier : (i : ℕ) → i < suc p → IsBelow (table_in (t ∷ ts) i) (table_in ts p)
      of_earlier zero l = strict
      of_earlier (suc i) l = before i (omega arith)

pub greatest_in :
    (ts : List Tables) (m h : ℕ) → 1 ≤ length ts → (1 ≤ greatest_of ts m h) × (greatest_of ts m h ≤ length ts)
greatest_in [] m h l = absurd (omega arith)
greatest_in (t ∷ ts) m h l = in_batch m h t ts (greatest_of (t ∷ ts) m h) (best_of m h t ts)

pub none_above :
    (ts : List Tables) (m h i g : ℕ) → i < length ts → greatest_of ts m h ≡ suc g
    → smaller_share (table_in ts g) (table_in ts i) m h ≡ false
none_above [] m h i g l e = absurd (omega arith)
none_above (t ∷ ts) m h i g l e =
    let x : Tables = table_in (t ∷ ts) i in
    let y : Tables = table_in (t ∷ ts) g in
    le-ltb (A m h y * B m h x) (A m h x * B m h y) (not_above m h t ts i g l (at_place m h t ts g e))

pub before_below :
    (ts : List Tables) (m h i g : ℕ) → i < g → greatest_of ts m h ≡ suc g
    → smaller_share (table_in ts i) (table_in ts g) m h ≡ true
unfolding greatest_of
before_below [] m h i g l e = absurd (omega (arith, e))
before_below (t ∷ ts) m h i g l e =
    let x : Tables = table_in (t ∷ ts) i in
    let y : Tables = table_in (t ∷ ts) g in
    lt-ltb (A m h x * B m h y) (A m h y * B m h x) (is_below m h t ts i g l (at_place m h t ts g e))

-- The claims.
pub shares_are : SharesAre
shares_are = record {
  of_runs = of_runs;
  in_shape_lem = same_shape;
  laid = laid;
  adds_up_0 = adds_up_0;
  adds_up = adds_up;
  words_add_up = words_add_up;
  at_most_all = at_most_all;
  some_words = some_words;
  same_share = same_share;
  lowest = lowest;
  not_by_0 = not_by_0;
  nothing = nothing;
  greatest_in = greatest_in;
  none_above = none_above;
  before_below = before_below;
}
