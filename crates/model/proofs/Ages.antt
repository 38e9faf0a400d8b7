-- Ages as lists: the first k of them grow and are reset as all do, and no age exceeds the stamp at which it is read.
-- The locations of a mask, in order.
use mathlib.Core.Path.{◌≡◌, refl, sym, ap}
use mathlib.Core.Bool.{true, false}
use mathlib.Core.List.{List, [], ◌∷◌}
use Prim.Native.Nat.{ℕ, zero, suc, ◌+◌, ◌-◌, ◌≤◌, ◌<◌}
use native.Mathlib.Omega.{arith}
use lib.ListN.{length, take}
use borrow.Author.Tests.{eq-eqb, ne_eqb}
use Rattle.model.specs.Basics.{pick, is_in, zeros, bit, bits_from}
use Rattle.model.specs.Runs.{older, zeroed_from}
use Rattle.model.proofs.Logic.{by_test, Cmp, cmp, is_lt, is_eq, is_gt}

pub take_older : (k delay : ℕ) (ages : List ℕ) → take k (older delay ages) ≡ older delay (take k ages)
take_older zero delay ages = refl
take_older (suc k) delay [] = refl
take_older (suc k) delay (a ∷ ages) = ap (λ (l : List ℕ). (a + delay) ∷ l) (take_older k delay ages)

pub take_zeroed :
    (k i mask : ℕ) (ages : List ℕ) → take k (zeroed_from i mask ages) ≡ zeroed_from i mask (take k ages)
take_zeroed zero i mask ages = refl
take_zeroed (suc k) i mask [] = refl
take_zeroed (suc k) i mask (a ∷ ages) =
    ap (λ (l : List ℕ). pick (bit i mask) 0 a ∷ l) (take_zeroed k (suc i) mask ages)

pub take_zeros : (k n : ℕ) → k ≤ n → take k (zeros n) ≡ zeros k
take_zeros zero n h = refl
take_zeros (suc k) zero h = absurd (omega arith)
take_zeros (suc k) (suc n) h = ap (λ (l : List ℕ). 0 ∷ l) (take_zeros k n (omega arith))

pub older_length : (delay : ℕ) (ages : List ℕ) → length (older delay ages) ≡ length ages
older_length delay [] = refl
older_length delay (a ∷ ages) = ap suc (older_length delay ages)

pub zeroed_length : (i mask : ℕ) (ages : List ℕ) → length (zeroed_from i mask ages) ≡ length ages
zeroed_length i mask [] = refl
zeroed_length i mask (a ∷ ages) = ap suc (zeroed_length (suc i) mask ages)

-- no age above m
abbrev pub AtMost : ℕ → List ℕ → Type 0
AtMost m [] = Unit {0}
AtMost m (a ∷ ages) = (a ≤ m) × AtMost m ages

-- ages at most the stamp before are, after the delay, at most the stamp now
pub older_most :
    (last now : ℕ) (ages : List ℕ) → AtMost last ages → last ≤ now → AtMost now (older (now - last) ages)
older_most last now [] m h = tt
older_most last now (a ∷ ages) m h = (omega (arith, m.0), older_most last now ages m.1 h)

pub zeroed_most : (m i mask : ℕ) (ages : List ℕ) → AtMost m ages → AtMost m (zeroed_from i mask ages)
zeroed_most m i mask [] h = tt
zeroed_most m i mask (a ∷ ages) h =
    (by_test (bit i mask) (λ e. rw e (omega arith)) (λ e. rw e h.0), zeroed_most m (suc i) mask ages h.1)

pub zeros_most : (m k : ℕ) → AtMost m (zeros k)
zeros_most m zero = tt
zeros_most m (suc k) = (omega arith, zeros_most m k)

-- the locations of a mask from i on: i itself, if its bit is set, and those from i + 1 on
pub bits_more : (n i mask : ℕ) → bit i mask ≡ true → bits_from (suc n) i mask ≡ i ∷ bits_from n (suc i) mask
unfolding bits_from
bits_more n i mask h = rw h

pub bits_skip : (n i mask : ℕ) → bit i mask ≡ false → bits_from (suc n) i mask ≡ bits_from n (suc i) mask
unfolding bits_from
bits_skip n i mask h = rw h

bits_low : (n i mask l : ℕ) → l < i → is_in l (bits_from n i mask) ≡ false
unfolding bits_from
bits_low zero i mask l h = refl
bits_low (suc n) i mask l h =
    by_test (bit i mask)
    (λ e. rw (bits_more n i mask e, ne_eqb l i (omega arith)) (bits_low n (suc i) mask l (omega arith)))
    (λ e. rw (bits_skip n i mask e) (bits_low n (suc i) mask l (omega arith)))

pub bits_high : (n i mask l : ℕ) → i + n ≤ l → is_in l (bits_from n i mask) ≡ false
unfolding bits_from
bits_high zero i mask l h = refl
bits_high (suc n) i mask l h =
    by_test (bit i mask)
    (λ e. rw (bits_more n i mask e, ne_eqb l i (omega arith)) (bits_high n (suc i) mask l (omega arith)))
    (λ e. rw (bits_skip n i mask e) (bits_high n (suc i) mask l (omega arith)))

-- a location is in the mask's list exactly if its bit is set
pub bits_in : (n i mask l : ℕ) → i ≤ l → l < i + n → is_in l (bits_from n i mask) ≡ bit l mask
bits_in zero i mask l h g = absurd (omega arith)
bits_in (suc n) i mask l h g = go (cmp i l) (bits_in n (suc i) mask l)
  where
    go :
        Cmp i l → (suc i ≤ l → l < suc i + n → is_in l (bits_from n (suc i) mask) ≡ bit l mask)
        → is_in l (bits_from (suc n) i mask) ≡ bit l mask
    go (is_lt p) k =
        by_test (bit i mask)
        (λ e. rw (bits_more n i mask e, ne_eqb l i (omega arith)) (k p (omega arith)))
        (λ e. rw (bits_skip n i mask e) (k p (omega arith)))
    go (is_eq p) k =
        by_test (bit i mask)
        (λ e. rw (bits_more n i mask e, eq-eqb l i (sym p)) (rw p at (sym e)))
        (λ e. rw (bits_skip n i mask e, bits_low n (suc i) mask l (omega arith)) (rw p at (sym e)))
    go (is_gt p) k = absurd (omega arith)
