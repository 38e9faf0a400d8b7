-- Pauses summed up in place.
use mathlib.Core.Path.{◌≡◌, refl, sym, ◌∙◌, ap, ap₂}
use mathlib.Core.List.{List, [], ◌∷◌, ◌++◌, append_assoc, append-nil}
use Prim.Native.Nat.{ℕ, suc, ◌+◌, ◌≤◌, ◌<◌}
use native.Mathlib.Omega.{arith}
use native.Mathlib.Numerals.{add-one}
use lib.ListN.{length, get_or, set, take, drop, length-set, drop_of_length-le}
use lib.Seq.{drop-cons, drop-set-lt, take-suc-set, take_all}
use Rattle.model.specs.Inclusion.{most_joint_states}
use Rattle.inclusion.specs.Trails.{sum_of, sums}

-- below place i stand stamps, from i on the pauses to come
pub record Summing (s₀ s : List ℕ) (total i : ℕ) : Type 0 where
  pub same_length : length s ≡ length s₀
  pub place_most : i ≤ length s
  pub sums_are : take i s ++ sums total (drop i s) ≡ sums 0 s₀
  pub small : total + sum_of (drop i s) ≤ most_joint_states

pub summing_start : (s : List ℕ) → sum_of s ≤ most_joint_states → Summing s s 0 0
summing_start s h = record { same_length = refl; place_most = omega arith; sums_are = refl; small = omega (arith, h) }

module _ {s₀ s : List ℕ} {total i : ℕ} (w : Summing s₀ s total i) (h : i < length s) where
  -- the next stamp
  abbrev next : ℕ
  next = total + get_or s i 0

  split : drop i s ≡ get_or s i 0 ∷ drop (suc i) s
  split = drop-cons s i 0 h

  past : drop (suc i) (set s i next) ≡ drop (suc i) s
  past = drop-set-lt (suc i) s i next (omega arith)

  pub next_small : next + sum_of (drop (suc i) s) ≤ most_joint_states
  next_small = omega (arith, w.small, ap sum_of split)

  next_sums : take (suc i) (set s i next) ++ sums next (drop (suc i) (set s i next)) ≡ take i s ++ sums total (drop i s)
  next_sums =
      ap₂ (λ (a b : List ℕ). a ++ sums next b) (take-suc-set s i next h) past
      ∙ append_assoc (take i s) (next ∷ []) (sums next (drop (suc i) s))
      ∙ ap (λ (l : List ℕ). take i s ++ sums total l) (sym split)

  pub summing_next : Summing s₀ (set s i next) next (i + 1)
  summing_next = record {
    same_length = length-set s i next ∙ w.same_length;
    place_most = omega (arith, length-set s i next, h);
    sums_are = rw (add-one i) (next_sums ∙ w.sums_are);
    small = rw (add-one i) (rw past next_small);
  }

pub summing_end : {s₀ s : List ℕ} {total i : ℕ} → Summing s₀ s total i → length s ≤ i → s ≡ sums 0 s₀
summing_end {s₀} {s} {total} {i} w h =
    sym (take_all i s h) ∙ sym (append-nil (take i s))
    ∙ ap (λ (l : List ℕ). take i s ++ sums total l) (sym (drop_of_length-le s h))
    ∙ w.sums_are
