-- The powers by their place: each is that power, those past K are zero; and as the loop puts them in.
use mathlib.Core.Path.{◌≡◌, refl, sym, ◌∙◌, ap}
use mathlib.Core.Bool.{true, ◌&&◌}
use mathlib.Core.List.{List, [], ◌∷◌}
use Prim.Native.Nat.{ℕ, zero, suc, ◌+◌, ◌-◌, ◌*◌, ◌^◌, ◌≤◌, ◌<◌}
use native.Mathlib.Omega.{arith}
use native.Mathlib.Nat.{pow-zero, pow-suc, pow-le-pow_left, pow-le-pow_right, one-le-pow}
use native.Mathlib.Numerals.{add-one}
use lib.ListN.{length, get_or, set}
use lib.Seq.{get_or-append-add}
use lib.Dec.{leb}
use borrow.Author.Tests.{leb-true, le-leb}
use Rattle.model.specs.Basics.{within, zeros, filled}
use Rattle.model.specs.Rules.{most_locations, most_clocks, most_constant, most_pairs}
use Rattle.model.proofs.EdgesWritten.{filled_length}
use Rattle.model.proofs.Logic.{zeros_at, and_left, and_right, within_least, within_most, first_part}
use Rattle.codes.specs.Powers.{power_places, powers_from, powers_of}
use Rattle.codes.specs.declared.Scale.{Scale}
use Rattle.codes.specs.Codes.{scale_of, small_scale, power_at, Powered}
use Rattle.codes.specs.Claims.{sizes_fit, PowersAre}

from_length : (n i m : ℕ) → length (powers_from n i m) ≡ n
from_length zero i m = refl
from_length (suc n) i m = ap suc (from_length n (suc i) m)

from_at : (n i m j : ℕ) → j < n → get_or (powers_from n i m) j 0 ≡ m ^ (i + j)
from_at zero i m j h = absurd (omega arith)
from_at (suc n) i m zero h = let e : i + 0 ≡ i = omega arith in rw e
from_at (suc n) i m (suc j) h =
    let e : suc i + j ≡ i + suc j = omega arith in
    from_at n (suc i) m j (omega arith) ∙ ap (λ (k : ℕ). m ^ k) e

pub power_at_lem : (c k i : ℕ) → i ≤ k → get_or (powers_of c k) i 0 ≡ (c + 2) ^ i
unfolding powers_of
power_at_lem c k i h =
    let front : List ℕ = powers_from (suc k) 0 (c + 2) in
    let e : 0 + i ≡ i = omega arith in
    first_part 0 front (zeros (power_places - length front)) i (rw (from_length (suc k) 0 (c + 2)) (omega arith))
    ∙ (from_at (suc k) 0 (c + 2) i (omega arith) ∙ rw e)

pub past_front : (n : ℕ) (xs : List ℕ) (i : ℕ) → length xs ≤ i → get_or (filled n xs) i 0 ≡ 0
past_front n xs i h =
    let e : i ≡ length xs + (i - length xs) = omega arith in
    ap (λ (j : ℕ). get_or (filled n xs) j 0) e
    ∙ (get_or-append-add xs (zeros (n - length xs)) (i - length xs) 0 ∙ zeros_at (n - length xs) (i - length xs))

past_zero : (c k i : ℕ) → k < i → get_or (powers_of c k) i 0 ≡ 0
unfolding powers_of
past_zero c k i h =
    past_front power_places (powers_from (suc k) 0 (c + 2)) i (rw (from_length (suc k) 0 (c + 2)) (omega arith))

pub powers_length : (c k : ℕ) → k ≤ most_clocks → length (powers_of c k) ≡ power_places
unfolding powers_of
powers_length c k h =
    filled_length power_places (powers_from (suc k) 0 (c + 2)) (rw (from_length (suc k) 0 (c + 2)) (omega arith))

-- a scale from powers, and power K of them
pub scale_is :
    (top clocks k at : ℕ) (powers : List ℕ) → k ≡ clocks → at ≡ clocks → powers ≡ powers_of top k
    → ◌≡◌ {A = Scale} (record { clocks = clocks; top = top; weight = get_or powers at 0; powers = powers })
    (scale_of top clocks)
scale_is top clocks k at powers e f p = rw (f, p, e)

-- in their ranges
pub small_is : (c k : ℕ) → c ≤ most_constant → k ≤ most_clocks → small_scale c k ≡ scale_of c k
small_is c k h g = rw (le-leb c most_constant h, le-leb k most_clocks g)

-- K and cm of sizes that fit
module _ (l k c : ℕ) (fit : sizes_fit l k c ≡ true) where
  ranges : within 1 most_locations l && within 1 most_clocks k && leb c most_constant ≡ true
  ranges =
      and_left (within 1 most_locations l && within 1 most_clocks k && leb c most_constant)
      (leb (l * (c + 2) ^ k) most_pairs) fit

  clocks_in : within 1 most_clocks k ≡ true
  clocks_in =
      and_right (within 1 most_locations l) (within 1 most_clocks k)
      (and_left (within 1 most_locations l && within 1 most_clocks k) (leb c most_constant) ranges)

  top_most : c ≤ most_constant
  top_most =
      leb-true c most_constant
      (and_right (within 1 most_locations l && within 1 most_clocks k) (leb c most_constant) ranges)

  clocks_few : k ≤ most_clocks
  clocks_few = within_most 1 most_clocks k clocks_in

pub powers_are : PowersAre
powers_are l k c fit =
    record {
      five = powers_length c k (clocks_few l k c fit);
      each = power_at_lem c k;
      weight_is = power_at_lem c k k (omega arith);
      zero_past = past_zero c k;
    }

-- A list that holds the powers 0 to K of m.
pub record Raised (m : ℕ) (powers : List ℕ) (clocks : ℕ) : Type 0 where
  pub least : 0 < m
  pub most : m ≤ most_constant + 2
  pub clocks_least : 1 ≤ clocks
  pub clocks_most : clocks ≤ most_clocks
  pub each : (k : ℕ) → k ≤ clocks → power_at powers k ≡ m ^ k

pub raised_of : {z : Scale} → Powered z → Raised (z.top + 2) z.powers z.clocks
raised_of {z} powered = record {
  least = omega arith;
  most = omega (arith, powered.top_most);
  clocks_least = powered.clocks_least;
  clocks_most = powered.clocks_most;
  each = λ k g. ap (λ (s : Scale). power_at s.powers k) powered.is_scale ∙ power_at_lem z.top z.clocks k g;
}

pub first_power : (m : ℕ) → m ^ 1 ≡ m
first_power m = pow-suc m 0 ∙ rw (pow-zero m) (omega arith)

pub weight_power : {z : Scale} → Powered z → z.weight ≡ (z.top + 2) ^ z.clocks
weight_power {z} powered =
    ap (λ (s : Scale). s.weight) powered.is_scale ∙ power_at_lem z.top z.clocks z.clocks (omega arith)

pub weight_least : {z : Scale} → Powered z → 0 < z.weight
weight_least {z} powered = rw (weight_power powered) (one-le-pow z.clocks (z.top + 2) (omega arith))

-- the scale of cm and K in their ranges
pub powered_is :
    {c k : ℕ} {z : Scale} → z ≡ scale_of c k → c ≤ most_constant → 1 ≤ k → k ≤ most_clocks → Powered z
powered_is e top least most = rw e record {
  top_most = top;
  clocks_least = least;
  clocks_most = most;
  is_scale = refl;
}

pub powered_by : (l k c : ℕ) → sizes_fit l k c ≡ true → Powered (scale_of c k)
powered_by l k c fit =
    powered_is refl (top_most l k c fit) (within_least 1 most_clocks k (clocks_in l k c fit)) (clocks_few l k c fit)

pub raised_by : (l k c : ℕ) → sizes_fit l k c ≡ true → Raised (c + 2) (powers_of c k) k
raised_by l k c fit = raised_of (powered_by l k c fit)

-- The powers up to k are in, and the last of them is at hand.
pub record Raising (c clocks k power : ℕ) (powers : List ℕ) : Type 0 where
  pub turns : k ≤ clocks
  pub power_is : power ≡ (c + 2) ^ k
  pub powers_in : powers ≡ powers_of c k

pub raising_start : (c clocks : ℕ) → Raising c clocks 0 1 (1 ∷ 0 ∷ 0 ∷ 0 ∷ 0 ∷ [])
unfolding powers_of
raising_start c clocks = record {
  turns = omega arith;
  power_is = sym (pow-zero (c + 2));
  powers_in = rw (pow-zero (c + 2));
}

next_in : (c k v : ℕ) → k < most_clocks → v ≡ (c + 2) ^ suc k → set (powers_of c k) (k + 1) v ≡ powers_of c (k + 1)
unfolding powers_of
next_in c zero v h e = rw e
next_in c (suc zero) v h e = rw e
next_in c (suc (suc zero)) v h e = rw e
next_in c (suc (suc (suc zero))) v h e = rw e
next_in c (suc (suc (suc (suc k)))) v h e = absurd (omega arith)

module _ {c clocks k power : ℕ} {powers : List ℕ} (inv : Raising c clocks k power powers) where
  next_power : power * (c + 2) ≡ (c + 2) ^ suc k
  next_power = rw inv.power_is (sym (pow-suc (c + 2) k))

  -- it fits
  pub power_most : c ≤ most_constant → k < most_clocks → power * (c + 2) ≤ 32 ^ 4
  power_most h g =
      let a : (c + 2) ^ suc k ≤ 32 ^ suc k = pow-le-pow_left (omega arith) (suc k) in
      let b : 32 ^ suc k ≤ 32 ^ 4 = pow-le-pow_right {n = 32} (omega arith) {i = suc k} {j = 4} (omega arith) in
      omega (arith, next_power, a, b)

  pub raising_next :
      k < clocks → clocks ≤ most_clocks
      → Raising c clocks (k + 1) (power * (c + 2)) (set powers (k + 1) (power * (c + 2)))
  raising_next h g = record {
    turns = omega arith;
    power_is = next_power ∙ ap (λ (n : ℕ). (c + 2) ^ n) (sym (add-one k));
    powers_in = rw inv.powers_in (next_in c k (power * (c + 2)) (omega arith) next_power);
  }

  pub raising_end : clocks ≤ k → powers ≡ powers_of c clocks
  raising_end h =
      let e : k ≡ clocks = omega (arith, inv.turns) in
      inv.powers_in ∙ ap (powers_of c) e
