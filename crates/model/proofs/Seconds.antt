-- The half seconds of a stamp: they never fall as it rises, those of whole seconds are twice as many, and a whole
-- number of seconds can be taken off. The interval of an age is its half seconds, cut at the top.
use mathlib.Core.Path.{◌≡◌, refl, sym, ◌∙◌, ap}
use mathlib.Core.Bool.{Bool, true, false}
use Prim.Native.Nat.{ℕ, zero, suc, ◌+◌, ◌-◌, ◌*◌, ◌/◌, ◌%◌, ◌≤◌, ◌<◌}
use native.Mathlib.Omega.{arith}
use native.Mathlib.Nat.{mul-le-mul_right, mul-lt-mul_of_pos_right, div-add-mod', mod-lt}
use lib.Dec.{ltb, leb}
use lib.Arith.{digits_div, digits_mod}
use borrow.Author.Tests.{ltb-true, ltb-false, leb-true, leb-false, lt-ltb, le-ltb, le-leb}
use Rattle.model.specs.Basics.{pick, one_if, remainder}
use Rattle.model.specs.Alike.{whole_seconds, fraction, half_seconds}
use Rattle.model.specs.Construction.{top_interval, interval_of}
use Rattle.model.proofs.Logic.{by_test, most_one, quotient_is, remainder_is, Cmp, cmp, is_lt, is_eq, is_gt}

pub fraction_small : (d t : ℕ) → fraction d t ≤ 1
fraction_small d t = most_one (leb 1 (remainder t d))

-- a stamp as so many whole seconds and a rest: on the second, or between two
data Parts (d t : ℕ) : Type 0 where
  on : (q : ℕ) → t ≡ q * d → whole_seconds d t ≡ q → fraction d t ≡ 0 → Parts d t
  off : (q r : ℕ) → t ≡ q * d + r → 1 ≤ r → r < d → whole_seconds d t ≡ q → fraction d t ≡ 1 → Parts d t

parts : (d t : ℕ) → 1 ≤ d → Parts d t
parts zero t h = absurd (omega arith)
parts (suc d) t h = go (leb 1 (t % suc d)) refl
  where
    split : t / suc d * suc d + t % suc d ≡ t
    split = div-add-mod' t (suc d)

    go : (b : Bool) → leb 1 (t % suc d) ≡ b → Parts (suc d) t
    go true e =
        off (t / suc d) (t % suc d) (sym split) (leb-true 1 (t % suc d) e) (mod-lt t (omega arith)) refl (rw e)
    go false e = on (t / suc d) (omega (arith, split, leb-false 1 (t % suc d) e)) refl (rw e)

-- later stamps have no fewer half seconds
pub half_rises : (d t u : ℕ) → 1 ≤ d → t ≤ u → half_seconds d t ≤ half_seconds d u
half_rises d t u hd h = go (parts d t hd) (parts d u hd)
  where
    go : Parts d t → Parts d u → half_seconds d t ≤ half_seconds d u
    go (on q e s f) (on p e' s' f') = rw (s, f, s', f') (by (cmp q p))
      where
        by : Cmp q p → 2 * q + 0 ≤ 2 * p + 0
        by (is_lt l) = omega arith
        by (is_eq l) = omega arith
        by (is_gt l) = absurd (omega (arith, mul-lt-mul_of_pos_right l hd))
    go (on q e s f) (off p r e' l' m' s' f') = rw (s, f, s', f') (by (cmp q p))
      where
        by : Cmp q p → 2 * q + 0 ≤ 2 * p + 1
        by (is_lt l) = omega arith
        by (is_eq l) = omega arith
        by (is_gt l) = absurd (omega (arith, mul-le-mul_right {m = suc p} {n = q} d l))
    go (off q r e l m s f) (on p e' s' f') = rw (s, f, s', f') (by (cmp q p))
      where
        by : Cmp q p → 2 * q + 1 ≤ 2 * p + 0
        by (is_lt k) = omega arith
        by (is_eq k) = absurd (omega (arith, ap (λ (x : ℕ). x * d) k))
        by (is_gt k) = absurd (omega (arith, mul-lt-mul_of_pos_right k hd))
    go (off q r e l m s f) (off p r' e' l' m' s' f') = rw (s, f, s', f') (by (cmp q p))
      where
        by : Cmp q p → 2 * q + 1 ≤ 2 * p + 1
        by (is_lt k) = omega arith
        by (is_eq k) = omega arith
        by (is_gt k) = absurd (omega (arith, mul-le-mul_right {m = suc p} {n = q} d k))

-- so many whole seconds, and a rest
half_of : (d q r : ℕ) → r < d → half_seconds d (q * d + r) ≡ 2 * q + one_if (leb 1 r)
half_of d q r h =
    rw (
      quotient_is (q * d + r) d (omega arith),
      remainder_is (q * d + r) d (omega arith),
      digits_div q h,
      digits_mod q h,
    )

pub half_whole : (d q : ℕ) → 1 ≤ d → half_seconds d (q * d) ≡ 2 * q
half_whole d q hd =
    let e : q * d ≡ q * d + 0 = omega arith in
    ap (half_seconds d) e ∙ half_of d q 0 hd ∙ omega arith

pub half_zero : (d : ℕ) → 1 ≤ d → half_seconds d 0 ≡ 0
half_zero d hd = let e : 0 ≡ 0 * d = omega arith in ap (half_seconds d) e ∙ half_whole d 0 hd

-- more than so many whole seconds
half_over : (d q t : ℕ) → 1 ≤ d → q * d < t → 2 * q < half_seconds d t
half_over d q t hd h = go (parts d t hd)
  where
    go : Parts d t → 2 * q < half_seconds d t
    go (on p e s f) = rw (s, f) (by (cmp q p))
      where
        by : Cmp q p → 2 * q < 2 * p + 0
        by (is_lt l) = omega arith
        by (is_eq l) = absurd (omega (arith, ap (λ (x : ℕ). x * d) l))
        by (is_gt l) = absurd (omega (arith, mul-lt-mul_of_pos_right l hd))
    go (off p r e l m s f) = rw (s, f) (by (cmp q p))
      where
        by : Cmp q p → 2 * q < 2 * p + 1
        by (is_lt k) = omega arith
        by (is_eq k) = omega arith
        by (is_gt k) = absurd (omega (arith, mul-le-mul_right {m = suc p} {n = q} d k))

-- the interval of an age is its half seconds, cut at the top
abbrev pub cut : ℕ → ℕ → ℕ
cut c x = pick (ltb (2 * c) x) (top_interval c) x

pub interval_half : (c d a : ℕ) → 1 ≤ d → interval_of c d a ≡ cut c (half_seconds d a)
interval_half c d a hd = by_test (ltb (c * d) a) over under
  where
    over : ltb (c * d) a ≡ true → interval_of c d a ≡ cut c (half_seconds d a)
    over e = rw (e, lt-ltb (2 * c) (half_seconds d a) (half_over d c a hd (ltb-true (c * d) a e)))

    low : ltb (c * d) a ≡ false → half_seconds d a ≤ 2 * c
    low e = omega (arith, half_rises d a (c * d) hd (ltb-false (c * d) a e), half_whole d c hd)

    under : ltb (c * d) a ≡ false → interval_of c d a ≡ cut c (half_seconds d a)
    under e = rw (e, le-ltb (2 * c) (half_seconds d a) (low e))

-- a whole number of seconds on top, or taken off
half_plus : (d k a : ℕ) → 1 ≤ d → half_seconds d (k * d + a) ≡ 2 * k + half_seconds d a
half_plus d k a hd = go (parts d a hd)
  where
    go : Parts d a → half_seconds d (k * d + a) ≡ 2 * k + half_seconds d a
    go (on q e s f) =
        let g : k * d + a ≡ (k + q) * d = omega arith in
        ap (half_seconds d) g ∙ half_whole d (k + q) hd ∙ rw (s, f) (omega arith)
    go (off q r e l m s f) =
        let g : k * d + a ≡ (k + q) * d + r = omega arith in
        ap (half_seconds d) g ∙ half_of d (k + q) r m ∙ rw (s, f, le-leb 1 r l) (omega arith)

pub half_less : (d t k : ℕ) → 1 ≤ d → k * d ≤ t → half_seconds d (t - k * d) ≡ half_seconds d t - 2 * k
half_less d t k hd h =
    let e : t ≡ k * d + (t - k * d) = omega arith in
    let f : half_seconds d t ≡ 2 * k + half_seconds d (t - k * d) = ap (half_seconds d) e
    ∙ half_plus d k (t - k * d) hd in
    omega (arith, f)

-- an even number of half seconds is a whole number of seconds
pub half_even : (d t q : ℕ) → 1 ≤ d → half_seconds d t ≡ 2 * q → t ≡ q * d
half_even d t q hd h = go (parts d t hd)
  where
    go : Parts d t → t ≡ q * d
    go (on p e s f) = let g : p ≡ q = omega arith in e ∙ ap (λ (x : ℕ). x * d) g
    go (off p r e l m s f) = absurd (omega arith)
