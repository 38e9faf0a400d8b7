-- One clock: a base tracks an age while the timer runs, and then an atom holds of the age exactly if it holds of the
-- region that the construction reads off the base and the timer's interval.
use mathlib.Core.Path.{◌≡◌, refl, ap}
use mathlib.Core.Bool.{Bool, true, false}
use Prim.Native.Nat.{ℕ, zero, suc, ◌+◌, ◌*◌, ◌/◌, ◌%◌, ◌≤◌, ◌<◌}
use native.Mathlib.Omega.{arith}
use native.Mathlib.Nat.{mul-le-mul_right, mul-lt-mul_of_pos_right, le_of_mul-le-mul_right, lt_of_mul-lt-mul_right}
use native.Mathlib.Nat.{div-add-mod', mod-lt}
use lib.Dec.{ltb, leb}
use borrow.Author.Tests.{ltb-true, ltb-false, leb-true, leb-false, lt-ltb, le-ltb, le-leb, lt-leb, eq-eqb, ne_eqb}
use Rattle.model.specs.Basics.{pick}
use Rattle.model.specs.Guards.{related}
use Rattle.model.specs.Construction.{top_interval, interval_count, interval_of, region_of}
use Rattle.model.proofs.Logic.{Cmp, cmp, is_lt, is_eq, is_gt, Two, two, less, least}

-- the three ways to find a region: base above cm, base plus interval above cm, neither
region_far : (c b i : ℕ) → c < b → region_of c b i ≡ top_interval c
region_far c b i h = rw (lt-ltb c b h)

region_over : (c b i : ℕ) → b ≤ c → 2 * c < 2 * b + i → region_of c b i ≡ top_interval c
region_over c b i h k = rw (le-ltb c b h, lt-ltb (2 * c) (2 * b + i) k)

region_in : (c b i : ℕ) → b ≤ c → 2 * b + i ≤ 2 * c → region_of c b i ≡ 2 * b + i
region_in c b i h k = rw (le-ltb c b h, le-ltb (2 * c) (2 * b + i) k)

-- The interval of an age: above cm, at a whole number of seconds q, or between q and q + 1.
pub data Age (c d a : ℕ) : Type 0 where
  beyond : c * d < a → interval_of c d a ≡ top_interval c → Age c d a
  whole : (q : ℕ) → a ≡ q * d → a ≤ c * d → interval_of c d a ≡ 2 * q → Age c d a
  part : (q : ℕ) → q * d < a → a < q * d + d → a ≤ c * d → interval_of c d a ≡ 2 * q + 1 → Age c d a

pub age : (c d a : ℕ) → 1 ≤ d → Age c d a
age c zero a h = absurd (omega arith)
age c (suc d) a h = go (ltb (c * suc d) a) (leb 1 (a % suc d)) refl refl
  where
    split : a / suc d * suc d + a % suc d ≡ a
    split = div-add-mod' a (suc d)

    small : a % suc d < suc d
    small = mod-lt a (omega arith)

    go : (s t : Bool) → ltb (c * suc d) a ≡ s → leb 1 (a % suc d) ≡ t → Age c (suc d) a
    go true t e f = beyond (ltb-true (c * suc d) a e) (rw e)
    go false true e f =
        part (a / suc d) (omega (arith, split, leb-true 1 (a % suc d) f)) (omega (arith, split, small))
        (ltb-false (c * suc d) a e)
        (rw (e, f))
    go false false e f =
        whole (a / suc d) (omega (arith, split, leb-false 1 (a % suc d) f)) (ltb-false (c * suc d) a e)
        (rw (e, f) (omega arith))

-- there are 2 · cm + 2 intervals
pub interval_small : (c d a : ℕ) → 1 ≤ d → interval_of c d a < interval_count c
interval_small c d a h = go (age c d a h)
  where
    go : Age c d a → interval_of c d a < interval_count c
    go (beyond u v) = rw v (omega arith)
    go (whole q u w v) = rw v (omega (arith, le_of_mul-le-mul_right {m = q} {n = c} (omega arith) h))
    go (part q u w y v) = rw v (omega (arith, lt_of_mul-lt-mul_right d {m = q} {n = c} (omega arith)))

-- The base b tracks the age a of a clock, the timer at age t: a base up to cm is the clock's age at the last timer
-- reset, in seconds; the base cm + 1 says that the clock is above cm.
pub data Tracks (c d t b a : ℕ) : Type 0 where
  near : b ≤ c → a ≡ b * d + t → Tracks c d t b a
  far : b ≡ suc c → c * d < a → Tracks c d t b a

-- where an age stands to a limit, its region stands to the limit's
pub data Side (a limit x y : ℕ) : Type 0 where
  below : a < limit → x < y → Side a limit x y
  equal : a ≡ limit → x ≡ y → Side a limit x y
  above : limit < a → y < x → Side a limit x y

pub side :
    (c d t b a k : ℕ) → 1 ≤ d → k ≤ c → Tracks c d t b a → Side a (k * d) (region_of c b (interval_of c d t)) (2 * k)
side c d t b a k hd hk (far e h) =
    above (omega (arith, mul-le-mul_right d hk)) (rw (region_far c b (interval_of c d t) (omega arith)) (omega arith))
side c d t b a k hd hk (near h e) = go (age c d t hd)
  where
    kc : k * d ≤ c * d
    kc = mul-le-mul_right d hk

    go : Age c d t → Side a (k * d) (region_of c b (interval_of c d t)) (2 * k)
    go (beyond u v) = above (omega (arith, kc)) (rw (v, region_over c b (2 * c + 1) h (omega arith)) (omega arith))
    go (whole q u w v) = rw v (by_sum (two c (b + q)) (cmp (b + q) k))
      where
        by_sum : Two c (b + q) → Cmp (b + q) k → Side a (k * d) (region_of c b (2 * q)) (2 * k)
        by_sum (less l) m =
            above (omega (arith, kc, mul-lt-mul_of_pos_right l hd))
            (rw (region_over c b (2 * q) h (omega arith)) (omega arith))
        by_sum (least l) (is_lt m) =
            below (omega (arith, mul-lt-mul_of_pos_right m hd))
            (rw (region_in c b (2 * q) h (omega arith)) (omega arith))
        by_sum (least l) (is_eq m) =
            equal (omega (arith, ap (λ (x : ℕ). x * d) m)) (rw (region_in c b (2 * q) h (omega arith)) (omega arith))
        by_sum (least l) (is_gt m) =
            above (omega (arith, mul-lt-mul_of_pos_right m hd))
            (rw (region_in c b (2 * q) h (omega arith)) (omega arith))
    go (part q u1 u2 w v) = rw v (by_sum (two (b + q) c) (two (b + q) k))
      where
        by_sum : Two (b + q) c → Two (b + q) k → Side a (k * d) (region_of c b (2 * q + 1)) (2 * k)
        by_sum (less l) (less m) =
            below (omega (arith, mul-le-mul_right d m)) (rw (region_in c b (2 * q + 1) h (omega arith)) (omega arith))
        by_sum (less l) (least m) =
            above (omega (arith, mul-le-mul_right d m)) (rw (region_in c b (2 * q + 1) h (omega arith)) (omega arith))
        by_sum (least l) m =
            above (omega (arith, kc, mul-le-mul_right d l))
            (rw (region_over c b (2 * q + 1) h (omega arith)) (omega arith))

-- so an atom holds of both or of neither
pub related_agrees :
    (relation a limit x k : ℕ) → Side a limit x (2 * k) → related relation a limit ≡ related relation x (2 * k)
related_agrees relation a m x k (below h g) =
    rw (
      lt-ltb a m h,
      lt-ltb x (2 * k) g,
      le-leb a m (omega arith),
      le-leb x (2 * k) (omega arith),
      ne_eqb a m (omega arith),
      ne_eqb x (2 * k) (omega arith),
      lt-leb m a h,
      lt-leb (2 * k) x g,
      le-ltb m a (omega arith),
      le-ltb (2 * k) x (omega arith),
    )
related_agrees relation a m x k (equal h g) =
    rw (
      h,
      g,
      le-ltb m m (omega arith),
      le-ltb (2 * k) (2 * k) (omega arith),
      le-leb m m (omega arith),
      le-leb (2 * k) (2 * k) (omega arith),
      eq-eqb m m refl,
      eq-eqb (2 * k) (2 * k) refl,
    )
related_agrees relation a m x k (above h g) =
    rw (
      le-ltb a m (omega arith),
      le-ltb x (2 * k) (omega arith),
      lt-leb a m h,
      lt-leb x (2 * k) g,
      ne_eqb a m (omega arith),
      ne_eqb x (2 * k) (omega arith),
      le-leb m a (omega arith),
      le-leb (2 * k) x (omega arith),
      lt-ltb m a h,
      lt-ltb (2 * k) x g,
    )

-- a region that is a whole number of seconds is found at an even interval: the timer is at a whole number too
pub even_region : (c b i k : ℕ) → region_of c b i ≡ 2 * k → i % 2 ≡ 0
even_region c b i k e = go (two c b) (two (2 * c) (2 * b + i))
  where
    go : Two c b → Two (2 * c) (2 * b + i) → i % 2 ≡ 0
    go (less h) x = absurd (omega (arith, region_far c b i h))
    go (least h) (less l) = absurd (omega (arith, region_over c b i h l))
    go (least h) (least l) = omega (arith, region_in c b i h l)

-- the timer at a whole number of seconds, at most cm
pub record Whole (c d t : ℕ) : Type 0 where
  pub count : ℕ
  pub age_is : t ≡ count * d
  pub interval_is : interval_of c d t ≡ 2 * count

pub whole_at_even : (c d t : ℕ) → 1 ≤ d → interval_of c d t % 2 ≡ 0 → Whole c d t
whole_at_even c d t hd e = go (age c d t hd)
  where
    go : Age c d t → Whole c d t
    go (beyond u v) = absurd (omega arith)
    go (whole q u w v) = record { count = q; age_is = u; interval_is = v }
    go (part q u w y v) = absurd (omega arith)

-- A timer reset at a whole number q of seconds brings the base forward by q, cut at cm + 1; it tracks the same age.
pub advance_one :
    (c d q b a : ℕ) → 1 ≤ d → Tracks c d (q * d) b a → Tracks c d 0 (pick (ltb c (b + q)) (suc c) (b + q)) a
advance_one c d q b a hd (far e h) = rw (lt-ltb c (b + q) (omega arith)) (far refl h)
advance_one c d q b a hd (near h e) = go (two c (b + q))
  where
    go : Two c (b + q) → Tracks c d 0 (pick (ltb c (b + q)) (suc c) (b + q)) a
    go (less l) = rw (lt-ltb c (b + q) l) (far refl (omega (arith, mul-lt-mul_of_pos_right l hd)))
    go (least l) = rw (le-ltb c (b + q) l) (near l (omega arith))

-- a clock zeroed at a timer reset has base 0 and age 0
pub zero_one : {c d b a : ℕ} (s : Bool) → Tracks c d 0 b a → Tracks c d 0 (pick s 0 b) (pick s 0 a)
zero_one true o = near (omega arith) (omega arith)
zero_one false o = o

-- clock and timer grow older alike
pub older_one : {c d t b a : ℕ} (s : ℕ) → Tracks c d t b a → Tracks c d (t + s) b (a + s)
older_one s (near h e) = near h (omega arith)
older_one s (far h e) = far h (omega arith)
