-- Lowest terms: what divides a number, the greatest number that divides two, and the loop that finds it; a share
-- divided by it is the same share, and no number but 1 divides both terms.
use mathlib.Core.Path.{◌≡◌, refl, sym, ◌∙◌, ap}
use mathlib.Core.Bool.{Bool, true, false, ◌&&◌}
use Prim.Native.Nat.{ℕ, zero, suc, ◌+◌, ◌-◌, ◌*◌, ◌/◌, ◌%◌, ◌≤◌}
use native.Mathlib.Omega.{arith}
use native.Mathlib.Nat.{div-add-mod', mul-div_cancel, le_of_mul-le-mul_right, mul_assoc, mul_comm, zero-div, div_self}
use lib.Dec.{ltb}
use borrow.Author.Tests.{eqb-true, eq-eqb, ltb-true, ltb-false}
use Rattle.model.specs.Basics.{quotient}
use Rattle.model.specs.Shares.{divides, common_up_to, common, numerator, denominator}
use Rattle.model.proofs.Logic.{by_test, no_way, and_left, and_right, and_both, quotient_is}

-- Divisors: x is so many times k.
pub times_of : (k x : ℕ) → divides k x ≡ true → x ≡ quotient x k * k
times_of k x d = sym (eqb-true (quotient x k * k) x d)

pub divides_of : (k x c : ℕ) → x ≡ c * k → divides k x ≡ true
divides_of zero x c e = eq-eqb 0 x (omega (arith, e))
divides_of (suc k) x c e =
    eq-eqb (x / suc k * suc k) x
    (ap (λ (y : ℕ). y / suc k * suc k) e ∙ ap (λ (y : ℕ). y * suc k) (mul-div_cancel c (omega arith)) ∙ sym e)

-- no more than a number that is not 0
divides_most : (k x : ℕ) → 1 ≤ x → divides k x ≡ true → k ≤ x
divides_most k x h d = by_quotient (quotient x k) (times_of k x d)
  where
    by_quotient : (q : ℕ) → x ≡ q * k → k ≤ x
    by_quotient zero e = absurd (omega (arith, e))
    by_quotient (suc q) e = omega (arith, e)

-- The greatest up to n: it is not 0, divides both, and none above it does.
pub common_up_some : (n a b : ℕ) → 1 ≤ common_up_to n a b
unfolding common_up_to
common_up_some zero a b = omega arith
common_up_some (suc n) a b = go (divides (suc n) a && divides (suc n) b) refl (common_up_some n a b)
  where
    go : (z : Bool) → (divides (suc n) a && divides (suc n) b) ≡ z → 1 ≤ common_up_to n a b
        → 1 ≤ common_up_to (suc n) a b
    go true e h = rw (e, common_up_to) (omega arith)
    go false e h = rw (e, common_up_to) h

-- divides two numbers
abbrev pub Both : ℕ → ℕ → ℕ → Type 0
Both k a b = (divides k a ≡ true) × (divides k b ≡ true)

common_up_both : (n a b : ℕ) → Both (common_up_to n a b) a b
unfolding common_up_to
common_up_both zero a b = (divides_of 1 a a (omega arith), divides_of 1 b b (omega arith))
common_up_both (suc n) a b = go (divides (suc n) a && divides (suc n) b) refl (common_up_both n a b)
  where
    go :
        (z : Bool) → (divides (suc n) a && divides (suc n) b) ≡ z → Both (common_up_to n a b) a b
        → Both (common_up_to (suc n) a b) a b
    go true e h =
        rw (e, common_up_to)
        (and_left (divides (suc n) a) (divides (suc n) b) e, and_right (divides (suc n) a) (divides (suc n) b) e)
    go false e h = rw (e, common_up_to) h

common_up_most :
    (n a b k : ℕ) → k ≤ n → divides k a ≡ true → divides k b ≡ true → k ≤ common_up_to n a b
unfolding common_up_to
common_up_most zero a b k h p q = omega arith
common_up_most (suc n) a b k h p q = go (divides (suc n) a && divides (suc n) b) refl (common_up_most n a b k)
  where
    go :
        (z : Bool) → (divides (suc n) a && divides (suc n) b) ≡ z
        → (k ≤ n → divides k a ≡ true → divides k b ≡ true → k ≤ common_up_to n a b)
        → k ≤ common_up_to (suc n) a b
    go true e f = rw (e, common_up_to) h
    go false e f = rw (e, common_up_to) (by_test (ltb n k) top (λ z. f (ltb-false n k z) p q))
      where
        top : ltb n k ≡ true → k ≤ common_up_to n a b
        top z =
            let l : k ≡ suc n = omega (arith, ltb-true n k z) in
            let both_divide : (divides (suc n) a && divides (suc n) b) ≡ true =
            and_both (divides (suc n) a) (divides (suc n) b) (rw l at p) (rw l at q) in
            no_way (sym e ∙ both_divide)

-- The greatest of two numbers.
pub common_some : (a b : ℕ) → 1 ≤ common a b
common_some a b = common_up_some b a b

pub common_both : (a b : ℕ) → Both (common a b) a b
common_both a b = common_up_both b a b

pub common_most : (a b k : ℕ) → 1 ≤ b → Both k a b → k ≤ common a b
common_most a b k h d = common_up_most b a b k (divides_most k b h d.1) d.0 d.1

-- what divides both, and is divided by all that do
pub common_is :
    (a b x : ℕ) → 1 ≤ b → 1 ≤ x → Both x a b → ((k : ℕ) → Both k a b → divides k x ≡ true) → x ≡ common a b
common_is a b x hb hx d all =
    let up : x ≤ common a b = common_most a b x hb d in
    let down : common a b ≤ x = divides_most (common a b) x hx (all (common a b) (common_both a b)) in
    omega (arith, up, down)

-- The loop: x and y become y and the remainder of x by y. What divides both stays the same.
apart : (p q r k : ℕ) → 1 ≤ k → q * k + r ≡ p * k → r ≡ (p - q) * k
apart p q r k h e =
    let l : q ≤ p = le_of_mul-le-mul_right {m = q} {n = p} (omega arith) h in
    let m : p * k ≡ (q + (p - q)) * k = ap (λ (z : ℕ). z * k) (omega arith) in
    omega (arith, m)

-- k times as often as it is contained in y, so many times
whole : (k x y : ℕ) → divides k y ≡ true → x / y * y ≡ x / y * quotient y k * k
whole k x y d = ap (λ (z : ℕ). x / y * z) (times_of k y d) ∙ sym (mul_assoc (x / y) (quotient y k) k)

pub turn_there : (k x y : ℕ) → Both k x y → divides k (x % y) ≡ true
turn_there zero x y d =
    divides_of 0 (x % y) 0
    (omega (arith, times_of 0 x d.0, div-add-mod' x y))
turn_there (suc k) x y d =
    divides_of (suc k) (x % y) (quotient x (suc k) - x / y * quotient y (suc k))
    (apart (quotient x (suc k)) (x / y * quotient y (suc k)) (x % y) (suc k) (omega arith)
    (omega (arith, div-add-mod' x y, whole (suc k) x y d.1, times_of (suc k) x d.0)))

pub turn_back : (k x y : ℕ) → Both k y (x % y) → divides k x ≡ true
turn_back k x y d =
    divides_of k x (x / y * quotient y k + quotient (x % y) k)
    (omega (arith, div-add-mod' x y, whole k x y d.0, times_of k (x % y) d.1))

-- what divides a and b is what divides x and y
pub record Turning (a b x y : ℕ) : Type 0 where
  pub there : (k : ℕ) → Both k a b → Both k x y
  pub back : (k : ℕ) → Both k x y → Both k a b

pub turning_start : (a b : ℕ) → Turning a b a b
turning_start a b = record { there = λ k d. d; back = λ k d. d }

pub turning_turn : {a b x y : ℕ} → Turning a b x y → Turning a b y (x % y)
turning_turn {a} {b} {x} {y} t = record {
  there = λ k d. ((t.there k d).1, turn_there k x y (t.there k d));
  back = λ k d. t.back k (turn_back k x y d, d.0);
}

pub turning_end : {a b x : ℕ} → Turning a b x 0 → 1 ≤ b → x ≡ common a b
turning_end {a} {b} {x} t h =
    common_is a b x h some (t.back x (divides_of x x 1 (omega arith), divides_of x 0 0 (omega arith)))
    (λ k d. (t.there k d).0)
  where
    some : 1 ≤ x
    some = by_zero x refl
      where
        by_zero : (z : ℕ) → x ≡ z → 1 ≤ x
        by_zero zero e =
            let d : divides 0 b ≡ true =
            (t.back 0 (divides_of 0 x 0 (omega (arith, e)), divides_of 0 0 0 (omega arith))).1 in
            absurd (omega (arith, times_of 0 b d))
        by_zero (suc z) e = omega (arith, e)

-- A share in lowest terms.
module _ (a b : ℕ) where
  pub accepted_is : a ≡ numerator a b * common a b
  accepted_is = times_of (common a b) a (common_both a b).0

  pub out_of_is : b ≡ denominator a b * common a b
  out_of_is = times_of (common a b) b (common_both a b).1

pub same_share : (a b : ℕ) → 1 ≤ b → numerator a b * b ≡ a * denominator a b
same_share a b h = go (numerator a b) (denominator a b) (common a b) (accepted_is a b) (out_of_is a b)
  where
    go : (p q g : ℕ) → a ≡ p * g → b ≡ q * g → p * b ≡ a * q
    go p q g e f =
        ap (λ (z : ℕ). p * z) f ∙ ap (λ (z : ℕ). p * z) (mul_comm q g) ∙ sym (mul_assoc p g q)
        ∙ ap (λ (z : ℕ). z * q) (sym e)

pub not_by_0 : (a b : ℕ) → 1 ≤ b → 1 ≤ denominator a b
not_by_0 a b h = go (denominator a b) (out_of_is a b)
  where
    go : (q : ℕ) → b ≡ q * common a b → 1 ≤ q
    go zero e = absurd (omega (arith, e))
    go (suc q) e = omega arith

pub lowest :
    (a b k i j : ℕ) → 1 ≤ b → numerator a b ≡ i * k → denominator a b ≡ j * k
    → k ≡ 1
lowest a b k i j h p q = by_zero k refl
  where
    both_times : Both (k * common a b) a b
    both_times = (
      divides_of (k * common a b) a i
          (accepted_is a b ∙ ap (λ (z : ℕ). z * common a b) p ∙ mul_assoc i k (common a b)),
      divides_of (k * common a b) b j
          (out_of_is a b ∙ ap (λ (z : ℕ). z * common a b) q ∙ mul_assoc j k (common a b)),
    )

    most : k ≤ 1
    most =
        le_of_mul-le-mul_right {m = k} {n = 1} {k = common a b}
        (omega (arith, common_most a b (k * common a b) h both_times))
        (common_some a b)

    by_zero : (z : ℕ) → k ≡ z → k ≡ 1
    by_zero zero e =
        let n : denominator a b ≡ 0 = q ∙ ap (λ (z : ℕ). j * z) e ∙ omega arith in
        absurd (omega (arith, n, not_by_0 a b h))
    by_zero (suc z) e = omega (arith, most, e)

-- none of b is 0/1
pub nothing : (b : ℕ) → 1 ≤ b → (numerator 0 b ≡ 0) × (denominator 0 b ≡ 1)
nothing b h =
    let e : b ≡ common 0 b =
    common_is 0 b b h h (divides_of b 0 0 (omega arith), divides_of b b 1 (omega arith)) (λ k d. d.1) in (
      ap (quotient 0) (sym e) ∙ quotient_is 0 b h ∙ zero-div b,
      ap (quotient b) (sym e) ∙ quotient_is b b h ∙ div_self h,
    )
