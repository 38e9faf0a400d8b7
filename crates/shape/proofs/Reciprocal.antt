-- A code's location without a division: times a number worked out once, over 2 ^ 33.
use mathlib.Core.Path.{◌≡◌, sym, ◌∙◌, ap}
use Prim.Native.Nat.{ℕ, suc, ◌+◌, ◌-◌, ◌*◌, ◌/◌, ◌%◌, ◌^◌, ◌≤◌, ◌<◌}
use native.Mathlib.Omega.{arith}
use native.Mathlib.Nat.{mul-le-mul, mul-le-mul_right, mul-le-mul_left, mod-lt, div-add-mod'}
use lib.Arith.{digits_div}
use Rattle.model.specs.Basics.{quotient}
use Rattle.model.specs.Rules.{most_pairs}
use Rattle.model.proofs.Logic.{quotient_is}
use Rattle.shape.specs.Verdicts.{whole, reciprocal}

-- A code below 65,536 times the reciprocal of a weight, over 2 ^ 33, is the code over the weight: the reciprocal is too
-- large by one at most, and what that adds to the product does not reach the next multiple.
module _ (w x : ℕ) (pos : 0 < w) (most : w ≤ most_pairs) (small : x < most_pairs) where
  abbrev m : ℕ
  m = reciprocal w

  abbrev over : ℕ
  over = w - whole % w

  times_weight : w * m ≡ whole + over
  times_weight =
      let parted : whole / w * w + whole % w ≡ whole = div-add-mod' whole w in
      let a : w * (whole / w + 1) ≡ whole / w * w + w = turn w (whole / w) in
      omega (arith, parted, mod-lt whole pos, a)
    where
      turn : (w d : ℕ) → w * (d + 1) ≡ d * w + w
      turn w d = omega arith

  large : 2 * most_pairs < m
  large =
      let parted : whole / w * w + whole % w ≡ whole = div-add-mod' whole w in
      let b : whole / w * w ≤ whole / w * most_pairs = mul-le-mul_left (whole / w) most in
      omega (arith, parted, mod-lt whole pos, b)

  parts : x / w * w + x % w ≡ x
  parts = div-add-mod' x w

  rest : x / w * over + x % w * m < whole
  rest =
      let a : suc (x % w) * m ≤ w * m = mul-le-mul_right m (mod-lt x pos) in
      let over_most : over ≤ w = omega arith in
      let b : x / w * over ≤ x / w * w = mul-le-mul_left (x / w) over_most in
      omega (arith, a, b, parts, times_weight, large, most, small)

  product : x * m ≡ x / w * whole + (x / w * over + x % w * m)
  product =
      sym (ap (λ (n : ℕ). n * m) parts)
      ∙ (split (x / w) w (x % w) m
      ∙ (ap (λ (n : ℕ). x / w * n + x % w * m) times_weight ∙ spread (x / w) whole over (x % w * m)))
    where
      split : (a b c d : ℕ) → (a * b + c) * d ≡ a * (b * d) + c * d
      split a b c d = omega arith

      spread : (a b c d : ℕ) → a * (b + c) + d ≡ a * b + (a * c + d)
      spread a b c d = omega arith

  pub by_reciprocal : x * m / whole ≡ quotient x w
  by_reciprocal = ap (λ (n : ℕ). n / whole) product ∙ (digits_div (x / w) rest ∙ sym (quotient_is x w pos))

  pub product_fits : x * m < 2 ^ 64
  product_fits =
      let parted : whole / w * w + whole % w ≡ whole = div-add-mod' whole w in
      let most_m : m ≤ whole + 1 = omega (arith, parted, mul-le-mul_left (whole / w) pos) in
      let a : x * m ≤ 65535 * (whole + 1) = mul-le-mul {n₁ = x} {n₂ = 65535} (omega arith) most_m in
      omega (arith, a)
