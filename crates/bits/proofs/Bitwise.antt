-- Bits of one number: the lowest, one more; and the codes that they stand for.
use mathlib.Core.Path.{◌≡◌, refl, sym, ◌∙◌, ap}
use mathlib.Core.Bool.{Bool, false, ◌||◌}
use mathlib.Core.List.{List, [], ◌∷◌}
use Prim.Native.Nat.{ℕ, zero, suc, ◌+◌, ◌-◌, ◌*◌, ◌/◌, ◌%◌, ◌^◌, ◌≤◌, ◌<◌}
use native.Mathlib.Omega.{arith}
use native.Mathlib.Nat.{mod-lt, pow-succ'}
use lib.Dec.{eqb}
use lib.Count.{count_trailing_zeros}
use lib.Bits as Bits
use lib.Pow.{shr-shr}
use borrow.Author.Tests.{eqb-true, eqb-false, eq-eqb, ne_eqb}
use Rattle.model.specs.Basics.{is_in, bit, mask_of}
use Rattle.model.proofs.Logic.{by_test, or_none}
use Rattle.model.proofs.Masks.{mask_bits}
use Rattle.bits.specs.Bits.{number_codes}

-- a number's lowest bit is 0 or 1
pub data Low (w : ℕ) : Type 0 where
  even : w % 2 ≡ 0 → Low w
  odd : w % 2 ≡ 1 → Low w

pub low : (w : ℕ) → Low w
low w =
    by_test (eqb (w % 2) 1) (λ e. odd (eqb-true (w % 2) 1 e))
    (λ e. even (go (w % 2) (mod-lt w (omega arith)) (eqb-false (w % 2) 1 e)))
  where
    go : (n : ℕ) → n < 2 → (n ≡ 1 → ⊥) → n ≡ 0
    go zero h g = refl
    go (suc zero) h g = absurd (g refl)
    go (suc (suc n)) h g = absurd (omega arith)

pub number_even : (n first w : ℕ) → w % 2 ≡ 0 → number_codes (suc n) first w ≡ number_codes n (suc first) (w / 2)
unfolding number_codes
number_even n first w e = rw e

pub number_odd : (n first w : ℕ) → w % 2 ≡ 1 → number_codes (suc n) first w ≡ first ∷ number_codes n (suc first) (w / 2)
unfolding number_codes
number_odd n first w e = rw e

-- the codes rise, and lie below first + n
abbrev pub Between : ℕ → ℕ → List ℕ → Type 0
Between a b [] = Unit {0}
Between a b (x ∷ xs) = (a ≤ x) × (x < b) × Between (suc x) b xs

between_lower : (a b : ℕ) (xs : List ℕ) → Between (suc a) b xs → Between a b xs
between_lower a b [] h = tt
between_lower a b (x ∷ xs) h = (omega (arith, h.0), h.1, h.2)

pub number_between : (n first w : ℕ) → Between first (first + n) (number_codes n first w)
unfolding number_codes
number_between zero first w = tt
number_between (suc n) first w =
    let e : suc first + n ≡ first + suc n = omega arith in
    let on : Between (suc first) (first + suc n) (number_codes n (suc first) (w / 2)) =
    rw e at (number_between n (suc first) (w / 2)) in
    elim (low w) [
      | even h ↦
          rw (number_even n first w h) (between_lower first (first + suc n) (number_codes n (suc first) (w / 2)) on)
      | odd h ↦ rw (number_odd n first w h) (omega arith, omega arith, on)
    ]

pub number_zero : (n first : ℕ) → number_codes n first 0 ≡ []
unfolding number_codes
number_zero zero first = refl
number_zero (suc n) first = number_zero n (suc first)

-- a code is there exactly if its bit is set
bit_suc : (j w : ℕ) → bit (suc j) w ≡ bit j (w / 2)
bit_suc j w =
    let e : w / 2 ^ suc j ≡ w / 2 / 2 ^ j = sym (shr-shr w 1 j ∙ ap (λ (k : ℕ). w / 2 ^ k) (omega arith)) in
    rw e

bit_zero : (w : ℕ) → bit 0 w ≡ eqb (w % 2) 1
bit_zero w = let e : w / 2 ^ 0 ≡ w = omega arith in rw e

not_under : (a b x : ℕ) (xs : List ℕ) → Between a b xs → x < a → is_in x xs ≡ false
not_under a b x [] h l = refl
not_under a b x (y ∷ xs) h l =
    rw (ne_eqb x y (omega (arith, h.0))) (not_under (suc y) b x xs h.2 (omega (arith, h.0)))

pub number_has : (n first w j : ℕ) → j < n → is_in (first + j) (number_codes n first w) ≡ bit j w
number_has zero first w j h = absurd (omega arith)
number_has (suc n) first w zero h =
    let z : first + 0 ≡ first = omega arith in
    let none : is_in first (number_codes n (suc first) (w / 2)) ≡ false =
    not_under (suc first) (suc first + n) first (number_codes n (suc first) (w / 2))
    (number_between n (suc first) (w / 2))
    (omega arith) in
    elim (low w) [
      | even e ↦ rw (z, number_even n first w e, none, bit_zero w, e)
      | odd e ↦ rw (z, number_odd n first w e, eq-eqb first first refl, bit_zero w, e)
    ]
number_has (suc n) first w (suc j) h =
    let z : first + suc j ≡ suc first + j = omega arith in
    let on : is_in (suc first + j) (number_codes n (suc first) (w / 2)) ≡ bit j (w / 2) =
    number_has n (suc first) (w / 2) j (omega arith) in
    elim (low w) [
      | even e ↦ rw (z, number_even n first w e, on, bit_suc j w)
      | odd e ↦ rw (z, number_odd n first w e, ne_eqb (suc first + j) first (omega arith), on, bit_suc j w)
    ]

-- The lowest bit: its code comes first, and the codes without it are the rest.
pub record Lowest (n first w t : ℕ) : Type 0 where
  pub below : t < n
  pub inside : 2 ^ t ≤ w
  pub codes_are : number_codes n first w ≡ (first + t) ∷ number_codes n first (w - 2 ^ t)

trailing_even : (n w : ℕ) → w % 2 ≡ 0 → count_trailing_zeros (suc n) w ≡ suc (count_trailing_zeros n (w / 2))
unfolding count_trailing_zeros
trailing_even n w e = rw e

trailing_odd : (n w : ℕ) → w % 2 ≡ 1 → count_trailing_zeros (suc n) w ≡ 0
unfolding count_trailing_zeros
trailing_odd n w e = rw e

pub lowest : (n first w : ℕ) → w < 2 ^ n → (w ≡ 0 → ⊥) → Lowest n first w (count_trailing_zeros n w)
lowest zero first w h g = absurd (g (omega arith))
lowest (suc n) first w h g =
    let p : 2 ^ suc n ≡ 2 * 2 ^ n = pow-succ' 2 n in
    elim (low w) [
      | even e ↦
          let on : Lowest n (suc first) (w / 2) (count_trailing_zeros n (w / 2)) =
          lowest n (suc first) (w / 2) (omega arith) (λ q. g (omega arith)) in
          from_half e (count_trailing_zeros n (w / 2)) on (trailing_even n w e)
      | odd e ↦
          let a : (w - 1) % 2 ≡ 0 = omega arith in
          let b : (w - 1) / 2 ≡ w / 2 = omega arith in
          let t : count_trailing_zeros (suc n) w ≡ 0 = trailing_odd n w e in
          let z : first + 0 ≡ first = omega arith in
          rw t (record {
            below = omega arith;
            inside = omega arith;
            codes_are = rw (number_odd n first w e, number_even n first (w - 1) a, b, z);
          })
    ]
  where
    from_half :
        w % 2 ≡ 0 → (t : ℕ) → Lowest n (suc first) (w / 2) t → count_trailing_zeros (suc n) w ≡ suc t
        → Lowest (suc n) first w (count_trailing_zeros (suc n) w)
    from_half e t on q =
        let p : 2 ^ suc t ≡ 2 * 2 ^ t = pow-succ' 2 t in
        let a : (w - 2 ^ suc t) % 2 ≡ 0 = omega (arith, on.inside) in
        let b : (w - 2 ^ suc t) / 2 ≡ w / 2 - 2 ^ t = omega (arith, on.inside) in
        let z : first + suc t ≡ suc first + t = omega arith in
        rw q (record {
          below = omega (arith, on.below);
          inside = omega (arith, on.inside);
          codes_are = rw (number_even n first w e, number_even n first (w - 2 ^ suc t) a, b, z) on.codes_are;
        })

-- one bit more, by `or`
bit_power : (j k : ℕ) → bit j (2 ^ k) ≡ eqb j k
unfolding mask_of
bit_power j k =
    let e : mask_of (k ∷ []) ≡ 2 ^ k = omega arith in
    let b : bit j (mask_of (k ∷ [])) ≡ is_in j (k ∷ []) = mask_bits k (k ∷ []) j (omega arith, tt) in
    sym (ap (bit j) e) ∙ (b ∙ or_none (eqb j k))

or_bit : (a b : ℕ) → a < 2 → b < 2 → eqb (Bits.bit_or a b) 1 ≡ (eqb a 1 || eqb b 1)
or_bit zero zero h g = refl
or_bit zero (suc zero) h g = refl
or_bit (suc zero) zero h g = refl
or_bit (suc zero) (suc zero) h g = refl
or_bit (suc (suc a)) b h g = absurd (omega arith)
or_bit zero (suc (suc b)) h g = absurd (omega arith)
or_bit (suc zero) (suc (suc b)) h g = absurd (omega arith)

pub bit_or_lem : (j a b : ℕ) → bit j (Bits.bit_or a b) ≡ (bit j a || bit j b)
bit_or_lem j a b =
    let e : Bits.bit_or a b / 2 ^ j % 2 ≡ Bits.bit_or (a / 2 ^ j % 2) (b / 2 ^ j % 2) =
    ap (λ (x : ℕ). x % 2) (Bits.or_shr a b j) ∙ Bits.or_mod (a / 2 ^ j) (b / 2 ^ j) 1 in
    ap (λ (x : ℕ). eqb x 1) e
    ∙ or_bit (a / 2 ^ j % 2) (b / 2 ^ j % 2) (mod-lt (a / 2 ^ j) (omega arith)) (mod-lt (b / 2 ^ j) (omega arith))

pub bit_set : (j k w : ℕ) → bit j (Bits.bit_or w (2 ^ k)) ≡ (bit j w || eqb j k)
bit_set j k w = bit_or_lem j w (2 ^ k) ∙ ap (λ (t : Bool). bit j w || t) (bit_power j k)
