-- A code as digits: a sum of bases by powers is the code of these digits, and what the powers take off it are the
-- digits. So a pair comes back from its code, and a code from its pair.
use mathlib.Core.Path.{◌≡◌, refl, sym, ◌∙◌, ap, ap₂}
use mathlib.Core.Bool.{true}
use mathlib.Core.List.{List, [], ◌∷◌}
use Prim.Native.Nat.{ℕ, zero, suc, ◌+◌, ◌-◌, ◌*◌, ◌/◌, ◌%◌, ◌^◌, ◌≤◌, ◌<◌}
use native.Mathlib.Omega.{arith}
use native.Mathlib.Nat.{pow-zero, pow-suc, pow-succ', one-le-pow, mod-lt, div-one, div-div-eq-div-mul}
use native.Mathlib.Nat.{div-add-mod', div-lt_iff_lt-mul, mod-one, mod-eq_of_lt}
use lib.Arith.{digits_div, digits_mod, mod-mul}
use lib.Dec.{ltb}
use lib.ListN.{length, take}
use lib.Seq.{take-append-le, take-length}
use borrow.Author.Tests.{ltb-true}
use Rattle.model.specs.Basics.{quotient, remainder, all_below, zeros, filled}
use Rattle.model.specs.Rules.{most_clocks}
use Rattle.model.specs.Construction.{digits_code, digits_of}
use Rattle.model.proofs.Logic.{and_left, and_right, quotient_is, remainder_is}
use Rattle.model.proofs.Codes.{Digits, none, more, location_out, digits_out}
use Rattle.codes.specs.declared.Scale.{Scale}
use Rattle.codes.specs.Powers.{powers_of}
use Rattle.codes.specs.Codes.{scale_of, power_at, bases_code, packed, bases_from, pair_of}
use Rattle.codes.specs.Claims.{PairsComeBack, CodesComeBack}
use Rattle.codes.proofs.PowerLaws.{Raised, weight_power, powered_by, raised_by}

-- a number by a product: first what one factor leaves, then by the other
split_remainder : (x a b : ℕ) → 0 < a → 0 < b → x % (a * b) / b ≡ x / b % a
split_remainder x a b p q =
    ap (λ (n : ℕ). n / b) (mod-mul x p q) ∙ digits_div (x / b % a) (mod-lt x q)

pub low_remainder : (x a b : ℕ) → 0 < a → 0 < b → x % (a * b) % b ≡ x % b
low_remainder x a b p q =
    ap (λ (n : ℕ). n % b) (mod-mul x p q) ∙ digits_mod (x / b % a) (mod-lt x q)

by_product : (k m x : ℕ) → 0 < m → remainder x (m ^ suc k) ≡ x % (m ^ k * m)
by_product k m x p =
    rw (pow-suc m k) (remainder_is x (m ^ k * m) (rw (← pow-suc m k) (one-le-pow (suc k) m p)))

-- the digits of a number are those of what the power above them leaves, and make that up again
digits_low : (k m x : ℕ) → 0 < m → digits_of k m x ≡ digits_of k m (remainder x (m ^ k))
digits_low zero m x p = refl
digits_low (suc k) m x p =
    let q : 0 < m ^ k = one-le-pow k m p in
    let whole : remainder x (m ^ suc k) ≡ x % (m ^ k * m) = by_product k m x p in
    let first : remainder x m ≡ remainder (remainder x (m ^ suc k)) m =
    rw (whole, remainder_is x m p, remainder_is (x % (m ^ k * m)) m p) (sym (low_remainder x (m ^ k) m q p)) in
    let later : remainder (quotient x m) (m ^ k) ≡ quotient (remainder x (m ^ suc k)) m =
    rw (whole, quotient_is x m p, quotient_is (x % (m ^ k * m)) m p, remainder_is (x / m) (m ^ k) q)
    (sym (split_remainder x (m ^ k) m q p)) in
    ap₂ ◌∷◌ first (digits_low k m (quotient x m) p ∙ ap (digits_of k m) later)

digits_make : (k m x : ℕ) → 0 < m → digits_code m (digits_of k m x) ≡ remainder x (m ^ k)
digits_make zero m x p = rw (pow-zero m) (sym (remainder_is x 1 (omega arith) ∙ mod-one x))
digits_make (suc k) m x p =
    let q : 0 < m ^ k = one-le-pow k m p in
    let high : digits_code m (digits_of k m (quotient x m)) ≡ x / m % m ^ k =
    digits_make k m (quotient x m) p ∙ rw (quotient_is x m p) (remainder_is (x / m) (m ^ k) q) in
    let whole : remainder x (m ^ suc k) ≡ (x / m % m ^ k) * m + x % m = by_product k m x p ∙ mod-mul x q p in
    rw (high, whole, remainder_is x m p) (omega arith)

-- the first k of a filled list of k
pub take_filled : (n k : ℕ) (bs : List ℕ) → length bs ≡ k → take k (filled n bs) ≡ bs
take_filled n k bs e =
    rw (← e) (take-append-le (length bs) bs (zeros (n - length bs)) (omega arith) ∙ take-length bs)

take_most : (k : ℕ) (bs : List ℕ) → length (take k bs) ≤ k
take_most zero bs = omega arith
take_most (suc k) [] = omega arith
take_most (suc k) (b ∷ bs) = omega (arith, take_most k bs)

pub bases_length : (powers : List ℕ) (n k x : ℕ) → length (bases_from powers n k x) ≡ n
bases_length powers zero k x = refl
bases_length powers (suc n) k x = ap suc (bases_length powers n (suc k) x)

module _ {m : ℕ} {powers : List ℕ} {clocks : ℕ} (raised : Raised m powers clocks) where
  pub power_least : (k : ℕ) → 0 < m ^ k
  power_least k = one-le-pow k m raised.least

  -- made: digits, from clock k on
  sum_is : (k : ℕ) (bs : List ℕ) → k + length bs ≤ clocks → bases_code powers k bs ≡ digits_code m bs * m ^ k
  sum_is k [] h = omega arith
  sum_is k (b ∷ bs) h =
      rw (raised.each k (omega arith), sum_is (suc k) bs (omega arith), pow-suc m k)
      (turn b (digits_code m bs) m (m ^ k))
    where
      turn : (b d n p : ℕ) → b * p + d * (p * n) ≡ (b + n * d) * p
      turn b d n p = omega arith

  pub sum_all : (bases : List ℕ) → bases_code powers 0 (take clocks bases) ≡ digits_code m (take clocks bases)
  sum_all bases =
      sum_is 0 (take clocks bases) (omega (arith, take_most clocks bases)) ∙ rw (pow-zero m) (omega arith)

  -- taken apart: digits, from clock k on
  base_is :
      (k x : ℕ) → suc k ≤ clocks
      → quotient (remainder x (power_at powers (suc k))) (power_at powers k) ≡ remainder (quotient x (m ^ k)) m
  base_is k x h =
      let p : 0 < m ^ k = power_least k in
      let q : 0 < m * m ^ k = rw (← pow-succ' m k) (power_least (suc k)) in
      rw (raised.each k (omega arith), raised.each (suc k) h, pow-succ' m k, remainder_is x (m * m ^ k) q)
      (rw (
        quotient_is (x % (m * m ^ k)) (m ^ k) p,
        quotient_is x (m ^ k) p,
        remainder_is (x / m ^ k) m raised.least,
      )
      (split_remainder x m (m ^ k) raised.least p))

  next_quotient : (k x : ℕ) → quotient (quotient x (m ^ k)) m ≡ quotient x (m ^ suc k)
  next_quotient k x =
      let p : 0 < m ^ k = power_least k in
      let q : 0 < m ^ k * m = rw (← pow-suc m k) (power_least (suc k)) in
      rw (
        quotient_is x (m ^ k) p,
        quotient_is (x / m ^ k) m raised.least,
        pow-suc m k,
        quotient_is x (m ^ k * m) q,
      )
      (div-div-eq-div-mul x (m ^ k) m)

  bases_from_lem : (n k x : ℕ) → k + n ≤ clocks → bases_from powers n k x ≡ digits_of n m (quotient x (m ^ k))
  bases_from_lem zero k x h = refl
  bases_from_lem (suc n) k x h =
      ap₂ ◌∷◌ (base_is k x (omega arith))
      (bases_from_lem n (suc k) x (omega arith) ∙ ap (digits_of n m) (sym (next_quotient k x)))

  pub all_bases : (x : ℕ) → bases_from powers clocks 0 x ≡ digits_of clocks m (remainder x (m ^ clocks))
  all_bases x =
      let one : quotient x (m ^ 0) ≡ x = rw (pow-zero m) (quotient_is x 1 (omega arith) ∙ div-one x) in
      bases_from_lem clocks 0 x (omega arith)
      ∙ (ap (digits_of clocks m) one ∙ digits_low clocks m x raised.least)

digits_below : (m k : ℕ) (bs : List ℕ) → length bs ≡ k → all_below m bs ≡ true → Digits m k bs
digits_below m zero [] e h = none
digits_below m zero (b ∷ bs) e h = absurd (omega (arith, e))
digits_below m (suc k) [] e h = absurd (omega (arith, e))
digits_below m (suc k) (b ∷ bs) e h =
    more (ltb-true b m (and_left (ltb b m) (all_below m bs) h))
    (digits_below m k bs (omega (arith, e)) (and_right (ltb b m) (all_below m bs) h))

pub pairs_come_back : PairsComeBack
pairs_come_back locations k c l bases fit below long small =
    let z : Scale = scale_of c k in
    let raised : Raised (c + 2) (powers_of c k) k = raised_by locations k c fit in
    let ds : Digits (c + 2) k bases = digits_below (c + 2) k bases long small in
    let sum : bases_code (powers_of c k) 0 (take k (filled most_clocks bases)) ≡ digits_code (c + 2) bases =
    sum_all raised (filled most_clocks bases) ∙ ap (digits_code (c + 2)) (take_filled most_clocks k bases long) in
    let code : packed z l (filled most_clocks bases) ≡ l * (c + 2) ^ k + digits_code (c + 2) bases =
    ap₂ (λ (w n : ℕ). l * w + n) (weight_power (powered_by locations k c fit)) sum in
    let location : quotient (packed z l (filled most_clocks bases)) z.weight ≡ l =
    ap₂ quotient code (weight_power (powered_by locations k c fit)) ∙ location_out l (omega arith) ds in
    let all : bases_from (powers_of c k) k 0 (packed z l (filled most_clocks bases)) ≡ bases =
    all_bases raised (packed z l (filled most_clocks bases))
    ∙ (ap (λ (x : ℕ). digits_of k (c + 2) (remainder x ((c + 2) ^ k))) code ∙ digits_out l (omega arith) ds) in
    ap₂ pair_of location all

pub codes_come_back : CodesComeBack
codes_come_back locations k c code fit below =
    let z : Scale = scale_of c k in
    let raised : Raised (c + 2) (powers_of c k) k = raised_by locations k c fit in
    let bases : List ℕ = bases_from (powers_of c k) k 0 code in
    let q : 0 < (c + 2) ^ k = power_least raised k in
    let over : quotient code z.weight ≡ code / (c + 2) ^ k =
    ap (quotient code) (weight_power (powered_by locations k c fit)) ∙ quotient_is code ((c + 2) ^ k) q in
    let left : remainder code ((c + 2) ^ k) < (c + 2) ^ k = rw (remainder_is code ((c + 2) ^ k) q) (mod-lt code q) in
    let sum : bases_code (powers_of c k) 0 (take k (filled most_clocks bases)) ≡ code % (c + 2) ^ k =
    sum_all raised (filled most_clocks bases)
    ∙ (ap (digits_code (c + 2))
    (take_filled most_clocks k bases (bases_length (powers_of c k) k 0 code) ∙ all_bases raised code)
    ∙ (digits_make k (c + 2) (remainder code ((c + 2) ^ k)) (omega arith)
    ∙ (remainder_is (remainder code ((c + 2) ^ k)) ((c + 2) ^ k) q
    ∙ (mod-eq_of_lt left ∙ remainder_is code ((c + 2) ^ k) q)))) in
    record {
      location_below = rw over ((div-lt_iff_lt-mul q).1 below);
      same =
          ap₂ ◌+◌ (ap₂ ◌*◌ over (weight_power (powered_by locations k c fit))) sum ∙ div-add-mod' code ((c + 2) ^ k);
    }
