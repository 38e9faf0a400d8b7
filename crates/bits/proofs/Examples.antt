-- Vectors that pin the definitions: bits at the edges of a number, and the span that they lie in.
use mathlib.Core.Path.{◌≡◌, refl, sym, ◌∙◌, ap, ap₂}
use mathlib.Core.Bool.{true, false}
use mathlib.Core.List.{List, [], ◌∷◌, ◌++◌}
use Prim.Native.Nat.{ℕ, ◌+◌, ◌-◌, ◌^◌, ◌<◌}
use native.Mathlib.Omega.{arith}
use lib.ListN.{length, get_or-eq_default}
use lib.Count.{count_trailing_zeros}
use Rattle.bits.specs.Bits.{marked, all_marked, number_codes, codes_from, codes_in, InSpan}
use Rattle.bits.proofs.Bitwise.{number_zero, lowest}

-- bits 0 and 31 of the first number, none of the second, bits 0 and 2 of the third
abbrev marks : List ℕ
marks = 2147483649 ∷ 0 ∷ 5 ∷ []

marked_0 : marked marks 0 ≡ true
marked_0 = refl

marked_1 : marked marks 1 ≡ false
marked_1 = refl

marked_31 : marked marks 31 ≡ true
marked_31 = refl

marked_32 : marked marks 32 ≡ false
marked_32 = refl

marked_63 : marked marks 63 ≡ false
marked_63 = refl

marked_64 : marked marks 64 ≡ true
marked_64 = refl

marked_95 : marked marks 95 ≡ false
marked_95 = refl

marked_last : marked (0 ∷ 2147483648 ∷ 2147483648 ∷ []) 63 ≡ true
marked_last = refl

marked_last_of_all : marked (0 ∷ 2147483648 ∷ 2147483648 ∷ []) 95 ≡ true
marked_last_of_all = refl

marked_past : marked marks 96 ≡ false
marked_past = refl

all_of_them : all_marked marks (0 ∷ 31 ∷ 64 ∷ 66 ∷ []) ≡ true
all_of_them = refl

all_of_none : all_marked marks [] ≡ true
all_of_none = refl

all_but_one : all_marked marks (0 ∷ 31 ∷ 65 ∷ 66 ∷ []) ≡ false
all_but_one = refl

all_but_past : all_marked marks (0 ∷ 96 ∷ []) ≡ false
all_but_past = refl

-- a number's codes, lowest first; few bits by computation alone, all 32 one code after another
number_cut : number_codes 2 10 7 ≡ 10 ∷ 11 ∷ []
unfolding number_codes
number_cut = refl

number_few : number_codes 4 60 11 ≡ 60 ∷ 61 ∷ 63 ∷ []
unfolding number_codes
number_few = refl

next_code :
    (first w t : ℕ) → w < 2 ^ 32 → 0 < w → count_trailing_zeros 32 w ≡ t
    → number_codes 32 first w ≡ (first + t) ∷ number_codes 32 first (w - 2 ^ t)
next_code first w t h g e = rw e at (lowest 32 first w h (λ z. omega arith)).codes_are

number_edges : number_codes 32 0 2147483649 ≡ 0 ∷ 31 ∷ []
unfolding count_trailing_zeros
number_edges =
    next_code 0 2147483649 0 (omega arith) (omega arith) refl
    ∙ ap (λ (l : List ℕ). 0 ∷ l)
    (next_code 0 2147483648 31 (omega arith) (omega arith) refl ∙ ap (λ (l : List ℕ). 31 ∷ l) (number_zero 32 0))

number_third : number_codes 32 64 5 ≡ 64 ∷ 66 ∷ []
unfolding count_trailing_zeros
number_third =
    next_code 64 5 0 (omega arith) (omega arith) refl
    ∙ ap (λ (l : List ℕ). 64 ∷ l)
    (next_code 64 4 2 (omega arith) (omega arith) refl ∙ ap (λ (l : List ℕ). 66 ∷ l) (number_zero 32 64))

number_last : (first : ℕ) → number_codes 32 first 2147483648 ≡ (first + 31) ∷ []
unfolding count_trailing_zeros
number_last first =
    next_code first 2147483648 31 (omega arith) (omega arith) refl
    ∙ ap (λ (l : List ℕ). (first + 31) ∷ l) (number_zero 32 first)

codes_from_lem : codes_from 32 (2147483648 ∷ 2147483648 ∷ []) ≡ 63 ∷ 95 ∷ []
unfolding codes_from
codes_from_lem = ap₂ ◌++◌ (number_last 32) (ap₂ ◌++◌ (number_last 64) refl)

codes_of : codes_in marks ≡ 0 ∷ 31 ∷ 64 ∷ 66 ∷ []
unfolding codes_from codes_in
codes_of = ap₂ ◌++◌ number_edges (ap₂ ◌++◌ (number_zero 32 32) (ap₂ ◌++◌ number_third refl))

codes_of_none : codes_in [] ≡ []
unfolding codes_from codes_in
codes_of_none = refl

-- four codes in the numbers from 0 on and below 3
pub span_met : InSpan marks (record { low = 0; past = 3; count = 4 })
span_met = record {
  none_below = λ k l. absurd (omega arith);
  none_past = λ k l. get_or-eq_default marks 0 l;
  low_most = omega arith;
  past_most = omega arith;
  few = omega arith;
  count_is = sym (ap length codes_of);
}

pub not_from_1 : InSpan marks (record { low = 1; past = 3; count = 4 }) → ⊥
not_from_1 s = let h : ◌≡◌ {A = ℕ} 2147483649 0 = s.none_below 0 (omega arith) in omega arith

pub not_below_2 : InSpan marks (record { low = 0; past = 2; count = 4 }) → ⊥
not_below_2 s = let h : ◌≡◌ {A = ℕ} 5 0 = s.none_past 2 (omega arith) in omega arith

pub not_three : InSpan marks (record { low = 0; past = 3; count = 3 }) → ⊥
not_three s = omega (arith, s.count_is, ap length codes_of)
