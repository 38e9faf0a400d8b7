-- A pair's code gives the pair back: location and bases come out as they went in, and the code is below N.
use mathlib.Core.Path.{◌≡◌, refl, ◌∙◌, ap}
use mathlib.Core.Bool.{Bool, true, false}
use mathlib.Core.List.{List, [], ◌∷◌}
use Prim.Native.Nat.{ℕ, zero, suc, ◌+◌, ◌*◌, ◌/◌, ◌^◌, ◌<◌}
use native.Mathlib.Omega.{arith}
use native.Mathlib.Nat.{mul-le-mul_right, mul-le-mul_left, pow-zero, pow-succ', one-le-pow, add-mul-div_left}
use native.Mathlib.Nat.{add-mul-mod_self_left, div-eq_of_lt, mod-eq_of_lt, mod-lt}
use lib.Arith.{digits_div, digits_mod}
use lib.Dec.{ltb}
use lib.ListN.{length}
use borrow.Author.Tests.{ltb-false}
use Rattle.model.specs.Basics.{pick, zeros, bit, quotient, remainder}
use Rattle.model.specs.Rules.{Edge, Rule, cm, base_count, pair_count}
use Rattle.model.specs.Runs.{zeroed_from, zeroed}
use Rattle.model.specs.Construction.{digits_code, digits_of, code_of, location_of, bases_of, start_bases, advanced}
use Rattle.model.specs.Construction.{target_of}
use Rattle.model.proofs.Logic.{by_test, quotient_is, remainder_is}

-- k digits, each below m
pub data Digits (m : ℕ) : ℕ → List ℕ → Type 0 where
  none : Digits m 0 []
  more : {k b : ℕ} {bs : List ℕ} → b < m → Digits m k bs → Digits m (suc k) (b ∷ bs)

pub digits_length : {m k : ℕ} {bs : List ℕ} → Digits m k bs → length bs ≡ k
digits_length none = refl
digits_length (more h ds) = ap suc (digits_length ds)

-- as one number, low digit first, and back
code_small : {m k : ℕ} {bs : List ℕ} → Digits m k bs → digits_code m bs < m ^ k
code_small {m} none = rw (pow-zero m) (omega arith)
code_small {m} (more {k = k} h ds) = rw (pow-succ' m k) (omega (arith, mul-le-mul_left m (code_small ds)))

low_digit : (m b x : ℕ) → b < m → remainder (b + m * x) m ≡ b
low_digit m b x h = remainder_is (b + m * x) m (omega arith) ∙ (add-mul-mod_self_left b m x ∙ mod-eq_of_lt h)

higher_digits : (m b x : ℕ) → b < m → quotient (b + m * x) m ≡ x
higher_digits m b x h =
    quotient_is (b + m * x) m (omega arith) ∙ (add-mul-div_left b x (omega arith) ∙ rw (div-eq_of_lt h) (omega arith))

digits_back : {m k : ℕ} {bs : List ℕ} → Digits m k bs → digits_of k m (digits_code m bs) ≡ bs
digits_back none = refl
digits_back {m} (more {b = b} {bs = bs} h ds) =
    rw (low_digit m b (digits_code m bs) h, higher_digits m b (digits_code m bs) h, digits_back ds)

-- where digits come from
remainder_small : (x m : ℕ) → 0 < m → remainder x m < m
remainder_small x m h = rw (remainder_is x m h) (mod-lt x h)

digits_of_lem : (k m x : ℕ) → 0 < m → Digits m k (digits_of k m x)
digits_of_lem zero m x h = none
digits_of_lem (suc k) m x h = more (remainder_small x m h) (digits_of_lem k m (quotient x m) h)

digits_zeros : (k m : ℕ) → 0 < m → Digits m k (zeros k)
digits_zeros zero m h = none
digits_zeros (suc k) m h = more h (digits_zeros k m h)

digit_zeroed : (s : Bool) (b m : ℕ) → b < m → pick s 0 b < m
digit_zeroed true b m h = omega arith
digit_zeroed false b m h = h

digits_zeroed : {m k : ℕ} {bs : List ℕ} (i mask : ℕ) → Digits m k bs → Digits m k (zeroed_from i mask bs)
digits_zeroed i mask none = none
digits_zeroed {m} i mask (more {b = b} h ds) = more (digit_zeroed (bit i mask) b m h) (digits_zeroed (suc i) mask ds)

digit_advanced : (c x : ℕ) → pick (ltb c x) (suc c) x < c + 2
digit_advanced c x = by_test (ltb c x) (λ e. rw e (omega arith)) (λ e. rw e (omega (arith, ltb-false c x e)))

digits_advanced : (c i : ℕ) {k : ℕ} {bs : List ℕ} → Digits (c + 2) k bs → Digits (c + 2) k (advanced c i bs)
digits_advanced c i none = none
digits_advanced c i (more {b = b} h ds) = more (digit_advanced c (b + i / 2)) (digits_advanced c i ds)

-- The bases of a pair: one digit below cm + 2 for each clock.
abbrev pub Bases : Rule → List ℕ → Type 0
Bases r bs = Digits (base_count r) r.clocks bs

pub code_bases : (r : Rule) (x : ℕ) → Bases r (bases_of r x)
unfolding bases_of
code_bases r x = digits_of_lem r.clocks (base_count r) (remainder x (base_count r ^ r.clocks)) (omega arith)

pub start_bases_lem : (r : Rule) → Bases r (start_bases r)
start_bases_lem r = digits_zeros r.clocks (base_count r) (omega arith)

-- the bases of a pair after an edge
abbrev pub bases_after : Rule → ℕ → Bool → ℕ → Edge → List ℕ
bases_after r i timer x e = zeroed e.resets (pick timer (advanced (cm r) i (bases_of r x)) (bases_of r x))

pub after_bases : (r : Rule) (i : ℕ) (timer : Bool) (x : ℕ) (e : Edge) → Bases r (bases_after r i timer x e)
after_bases r i true x e = digits_zeroed 0 e.resets (digits_advanced (cm r) i (code_bases r x))
after_bases r i false x e = digits_zeroed 0 e.resets (code_bases r x)

-- the location and the digits of a code, for any number of values and of clocks
pub location_out :
    {m k : ℕ} {bs : List ℕ} (l : ℕ) → 0 < m → Digits m k bs → quotient (l * m ^ k + digits_code m bs) (m ^ k) ≡ l
location_out {m} {k} {bs} l p h =
    quotient_is (l * m ^ k + digits_code m bs) (m ^ k) (one-le-pow k m p) ∙ digits_div l (code_small h)

pub digits_out :
    {m k : ℕ} {bs : List ℕ} (l : ℕ) → 0 < m → Digits m k bs
    → digits_of k m (remainder (l * m ^ k + digits_code m bs) (m ^ k)) ≡ bs
digits_out {m} {k} {bs} l p h =
    let x : ℕ = l * m ^ k + digits_code m bs in
    let e : remainder (l * m ^ k + digits_code m bs) (m ^ k) ≡ digits_code m bs =
    remainder_is x (m ^ k) (one-le-pow k m p) ∙ digits_mod l (code_small h) in
    rw e (digits_back h)

pub location_back : (r : Rule) (l : ℕ) (bs : List ℕ) → Bases r bs → location_of r (code_of r l bs) ≡ l
unfolding location_of code_of
location_back r l bs h = location_out l (omega arith) h

pub bases_back : (r : Rule) (l : ℕ) (bs : List ℕ) → Bases r bs → bases_of r (code_of r l bs) ≡ bs
unfolding bases_of code_of
bases_back r l bs h = digits_out l (omega arith) h

pub code_below : (r : Rule) (l : ℕ) (bs : List ℕ) → Bases r bs → l < r.locations → code_of r l bs < pair_count r
unfolding code_of pair_count
code_below r l bs h k =
    let w : ℕ = base_count r ^ r.clocks in
    omega (arith, code_small h, mul-le-mul_right w k)

-- The target of a pair by an edge: its location, its bases, and that it is below N.
module _ (r : Rule) (i : ℕ) (timer : Bool) (x : ℕ) (e : Edge) where
  pub target_location : location_of r (target_of r i timer x e) ≡ e.target
  unfolding target_of
  target_location = location_back r e.target (bases_after r i timer x e) (after_bases r i timer x e)

  pub target_bases : bases_of r (target_of r i timer x e) ≡ bases_after r i timer x e
  unfolding target_of
  target_bases = bases_back r e.target (bases_after r i timer x e) (after_bases r i timer x e)

  pub target_below : e.target < r.locations → target_of r i timer x e < pair_count r
  unfolding target_of
  target_below h = code_below r e.target (bases_after r i timer x e) (after_bases r i timer x e) h
