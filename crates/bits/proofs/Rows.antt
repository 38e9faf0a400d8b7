-- A row is the marked set if it rises, is as long, and every code of it is marked: no code need be gathered to compare.
use mathlib.Core.Path.{◌≡◌, refl, sym, ◌∙◌, ap, ap₂}
use mathlib.Core.Bool.{Bool, true, false, ◌||◌}
use mathlib.Core.List.{List, [], ◌∷◌}
use Prim.Native.Nat.{ℕ, suc, ◌≤◌, ◌<◌}
use native.Mathlib.Omega.{arith}
use lib.Dec.{eqb}
use lib.ListN.{length}
use borrow.Author.Tests.{eq-eqb, ne_eqb}
use Rattle.model.specs.Basics.{is_in}
use Rattle.model.proofs.Logic.{cmp, is_lt, is_eq, is_gt, no_way, and_left, and_right}
use Rattle.model.proofs.Masks.{Asc, not_below}
use Rattle.bits.specs.Bits.{all_marked, marked, codes_in}
use Rattle.bits.proofs.Sets.{codes_are, codes_rise}

abbrev All : List ℕ → List ℕ → Type 0
All [] ys = Unit {0}
All (x ∷ xs) ys = (is_in x ys ≡ true) × All xs ys

-- a member that is not the head is in the tail
in_tail : (x y : ℕ) (ys : List ℕ) → (x ≡ y → ⊥) → is_in x (y ∷ ys) ≡ true → is_in x ys ≡ true
in_tail x y ys n h = rw (ne_eqb x y n) at h

tails : (n y : ℕ) (xs ys : List ℕ) → y < n → Asc n xs → All xs (y ∷ ys) → All xs ys
tails n y [] ys l a h = tt
tails n y (x ∷ xs) ys l a h =
    (in_tail x y ys (λ q. omega (arith, a.0)) h.0, tails (suc x) y xs ys (omega (arith, a.0)) a.1 h.1)

fewer : (n : ℕ) (xs ys : List ℕ) → Asc n xs → Asc n ys → All xs ys → length xs ≤ length ys
fewer n [] ys a b h = omega arith
fewer n (x ∷ xs) [] a b h = no_way h.0
fewer n (x ∷ xs) (y ∷ ys) a b h =
    elim (cmp x y) [
      | is_lt l ↦ no_way (sym (not_below y (y ∷ ys) x (omega arith, b.1) l) ∙ h.0)
      | is_eq l ↦
          let on : length xs ≤ length ys =
          fewer (suc x) xs ys a.1 (rw (← l) at b.1) (tails (suc x) y xs ys (omega arith) a.1 h.1) in
          omega arith
      | is_gt l ↦
          let on : length (x ∷ xs) ≤ length ys =
          fewer (suc y) (x ∷ xs) ys (l, a.1) b.1 (tails (suc y) y (x ∷ xs) ys (omega arith) (l, a.1) h) in
          omega arith
    ]

as_long : (n : ℕ) (xs ys : List ℕ) → Asc n xs → Asc n ys → All xs ys → length xs ≡ length ys → xs ≡ ys
as_long n [] [] a b h e = refl
as_long n [] (y ∷ ys) a b h e = absurd (omega arith)
as_long n (x ∷ xs) [] a b h e = absurd (omega arith)
as_long n (x ∷ xs) (y ∷ ys) a b h e =
    elim (cmp x y) [
      | is_lt l ↦ no_way (sym (not_below y (y ∷ ys) x (omega arith, b.1) l) ∙ h.0)
      | is_eq l ↦
          ap₂ ◌∷◌ l
          (as_long (suc x) xs ys a.1 (rw (← l) at b.1) (tails (suc x) y xs ys (omega arith) a.1 h.1)
          (omega arith))
      | is_gt l ↦
          let on : length (x ∷ xs) ≤ length ys =
          fewer (suc y) (x ∷ xs) ys (l, a.1) b.1 (tails (suc y) y (x ∷ xs) ys (omega arith) (l, a.1) h) in
          absurd (omega arith)
    ]

all_of : (ws xs : List ℕ) → all_marked ws xs ≡ true → All xs (codes_in ws)
all_of ws [] h = tt
all_of ws (x ∷ xs) h =
    let rest : all_marked ws xs ≡ true = and_right (marked ws x) (all_marked ws xs) h in
    (codes_are ws x ∙ and_left (marked ws x) (all_marked ws xs) h, all_of ws xs rest)

of_all : (ws xs : List ℕ) → ((x : ℕ) → is_in x xs ≡ true → is_in x (codes_in ws) ≡ true) → all_marked ws xs ≡ true
of_all ws [] h = refl
of_all ws (x ∷ xs) h =
    let m : marked ws x ≡ true = sym (codes_are ws x) ∙ h x (rw (eq-eqb x x refl)) in
    rw m (of_all ws xs (λ z i. h z (later (eqb z x) (is_in z xs) i)))
  where
    later : (a b : Bool) → b ≡ true → (a || b) ≡ true
    later true b i = refl
    later false b i = i

-- the comparison that the search makes
pub row_is_marked :
    (ws row : List ℕ) → Asc 0 row → length row ≡ length (codes_in ws) → all_marked ws row ≡ true → row ≡ codes_in ws
unfolding codes_in
row_is_marked ws row a e h = as_long 0 row (codes_in ws) a (codes_rise 0 ws) (all_of ws row h) e

pub marked_is_row : (ws row : List ℕ) → row ≡ codes_in ws → all_marked ws row ≡ true
marked_is_row ws row e = of_all ws row (λ x i. ap (is_in x) (sym e) ∙ i)
