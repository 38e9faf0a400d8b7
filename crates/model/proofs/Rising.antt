-- Lists of locations that rise below a bound, as plain facts: they ascend, and each number is below the bound.
use mathlib.Core.Path.{◌≡◌, refl}
use mathlib.Core.Bool.{true, ◌&&◌}
use mathlib.Core.List.{List, [], ◌∷◌, ◌++◌}
use Prim.Native.Nat.{ℕ, suc, ◌≤◌, ◌<◌}
use native.Mathlib.Omega.{arith}
use lib.Dec.{ltb, leb}
use borrow.Author.Tests.{ltb-true, leb-true, lt-ltb}
use Rattle.model.specs.Basics.{all_below}
use Rattle.model.specs.Rules.{rising}
use Rattle.model.proofs.Logic.{and_left, and_right, In, here, there}
use Rattle.model.proofs.Masks.{Asc}

-- all numbers of a list below a bound
abbrev pub Below : ℕ → List ℕ → Type 0
Below l [] = Unit {0}
Below l (x ∷ xs) = (x < l) × Below l xs

pub below_test : (m : ℕ) (xs : List ℕ) → Below m xs → all_below m xs ≡ true
below_test m [] b = refl
below_test m (x ∷ xs) b = rw (lt-ltb x m b.0, below_test m xs b.1)

pub below_append : (m : ℕ) (xs ys : List ℕ) → Below m xs → Below m ys → Below m (xs ++ ys)
below_append m [] ys a b = b
below_append m (x ∷ xs) ys a b = (a.0, below_append m xs ys a.1 b)

-- the first of a rising list, and the rest
pub rising_least : (least l x : ℕ) (xs : List ℕ) → rising least l (x ∷ xs) ≡ true → least ≤ x
rising_least least l x xs h =
    leb-true least x
    (and_left (leb least x) (ltb x l) (and_left (leb least x && ltb x l) (rising (suc x) l xs) h))

pub rising_below : (least l x : ℕ) (xs : List ℕ) → rising least l (x ∷ xs) ≡ true → x < l
rising_below least l x xs h =
    ltb-true x l (and_right (leb least x) (ltb x l) (and_left (leb least x && ltb x l) (rising (suc x) l xs) h))

pub rising_rest : (least l x : ℕ) (xs : List ℕ) → rising least l (x ∷ xs) ≡ true → rising (suc x) l xs ≡ true
rising_rest least l x xs h = and_right (leb least x && ltb x l) (rising (suc x) l xs) h

-- all of it
pub rising_asc : (least l : ℕ) (xs : List ℕ) → rising least l xs ≡ true → Asc least xs
rising_asc least l [] h = tt
rising_asc least l (x ∷ xs) h =
    (rising_least least l x xs h, rising_asc (suc x) l xs (rising_rest least l x xs h))

pub rising_all_below : (least l m : ℕ) (xs : List ℕ) → l ≤ m → rising least l xs ≡ true → Below m xs
rising_all_below least l m [] q h = tt
rising_all_below least l m (x ∷ xs) q h =
    (omega (arith, rising_below least l x xs h), rising_all_below (suc x) l m xs q (rising_rest least l x xs h))

-- a member of it
pub rises_least : (least l : ℕ) (xs : List ℕ) (k : ℕ) → rising least l xs ≡ true → In k xs → least ≤ k
rises_least least l [] k h i = elim i [ ]
rises_least least l (x ∷ xs) k h i =
    elim i [
      | here e ↦ omega (arith, rising_least least l x xs h)
      | there j ↦
          omega (arith, rising_least least l x xs h, rises_least (suc x) l xs k (rising_rest least l x xs h) j)
    ]

pub rises_below : (least l : ℕ) (xs : List ℕ) (k : ℕ) → rising least l xs ≡ true → In k xs → k < l
rises_below least l [] k h i = elim i [ ]
rises_below least l (x ∷ xs) k h i =
    elim i [
      | here e ↦ omega (arith, rising_below least l x xs h)
      | there j ↦ rises_below (suc x) l xs k (rising_rest least l x xs h) j
    ]
