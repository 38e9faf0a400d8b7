-- Nothing but zeros: as a test, and as the list of so many.
use mathlib.Core.Path.{◌≡◌, refl, ap₂}
use mathlib.Core.Bool.{true, ◌&&◌}
use mathlib.Core.List.{List, [], ◌∷◌}
use Prim.Native.Nat.{ℕ}
use lib.Dec.{eqb}
use lib.ListN.{length}
use borrow.Author.Tests.{eqb-true}
use Rattle.model.specs.Basics.{same, zeros}
use Rattle.model.proofs.Logic.{eqb_swap, and_left, and_right}
use Rattle.numbers.specs.Lent.{all_zero}

pub same_zeros : (xs : List ℕ) → same (zeros (length xs)) xs ≡ all_zero xs
same_zeros [] = refl
same_zeros (x ∷ xs) = ap₂ ◌&&◌ (eqb_swap 0 x) (same_zeros xs)

pub zeros_are : (xs : List ℕ) → all_zero xs ≡ true → xs ≡ zeros (length xs)
zeros_are [] h = refl
zeros_are (x ∷ xs) h =
    ap₂ (λ (y : ℕ) (ys : List ℕ). y ∷ ys) (eqb-true x 0 (and_left (eqb x 0) (all_zero xs) h))
    (zeros_are xs (and_right (eqb x 0) (all_zero xs) h))
