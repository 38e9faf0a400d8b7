-- The largest constant in some atoms, as a fold finds it.
use mathlib.Core.Path.{◌≡◌, sym, ◌∙◌, ap}
use mathlib.Core.List.{List, [], ◌∷◌}
use Prim.Native.Nat.{ℕ, max}
use native.Mathlib.Omega.{arith}
use lib.Dec.{leb}
use borrow.Author.Tests.{le-leb, leb-true, leb-false}
use Rattle.std.specs.List.{fold}
use Rattle.model.specs.Basics.{larger}
use Rattle.model.specs.Texts.{Atom}
use Rattle.model.specs.Rules.{largest_constant}
use Rattle.model.proofs.Logic.{by_test, larger_three, larger_none}

pub max_is : (a b : ℕ) → max a b ≡ larger a b
max_is a b = by_test (leb a b) (λ e. rw e (omega (arith, leb-true a b e))) (λ e. rw e (omega (arith, leb-false a b e)))

largest_from :
    (most : ℕ) (atoms : List Atom) → fold (λ m a. max m a.constant) most atoms ≡ larger most (largest_constant atoms)
largest_from most [] = sym (larger_none most)
largest_from most (a ∷ atoms) =
    largest_from (max most a.constant) atoms
    ∙ (ap (λ (m : ℕ). larger m (largest_constant atoms)) (max_is most a.constant)
    ∙ larger_three most a.constant (largest_constant atoms))

-- the largest constant, as a fold over the atoms finds it
pub largest_known : (atoms : List Atom) → fold (λ m a. max m a.constant) 0 atoms ≡ largest_constant atoms
largest_known atoms =
    largest_from 0 atoms ∙ rw (le-leb 0 (largest_constant atoms) (omega arith))
