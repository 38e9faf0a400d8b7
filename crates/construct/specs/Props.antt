-- A fact that a struct of the code carries is a proposition.
use Rattle.std.specs.Prelude.{List, [], ◌∷◌, ℕ, suc}
use Rattle.std.proofs.Math.Bridge.{le_prop}
use Rattle.model.proofs.Masks.{Asc}
use Rattle.construct.specs.Rows.{Within}

asc_prop : (n : ℕ) (xs : List ℕ) → IsProp (Asc n xs)
asc_prop n [] = hlevel le_prop
asc_prop n (x ∷ xs) = let rest : IsProp (Asc (suc x) xs) = asc_prop (suc x) xs in hlevel (le_prop, rest)

pub within_prop : (count : ℕ) (rows pool : List ℕ) → IsProp (Within count rows pool)
within_prop count rows pool = hlevel (le_prop, asc_prop)
