-- What lent numbers hold.
use Rattle.std.specs.Prelude.{Bool, true, ◌&&◌, List, [], ◌∷◌, ◌++◌, ℕ, ◌+◌, eqb, length, take, drop}

-- nothing but zeros
abbrev pub all_zero : List ℕ → Bool
all_zero [] = true
all_zero (x ∷ xs) = eqb x 0 && all_zero xs

-- after numbers were written at a place, the rest not touched
abbrev pub laid : List ℕ → ℕ → List ℕ → List ℕ
laid was at new = take at was ++ (new ++ drop (at + length new) was)
