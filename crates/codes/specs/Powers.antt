-- The powers 0 to K of cm + 2, in a place each.
use Rattle.std.specs.Prelude.{List, [], ◌∷◌, ℕ, zero, suc, ◌+◌, ◌^◌}
use Rattle.model.specs.Basics.{filled}

-- a place for each of the powers 0 to 4
abbrev pub power_places : ℕ
power_places = 5

-- n powers of m, from power i on
abbrev pub powers_from : ℕ → ℕ → ℕ → List ℕ
powers_from zero i m = []
powers_from (suc n) i m = m ^ i ∷ powers_from n (suc i) m

-- the powers 0 to k of c + 2; the places past k are zero
unfoldable pub powers_of : ℕ → ℕ → List ℕ
powers_of c k = filled power_places (powers_from (suc k) 0 (c + 2))
