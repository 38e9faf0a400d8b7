-- Codes made of a location and bases, and taken apart, with the powers that a scale carries. For the scale of a rule
-- they are the construction's own (proofs/Agreement.antt).
use Rattle.std.specs.Prelude.{◌≡◌, ◌&&◌, List, [], ◌∷◌, ℕ, zero, suc, ◌+◌, ◌*◌, ◌≤◌, leb, get_or, take}
use Rattle.model.specs.Basics.{pick, zeros, filled, quotient, remainder}
use Rattle.model.specs.Rules.{Rule, cm, most_clocks, most_constant}
use Rattle.codes.specs.declared.Scale.{Scale}
use Rattle.codes.specs.declared.Pair.{Pair}
use Rattle.codes.specs.Powers.{power_places, powers_of}

-- power k, by its place
abbrev pub power_at : List ℕ → ℕ → ℕ
power_at powers k = get_or powers k 0

-- the scale of cm and K; the weight of a location is power K
abbrev pub scale_of : ℕ → ℕ → Scale
scale_of c k = record { clocks = k; top = c; weight = power_at (powers_of c k) k; powers = powers_of c k }

-- all zero, and the scale of cm and K where both are in their ranges
abbrev pub no_scale : Scale
no_scale = record { clocks = 0; top = 0; weight = 0; powers = zeros power_places }

abbrev pub small_scale : ℕ → ℕ → Scale
small_scale c k = pick (leb c most_constant && leb k most_clocks) (scale_of c k) no_scale

-- a scale with K and cm in their ranges that is the one of its own cm and K
pub record Powered (z : Scale) : Type 0 where
  pub top_most : z.top ≤ most_constant
  pub clocks_least : 1 ≤ z.clocks
  pub clocks_most : z.clocks ≤ most_clocks
  pub is_scale : z ≡ scale_of z.top z.clocks

-- the scale of a rule
pub record Scaled (r : Rule) (z : Scale) : Type 0 where
  pub powered : Powered z
  pub clocks_are : z.clocks ≡ r.clocks
  pub top_is : z.top ≡ cm r

-- base k · power k, summed from clock k on
abbrev pub bases_code : List ℕ → ℕ → List ℕ → ℕ
bases_code powers k [] = 0
bases_code powers k (b ∷ bases) = b * power_at powers k + bases_code powers (suc k) bases

-- the code of a location and bases
abbrev pub packed : Scale → ℕ → List ℕ → ℕ
packed z l bases = l * z.weight + bases_code z.powers 0 (take z.clocks bases)

-- n bases of a code, from clock k on: what power k + 1 leaves of the code, over power k
abbrev pub bases_from : List ℕ → ℕ → ℕ → ℕ → List ℕ
bases_from powers zero k code = []
bases_from powers (suc n) k code =
    quotient (remainder code (power_at powers (suc k))) (power_at powers k) ∷ bases_from powers n (suc k) code

-- a pair; the bases past its clocks are zero
abbrev pub pair_of : ℕ → List ℕ → Pair
pair_of l bases = record { location = l; bases = filled most_clocks bases }

-- the pair of a code
abbrev pub unpacked : Scale → ℕ → Pair
unpacked z code = pair_of (quotient code z.weight) (bases_from z.powers z.clocks 0 code)
