-- What request 2.5 asks of the powers, for all sizes with N at or below 65,536.
use Rattle.std.specs.Prelude.{◌≡◌, Bool, true, ◌&&◌, List, ℕ, ◌+◌, ◌*◌, ◌^◌, ◌≤◌, ◌<◌, leb, length}
use Rattle.model.specs.Basics.{within, all_below, filled}
use Rattle.model.specs.Rules.{most_locations, most_clocks, most_constant, most_pairs}
use Rattle.codes.specs.Powers.{power_places}
use Rattle.codes.specs.Codes.{scale_of, power_at, packed, pair_of, unpacked}

-- L, K and cm in their ranges, and N at most 65,536
abbrev pub sizes_fit : ℕ → ℕ → ℕ → Bool
sizes_fit l k c =
    within 1 most_locations l && within 1 most_clocks k && leb c most_constant && leb (l * (c + 2) ^ k) most_pairs

-- each is that power, and the places past K are zero
pub record PowersByPlace (k c : ℕ) : Type 0 where
  pub five : length (scale_of c k).powers ≡ power_places
  pub each : (i : ℕ) → i ≤ k → power_at (scale_of c k).powers i ≡ (c + 2) ^ i
  pub weight_is : (scale_of c k).weight ≡ (c + 2) ^ k
  pub zero_past : (i : ℕ) → k < i → power_at (scale_of c k).powers i ≡ 0

abbrev pub PowersAre : Type 0
PowersAre = (l k c : ℕ) → sizes_fit l k c ≡ true → PowersByPlace k c

-- a pair's code made with them and taken apart with them gives the same pair
abbrev pub PairsComeBack : Type 0
PairsComeBack =
    (locations k c l : ℕ) (bases : List ℕ) → sizes_fit locations k c ≡ true → l < locations → length bases ≡ k
    → all_below (c + 2) bases ≡ true
    → unpacked (scale_of c k) (packed (scale_of c k) l (filled most_clocks bases)) ≡ pair_of l bases

-- and a code below N, taken apart and made again, is the same code
pub record SameCode (locations k c code : ℕ) : Type 0 where
  pub location_below : (unpacked (scale_of c k) code).location < locations
  pub same : packed (scale_of c k) (unpacked (scale_of c k) code).location (unpacked (scale_of c k) code).bases ≡ code

abbrev pub CodesComeBack : Type 0
CodesComeBack =
    (locations k c code : ℕ) → sizes_fit locations k c ≡ true → code < locations * (c + 2) ^ k
    → SameCode locations k c code
