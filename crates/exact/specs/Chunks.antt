-- Configurations in a list of numbers: k + 1 numbers each, the location and then the ages of k clocks.
use Rattle.std.specs.Prelude.{◌≡◌, Bool, List, [], ◌∷◌, ℕ, zero, suc, ◌+◌, take, drop, get_or}
use Rattle.model.specs.Basics.{is_in}
use Rattle.model.specs.Runs.{Config, config}
use Rattle.model.specs.Layout.{locations_in}
use Rattle.model.proofs.Configs.{some_config}
use Rattle.ages.specs.declared.Configuration.{Configuration}
use Rattle.ages.specs.Ages.{numbers_of}

-- the configuration of the numbers
abbrev pub config_in : List ℕ → Config
config_in [] = config 0 []
config_in (l ∷ ages) = config l ages

-- the first n configurations of a list, over k clocks
abbrev pub configs_in : ℕ → ℕ → List ℕ → List Config
configs_in k zero s = []
configs_in k (suc n) s = config_in (take (k + 1) s) ∷ configs_in k n (drop (k + 1) s)

-- a configuration that was read: its first ages are those of the rule's clocks
pub record Loaded (s : List ℕ) (c : Configuration) : Type 0 where
  pub location_is : c.location ≡ get_or s 0 0
  pub ages_are : numbers_of c.ages.of ≡ get_or s 1 0 ∷ get_or s 2 0 ∷ get_or s 3 0 ∷ get_or s 4 0 ∷ []

-- some configuration is at a location of the set
abbrev pub any_final : ℕ → List Config → Bool
any_final set cs = some_config (λ c. is_in c.location (locations_in set)) cs
