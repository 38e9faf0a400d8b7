-- The ages that the code keeps, as the lists of numbers that the definitions speak of.
use Rattle.std.specs.Prelude.{◌≡◌, List, [], ◌∷◌, Bool, ◌&&◌, ℕ, ◌+◌, eqb, take}
use Rattle.model.specs.declared.Age.{Age}
use Rattle.model.specs.Basics.{lesser, same}
use Rattle.model.specs.Rules.{Edge}
use Rattle.model.specs.Words.{Event}
use Rattle.model.specs.Runs.{can_take, zeroed, Config, config}
use Rattle.ages.specs.declared.Ages.{Ages}
use Rattle.ages.specs.declared.Configuration.{Configuration}

abbrev pub numbers_of : List Age → List ℕ
numbers_of [] = []
numbers_of (a ∷ as_are) = a.0 ∷ numbers_of as_are

-- the ages of the first k clocks; what stands past them is not looked at
abbrev pub ages_of : ℕ → Ages → List ℕ
ages_of k ages = take k (numbers_of ages.of)

-- a configuration over k clocks
abbrev pub config_of : ℕ → Configuration → Config
config_of k c = config c.location (ages_of k c.ages)

abbrev pub same_config : Config → Config → Bool
same_config c x = eqb c.location x.location && same c.ages x.ages

-- the delay added to every age, none past the last number of 32 bits
abbrev pub most_age : ℕ
most_age = 4294967295

abbrev pub older_capped : ℕ → List ℕ → List ℕ
older_capped delay [] = []
older_capped delay (a ∷ ages) = lesser (a + delay) most_age ∷ older_capped delay ages

-- an event with this symbol; whether an edge can be taken does not depend on its stamp
abbrev pub with_symbol : ℕ → Event
with_symbol s = record { symbol = s; stamp = 0 }

-- an edge that can be taken on a symbol
abbrev pub takes : ℕ → ℕ → ℕ → Configuration → Edge → Bool
takes d k symbol from e = can_take d from.location (ages_of k from.ages) (with_symbol symbol) e

-- a configuration after a delay, and after an edge
pub record Waited (delay : ℕ) (from to : Configuration) : Type 0 where
  pub location_is : to.location ≡ from.location
  pub ages_are : numbers_of to.ages.of ≡ older_capped delay (numbers_of from.ages.of)

pub record Moved (e : Edge) (from to : Configuration) : Type 0 where
  pub location_is : to.location ≡ e.target
  pub ages_are : numbers_of to.ages.of ≡ zeroed e.resets (numbers_of from.ages.of)
