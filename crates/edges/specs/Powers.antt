-- Powers that fit: of a base below 65,536, up to the fourth; 0 for others. The same of N.
use Rattle.std.specs.Prelude.{◌&&◌, List, ℕ, ◌^◌, ltb, leb}
use Rattle.model.specs.declared.Head.{Head}
use Rattle.model.specs.Basics.{pick}
use Rattle.model.specs.Rules.{cm, most_clocks, most_constant, most_locations, most_pairs, pair_count}
use Rattle.model.specs.Layout.{rule_in}

abbrev pub small_power : ℕ → ℕ → ℕ
small_power base exponent = pick (ltb base most_pairs && leb exponent most_clocks) (base ^ exponent) 0

-- N of a head record and an edge table with L at most 32, K at most 4 and cm at most 30
abbrev pub small_pairs : Head → List ℕ → ℕ
small_pairs h t =
    pick (leb h.locations most_locations && leb h.clocks most_clocks && leb (cm (rule_in h t)) most_constant)
    (pair_count (rule_in h t)) 0
