-- The rule that a build goes by, the start row by its codes, and a next row marked.
use Rattle.std.specs.Prelude.{◌≡◌, true, List, [], ◌∷◌, ℕ, ◌*◌, ◌≤◌, ◌<◌, length}
use Rattle.model.specs.Basics.{bit, zeros}
use Rattle.model.specs.Rules.{Rule, most_locations, pair_count, most_pairs}
use Rattle.model.specs.Construction.{with_code, row_resets, next_row}
use Rattle.model.specs.Tables.{scratch_bits}
use Rattle.codes.specs.Codes.{unpacked}
use Rattle.pairs.specs.declared.Departure.{Departure}
use Rattle.pairs.specs.declared.Input.{Input}
use Rattle.bits.specs.Bits.{MarksAre}
use Rattle.edges.specs.Views.{rule_of}
use Rattle.construct.specs.declared.Marked.{Marked}
use Rattle.construct.specs.declared.Plan.{Plan}

-- the rule that a build goes by
abbrev pub rule_by : Plan → Rule
rule_by plan = rule_of plan.rule

-- the pair of a code, as it is left
abbrev pub departure_by : Plan → Input → ℕ → Departure
departure_by plan at x = record { pair = unpacked plan.scale x; input = at; scale = plan.scale }

-- the start row by the weight of a location
abbrev pub start_codes_by : ℕ → List ℕ → List ℕ
start_codes_by w [] = []
start_codes_by w (l ∷ ls) = with_code (l * w) (start_codes_by w ls)

-- no marks yet, and every initial location has one
pub record CanStart (marks : List ℕ) (starts weight : ℕ) : Type 0 where
  pub marks_zero : marks ≡ zeros (length marks)
  pub codes_below : (l : ℕ) → l < most_locations → bit l starts ≡ true → l * weight < scratch_bits * length marks
  pub codes_most : (l : ℕ) → l < most_locations → bit l starts ≡ true → l * weight < most_pairs

-- every code has a mark
pub record Enough (r : Rule) (marks : List ℕ) : Type 0 where
  pub marks_long : pair_count r ≤ scratch_bits * length marks

-- the row that a row leads to, marked, and whether the timer is reset
pub record NextMarked (r : Rule) (at : Input) (row marks' : List ℕ) (answer : Marked) : Type 0 where
  pub timer_is : answer.timer ≡ row_resets r at.symbol at.interval row
  pub marks_are : MarksAre (next_row r at.symbol at.interval row) marks' answer.span
