-- What 25, 35 and 36 leave, how a search over two tables ends, and the word shown.
use Rattle.std.specs.Prelude.{◌≡◌, true, false, List, ℕ, ◌≤◌, length, Option, Some, None, Result, Ok, Err}
use Rattle.std.specs.Prelude.{IfOk}
use Rattle.model.specs.declared.Inclusion.{Inclusion}
use Rattle.model.specs.declared.Refused.{Refused}
use Rattle.model.specs.Basics.{fine, refusal}
use Rattle.model.specs.Faults.{fault_number, refusal_in}
use Rattle.model.specs.Tables.{Tables}
use Rattle.model.specs.Inclusion.{Comparable, joint_count, most_joint_states, inclusion_refusal}
use Rattle.model.specs.Promises.{inclusion}
use Rattle.inclusion.specs.declared.sides.Two.{Two}
use Rattle.inclusion.specs.Views.{first_of, second_of, joint_states}
use Rattle.inclusion.specs.Graphs.{Graph}
use Rattle.inclusion.specs.Trails.{sums, Retraced}

-- what is found of two tables, as the record that crosses a call: none, or a word of so many events
abbrev pub inclusion_in : Result (Option ℕ) Refused → Inclusion
inclusion_in (Ok None) = inclusion fine true 0
inclusion_in (Ok (Some events)) = inclusion fine false events
inclusion_in (Err r) = inclusion (refusal (fault_number r.fault) r.place) false 0

-- two tables that may be searched in a scratch of so many numbers
pub record Admitted (t u : Tables) (size : ℕ) : Type 0 where
  pub comparable : Comparable t u
  pub states_most : joint_count t.built u.built ≤ most_joint_states
  pub states_in : joint_count t.built u.built ≤ size

pub record Judges (t u : Tables) (size : ℕ) (outcome : Result Two Refused) : Type 0 where
  pub refusal_is : refusal_in outcome ≡ inclusion_refusal t u size
  pub admits : IfOk outcome (λ p. (first_of p ≡ t) × (second_of p ≡ u) × (joint_states p ≤ size))

-- symbols and stamps that lead to the last state found
pub record Shows (g : Graph) (s : List ℕ) (last : ℕ) (symbols stamps : List ℕ) : Type 0 where
  pub pauses : List ℕ
  pub retraced : Retraced g s last symbols pauses
  pub stamps_are : stamps ≡ sums 0 pauses
  pub same_length : length pauses ≡ length symbols
