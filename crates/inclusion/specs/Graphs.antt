-- The joint states as a graph over numbers: waiting, events, and the states that only the first table accepts.
use Rattle.std.specs.Prelude.{◌≡◌, Bool, ◌&&◌, not, List, ℕ, ◌≤◌}
use Rattle.model.specs.declared.Built.{Built}
use Rattle.model.specs.Tables.{Tables}
use Rattle.model.specs.Inclusion.{joint_count, most_joint_states}
use Rattle.model.specs.JointStates.{waits, takes}
use Rattle.inclusion.specs.Numbers.{packed, first_state, second_state, says_row, Celled}

pub record Graph : Type 0 where
  pub symbols : ℕ
  pub waits_to : ℕ → ℕ
  pub takes_to : ℕ → ℕ → ℕ
  pub goal : ℕ → Bool

abbrev pub waiting_to : Tables → Tables → ℕ → ℕ
waiting_to t u x =
    packed t.built u.built (waits t (first_state t.built u.built x))
    (waits u (second_state t.built u.built x))

abbrev pub taking_to : Tables → Tables → ℕ → ℕ → ℕ
taking_to t u s x =
    packed t.built u.built (takes t s (first_state t.built u.built x))
    (takes u s (second_state t.built u.built x))

abbrev pub goal_at : Tables → Tables → ℕ → Bool
goal_at t u x =
    says_row t.rows (first_state t.built u.built x).row
    && not (says_row u.rows (second_state t.built u.built x).row)

unfoldable pub graph_of : Tables → Tables → Graph
graph_of t u = record {
  symbols = t.built.symbols;
  waits_to = waiting_to t u;
  takes_to = taking_to t u;
  goal = goal_at t u;
}

-- the cells of two tables that 25, 35 and 36 let pass, and as many numbers as they have joint states
pub record Paired (a : Built) (cells : List ℕ) (b : Built) (cells2 : List ℕ) (size : ℕ) : Type 0 where
  pub first : Celled a cells
  pub second : Celled b cells2
  pub same_symbols : a.symbols ≡ b.symbols
  pub size_is : size ≡ joint_count a b
  pub size_most : size ≤ most_joint_states
