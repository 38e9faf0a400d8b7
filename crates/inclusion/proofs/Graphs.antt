-- The graph over the numbers of two tables in shape: numbers stay below R · W · R' · W', and a number's steps are those
-- of its two states.
use mathlib.Core.Path.{◌≡◌, refl, sym, ap₂, subst}
use mathlib.Core.Bool.{◌&&◌, not}
use mathlib.Core.List.{List}
use Prim.Native.Nat.{ℕ, ◌/◌, ◌%◌, ◌<◌}
use native.Mathlib.Omega.{arith}
use lib.Dec.{eqb, ltb}
use borrow.Author.Tests.{ltb-true}
use Rattle.model.specs.declared.Built.{Built}
use Rattle.model.specs.Tables.{Tables}
use Rattle.model.specs.Construction.{top_interval}
use Rattle.model.specs.Walks.{cell_at}
use Rattle.model.specs.Inclusion.{state_count}
use Rattle.model.specs.JointStates.{State, waits, takes}
use Rattle.model.proofs.Logic.{by_test}
use Rattle.inclusion.specs.Numbers.{state_number, state_of, packed, first_state, second_state, says_row, Celled}
use Rattle.inclusion.specs.Graphs.{graph_of, waiting_to, taking_to, goal_at, Paired}
use Rattle.inclusion.proofs.JointLaws.{InState, row_below, age_below, number_below, first_below, second_below}
use Rattle.inclusion.proofs.JointLaws.{joined_below, first_back, second_back}

state_inside : (b : Built) (q : ℕ) → q < state_count b → InState b (state_of b q)
state_inside b q h = record { row_in = row_below b q h; age_in = age_below b q }

-- steps stay inside
pub waits_inside : (t : Tables) (x : State) → InState t.built x → InState t.built (waits t x)
waits_inside t x i = record {
  row_in = i.row_in;
  age_in = by_test (ltb x.age (top_interval t.built.top))
      (λ e. rw e (omega (arith, ltb-true x.age (top_interval t.built.top) e)))
      (λ e. rw e i.age_in);
}

pub takes_inside :
    (t : Tables) (s : ℕ) (x : State) → Celled t.built t.cells → s < t.built.symbols → InState t.built x
    → InState t.built (takes t s x)
takes_inside t s x k h i =
    let cell : ℕ = cell_at t x.row s x.age in
    record {
      row_in = k.row_below x.row s x.age i.row_in h i.age_in;
      age_in = by_test (eqb (cell % 2) 1) (λ e. rw e (omega arith)) (λ e. rw e i.age_in);
    }

pub graph_symbols : (t u : Tables) → (graph_of t u).symbols ≡ t.built.symbols
unfolding graph_of
graph_symbols t u = refl

pub paired_as :
    {a b : Built} {cells cells2 : List ℕ} {n m : ℕ} → m ≡ n → Paired a cells b cells2 n → Paired a cells b cells2 m
paired_as {a} {b} {cells} {cells2} e p = subst (λ (k : ℕ). Paired a cells b cells2 k) (sym e) p

module _ (t u : Tables) {n : ℕ} (p : Paired t.built t.cells u.built u.cells n) where
  abbrev one : Built
  one = t.built

  abbrev two : Built
  two = u.built

  packed_below : (x y : State) → InState one x → InState two y → packed one two x y < n
  packed_below x y i j =
      rw p.size_is
      (joined_below one two (state_number one x) (state_number two y) (number_below one x i) (number_below two y j))

  pub first_inside : (x : ℕ) → x < n → InState one (first_state one two x)
  first_inside x h =
      state_inside one (x / state_count two)
      (first_below one two x (state_count two) p.second.sized refl (rw p.size_is at h))

  pub second_inside : (x : ℕ) → InState two (second_state one two x)
  second_inside x =
      state_inside two (x % state_count two) (second_below two x (state_count two) p.second.sized refl)

  pub waits_below : (x : ℕ) → x < n → waiting_to t u x < n
  waits_below x h =
      packed_below (waits t (first_state one two x)) (waits u (second_state one two x))
      (waits_inside t (first_state one two x) (first_inside x h))
      (waits_inside u (second_state one two x) (second_inside x))

  pub takes_below : (s x : ℕ) → s < t.built.symbols → x < n → taking_to t u s x < n
  takes_below s x g h =
      packed_below (takes t s (first_state one two x)) (takes u s (second_state one two x))
      (takes_inside t s (first_state one two x) p.first g (first_inside x h))
      (takes_inside u s (second_state one two x) p.second (omega (arith, p.same_symbols)) (second_inside x))

  -- waiting leaves the rows
  pub waits_goal : (x : ℕ) → x < n → goal_at t u (waiting_to t u x) ≡ goal_at t u x
  waits_goal x h =
      let i = waits_inside t (first_state one two x) (first_inside x h) in
      let j = waits_inside u (second_state one two x) (second_inside x) in
      ap₂ (λ (a b : State). says_row t.rows a.row && not (says_row u.rows b.row))
      (first_back one two (waits t (first_state one two x)) (waits u (second_state one two x)) i j)
      (second_back one two (waits t (first_state one two x)) (waits u (second_state one two x)) j)
