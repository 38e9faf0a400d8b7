-- The graph's numbers and the joint states that they stand for.
use mathlib.Core.Path.{◌≡◌, refl, sym, ◌∙◌, ap, ap₂}
use mathlib.Core.Bool.{Bool}
use Prim.Native.Nat.{ℕ, zero, suc, ◌<◌}
use native.Mathlib.Omega.{arith}
use Rattle.model.specs.declared.Built.{Built}
use Rattle.model.specs.Tables.{Tables}
use Rattle.model.specs.Walks.{verdict}
use Rattle.model.specs.JointStates.{State, start_state, waits, takes, waits_for}
use Rattle.inclusion.specs.Numbers.{packed, first_state, second_state}
use Rattle.inclusion.specs.Graphs.{graph_of, waiting_to, taking_to, Paired}
use Rattle.inclusion.proofs.JointLaws.{InState, start_inside, start_packed, first_back, second_back}
use Rattle.inclusion.proofs.Graphs.{first_inside, second_inside, waits_inside, takes_inside, waits_below}
use Rattle.inclusion.specs.Trails.{waits_on}
use Rattle.inclusion.proofs.SearchLaws.{target}

-- a goal is a number that only the first table accepts
abbrev pub only_first_at : Tables → Tables → ℕ → Bool
only_first_at t u x = target t u (first_state t.built u.built x) (second_state t.built u.built x)

pub goal_is : (t u : Tables) (x : ℕ) → (graph_of t u).goal x ≡ only_first_at t u x
unfolding graph_of verdict
goal_is t u x = refl

-- the state of a number in table v, one of the two: it goes as the table goes
pub record Follows (t u : Tables) (n : ℕ) (v : Tables) (at : ℕ → State) : Type 0 where
  pub start_is : at 0 ≡ start_state
  pub waits_is : (x : ℕ) → x < n → at (waiting_to t u x) ≡ waits v (at x)
  pub takes_is : (s x : ℕ) → s < t.built.symbols → x < n → at (taking_to t u s x) ≡ takes v s (at x)

module _ (t u : Tables) {n : ℕ} (p : Paired t.built t.cells u.built u.cells n) where
  abbrev one : Built
  one = t.built

  abbrev two : Built
  two = u.built

  abbrev first_at : ℕ → State
  first_at = first_state one two

  abbrev second_at : ℕ → State
  second_at = second_state one two

  -- a number's steps
  waits_second : (x : ℕ) → InState two (waits u (second_at x))
  waits_second x = waits_inside u (second_at x) (second_inside t u p x)

  takes_second : (s x : ℕ) → s < one.symbols → InState two (takes u s (second_at x))
  takes_second s x g =
      takes_inside u s (second_at x) p.second (omega (arith, g, p.same_symbols)) (second_inside t u p x)

  pub first_follows : Follows t u n t first_at
  first_follows = record {
    start_is =
        ap first_at (sym (start_packed one two))
        ∙ first_back one two start_state start_state (start_inside p.first.sized)
        (start_inside p.second.sized);
    waits_is = λ x h.
        first_back one two (waits t (first_at x)) (waits u (second_at x))
        (waits_inside t (first_at x) (first_inside t u p x h))
        (waits_second x);
    takes_is = λ s x g h.
        first_back one two (takes t s (first_at x)) (takes u s (second_at x))
        (takes_inside t s (first_at x) p.first g (first_inside t u p x h))
        (takes_second s x g);
  }

  pub second_follows : Follows t u n u second_at
  second_follows = record {
    start_is =
        ap second_at (sym (start_packed one two)) ∙ second_back one two start_state start_state
        (start_inside p.second.sized);
    waits_is = λ x h. second_back one two (waits t (first_at x)) (waits u (second_at x)) (waits_second x);
    takes_is = λ s x g h.
        second_back one two (takes t s (first_at x)) (takes u s (second_at x)) (takes_second s x g);
  }

  -- two states' number's steps
  pub graph_waits :
      (x y : State) → InState one x → InState two y
      → (graph_of t u).waits_to (packed one two x y) ≡ packed one two (waits t x) (waits u y)
  unfolding graph_of
  graph_waits x y i j =
      ap₂ (λ (a b : State). packed one two (waits t a) (waits u b)) (first_back one two x y i j)
      (second_back one two x y j)

  pub graph_takes :
      (s : ℕ) (x y : State) → InState one x → InState two y
      → (graph_of t u).takes_to s (packed one two x y) ≡ packed one two (takes t s x) (takes u s y)
  unfolding graph_of
  graph_takes s x y i j =
      ap₂ (λ (a b : State). packed one two (takes t s a) (takes u s b)) (first_back one two x y i j)
      (second_back one two x y j)

  pub graph_goal :
      (x y : State) → InState one x → InState two y → (graph_of t u).goal (packed one two x y) ≡ target t u x y
  graph_goal x y i j =
      goal_is t u (packed one two x y) ∙ ap₂ (target t u) (first_back one two x y i j) (second_back one two x y j)

  -- pauses
  pub pause_below : (k x : ℕ) → x < n → waits_on (graph_of t u) k x < n
  unfolding graph_of
  pause_below zero x h = h
  pause_below (suc k) x h = pause_below k (waiting_to t u x) (waits_below t u p x h)

  pub pause_is :
      {v : Tables} {at : ℕ → State} (f : Follows t u n v at) (k x : ℕ) → x < n
      → at (waits_on (graph_of t u) k x) ≡ waits_for k v (at x)
  unfolding graph_of
  pause_is f zero x h = refl
  pause_is {v} f (suc k) x h =
      pause_is f k (waiting_to t u x) (waits_below t u p x h) ∙ ap (waits_for k v) (f.waits_is x h)
