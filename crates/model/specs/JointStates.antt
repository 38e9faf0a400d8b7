-- Two tables walked together at D = 2 (2.10). A table's state is its row and its timer's age in half seconds, cut at
-- the top interval: all that the walk depends on, as `JointWalkIs` of Claims has it.
use Rattle.std.specs.Prelude.{List, [], ◌∷◌, ℕ, zero, suc, ◌-◌, ◌/◌, ◌%◌, ◌<◌, eqb, ltb}
use Rattle.model.specs.Basics.{pick}
use Rattle.model.specs.Words.{Event}
use Rattle.model.specs.Construction.{top_interval}
use Rattle.model.specs.Tables.{Tables}
use Rattle.model.specs.Walks.{cell_at}

pub record State : Type 0 where
  pub row : ℕ
  pub age : ℕ

abbrev pub state : ℕ → ℕ → State
state r a = record { row = r; age = a }

abbrev pub start_state : State
start_state = state 0 0

-- half a second passes
abbrev pub waited : ℕ → ℕ → ℕ
waited c a = pick (ltb a (top_interval c)) (suc a) a

abbrev pub waits : Tables → State → State
waits t x = state x.row (waited t.built.top x.age)

abbrev pub waits_for : ℕ → Tables → State → State
waits_for zero t x = x
waits_for (suc n) t x = waits_for n t (waits t x)

-- an event is taken
abbrev pub takes : Tables → ℕ → State → State
takes t s x =
    let cell = cell_at t x.row s x.age in
    state (cell / 2) (pick (eqb (cell % 2) 1) 0 x.age)

-- the state after the events of a word at D = 2
unfoldable pub walked : Tables → ℕ → List Event → State → State
walked t last [] x = x
walked t last (v ∷ vs) x = walked t v.stamp vs (takes t v.symbol (waits_for (v.stamp - last) t x))

-- the joint states that some word of n events reaches, some time after its last event
pub data JointReached (t u : Tables) : ℕ → State → State → Type 0 where
  begin : JointReached t u 0 start_state start_state
  wait : {n : ℕ} {x y : State} → JointReached t u n x y → JointReached t u n (waits t x) (waits u y)
  take :
      {n : ℕ} {x y : State} (s : ℕ) → s < t.built.symbols → JointReached t u n x y
      → JointReached t u (suc n) (takes t s x) (takes u s y)
