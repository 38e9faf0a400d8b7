-- What the step of a walk promises, by the follower's definition, and where a walk stands among a word's events.
use Rattle.std.specs.Prelude.{◌≡◌, List, ◌∷◌, ℕ, ◌≤◌, length, get_or, drop}
use Rattle.model.specs.declared.Stamp.{Stamp}
use Rattle.model.specs.declared.Follower.{Follower}
use Rattle.model.specs.Words.{Event, events_of}
use Rattle.model.specs.Tables.{Tables}
use Rattle.model.specs.Walks.{stamp, start_at, step, step_all}
use Rattle.model.specs.Promises.{event}
use Rattle.walk.specs.declared.Walk.{Walk}

-- a walk at some D, as a follower that has counted nothing
abbrev pub standing : ℕ → Walk → Follower
standing d w = record { grain = d; row = w.row; reset = w.reset; last = stamp 0; count = 0 }

-- one event over the table: the row and the timer's stamp are those of the follower's step
pub record Steps (t : Tables) (d : ℕ) (walk : Walk) (symbol : ℕ) (at : Stamp) (next : Walk) : Type 0 where
  pub row_is : next.row ≡ (step t (standing d walk) (event symbol at)).row
  pub reset_is : next.reset ≡ (step t (standing d walk) (event symbol at)).reset

-- the row after all events, from the start
abbrev pub row_after : Tables → ℕ → List Event → ℕ
row_after t d vs = (step_all t (start_at d) vs).row

-- a walk after i events, as the follower that has counted them
abbrev pub counted : ℕ → List ℕ → Walk → ℕ → Follower
counted d ts w i = record { grain = d; row = w.row; reset = w.reset; last = stamp (get_or (0 ∷ ts) i 0); count = i }

-- what is to come leads from there where all leads from the start
pub record Walked (t : Tables) (d : ℕ) (xs ts : List ℕ) (w : Walk) (i : ℕ) : Type 0 where
  pub turns : i ≤ length xs
  pub rest_is :
      step_all t (counted d ts w i) (events_of (drop i xs) (drop i ts)) ≡ step_all t (start_at d) (events_of xs ts)
