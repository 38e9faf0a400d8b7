-- The follower by computation: the order of its refusals, and whole answers with the follower after them. The tables
-- are those of the two rules.
use mathlib.Core.Path.{◌≡◌, refl}
use mathlib.Core.Bool.{Bool, true, false}
use mathlib.Core.List.{List, [], ◌∷◌}
use Prim.Native.Nat.{ℕ}
use Rattle.model.specs.declared.Stamp.{Stamp}
use Rattle.model.specs.declared.Follower.{Follower}
use Rattle.model.specs.declared.Followed.{Followed}
use Rattle.model.specs.Basics.{Refusal, refusal, fine}
use Rattle.model.specs.Walks.{in_shape, shape_refusal, verdict, step, follow_refusal}
use Rattle.model.specs.Promises.{StartsFollower, followed, FollowsEvent}
use Rattle.model.proofs.Examples.{worked_tables, second_tables}
use Rattle.model.proofs.Cases.{Case, case, all_met}

at : ℕ → Stamp
at t = record { 0 = t }

standing : ℕ → ℕ → ℕ → ℕ → ℕ → Follower
standing d row reset last count = record { grain = d; row = row; reset = at reset; last = at last; count = count }

-- D outside its range is 30, and then D is zero too
starts : Type 0
starts =
    StartsFollower 0 (record { number = 30; place = 0; follower = standing 0 0 0 0 0 })
    × StartsFollower 1 (record { number = 0; place = 0; follower = standing 1 0 0 0 0 })
    × StartsFollower 1000 (record { number = 0; place = 0; follower = standing 1000 0 0 0 0 })
    × StartsFollower 1001 (record { number = 30; place = 0; follower = standing 0 0 0 0 0 })

starts_are : starts
unfolding at standing starts
starts_are =
    (record { answer_is = refl }, record { answer_is = refl }, record { answer_is = refl }, record { answer_is = refl })

-- the order 25, 30, 34, 31, 32, 33; the event is number count + 1; 34 on both sides of each of its conditions
follows : Follower → ℕ → ℕ → Refusal
follows f symbol stamp = follow_refusal worked_tables f (record { symbol = symbol; stamp = stamp })

followers : List Case
followers =
    case (follows (standing 2 2 2 2 1) 1 4) fine
    ∷ case (follows (standing 0 9 0 0 0) 9 0) (refusal 30 0)
    ∷ case (follows (standing 1001 3 0 0 0) 1 0) (refusal 30 0)
    ∷ case (follows (standing 1000 2 0 0 0) 1 0) fine
    ∷ case (follows (standing 2 3 0 0 4096) 9 0) (refusal 34 0)
    ∷ case (follows (standing 2 3 0 0 0) 1 0) (refusal 34 0)
    ∷ case (follows (standing 2 2 4 3 1) 1 9) (refusal 34 0)
    ∷ case (follows (standing 2 2 4 4 1) 1 9) fine
    ∷ case (follows (standing 2 2 3 3 1) 1 9) (refusal 34 0)
    ∷ case (follows (standing 3 2 3 3 1) 1 9) fine
    ∷ case (follows (standing 2 2 2 2 4097) 1 9) (refusal 34 0)
    ∷ case (follows (standing 2 2 2 2 4096) 1 9) (refusal 31 0)
    ∷ case (follows (standing 2 2 2 2 4096) 9 0) (refusal 31 0)
    ∷ case (follows (standing 2 2 2 2 4095) 1 9) fine
    ∷ case (follows (standing 2 2 2 2 4095) 2 0) (refusal 32 4096)
    ∷ case (follows (standing 2 2 2 2 4095) 1 1) (refusal 33 4096)
    ∷ case (follows (standing 2 2 2 4 4095) 1 3) (refusal 33 4096)
    ∷ []

followers_met : all_met followers ≡ true
unfolding in_shape shape_refusal follow_refusal worked_tables all_met at standing follows followers
followers_met = refl

-- an event over the worked table, or over the same one with a row less than its built record says
answers : Follower → ℕ → ℕ → Followed → Type 0
answers f symbol t answer =
    FollowsEvent f worked_tables.built worked_tables.cells worked_tables.rows worked_tables.pool symbol
    (at t)
    answer

short_answers : Follower → ℕ → ℕ → Followed → Type 0
short_answers f symbol t answer =
    FollowsEvent f worked_tables.built worked_tables.cells (0 ∷ 1 ∷ 1 ∷ 1 ∷ 0 ∷ 0 ∷ []) worked_tables.pool
    symbol
    (at t)
    answer

refused : ℕ → ℕ → Follower → Followed
refused number place f = record { number = number; place = place; yes = false; follower = f }

moved : Bool → Follower → Followed
moved says f = record { number = 0; place = 0; yes = says; follower = f }

-- the row and the last stamp move, the reset stamp only at a timer reset, and the count by 1; D stays
moves : Type 0
moves =
    answers (standing 2 0 0 0 0) 0 2 (moved false (standing 2 2 2 2 1))
    × answers (standing 2 2 2 2 1) 1 4 (moved true (standing 2 0 2 4 2))
    × answers (standing 2 2 2 2 1) 1 3 (moved false (standing 2 1 2 3 2))
    × answers (standing 2 0 2 4 2) 0 4 (moved false (standing 2 2 4 4 3))
    × answers (standing 3 2 3 3 4095) 1 7 (moved true (standing 3 0 3 7 4096))
    × answers (standing 2 0 0 0 0) 0 1 (moved false (standing 2 1 0 1 1))
    × answers (standing 2 0 0 0 0) 0 3 (moved false (standing 2 1 0 3 1))

moves_are : moves
unfolding in_shape shape_refusal verdict step follow_refusal followed worked_tables at standing answers moved moves
moves_are = (
  record { answer_is = refl },
  record { answer_is = refl },
  record { answer_is = refl },
  record { answer_is = refl },
  record { answer_is = refl },
  record { answer_is = refl },
  record { answer_is = refl },
)

-- over the second table, whose cells tell symbols and the intervals between whole seconds apart
second_answers : Follower → ℕ → ℕ → Followed → Type 0
second_answers f symbol t answer =
    FollowsEvent f second_tables.built second_tables.cells second_tables.rows second_tables.pool symbol
    (at t)
    answer

second_moves : Type 0
second_moves =
    second_answers (standing 2 3 0 0 0) 0 1 (moved true (standing 2 5 0 1 1))
    × second_answers (standing 2 3 0 0 0) 0 0 (moved true (standing 2 4 0 0 1))
    × second_answers (standing 2 4 0 0 0) 1 3 (moved true (standing 2 5 0 3 1))

second_moves_are : second_moves
unfolding in_shape shape_refusal verdict step follow_refusal followed second_tables at standing second_answers moved
    second_moves
second_moves_are = (record { answer_is = refl }, record { answer_is = refl }, record { answer_is = refl })

-- a refused event leaves the follower as it was, and says no; the row in which it stands has verdict yes
stays : Type 0
stays =
    short_answers (standing 0 3 0 4 4096) 2 3 (refused 25 0 (standing 0 3 0 4 4096))
    × answers (standing 0 3 0 4 4096) 2 3 (refused 30 0 (standing 0 3 0 4 4096))
    × answers (standing 2 3 0 4 4096) 2 3 (refused 34 0 (standing 2 3 0 4 4096))
    × answers (standing 2 0 0 4 4096) 2 3 (refused 31 0 (standing 2 0 0 4 4096))
    × answers (standing 2 0 0 4 7) 2 3 (refused 32 8 (standing 2 0 0 4 7))
    × answers (standing 2 0 0 4 7) 1 3 (refused 33 8 (standing 2 0 0 4 7))

stays_are : stays
unfolding in_shape shape_refusal verdict step follow_refusal followed worked_tables at standing answers short_answers
    refused stays
stays_are = (
  record { answer_is = refl },
  record { answer_is = refl },
  record { answer_is = refl },
  record { answer_is = refl },
  record { answer_is = refl },
  record { answer_is = refl },
)
