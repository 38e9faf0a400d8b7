-- Runs, the least run, guards and what held a rule back, and the walk over the rows, by computation: what counts as a
-- run, which run is the least, and which atom is named.
use Rattle.std.specs.Prelude.{Option, Some, None}
use mathlib.Core.Path.{◌≡◌, refl}
use mathlib.Core.Bool.{true, false}
use mathlib.Core.List.{List, [], ◌∷◌}
use Prim.Native.Nat.{ℕ}
use Rattle.model.specs.Texts.{plain_atoms, flat}
use Rattle.model.specs.Rules.{Edge, Rule, rule, cm, pair_count}
use Rattle.model.specs.Words.{Event, events_of}
use Rattle.model.specs.Guards.{guard}
use Rattle.model.specs.Runs.{is_accepting_run, accepts_from, accepts_from_some, accepts, path, least_from, least_start}
use Rattle.model.specs.Runs.{least_run, held_back}
use Rattle.model.specs.Files.{record_refusal, with_record, at_end, read_from, read_rule}
use Rattle.model.specs.Construction.{code_of, location_of, bases_of, start_row, allows, row_resets, target_of}
use Rattle.model.specs.Construction.{next_row, holds_final, walks_from, walks}
use Rattle.model.proofs.Examples.{worked_file, worked}
use Rattle.model.proofs.Cases.{free_edge}

-- P3 and P7 with D = 2
third : List Event
third = events_of (0 ∷ 1 ∷ []) (2 ∷ 4 ∷ [])

seventh : List Event
seventh = events_of (0 ∷ 1 ∷ 0 ∷ 1 ∷ []) (2 ∷ 4 ∷ 4 ∷ 6 ∷ [])

-- from an initial location, one edge for each event, each of them in the rule and leaving where the run is
runs : Type 0
runs =
    (is_accepting_run worked 2 third 0 (0 ∷ 1 ∷ []) ≡ true) × (is_accepting_run worked 2 third 1 (0 ∷ 1 ∷ []) ≡ false)
    × (is_accepting_run worked 2 third 0 (0 ∷ 0 ∷ []) ≡ false)
    × (is_accepting_run worked 2 third 0 (0 ∷ 2 ∷ []) ≡ false)
    × (is_accepting_run worked 2 third 0 (0 ∷ []) ≡ false)
    × (is_accepting_run worked 2 third 0 (0 ∷ 1 ∷ 0 ∷ []) ≡ false)
    × (is_accepting_run worked 2 seventh 0 (0 ∷ 1 ∷ 0 ∷ 1 ∷ []) ≡ true)
    × (is_accepting_run worked 2 [] 0 [] ≡ true)
    × (is_accepting_run worked 2 [] 1 [] ≡ false)
    × (is_accepting_run worked 2 (events_of (1 ∷ []) (2 ∷ [])) 1 (1 ∷ []) ≡ false)

runs_are : runs
unfolding cm pair_count is_accepting_run record_refusal with_record at_end read_from read_rule worked_file worked third
    seventh runs
runs_are = (refl, refl, refl, refl, refl, refl, refl, refl, refl, refl)

-- two starts: with no event only location 1 serves; by the first event 0 by edge 1 comes before 1 by edge 0
two_starts : Rule
two_starts = rule 2 1 1 (0 ∷ 1 ∷ []) (1 ∷ []) (free_edge 1 1 0 ∷ free_edge 0 1 0 ∷ free_edge 0 1 0 ∷ [])

leasts : Type 0
leasts =
    (accepts two_starts 1 [] ≡ true) × (least_run two_starts 1 [] ≡ path true 1 [])
    × (least_run two_starts 1 (events_of (0 ∷ []) (0 ∷ [])) ≡ path true 0 (1 ∷ []))
    × (least_run two_starts 1 (events_of (0 ∷ 0 ∷ []) (0 ∷ 7 ∷ [])) ≡ path true 0 (1 ∷ 0 ∷ []))

leasts_are : leasts
unfolding accepts_from accepts_from_some accepts least_from least_start least_run free_edge two_starts leasts
leasts_are = (refl, refl, refl, refl)

-- The first atom that fails. x0 at least 1, x1 at most 3, x0 equal 2: at ages of D = 1 and 2, and at regions.
bounds : List ℕ
bounds = 0 ∷ 3 ∷ 1 ∷ 1 ∷ 1 ∷ 3 ∷ 0 ∷ 2 ∷ 2 ∷ []

asks : ℕ → List ℕ → List ℕ → Option ℕ
asks unit readings text = guard unit readings (flat (plain_atoms text))

guards : Type 0
guards =
    (asks 1 (0 ∷ 9 ∷ []) bounds ≡ Some 0) × (asks 1 (2 ∷ 9 ∷ []) bounds ≡ Some 1)
    × (asks 1 (1 ∷ 3 ∷ []) bounds ≡ Some 2)
    × (asks 1 (2 ∷ 3 ∷ []) bounds ≡ None)
    × (asks 2 (1 ∷ 6 ∷ []) bounds ≡ Some 0)
    × (asks 2 (4 ∷ 7 ∷ []) bounds ≡ Some 1)
    × (asks 2 (5 ∷ 6 ∷ []) bounds ≡ Some 2)
    × (asks 2 (4 ∷ 6 ∷ []) bounds ≡ None)
    × (asks 1 (4 ∷ []) [] ≡ None)

guards_are : guards
unfolding bounds asks guards
guards_are = (refl, refl, refl, refl, refl, refl, refl, refl, refl)

-- What held a rule back, D = 2. Initial are 1 and 2: edge 0 leaves neither, edge 1 has symbol 1, edge 2 is the lowest
-- on symbol 0, edge 3 can always be taken, edge 4 never.
edge_from : ℕ → ℕ → List ℕ → Edge
edge_from source symbol text =
    record { kind = 5; source = source; target = 0; symbol = symbol; resets = 0; text = text }

waits : List ℕ → Rule
waits final =
    rule 3 3 2 (1 ∷ 2 ∷ []) final
    (edge_from 0 0 (0 ∷ 2 ∷ 9 ∷ [])
    ∷ edge_from 1 1 (0 ∷ 3 ∷ 0 ∷ 1 ∷ 0 ∷ 0 ∷ [])
    ∷ edge_from 2 0 bounds
    ∷ edge_from 1 0 []
    ∷ edge_from 1 0 (1 ∷ 0 ∷ 0 ∷ [])
    ∷ [])

helds : Type 0
helds =
    (held_back (waits []) 2 [] ≡ None) × (held_back (waits []) 2 (events_of (0 ∷ []) (1 ∷ [])) ≡ Some 0)
    × (held_back (waits []) 2 (events_of (0 ∷ []) (3 ∷ [])) ≡ Some 2)
    × (held_back (waits []) 2 (events_of (0 ∷ []) (4 ∷ [])) ≡ None)
    × (held_back (waits []) 2 (events_of (0 ∷ []) (7 ∷ [])) ≡ Some 1)
    × (held_back (waits []) 2 (events_of (0 ∷ 1 ∷ []) (7 ∷ 8 ∷ [])) ≡ Some 1)
    × (held_back (waits []) 2 (events_of (1 ∷ 0 ∷ []) (4 ∷ 7 ∷ [])) ≡ Some 1)
    × (held_back (waits []) 2 (events_of (2 ∷ []) (1 ∷ [])) ≡ None)
    × (held_back (waits (0 ∷ [])) 2 (events_of (0 ∷ []) (1 ∷ [])) ≡ None)
    × (held_back (waits (0 ∷ [])) 2 (events_of (1 ∷ []) (1 ∷ [])) ≡ Some 1)
    × (held_back (waits (0 ∷ [])) 2 (events_of (0 ∷ 0 ∷ []) (1 ∷ 2 ∷ [])) ≡ Some 0)

helds_are : helds
unfolding accepts_from accepts_from_some accepts held_back bounds edge_from waits helds
helds_are = (refl, refl, refl, refl, refl, refl, refl, refl, refl, refl, refl)

-- an edge back to 0, and one to 1 at age 1 that resets the clock
stays_or_resets : Rule
stays_or_resets =
    rule 2 1 1 (0 ∷ []) []
    (free_edge 0 0 0
    ∷ record { kind = 5; source = 0; target = 1; symbol = 0; resets = 1; text = 0 ∷ 2 ∷ 1 ∷ [] }
    ∷ [])

-- "above cm" is above it at every interval, and a base brought forward is cut there: codes 2 and 5 have base 2, cm is 1
aboves : Type 0
aboves =
    (next_row worked 1 0 (5 ∷ []) ≡ 2 ∷ []) × (next_row worked 1 3 (5 ∷ []) ≡ 2 ∷ []) ×
    (next_row worked 0 2 (2 ∷ []) ≡ [])
    × (next_row worked 0 0 (1 ∷ []) ≡ 3 ∷ [])
    × (next_row stays_or_resets 0 2 (0 ∷ 2 ∷ []) ≡ 1 ∷ 2 ∷ 3 ∷ [])

aboves_are : aboves
unfolding cm pair_count record_refusal with_record at_end read_from read_rule code_of location_of bases_of allows
    row_resets
    target_of next_row worked_file worked free_edge stays_or_resets aboves
aboves_are = (refl, refl, refl, refl, refl)

-- the one timer walks from its last reset, not from the event before
walks_all : Type 0
walks_all =
    (walks worked 2 [] ≡ true) × (walks worked 2 (events_of (0 ∷ []) (2 ∷ [])) ≡ false) × (walks worked 2 third ≡ true)
    × (walks worked 2 (events_of (0 ∷ 1 ∷ []) (2 ∷ 3 ∷ [])) ≡ false)
    × (walks worked 2 seventh ≡ true)
    × (walks worked 3 (events_of (0 ∷ 1 ∷ []) (3 ∷ 7 ∷ [])) ≡ true)
    × (walks worked 2 (events_of (0 ∷ 1 ∷ 0 ∷ []) (2 ∷ 4 ∷ 6 ∷ [])) ≡ false)
    × (walks worked 2 (events_of (0 ∷ 1 ∷ 0 ∷ 1 ∷ []) (2 ∷ 5 ∷ 7 ∷ 9 ∷ [])) ≡ false)

walks_are : walks_all
unfolding cm pair_count record_refusal with_record at_end read_from read_rule code_of location_of bases_of start_row
    allows
    row_resets target_of next_row holds_final walks_from walks worked_file worked third seventh walks_all
walks_are = (refl, refl, refl, refl, refl, refl, refl, refl)
