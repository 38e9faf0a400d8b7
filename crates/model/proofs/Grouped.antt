-- Groups of atoms, computed: what a guard answers, which texts keep the group rules, an edge's numbers, cm and the pin,
-- and one rule written both ways.
use Rattle.std.specs.Prelude.{Some, None}
use mathlib.Core.Path.{◌≡◌, refl}
use mathlib.Core.Bool.{true, false}
use mathlib.Core.List.{List, [], ◌∷◌, ◌++◌}
use Prim.Native.Nat.{ℕ, zero, suc}
use lib.ListN.{length}
use Rattle.model.specs.Basics.{zeros, mask_of}
use Rattle.model.specs.Texts.{levels_past, atoms_past, members_in, groups_past, groups_ok}
use Rattle.model.specs.Rules.{Edge, Rule, rule, cm, pair_count, integer_reset}
use Rattle.model.specs.Words.{Event, events_of}
use Rattle.model.specs.Guards.{guard}
use Rattle.model.specs.Runs.{accepts_from, accepts_from_some, accepts, held_back}
use Rattle.model.specs.Layout.{edge_numbers, edge_in}
use Rattle.model.specs.Construction.{code_of, location_of, bases_of, start_row, allows, row_resets, target_of, next_row}
use Rattle.model.specs.Construction.{by_intervals, by_symbols, rows_from, rows_of, cell_of, holds_final}
use Rattle.model.specs.Tables.{Tables, tables, tables_by, tables_of}

-- at least 1, and (less than 2, or (not equal 3 and at least 3))
either : List ℕ
either =
    3 ∷ 0 ∷ 3 ∷ 1 ∷ 2 ∷ 3 ∷ 0 ∷ 0 ∷ 2 ∷ 1 ∷ 3 ∷ 0 ∷ 5 ∷ 3 ∷ 3 ∷ 0 ∷ 3 ∷ 3 ∷ 4 ∷ 4 ∷ []

-- ages 0 to 4: the first member fails, all hold, the second fails, the second fails, all hold
either_answers :
    (guard 1 (0 ∷ []) (members_in either) ≡ Some 0) × (guard 1 (1 ∷ []) (members_in either) ≡ None)
    × (guard 1 (2 ∷ []) (members_in either) ≡ Some 1) × (guard 1 (3 ∷ []) (members_in either) ≡ Some 1)
    × (guard 1 (4 ∷ []) (members_in either) ≡ None)
unfolding levels_past either
either_answers = (refl, refl, refl, refl, refl)

-- an empty all-of holds, an empty any-of does not
empty_groups :
    (guard 1 [] (members_in []) ≡ None) × (guard 1 [] (members_in (2 ∷ 4 ∷ [])) ≡ Some 0)
    × (guard 1 [] (members_in (2 ∷ 1 ∷ 4 ∷ 4 ∷ [])) ≡ None)
unfolding levels_past
empty_groups = (refl, refl, refl)

times : ℕ → List ℕ → List ℕ
times zero xs = []
times (suc n) xs = xs ++ times n xs

one : List ℕ
one = 3 ∷ 0 ∷ 3 ∷ 1 ∷ []

-- the rules at their edges: 16 atoms, 8 groups and 4 levels, and one more of each; the kinds of groups; marks
fullest : List ℕ
fullest = times 16 one ++ (times 7 (2 ∷ 4 ∷ []) ++ (2 ∷ 4 ∷ []))

rules_kept :
    (groups_ok [] ≡ true) × (groups_ok either ≡ true) × (groups_ok fullest ≡ true) × (length fullest ≡ 80)
    × (groups_ok (2 ∷ 1 ∷ 2 ∷ 4 ∷ 4 ∷ 4 ∷ []) ≡ true) × (groups_ok (times 16 one) ≡ true)
    × (groups_ok (times 8 (2 ∷ 4 ∷ [])) ≡ true)
    × (groups_ok (times 4 (2 ∷ 1 ∷ 4 ∷ 4 ∷ [])) ≡ true)
unfolding groups_past either fullest times one
rules_kept = (refl, refl, refl, refl, refl, refl, refl, refl)

rules_broken :
    (groups_ok (times 17 one) ≡ false) × (groups_ok (times 9 (2 ∷ 4 ∷ [])) ≡ false)
    × (groups_ok ((2 ∷ []) ++ (times 17 one ++ (4 ∷ []))) ≡ false)
    × (groups_ok (times 4 (2 ∷ 1 ∷ 4 ∷ 4 ∷ []) ++ (2 ∷ 4 ∷ [])) ≡ false)
    × (groups_ok (2 ∷ 1 ∷ 2 ∷ 1 ∷ 4 ∷ 4 ∷ 4 ∷ 4 ∷ []) ≡ false)
    × (groups_ok (1 ∷ 4 ∷ []) ≡ false) × (groups_ok (2 ∷ 2 ∷ 4 ∷ 4 ∷ []) ≡ false)
    × (groups_ok (4 ∷ []) ≡ false) × (groups_ok (2 ∷ []) ≡ false)
    × (groups_ok (3 ∷ 0 ∷ 3 ∷ []) ≡ false) × (groups_ok (5 ∷ []) ≡ false) × (groups_ok (0 ∷ []) ≡ false)
unfolding groups_past times one
rules_broken = (refl, refl, refl, refl, refl, refl, refl, refl, refl, refl, refl, refl)

-- An edge from 0 to 1 on symbol 0: its text at kind 6, and its numbers in the table.
grouped : ℕ → List ℕ → Edge
grouped resets text = record { kind = 6; source = 0; target = 1; symbol = 0; resets = resets; text = text }

plain : List ℕ → Edge
plain text = record { kind = 5; source = 0; target = 1; symbol = 0; resets = 0; text = text }

numbers_are :
    (edge_numbers (grouped 0 either) ≡ (6 ∷ 0 ∷ 1 ∷ 0 ∷ 0 ∷ 20 ∷ []) ++ (either ++ zeros 60))
    × (edge_numbers (plain (0 ∷ 5 ∷ 3 ∷ [])) ≡ 5 ∷ 0 ∷ 1 ∷ 0 ∷ 0 ∷ 1 ∷ 0 ∷ 5 ∷ 3 ∷ zeros 77)
    × (edge_in (edge_numbers (grouped 0 either)) ≡ grouped 0 either)
    × (edge_in (edge_numbers (grouped 0 fullest)) ≡ grouped 0 fullest)
unfolding either grouped plain fullest times one
numbers_are = (refl, refl, refl, refl)

-- cm counts the constants in groups; the pin does not
tops_are :
    (cm (rule 2 1 1 [] [] (grouped 0 either ∷ [])) ≡ 3)
    × (cm (rule 2 1 1 [] [] (plain (0 ∷ 5 ∷ 4 ∷ []) ∷ grouped 0 (2 ∷ 1 ∷ 3 ∷ 0 ∷ 0 ∷ 7 ∷ 4 ∷ 4 ∷ []) ∷ [])) ≡ 7)
    × (integer_reset (grouped 1 (3 ∷ 0 ∷ 2 ∷ 1 ∷ 2 ∷ 4 ∷ [])) ≡ true)
    × (integer_reset (grouped 1 (2 ∷ 4 ∷ 3 ∷ 0 ∷ 3 ∷ 1 ∷ 2 ∷ 3 ∷ 0 ∷ 0 ∷ 9 ∷ 4 ∷ 3 ∷ 0 ∷ 1 ∷ 1 ∷ [])) ≡ true)
    × (integer_reset (grouped 1 (2 ∷ 3 ∷ 0 ∷ 2 ∷ 1 ∷ 4 ∷ [])) ≡ false)
    × (integer_reset (grouped 1 (3 ∷ 0 ∷ 3 ∷ 1 ∷ 2 ∷ 3 ∷ 0 ∷ 1 ∷ 1 ∷ 4 ∷ [])) ≡ false)
    × (integer_reset (grouped 1 (2 ∷ 1 ∷ 3 ∷ 0 ∷ 2 ∷ 1 ∷ 4 ∷ 4 ∷ [])) ≡ false)
    × (integer_reset (grouped 0 (2 ∷ 4 ∷ [])) ≡ true)
    × (integer_reset (grouped 1 (3 ∷ 0 ∷ 5 ∷ 1 ∷ [])) ≡ false)
unfolding levels_past atoms_past cm either grouped plain
tops_are = (refl, refl, refl, refl, refl, refl, refl, refl, refl)

-- The same rule both ways: an edge that is open at 0 and past 1, and that guard as two edges. One table.
one_edge : Rule
one_edge = rule 2 1 1 (0 ∷ []) (1 ∷ []) (grouped 0 (2 ∷ 3 ∷ 0 ∷ 2 ∷ 0 ∷ 3 ∷ 0 ∷ 4 ∷ 1 ∷ 4 ∷ []) ∷ [])

two_edges : Rule
two_edges = rule 2 1 1 (0 ∷ []) (1 ∷ []) (plain (0 ∷ 2 ∷ 0 ∷ []) ∷ plain (0 ∷ 4 ∷ 1 ∷ []) ∷ [])

one_table : Tables
one_table =
    tables (record { locations = 2; symbols = 1; clocks = 1; top = 1; ends = 2; rows = 3; total = 2 })
    ((2 ∷ 4 ∷ 4 ∷ 2 ∷ []) ++ (4 ∷ 4 ∷ 4 ∷ 4 ∷ 4 ∷ 4 ∷ 4 ∷ 4 ∷ []))
    (0 ∷ 1 ∷ 0 ∷ 1 ∷ 1 ∷ 1 ∷ 2 ∷ 0 ∷ 0 ∷ [])
    (0 ∷ 3 ∷ [])

same_table : (tables_of one_edge 12 9 2 ≡ one_table) × (tables_of two_edges 12 9 2 ≡ one_table)
unfolding mask_of levels_past atoms_past cm pair_count code_of location_of bases_of start_row allows row_resets
    target_of next_row
    by_intervals by_symbols rows_from rows_of cell_of holds_final tables_by tables_of grouped plain one_edge two_edges
    one_table
same_table = (refl, refl)

-- a word of one event, at so many half seconds: accepted alike; what held the rule back is a member, or an atom
at : ℕ → List Event
at stamp = events_of (0 ∷ []) (stamp ∷ [])

same_words :
    (accepts one_edge 2 (at 0) ≡ true) × (accepts two_edges 2 (at 0) ≡ true)
    × (accepts one_edge 2 (at 1) ≡ false) × (accepts two_edges 2 (at 1) ≡ false)
    × (accepts one_edge 2 (at 2) ≡ false) × (accepts two_edges 2 (at 2) ≡ false)
    × (accepts one_edge 2 (at 3) ≡ true) × (accepts two_edges 2 (at 3) ≡ true)
    × (held_back one_edge 2 (at 2) ≡ Some 0) × (held_back two_edges 2 (at 2) ≡ Some 0)
    × (held_back (rule 2 1 1 (0 ∷ []) [] (grouped 0 either ∷ [])) 2 (at 5) ≡ Some 1)
unfolding levels_past accepts_from accepts_from_some accepts held_back either grouped plain one_edge two_edges at
same_words = (refl, refl, refl, refl, refl, refl, refl, refl, refl, refl, refl)
