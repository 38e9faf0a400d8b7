-- Refusals 22 to 24, 26 and 30 to 33 on their conditions, with their places, by computation: cases on both sides of
-- each range, and for each two that stand side by side in an order.
use mathlib.Core.Path.{◌≡◌, refl}
use mathlib.Core.Bool.{true}
use mathlib.Core.List.{List, [], ◌∷◌}
use Prim.Native.Nat.{ℕ}
use lib.ListN.{replicate}
use Rattle.model.specs.Basics.{refusal, fine}
use Rattle.model.specs.Rules.{Edge, Rule, rule, cm, pair_count, most_pairs}
use Rattle.model.specs.Words.{events_of, word_refusal}
use Rattle.model.specs.Runs.{by_edges, by_configs, room_refusal_from, room_refusal}
use Rattle.model.specs.Files.{record_refusal, with_record, at_end, read_from, read_rule}
use Rattle.model.specs.Construction.{code_of, location_of, bases_of, start_row, allows, row_resets, target_of}
use Rattle.model.specs.Construction.{next_row, by_intervals, by_symbols, rows_from, rows_of}
use Rattle.model.specs.Tables.{row_room, fit_refusal, most_scratch, scratch_need, table_refusal}
use Rattle.model.proofs.Examples.{worked_file, worked, second_locations, second_records, second_file, second}
use Rattle.model.proofs.Cases.{Case, case, all_met, free_edge, forks}

-- 30 to 33: D, the two counts, the most events; then by event, 32 before 33, the earliest bad event
words : List Case
words =
    case (word_refusal 2 0 4096 [] []) (refusal 30 0)
    ∷ case (word_refusal 2 1 4096 [] []) fine
    ∷ case (word_refusal 2 1000 4096 [] []) fine
    ∷ case (word_refusal 2 1001 4096 [] []) (refusal 30 0)
    ∷ case (word_refusal 2 1001 4096 (9 ∷ []) []) (refusal 30 0)
    ∷ case (word_refusal 2 1 4096 (9 ∷ []) []) (refusal 31 0)
    ∷ case (word_refusal 2 1 4096 (0 ∷ []) (0 ∷ 0 ∷ [])) (refusal 31 0)
    ∷ case (word_refusal 2 1 12 (replicate 13 9) (replicate 13 0)) (refusal 31 0)
    ∷ case (word_refusal 2 1 12 (replicate 12 1) (replicate 12 0)) fine
    ∷ case (word_refusal 2 1 4096 (replicate 4096 1) (replicate 4096 7)) fine
    ∷ case (word_refusal 2 1 4096 (replicate 4097 2) (replicate 4097 7)) (refusal 31 0)
    ∷ case (word_refusal 2 1 4096 (2 ∷ []) (5 ∷ [])) (refusal 32 1)
    ∷ case (word_refusal 2 1 4096 (0 ∷ 2 ∷ []) (5 ∷ 4 ∷ [])) (refusal 32 2)
    ∷ case (word_refusal 2 1 4096 (0 ∷ 1 ∷ 2 ∷ []) (5 ∷ 4 ∷ 9 ∷ [])) (refusal 33 2)
    ∷ case (word_refusal 2 1 4096 (0 ∷ 2 ∷ 1 ∷ []) (5 ∷ 6 ∷ 4 ∷ [])) (refusal 32 2)
    ∷ case (word_refusal 2 1 4096 (0 ∷ 1 ∷ 1 ∷ []) (5 ∷ 6 ∷ 5 ∷ [])) (refusal 33 3)
    ∷ case (word_refusal 2 1 4096 (0 ∷ 1 ∷ []) (5 ∷ 5 ∷ [])) fine
    ∷ []

words_met : all_met words ≡ true
unfolding word_refusal all_met words
words_met = refl

-- 22 to 24 of the worked case: 6 pairs in one number, 3 rows of 8 cells, 2 codes; 23 before 24 for one row, the first
-- row that does not fit. The second rule: 48 pairs in two numbers, 6 rows of 12 cells, 7 codes.
rooms : List Case
rooms =
    case (table_refusal worked 0 0 0 0) (refusal 22 0)
    ∷ case (table_refusal worked 1 24 9 2) fine
    ∷ case (table_refusal worked 1 23 9 2) (refusal 23 0)
    ∷ case (table_refusal worked 1 24 8 2) (refusal 23 0)
    ∷ case (table_refusal worked 1 24 9 1) (refusal 24 0)
    ∷ case (table_refusal worked 1 24 8 1) (refusal 23 0)
    ∷ case (table_refusal worked 1 24 8 0) (refusal 24 0)
    ∷ case (table_refusal worked 1 7 9 0) (refusal 23 0)
    ∷ case (table_refusal worked 1 8 3 0) (refusal 24 0)
    ∷ case (table_refusal worked 1 0 0 0) (refusal 23 0)
    ∷ case (table_refusal second 1 72 18 7) (refusal 22 0)
    ∷ case (table_refusal second 2 72 18 7) fine
    ∷ case (table_refusal second 2 71 18 7) (refusal 23 0)
    ∷ case (table_refusal second 2 72 17 7) (refusal 23 0)
    ∷ case (table_refusal second 2 72 18 6) (refusal 24 0)
    ∷ case (table_refusal second 2 71 18 6) (refusal 23 0)
    ∷ case (table_refusal second 2 71 18 5) (refusal 24 0)
    ∷ []

rooms_met : all_met rooms ≡ true
unfolding cm pair_count record_refusal with_record at_end read_from read_rule code_of location_of bases_of start_row
    allows
    row_resets target_of next_row by_intervals by_symbols rows_from rows_of row_room fit_refusal scratch_need
    table_refusal
    worked_file worked second_locations second_records second_file second all_met rooms
rooms_met = refl

-- the scratch that a build needs, for N of 31, 32, 33, 64, 65 and 65,536
up_to : ℕ → Edge
up_to c = record { kind = 5; source = 0; target = 0; symbol = 0; resets = 0; text = 0 ∷ 1 ∷ c ∷ [] }

sized : ℕ → ℕ → ℕ → Rule
sized l k top = rule l 1 k [] [] (up_to top ∷ [])

needs_are :
    (scratch_need (sized 1 1 29) ≡ 1) × (scratch_need (sized 16 1 0) ≡ 1) × (scratch_need (sized 11 1 1) ≡ 2)
    × (scratch_need (sized 32 1 0) ≡ 2)
    × (scratch_need (sized 13 1 3) ≡ 3)
    × (pair_count (sized 16 3 14) ≡ most_pairs)
    × (scratch_need (sized 16 3 14) ≡ most_scratch)
unfolding cm pair_count scratch_need up_to sized
needs_are = (refl, refl, refl, refl, refl, refl, refl)

-- room for rows: 4,096, a third of the row table, or the cells over S · W, both rounded down; row 4,096 does not fit
row_rooms : Type 0
row_rooms =
    (row_room worked 100000 100000 ≡ 4096) × (row_room worked 100000 12290 ≡ 4096) ×
    (row_room worked 100000 12287 ≡ 4095)
    × (row_room worked 32775 100000 ≡ 4096)
    × (row_room worked 32767 100000 ≡ 4095)
    × (fit_refusal 4095 4096 0 0 ([] ∷ []) ≡ fine)
    × (fit_refusal 4095 4096 0 0 ([] ∷ [] ∷ []) ≡ refusal 23 0)

row_rooms_are : row_rooms
unfolding cm pair_count record_refusal with_record at_end read_from read_rule row_room fit_refusal worked_file worked
    row_rooms
row_rooms_are = (refl, refl, refl, refl, refl, refl, refl)

-- 26: more configurations than room, before the first event and after the first and the second; equal ones are one
fulls : List Case
fulls =
    case (room_refusal worked 2 0 []) (refusal 26 0)
    ∷ case (room_refusal worked 2 1 (events_of (0 ∷ 1 ∷ []) (2 ∷ 4 ∷ []))) fine
    ∷ case (room_refusal worked 2 1 (events_of (1 ∷ 1 ∷ []) (2 ∷ 4 ∷ []))) fine
    ∷ case (room_refusal second 2 1 []) (refusal 26 0)
    ∷ case (room_refusal second 2 1 (events_of (0 ∷ []) (0 ∷ []))) (refusal 26 0)
    ∷ case (room_refusal second 2 2 []) fine
    ∷ case (room_refusal forks 1 1 (events_of (0 ∷ 0 ∷ []) (0 ∷ 1 ∷ []))) fine
    ∷ case (room_refusal forks 1 1 (events_of (1 ∷ []) (0 ∷ []))) (refusal 26 1)
    ∷ case (room_refusal forks 1 2 (events_of (1 ∷ []) (0 ∷ []))) fine
    ∷ case (room_refusal forks 1 1 (events_of (0 ∷ 1 ∷ []) (0 ∷ 1 ∷ []))) (refusal 26 2)
    ∷ case (room_refusal forks 1 1 (events_of (0 ∷ 1 ∷ 0 ∷ []) (0 ∷ 1 ∷ 1 ∷ []))) (refusal 26 2)
    ∷ case (room_refusal forks 1 2 (events_of (0 ∷ 1 ∷ 0 ∷ []) (0 ∷ 1 ∷ 1 ∷ []))) fine
    ∷ case (room_refusal forks 1 2 (events_of (1 ∷ 1 ∷ []) (0 ∷ 1 ∷ []))) fine
    ∷ case (room_refusal forks 1 2 (events_of (2 ∷ 2 ∷ []) (1 ∷ 2 ∷ []))) (refusal 26 2)
    ∷ case (room_refusal forks 1 3 (events_of (2 ∷ 2 ∷ []) (1 ∷ 2 ∷ []))) fine
    ∷ []

fulls_met : all_met fulls ≡ true
unfolding cm pair_count record_refusal with_record at_end read_from read_rule by_edges by_configs room_refusal_from
    room_refusal
    worked_file worked second_locations second_records second_file second free_edge forks all_met fulls
fulls_met = refl
