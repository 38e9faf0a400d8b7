-- Whole calls of the reader, of the writer and of the check of a rule, by computation: the answer, and every number of
-- the lent table after it. Outcomes.antt has that there is no other outcome.
use mathlib.Core.Path.{refl}
use mathlib.Core.List.{List, [], ◌∷◌, ◌++◌}
use Prim.Native.Nat.{ℕ}
use lib.ListN.{replicate, drop}
use Rattle.model.specs.declared.Head.{Head}
use Rattle.model.specs.declared.Answer.{Answer}
use Rattle.model.specs.declared.Reading.{Reading}
use Rattle.model.specs.Basics.{mask_of, bits_from}
use Rattle.model.specs.Texts.{levels_past, atoms_past, groups_past}
use Rattle.model.specs.Rules.{cm, pair_count, valid_rule}
use Rattle.model.specs.Files.{numbers, record_refusal, with_record, at_end, read_from, read_rule, edge_records}
use Rattle.model.specs.Files.{file_with, rule_bytes}
use Rattle.model.specs.Layout.{edges_numbers, edge_table, rule_in, is_readable, rule_refusal}
use Rattle.model.specs.Promises.{ChecksRule, read_refusal, ReadsRule, write_refusal, WritesRule}
use Rattle.model.proofs.Examples.{worked_file, second_locations, second_records, second_file, second_less}
use Rattle.model.proofs.Examples.{sided_file}
use Rattle.model.proofs.Cases.{worked_head, worked_edges, zero_head}

-- the head record and the edge table of the second rule
second_head : Head
second_head = record { locations = 3; symbols = 2; clocks = 2; starts = 3; ends = 4; count = 5 }

second_edges : List ℕ
second_edges =
    (5 ∷ 0 ∷ 1 ∷ 1 ∷ 2 ∷ 2 ∷ 0 ∷ 2 ∷ 1 ∷ 1 ∷ 1 ∷ 1 ∷ replicate 74 0)
    ++ ((5 ∷ 1 ∷ 2 ∷ 0 ∷ 0 ∷ 2 ∷ 1 ∷ 0 ∷ 1 ∷ 0 ∷ 3 ∷ 1 ∷ replicate 74 0)
    ++ ((5 ∷ 1 ∷ 0 ∷ 0 ∷ 1 ∷ 1 ∷ 0 ∷ 2 ∷ 1 ∷ replicate 77 0)
    ++ ((5 ∷ 2 ∷ 2 ∷ 1 ∷ 0 ∷ 2 ∷ 1 ∷ 4 ∷ 1 ∷ 0 ∷ 4 ∷ 0 ∷ replicate 74 0)
    ++ ((5 ∷ 2 ∷ 0 ∷ 0 ∷ 0 ∷ 2 ∷ 0 ∷ 0 ∷ 0 ∷ 0 ∷ 1 ∷ 2 ∷ replicate 74 0) ++ replicate 21588 0))))

-- pinned from both sides; the first edge's at-most with any constant
sided_edges : ℕ → List ℕ
sided_edges constant =
    (5 ∷ 0 ∷ 1 ∷ 1 ∷ 2 ∷ 3 ∷ 0 ∷ 1 ∷ constant ∷ 1 ∷ 1 ∷ 1 ∷ 0 ∷ 3 ∷ 1 ∷ replicate 71 0)
    ++ ((5 ∷ 1 ∷ 2 ∷ 0 ∷ 0 ∷ 2 ∷ 1 ∷ 0 ∷ 1 ∷ 0 ∷ 3 ∷ 1 ∷ replicate 74 0)
    ++ ((5 ∷ 1 ∷ 0 ∷ 0 ∷ 1 ∷ 2 ∷ 0 ∷ 3 ∷ 1 ∷ 0 ∷ 1 ∷ 1 ∷ replicate 74 0)
    ++ ((5 ∷ 2 ∷ 2 ∷ 1 ∷ 0 ∷ 2 ∷ 1 ∷ 4 ∷ 1 ∷ 0 ∷ 4 ∷ 0 ∷ replicate 74 0)
    ++ ((5 ∷ 2 ∷ 0 ∷ 0 ∷ 0 ∷ 2 ∷ 0 ∷ 0 ∷ 0 ∷ 0 ∷ 1 ∷ 2 ∷ replicate 74 0) ++ replicate 21586 0))))

-- the widest rule: 32 locations, 16 symbols, 4 clocks, an edge with eight atoms; the last location in both sets
eight_atoms : List ℕ
eight_atoms =
    (3 ∷ 2 ∷ 4 ∷ 2 ∷ 1 ∷ 3 ∷ 1 ∷ 0 ∷ 2 ∷ 0 ∷ 3 ∷ 1 ∷ [])
    ++ (3 ∷ 4 ∷ 0 ∷ 2 ∷ 2 ∷ 4 ∷ 1 ∷ 1 ∷ 3 ∷ 0 ∷ 0 ∷ 2 ∷ [])

widest_with : List ℕ → List ℕ
widest_with between =
    numbers
    ((6 ∷ 1 ∷ 32 ∷ 16 ∷ 4 ∷ [])
    ++ ((2 ∷ 2 ∷ 0 ∷ 2 ∷ 2 ∷ 31 ∷ [])
    ++ ((2 ∷ 3 ∷ 31 ∷ []) ++ (between ++ ((56 ∷ 5 ∷ 31 ∷ 30 ∷ 15 ∷ 14 ∷ []) ++ eight_atoms)))))

widest_file : List ℕ
widest_file = widest_with []

widest_head : Head
widest_head =
    record { locations = 32; symbols = 16; clocks = 4; starts = 2147483649; ends = 2147483648; count = 1 }

widest_edges : List ℕ
widest_edges = (5 ∷ 31 ∷ 30 ∷ 15 ∷ 14 ∷ 8 ∷ []) ++ (eight_atoms ++ replicate 21987 0)

-- both kinds: an edge without a guard, and one with a text in which a place may be changed
mixed_text : ℕ → List ℕ
mixed_text mark = 3 ∷ 0 ∷ 3 ∷ 1 ∷ mark ∷ 3 ∷ 0 ∷ 5 ∷ 2 ∷ 1 ∷ 3 ∷ 0 ∷ 0 ∷ 9 ∷ 4 ∷ 4 ∷ []

mixed_file : List ℕ
mixed_file =
    numbers
    ((6 ∷ 1 ∷ 2 ∷ 2 ∷ 1 ∷ [])
    ++ ((2 ∷ 2 ∷ 0 ∷ []) ++ ((8 ∷ 5 ∷ 0 ∷ 1 ∷ 0 ∷ 0 ∷ []) ++ ((40 ∷ 6 ∷ 1 ∷ 0 ∷ 1 ∷ 0 ∷ []) ++ mixed_text 2))))

mixed_head : Head
mixed_head = record { locations = 2; symbols = 2; clocks = 1; starts = 1; ends = 0; count = 2 }

mixed_edge : ℕ → ℕ → ℕ → List ℕ
mixed_edge count mark unused = (6 ∷ 1 ∷ 0 ∷ 1 ∷ 0 ∷ count ∷ []) ++ (mixed_text mark ++ (unused ∷ replicate 63 0))

plain_edge : ℕ → ℕ → List ℕ
plain_edge count unused = (5 ∷ 0 ∷ 1 ∷ 0 ∷ 0 ∷ count ∷ []) ++ (replicate 79 0 ++ (unused ∷ []))

mixed_edges : List ℕ
mixed_edges = plain_edge 0 0 ++ (mixed_edge 16 2 0 ++ replicate 21844 0)

reading : ℕ → ℕ → Head → Reading
reading number place head = record { number = number; place = place; head = head }

answer : ℕ → ℕ → Answer
answer number value = record { number = number; place = 0; value = value }

-- 20, before all else: the table is untouched, the head record zero
reads_untouched : Type 0
reads_untouched =
    ReadsRule worked_file (replicate 22015 5) (replicate 22015 5) (reading 20 0 zero_head)
    × ReadsRule (0 ∷ []) (5 ∷ []) (5 ∷ []) (reading 20 0 zero_head)

reads_untouched_are : reads_untouched
unfolding mask_of cm pair_count record_refusal with_record at_end read_from read_rule edges_numbers edge_table
    read_refusal
    worked_file reading reads_untouched
reads_untouched_are = (record { answer_is = refl; edges_are = refl }, record { answer_is = refl; edges_are = refl })

-- 1 to 8: head record and table are zero, to the table's end
reads_zeroed : Type 0
reads_zeroed =
    ReadsRule (0 ∷ []) (replicate 22016 5) (replicate 22016 0) (reading 1 0 zero_head)
    × ReadsRule (worked_file ++ numbers (2 ∷ 7 ∷ 0 ∷ [])) (replicate 22016 5) (replicate 22016 0)
    (reading 2 58 zero_head)
    × ReadsRule [] (replicate 22017 5) (replicate 22017 0) (reading 3 0 zero_head)
    × ReadsRule (widest_with (2 ∷ 4 ∷ 0 ∷ 2 ∷ 4 ∷ 1 ∷ [])) (replicate 22016 5) (replicate 22016 0)
    (reading 3 34 zero_head)
    × ReadsRule (widest_with (2 ∷ 4 ∷ 31 ∷ [])) (replicate 22016 5) (replicate 22016 0) (reading 6 28 zero_head)
    × ReadsRule (numbers (6 ∷ 1 ∷ 0 ∷ 1 ∷ 1 ∷ [])) (replicate 22016 5) (replicate 22016 0) (reading 5 0 zero_head)
    × ReadsRule (worked_file ++ numbers (8 ∷ 5 ∷ 0 ∷ 0 ∷ 2 ∷ 0 ∷ [])) (replicate 22016 5) (replicate 22016 0)
    (reading 6 58 zero_head)
    × ReadsRule (worked_file ++ numbers (8 ∷ 5 ∷ 0 ∷ 0 ∷ 0 ∷ 1 ∷ [])) (replicate 22016 5) (replicate 22016 0)
    (reading 7 58 zero_head)
    × ReadsRule (numbers (6 ∷ 1 ∷ 17 ∷ 1 ∷ 3 ∷ 14 ∷ 5 ∷ 0 ∷ 0 ∷ 0 ∷ 0 ∷ 0 ∷ 1 ∷ 14 ∷ [])) (replicate 22016 5)
    (replicate 22016 0)
    (reading 8 28 zero_head)

reads_zeroed_are : reads_zeroed
unfolding mask_of cm pair_count record_refusal with_record at_end read_from read_rule edges_numbers edge_table
    read_refusal
    worked_file eight_atoms widest_with reading reads_zeroed
reads_zeroed_are = (
  record { answer_is = refl; edges_are = refl },
  record { answer_is = refl; edges_are = refl },
  record { answer_is = refl; edges_are = refl },
  record { answer_is = refl; edges_are = refl },
  record { answer_is = refl; edges_are = refl },
  record { answer_is = refl; edges_are = refl },
  record { answer_is = refl; edges_are = refl },
  record { answer_is = refl; edges_are = refl },
  record { answer_is = refl; edges_are = refl },
)

-- an accepted file: the head record, the edges, and zero in every place past them; with a ceiling, the same
reads_filled : Type 0
reads_filled =
    ReadsRule worked_file (replicate 22016 5) (worked_edges 21844) (reading 0 0 worked_head)
    × ReadsRule second_file (replicate 22018 5) second_edges (reading 0 0 second_head)
    × ReadsRule second_less (replicate 22018 5) second_edges (reading 0 0 second_head)
    × ReadsRule sided_file (replicate 22016 5) (sided_edges 1) (reading 0 0 second_head)
    × ReadsRule widest_file (replicate 22017 5) widest_edges (reading 0 0 widest_head)
    × ReadsRule (widest_with (2 ∷ 4 ∷ 30 ∷ [])) (replicate 22017 5) widest_edges (reading 0 0 widest_head)
    × ReadsRule mixed_file (replicate 22016 5) mixed_edges (reading 0 0 mixed_head)

reads_filled_are : reads_filled
unfolding mask_of cm pair_count record_refusal with_record at_end read_from read_rule edges_numbers edge_table
    read_refusal
    worked_file second_locations second_records second_file second_less second_head second_edges sided_file sided_edges
    eight_atoms widest_with widest_file widest_head widest_edges mixed_text mixed_file mixed_head mixed_edge plain_edge
    mixed_edges levels_past atoms_past groups_past reading reads_filled
reads_filled_are = (
  record { answer_is = refl; edges_are = refl },
  record { answer_is = refl; edges_are = refl },
  record { answer_is = refl; edges_are = refl },
  record { answer_is = refl; edges_are = refl },
  record { answer_is = refl; edges_are = refl },
  record { answer_is = refl; edges_are = refl },
  record { answer_is = refl; edges_are = refl },
)

-- a head record or an edge table that no reading leaves: each has one number changed
other_head : ℕ → ℕ → ℕ → Head
other_head starts ends count =
    record { locations = 2; symbols = 2; clocks = 1; starts = starts; ends = ends; count = count }

checks : Type 0
checks =
    ChecksRule worked_head (worked_edges 21843) (answer 20 0) × ChecksRule zero_head (worked_edges 21843) (answer 20 0)
    × ChecksRule worked_head (worked_edges 21844) (answer 0 0)
    × ChecksRule worked_head (worked_edges 22000) (answer 0 0)
    × ChecksRule zero_head (replicate 22016 0) (answer 21 0)
    × ChecksRule (other_head 3 0 2) (worked_edges 21844) (answer 0 0)
    × ChecksRule (other_head 4 1 2) (worked_edges 21844) (answer 21 0)
    × ChecksRule (other_head 1 4 2) (worked_edges 21844) (answer 21 0)
    × ChecksRule (other_head 4294967297 1 2) (worked_edges 21844) (answer 21 0)
    × ChecksRule (other_head 1 4294967297 2) (worked_edges 21844) (answer 21 0)
    × ChecksRule (other_head 1 1 1) (worked_edges 21844) (answer 21 0)
    × ChecksRule (other_head 1 1 3) (worked_edges 21844) (answer 21 0)
    × ChecksRule worked_head (5 ∷ 2 ∷ drop 2 (worked_edges 21844)) (answer 21 0)
    × ChecksRule worked_head (4 ∷ drop 1 (worked_edges 21844)) (answer 21 0)
    × ChecksRule worked_head (7 ∷ drop 1 (worked_edges 21844)) (answer 21 0)
    × ChecksRule worked_head (worked_edges 21844 ++ (1 ∷ [])) (answer 21 0)
    × ChecksRule second_head (sided_edges 1) (answer 0 0)
    × ChecksRule second_head (sided_edges 0) (answer 21 0)
    × ChecksRule second_head (sided_edges 2) (answer 21 0)
    × ChecksRule mixed_head mixed_edges (answer 0 0)
    × ChecksRule mixed_head (mixed_edge 16 2 0 ++ (plain_edge 0 0 ++ replicate 21844 0)) (answer 21 0)
    × ChecksRule mixed_head (plain_edge 0 0 ++ (mixed_edge 16 2 1 ++ replicate 21844 0)) (answer 21 0)
    × ChecksRule mixed_head (plain_edge 0 0 ++ (mixed_edge 17 2 4 ++ replicate 21844 0)) (answer 21 0)
    × ChecksRule mixed_head (plain_edge 0 0 ++ (mixed_edge 15 2 0 ++ replicate 21844 0)) (answer 21 0)
    × ChecksRule mixed_head (plain_edge 0 0 ++ (mixed_edge 16 1 0 ++ replicate 21844 0)) (answer 21 0)
    × ChecksRule mixed_head (plain_edge 0 1 ++ (mixed_edge 16 2 0 ++ replicate 21844 0)) (answer 21 0)
    × ChecksRule mixed_head (plain_edge 9 0 ++ (mixed_edge 16 2 0 ++ replicate 21844 0)) (answer 21 0)
    × ChecksRule mixed_head (plain_edge 8 0 ++ (mixed_edge 16 2 0 ++ replicate 21844 0)) (answer 0 0)

checks_are : checks
unfolding mask_of bits_from levels_past atoms_past groups_past cm pair_count valid_rule edges_numbers edge_table rule_in
    is_readable rule_refusal second_head sided_edges mixed_text mixed_head mixed_edge plain_edge mixed_edges other_head
    answer checks
checks_are = (
  record { answer_is = refl },
  record { answer_is = refl },
  record { answer_is = refl },
  record { answer_is = refl },
  record { answer_is = refl },
  record { answer_is = refl },
  record { answer_is = refl },
  record { answer_is = refl },
  record { answer_is = refl },
  record { answer_is = refl },
  record { answer_is = refl },
  record { answer_is = refl },
  record { answer_is = refl },
  record { answer_is = refl },
  record { answer_is = refl },
  record { answer_is = refl },
  record { answer_is = refl },
  record { answer_is = refl },
  record { answer_is = refl },
  record { answer_is = refl },
  record { answer_is = refl },
  record { answer_is = refl },
  record { answer_is = refl },
  record { answer_is = refl },
  record { answer_is = refl },
  record { answer_is = refl },
  record { answer_is = refl },
  record { answer_is = refl },
)

-- 20, 21, 27, in this order: the output is untouched; else the file and, past it, what was there
writes : Type 0
writes =
    WritesRule zero_head (worked_edges 21843) [] [] (answer 20 0)
    × WritesRule worked_head (worked_edges 21843) (replicate 60 9) (replicate 60 9) (answer 20 0)
    × WritesRule zero_head (worked_edges 21844) [] [] (answer 21 0)
    × WritesRule zero_head (worked_edges 21844) (replicate 60 9) (replicate 60 9) (answer 21 0)
    × WritesRule worked_head (worked_edges 21844) (replicate 57 9) (replicate 57 9) (answer 27 0)
    × WritesRule worked_head (worked_edges 21844) (replicate 58 9) worked_file (answer 0 58)
    × WritesRule worked_head (worked_edges 21844) (replicate 60 9) (worked_file ++ (9 ∷ 9 ∷ [])) (answer 0 58)
    × WritesRule second_head second_edges (replicate 141 9) (replicate 141 9) (answer 27 0)
    × WritesRule second_head second_edges (replicate 142 9) second_less (answer 0 142)
    × WritesRule second_head second_edges (replicate 143 9) (second_less ++ (9 ∷ [])) (answer 0 142)
    × WritesRule widest_head widest_edges (replicate 87 9) (replicate 87 9) (answer 27 0)
    × WritesRule widest_head widest_edges (replicate 88 9) widest_file (answer 0 88)
    × WritesRule mixed_head mixed_edges (replicate 71 9) (replicate 71 9) (answer 27 0)
    × WritesRule mixed_head mixed_edges (replicate 73 9) (mixed_file ++ (9 ∷ [])) (answer 0 72)

writes_are : writes
unfolding mask_of bits_from cm pair_count valid_rule edges_numbers edge_table rule_in is_readable rule_refusal
    edge_records
    file_with rule_bytes write_refusal worked_file second_locations second_records second_less second_head second_edges
    eight_atoms widest_with widest_file widest_head widest_edges mixed_text mixed_file mixed_head mixed_edge plain_edge
    mixed_edges levels_past atoms_past groups_past answer writes
writes_are = (
  record { answer_is = refl; out_is = refl },
  record { answer_is = refl; out_is = refl },
  record { answer_is = refl; out_is = refl },
  record { answer_is = refl; out_is = refl },
  record { answer_is = refl; out_is = refl },
  record { answer_is = refl; out_is = refl },
  record { answer_is = refl; out_is = refl },
  record { answer_is = refl; out_is = refl },
  record { answer_is = refl; out_is = refl },
  record { answer_is = refl; out_is = refl },
  record { answer_is = refl; out_is = refl },
  record { answer_is = refl; out_is = refl },
  record { answer_is = refl; out_is = refl },
  record { answer_is = refl; out_is = refl },
)
