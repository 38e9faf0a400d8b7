-- Whole calls of `decide`, by computation: the first refusal of reader, builder and word, and every lent table after
-- it. Outcomes.antt has that there is no other outcome.
use mathlib.Core.Path.{refl}
use mathlib.Core.List.{List, [], ◌∷◌, ◌++◌}
use Prim.Native.Nat.{ℕ}
use lib.ListN.{replicate, take, drop}
use Rattle.model.specs.declared.Answer.{Answer}
use Rattle.model.specs.Basics.{mask_of}
use Rattle.model.specs.Rules.{cm, pair_count}
use Rattle.model.specs.Words.{word_refusal}
use Rattle.model.specs.Runs.{accepts_from, accepts_from_some, accepts}
use Rattle.model.specs.Files.{record_refusal, with_record, at_end, read_from, read_rule}
use Rattle.model.specs.Layout.{edges_numbers, edge_table}
use Rattle.model.specs.Construction.{code_of, location_of, bases_of, start_row, allows, row_resets, target_of}
use Rattle.model.specs.Construction.{next_row, by_intervals, by_symbols, rows_from, rows_of, cell_of, holds_final}
use Rattle.model.specs.Tables.{tables_by, tables_of, row_room, fit_refusal, scratch_need, table_refusal}
use Rattle.model.specs.Promises.{read_refusal, roomed_refusal, decide_refusal, Decides}
use Rattle.model.proofs.Examples.{worked_file, worked_tables}
use Rattle.model.proofs.Cases.{worked_edges}

answer : ℕ → ℕ → ℕ → Answer
answer number place value = record { number = number; place = place; value = value }

-- the lent tables, all 5 at first, at exit: the edge table, and the builder's four all 5 or all 0
decides_all : ℕ → List ℕ → List ℕ → List ℕ → ℕ → ℕ → ℕ → ℕ → ℕ → Answer → Type 0
decides_all left file edges edges' scratch cells rows pool d answer_is =
    Decides file edges edges' (replicate scratch 5) (replicate scratch left) (replicate cells 5) (replicate cells left)
    (replicate rows 5)
    (replicate rows left)
    (replicate pool 5)
    (replicate pool left)
    d
    (0 ∷ 1 ∷ [])
    (2 ∷ 4 ∷ [])
    answer_is

-- the worked case with 17 locations
wide_file : List ℕ
wide_file = take 4 worked_file ++ (17 ∷ drop 5 worked_file)

-- the reader refuses: the builder's tables are untouched; 22 leaves them untouched, 23 and 24 zero; before the word
refused : Type 0
refused =
    decides_all 5 (0 ∷ []) (replicate 22015 5) (replicate 22015 5) 0 24 9 2 0 (answer 20 0 0)
    × decides_all 5 (worked_file ++ (0 ∷ [])) (replicate 22016 5) (replicate 22016 0) 0 24 9 2 0 (answer 1 58 0)
    × decides_all 5 worked_file (replicate 22016 5) (worked_edges 21844) 0 24 9 2 0 (answer 22 0 0)
    × decides_all 5 wide_file (replicate 22016 5) (worked_edges 21844) 1 24 9 2 0 (answer 22 0 0)
    × decides_all 0 worked_file (replicate 22016 5) (worked_edges 21844) 1 23 9 2 0 (answer 23 0 0)
    × decides_all 0 worked_file (replicate 22016 5) (worked_edges 21844) 1 24 9 1 0 (answer 24 0 0)

refused_are : refused
unfolding mask_of cm pair_count record_refusal with_record at_end read_from read_rule edges_numbers edge_table code_of
    location_of
    bases_of start_row allows row_resets target_of next_row by_intervals by_symbols rows_from rows_of row_room
    fit_refusal
    scratch_need table_refusal read_refusal roomed_refusal decide_refusal worked_file wide_file answer decides_all
    refused
refused_are = (
  record {
    answer_is = refl;
    edges_are = refl;
    scratch_is = refl;
    cells_are = refl;
    rows_are = refl;
    pool_is = refl;
  },
  record {
    answer_is = refl;
    edges_are = refl;
    scratch_is = refl;
    cells_are = refl;
    rows_are = refl;
    pool_is = refl;
  },
  record {
    answer_is = refl;
    edges_are = refl;
    scratch_is = refl;
    cells_are = refl;
    rows_are = refl;
    pool_is = refl;
  },
  record {
    answer_is = refl;
    edges_are = refl;
    scratch_is = refl;
    cells_are = refl;
    rows_are = refl;
    pool_is = refl;
  },
  record {
    answer_is = refl;
    edges_are = refl;
    scratch_is = refl;
    cells_are = refl;
    rows_are = refl;
    pool_is = refl;
  },
  record {
    answer_is = refl;
    edges_are = refl;
    scratch_is = refl;
    cells_are = refl;
    rows_are = refl;
    pool_is = refl;
  },
)

-- the table is built: 30 and 33 come from the word, and the tables are left as built, as with yes and with no
decides_built : ℕ → List ℕ → List ℕ → Answer → Type 0
decides_built d symbols stamps answer_is =
    Decides worked_file (replicate 22016 5) (worked_edges 21844) (replicate 2 5) (replicate 2 0) (replicate 24 5)
    worked_tables.cells
    (replicate 9 5)
    worked_tables.rows
    (replicate 3 5)
    (worked_tables.pool ++ (0 ∷ []))
    d
    symbols
    stamps
    answer_is

built : Type 0
built =
    decides_built 0 (0 ∷ 1 ∷ []) (2 ∷ 4 ∷ []) (answer 30 0 0)
    × decides_built 2 (0 ∷ 1 ∷ []) (2 ∷ 1 ∷ []) (answer 33 2 0)
    × decides_built 2 (0 ∷ 1 ∷ []) (2 ∷ 4 ∷ []) (answer 0 0 1)
    × decides_built 2 (0 ∷ 1 ∷ []) (2 ∷ 3 ∷ []) (answer 0 0 0)

built_are : built
unfolding mask_of cm pair_count record_refusal with_record at_end read_from read_rule edges_numbers edge_table
    word_refusal
    accepts_from accepts_from_some accepts code_of location_of bases_of start_row allows row_resets target_of next_row
    by_intervals
    by_symbols rows_from rows_of cell_of holds_final tables_by tables_of row_room fit_refusal scratch_need table_refusal
    read_refusal roomed_refusal decide_refusal worked_file worked_tables answer decides_built built
built_are = (
  record {
    answer_is = refl;
    edges_are = refl;
    scratch_is = refl;
    cells_are = refl;
    rows_are = refl;
    pool_is = refl;
  },
  record {
    answer_is = refl;
    edges_are = refl;
    scratch_is = refl;
    cells_are = refl;
    rows_are = refl;
    pool_is = refl;
  },
  record {
    answer_is = refl;
    edges_are = refl;
    scratch_is = refl;
    cells_are = refl;
    rows_are = refl;
    pool_is = refl;
  },
  record {
    answer_is = refl;
    edges_are = refl;
    scratch_is = refl;
    cells_are = refl;
    rows_are = refl;
    pool_is = refl;
  },
)
