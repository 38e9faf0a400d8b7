-- 25 by computation: the worked table with one number changed, a stored verdict too; every size, R, N and table length
-- on both sides of its range, all else in shape.
use mathlib.Core.Path.{◌≡◌, refl}
use mathlib.Core.Bool.{true, false, ◌&&◌}
use mathlib.Core.List.{List, [], ◌∷◌, ◌++◌}
use Prim.Native.Nat.{ℕ, zero, suc, ◌+◌, ◌*◌}
use lib.ListN.{get_or, replicate, take, drop}
use Rattle.model.specs.declared.Built.{Built}
use Rattle.model.specs.Basics.{all_below, zeros, Refusal, refusal, fine}
use Rattle.model.specs.Tables.{Tables, tables, row_width}
use Rattle.model.specs.Walks.{built_pairs, built_sizes_ok, long_enough, rows_chain, cells_ok, verdicts_ok, in_shape}
use Rattle.model.specs.Walks.{shape_refusal}
use Rattle.model.proofs.Logic.{zeros_at, and_both}
use Rattle.model.proofs.Examples.{worked_tables}
use Rattle.model.proofs.Cases.{Case, case, all_met}

with_built : ℕ → ℕ → ℕ → Tables
with_built top rows total =
    tables (record { locations = 2; symbols = 2; clocks = 1; top = top; ends = 1; rows = rows; total = total })
    worked_tables.cells
    worked_tables.rows
    worked_tables.pool

-- one cell changed, by its place
with_cell : ℕ → ℕ → Tables
with_cell at cell =
    tables worked_tables.built
    (take at worked_tables.cells ++ (cell ∷ drop 1 (drop at worked_tables.cells)))
    worked_tables.rows
    worked_tables.pool

with_cells : List ℕ → Tables
with_cells cells = tables worked_tables.built cells worked_tables.rows worked_tables.pool

with_rows : List ℕ → Tables
with_rows rows = tables worked_tables.built worked_tables.cells rows worked_tables.pool

with_pool : List ℕ → Tables
with_pool pool = tables worked_tables.built worked_tables.cells worked_tables.rows pool

-- the same rows, each with a no
all_no : List ℕ → Tables
all_no pool =
    tables worked_tables.built worked_tables.cells (0 ∷ 1 ∷ 0 ∷ 1 ∷ 0 ∷ 0 ∷ 1 ∷ 1 ∷ 0 ∷ []) pool

-- rows from place 0 on without gaps, lengths that add up to P, codes below N; every row stores what its codes say
chains : List Case
chains =
    case (shape_refusal worked_tables) fine
    ∷ case (shape_refusal (with_built 1 3 3)) (refusal 25 0)
    ∷ case (shape_refusal (with_built 1 3 1)) (refusal 25 0)
    ∷ case (shape_refusal (with_rows (1 ∷ 1 ∷ 0 ∷ 1 ∷ 0 ∷ 0 ∷ 1 ∷ 1 ∷ 0 ∷ []))) (refusal 25 0)
    ∷ case (shape_refusal (with_rows (1 ∷ 0 ∷ 0 ∷ 1 ∷ 0 ∷ 0 ∷ 1 ∷ 1 ∷ 0 ∷ []))) (refusal 25 0)
    ∷ case (shape_refusal (with_rows (0 ∷ 1 ∷ 1 ∷ 0 ∷ 0 ∷ 0 ∷ 1 ∷ 1 ∷ 0 ∷ []))) (refusal 25 0)
    ∷ case (shape_refusal (with_rows (0 ∷ 1 ∷ 1 ∷ 2 ∷ 0 ∷ 0 ∷ 1 ∷ 1 ∷ 0 ∷ []))) (refusal 25 0)
    ∷ case (shape_refusal (with_rows (0 ∷ 0 ∷ 0 ∷ 1 ∷ 0 ∷ 0 ∷ 1 ∷ 1 ∷ 0 ∷ []))) (refusal 25 0)
    ∷ case (shape_refusal (with_rows (0 ∷ 1 ∷ 1 ∷ 1 ∷ 0 ∷ 0 ∷ 1 ∷ 2 ∷ 0 ∷ []))) (refusal 25 0)
    ∷ case (shape_refusal (with_rows (0 ∷ 1 ∷ 1 ∷ 1 ∷ 0 ∷ 0 ∷ 1 ∷ 0 ∷ 0 ∷ []))) (refusal 25 0)
    ∷ case (shape_refusal (with_rows (0 ∷ 0 ∷ 0 ∷ 0 ∷ 2 ∷ 1 ∷ 2 ∷ 0 ∷ 0 ∷ 9 ∷ []))) fine
    ∷ case (shape_refusal (with_rows (0 ∷ 1 ∷ 1 ∷ 1 ∷ 0 ∷ 0 ∷ 1 ∷ 1 ∷ []))) (refusal 25 0)
    ∷ case (shape_refusal (with_pool (0 ∷ 5 ∷ 77 ∷ []))) fine
    ∷ case (shape_refusal (with_pool (2 ∷ 5 ∷ []))) fine
    ∷ case (shape_refusal (with_pool (0 ∷ 6 ∷ []))) (refusal 25 0)
    ∷ case (shape_refusal (all_no (5 ∷ 3 ∷ []))) fine
    ∷ case (shape_refusal (all_no (6 ∷ 3 ∷ []))) (refusal 25 0)
    ∷ case (shape_refusal (with_pool (0 ∷ []))) (refusal 25 0)
    ∷ []

chains_met : all_met chains ≡ true
unfolding in_shape shape_refusal worked_tables all_met with_built with_rows with_pool all_no chains
chains_met = refl

-- a stored verdict is what the row's codes say, of the first row and of the last, of one with codes and of one without;
-- no other number is; no row past R is looked at. The final set is location 0: codes 0 to 2 say yes, 3 to 5 no, and
-- one that says yes is enough.
verdicts : List Case
verdicts =
    case (shape_refusal (with_rows (0 ∷ 1 ∷ 0 ∷ 1 ∷ 0 ∷ 0 ∷ 1 ∷ 1 ∷ 0 ∷ []))) (refusal 25 0)
    ∷ case (shape_refusal (with_rows (0 ∷ 1 ∷ 2 ∷ 1 ∷ 0 ∷ 0 ∷ 1 ∷ 1 ∷ 0 ∷ []))) (refusal 25 0)
    ∷ case (shape_refusal (with_rows (0 ∷ 1 ∷ 1 ∷ 1 ∷ 0 ∷ 1 ∷ 1 ∷ 1 ∷ 0 ∷ []))) (refusal 25 0)
    ∷ case (shape_refusal (with_rows (0 ∷ 1 ∷ 1 ∷ 1 ∷ 0 ∷ 2 ∷ 1 ∷ 1 ∷ 0 ∷ []))) (refusal 25 0)
    ∷ case (shape_refusal (with_rows (0 ∷ 1 ∷ 1 ∷ 1 ∷ 0 ∷ 0 ∷ 1 ∷ 1 ∷ 1 ∷ []))) (refusal 25 0)
    ∷ case (shape_refusal (with_rows (0 ∷ 1 ∷ 1 ∷ 1 ∷ 0 ∷ 0 ∷ 1 ∷ 1 ∷ 2 ∷ []))) (refusal 25 0)
    ∷ case (shape_refusal (with_rows (0 ∷ 1 ∷ 1 ∷ 1 ∷ 0 ∷ 0 ∷ 1 ∷ 1 ∷ 0 ∷ 0 ∷ 1 ∷ 0 ∷ []))) fine
    ∷ case (shape_refusal (with_pool (2 ∷ 3 ∷ []))) fine
    ∷ case (shape_refusal (with_pool (3 ∷ 3 ∷ []))) (refusal 25 0)
    ∷ case (shape_refusal (with_pool (0 ∷ 2 ∷ []))) (refusal 25 0)
    ∷ case (shape_refusal (with_rows (0 ∷ 2 ∷ 1 ∷ 2 ∷ 0 ∷ 0 ∷ 2 ∷ 0 ∷ 0 ∷ []))) fine
    ∷ case (shape_refusal (with_rows (0 ∷ 2 ∷ 0 ∷ 2 ∷ 0 ∷ 0 ∷ 2 ∷ 0 ∷ 0 ∷ []))) (refusal 25 0)
    ∷ []

verdicts_met : all_met verdicts ≡ true
unfolding in_shape shape_refusal worked_tables all_met with_rows with_pool verdicts
verdicts_met = refl

-- a cell's row below R, its timer reset only at an even interval; every cell is looked at, and no place past them
steps : List Case
steps =
    case (shape_refusal (with_cell 1 4)) fine
    ∷ case (shape_refusal (with_cell 1 5)) (refusal 25 0)
    ∷ case (shape_refusal (with_cell 1 6)) (refusal 25 0)
    ∷ case (shape_refusal (with_cell 0 5)) fine
    ∷ case (shape_refusal (with_cell 0 6)) (refusal 25 0)
    ∷ case (shape_refusal (with_cell 0 7)) (refusal 25 0)
    ∷ case (shape_refusal (with_cell 22 5)) fine
    ∷ case (shape_refusal (with_cell 23 1)) (refusal 25 0)
    ∷ case (shape_refusal (with_cell 23 4)) fine
    ∷ case (shape_refusal (with_cell 23 6)) (refusal 25 0)
    ∷ case (shape_refusal (with_cells (worked_tables.cells ++ (99 ∷ [])))) fine
    ∷ case (shape_refusal (with_cells (replicate 24 0))) fine
    ∷ case (shape_refusal (with_cells (replicate 23 0))) (refusal 25 0)
    ∷ []

steps_met : all_met steps ≡ true
unfolding in_shape shape_refusal worked_tables all_met with_cell with_cells steps
steps_met = refl

-- L, S, K, cm, R, and the lengths of cells and rows; all numbers in the tables 0, no codes
shaped : ℕ → ℕ → ℕ → ℕ → ℕ → ℕ → ℕ → Refusal
shaped l s k top rows cells numbers_are =
    shape_refusal
    (tables (record { locations = l; symbols = s; clocks = k; top = top; ends = 0; rows = rows; total = 0 })
    (replicate cells 0)
    (replicate numbers_are 0)
    [])

sizes : List Case
sizes =
    case (shaped 1 1 1 0 1 2 3) fine
    ∷ case (shaped 0 1 1 0 1 2 3) (refusal 25 0)
    ∷ case (shaped 32 1 1 0 1 2 3) fine
    ∷ case (shaped 33 1 1 0 1 2 3) (refusal 25 0)
    ∷ case (shaped 1 0 1 0 1 2 3) (refusal 25 0)
    ∷ case (shaped 1 16 1 0 1 32 3) fine
    ∷ case (shaped 1 17 1 0 1 34 3) (refusal 25 0)
    ∷ case (shaped 1 1 0 0 1 2 3) (refusal 25 0)
    ∷ case (shaped 1 1 4 0 1 2 3) fine
    ∷ case (shaped 1 1 5 0 1 2 3) (refusal 25 0)
    ∷ case (shaped 1 1 1 30 1 62 3) fine
    ∷ case (shaped 1 1 1 31 1 64 3) (refusal 25 0)
    ∷ case (shaped 16 1 3 14 1 30 3) fine
    ∷ case (shaped 17 1 3 14 1 30 3) (refusal 25 0)
    ∷ case (shaped 10 1 4 7 1 16 3) (refusal 25 0)
    ∷ case (shaped 1 1 1 0 0 0 0) (refusal 25 0)
    ∷ case (shaped 1 1 1 0 1 1 3) (refusal 25 0)
    ∷ case (shaped 1 1 1 0 1 2 2) (refusal 25 0)
    ∷ case (shaped 1 2 1 3 2 32 6) fine
    ∷ case (shaped 1 2 1 3 2 31 6) (refusal 25 0)
    ∷ case (shaped 1 2 1 3 2 32 5) (refusal 25 0)
    ∷ []

sizes_met : all_met sizes ≡ true
unfolding in_shape shape_refusal all_met shaped sizes
sizes_met = refl

-- R: 4,096 rows are in shape, 4,097 are not. Rows without codes say no, and a table of zeros stores it.
no_verdicts :
    (n i : ℕ) (b : Built) (rows pool : List ℕ) → ((k : ℕ) → get_or rows k 0 ≡ 0) → verdicts_ok n i b rows pool ≡ true
no_verdicts zero i b rows pool h = refl
no_verdicts (suc n) i b rows pool h =
    rw (h (row_width * i + 2), h (row_width * i + 1)) (no_verdicts n (suc i) b rows pool h)

many : ℕ → Built
many rows = record { locations = 1; symbols = 1; clocks = 1; top = 0; ends = 0; rows = rows; total = 0 }

most_rows : Tables
most_rows = tables (many 4096) (zeros 8192) (zeros 12288) []

rows_in_shape : in_shape most_rows ≡ true
unfolding in_shape many most_rows
rows_in_shape =
    and_both
    (built_sizes_ok (many 4096) && long_enough most_rows && rows_chain 4096 0 (zeros 12288) 0
    && all_below (built_pairs (many 4096)) []
    && cells_ok 0 2 4096 (take 8192 (zeros 8192)))
    (verdicts_ok 4096 0 (many 4096) (zeros 12288) [])
    refl
    (no_verdicts 4096 0 (many 4096) (zeros 12288) [] (zeros_at 12288))

rows_over : (t : Tables) → t.built ≡ many 4097 → in_shape t ≡ false
unfolding in_shape many
rows_over t e = rw e
