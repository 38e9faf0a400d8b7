-- Whole calls of the builder, by computation: the answer and every number of the four lent tables after it.
-- Outcomes.antt has that there is no other outcome.
use mathlib.Core.Path.{◌≡◌, refl}
use mathlib.Core.List.{List, [], ◌∷◌, ◌++◌}
use Prim.Native.Nat.{ℕ}
use lib.ListN.{length, replicate}
use Rattle.model.specs.declared.Head.{Head}
use Rattle.model.specs.declared.Built.{Built}
use Rattle.model.specs.declared.Building.{Building}
use Rattle.model.specs.Basics.{zeros, mask_of, bits_from, Refusal, refusal, fine, ◌⨾◌}
use Rattle.model.specs.Rules.{cm, pair_count}
use Rattle.model.specs.Layout.{rule_in, rule_refusal}
use Rattle.model.specs.Construction.{code_of, location_of, bases_of, start_row, allows, row_resets, target_of}
use Rattle.model.specs.Construction.{next_row, by_intervals, by_symbols, rows_from, rows_of, cell_of, holds_final}
use Rattle.model.specs.Tables.{built_of, tables_by, tables_of, row_room, fit_refusal, scratch_need, table_refusal}
use Rattle.model.specs.Promises.{build_refusal, building_of, tables_made, leaves, BuildsTable}
use Rattle.model.proofs.Examples.{worked_tables}
use Rattle.model.proofs.Cases.{worked_head, worked_edges, wide_head, zero_head, zero_built}
use Rattle.model.proofs.Cases.{worked_passes, wide_passes}
use Rattle.model.proofs.Cases.{short_refused, both_refused, head_refused}

building : ℕ → Built → Building
building number built = record { number = number; place = 0; built = built }

-- the rule's refusal as it is known, then that of the call, then the answer and the tables
built_as :
    {h : Head} {t s s' c c' n n' m m' : List ℕ} {a : Building} {g : Refusal} (f : Refusal) → rule_refusal h t ≡ g
    → (g ⨾ table_refusal (rule_in h t) (length s) (length c) (length n) (length m)) ≡ f
    → a ≡ building_of f (rule_in h t)
    → s' ≡ leaves f (zeros (length s)) s
    → c' ≡ leaves f (tables_made (rule_in h t) c n m).cells c
    → n' ≡ leaves f (tables_made (rule_in h t) c n m).rows n
    → m' ≡ leaves f (tables_made (rule_in h t) c n m).pool m
    → BuildsTable h t s s' c c' n n' m m' a
unfolding build_refusal
built_as f k e answer scratch cells rows pool = record {
  answer_is = rw (k, e) answer;
  scratch_is = rw (k, e) scratch;
  cells_are = rw (k, e) cells;
  rows_are = rw (k, e) rows;
  pool_is = rw (k, e) pool;
}

-- tables of these lengths, all 5 at first, at exit all 5 or all 0
leaves_all : ℕ → Head → ℕ → ℕ → ℕ → ℕ → ℕ → ℕ → Type 0
leaves_all left head unused scratch cells rows pool number =
    BuildsTable head (worked_edges unused) (replicate scratch 5) (replicate scratch left) (replicate cells 5)
    (replicate cells left)
    (replicate rows 5)
    (replicate rows left)
    (replicate pool 5)
    (replicate pool left)
    (building number zero_built)

-- 20, 21, 22, in this order and before 23: all untouched, the built record zero
builds_untouched : Type 0
builds_untouched =
    leaves_all 5 zero_head 21843 1 24 9 2 20 × leaves_all 5 worked_head 21843 1 24 9 2 20
    × leaves_all 5 zero_head 21844 0 24 9 2 21
    × leaves_all 5 worked_head 21844 0 24 9 2 22
    × leaves_all 5 worked_head 21844 0 23 9 2 22
    × leaves_all 5 wide_head 21844 1 24 9 2 22

builds_untouched_are : builds_untouched
unfolding mask_of bits_from cm pair_count rule_in code_of location_of bases_of start_row allows row_resets target_of
    next_row
    by_intervals by_symbols rows_from rows_of row_room fit_refusal scratch_need table_refusal building leaves_all
    wide_head builds_untouched
builds_untouched_are = (
  built_as (refusal 20 0) both_refused refl refl refl refl refl refl,
  built_as (refusal 20 0) short_refused refl refl refl refl refl refl,
  built_as (refusal 21 0) head_refused refl refl refl refl refl refl,
  built_as (refusal 22 0) worked_passes refl refl refl refl refl refl,
  built_as (refusal 22 0) worked_passes refl refl refl refl refl refl,
  built_as (refusal 22 0) wide_passes refl refl refl refl refl refl,
)

-- 23 by cells and by rows, 24: all zero, the scratch and the built record too
builds_zeroed : Type 0
builds_zeroed =
    leaves_all 0 worked_head 21844 1 23 9 2 23 × leaves_all 0 worked_head 21844 3 24 8 2 23
    × leaves_all 0 worked_head 21844 1 24 9 1 24

builds_zeroed_are : builds_zeroed
unfolding mask_of bits_from cm pair_count rule_in code_of location_of bases_of start_row allows row_resets target_of
    next_row
    by_intervals by_symbols rows_from rows_of row_room fit_refusal scratch_need table_refusal building leaves_all
    builds_zeroed
builds_zeroed_are = (
  built_as (refusal 23 0) worked_passes refl refl refl refl refl refl,
  built_as (refusal 23 0) worked_passes refl refl refl refl refl refl,
  built_as (refusal 24 0) worked_passes refl refl refl refl refl refl,
)

-- built: the scratch is zero, the tables hold the worked table and zero in each place past it
builds_filled :
    BuildsTable worked_head (worked_edges 21844) (replicate 2 5) (replicate 2 0) (replicate 25 5)
    (worked_tables.cells ++ (0 ∷ []))
    (replicate 11 5)
    (worked_tables.rows ++ (0 ∷ 0 ∷ []))
    (replicate 3 5)
    (worked_tables.pool ++ (0 ∷ []))
    (building 0 worked_tables.built)
unfolding mask_of bits_from cm pair_count rule_in code_of location_of bases_of start_row allows row_resets target_of
    next_row
    by_intervals by_symbols rows_from rows_of cell_of holds_final row_room fit_refusal built_of tables_by tables_of
    scratch_need
    table_refusal worked_tables building
builds_filled = built_as fine worked_passes refl refl refl refl refl refl
