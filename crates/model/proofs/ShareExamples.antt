-- Shares by computation: the worked table's line, lowest terms, the greatest of a batch, tables one after another; 40,
-- 38, 25 and 43 at their edges and in their order; and whole answers.
use mathlib.Core.Path.{◌≡◌, refl, ◌∙◌, ap₂}
use mathlib.Core.Bool.{true, false}
use mathlib.Core.List.{List, [], ◌∷◌, ◌++◌}
use Prim.Native.Nat.{ℕ, zero, suc, ◌+◌, ◌*◌, ◌^◌}
use lib.ListN.{length, replicate, length-append}
use Rattle.model.specs.declared.Batch.{Batch}
use Rattle.model.specs.declared.Built.{Built}
use Rattle.model.specs.declared.Shares.{Shares}
use Rattle.model.specs.Basics.{zeros, Refusal, refusal, fine}
use Rattle.model.specs.Tables.{Tables, tables}
use Rattle.model.specs.Walks.{in_shape, verdict, step, step_all, table_accepts}
use Rattle.model.specs.Lists.{top_stamp, words_from, words_of, words_up_to, count_if}
use Rattle.model.specs.Shares.{out_of, accepted_of, out_of_all, accepted_of_all, divides, common_up_to, common}
use Rattle.model.specs.Shares.{share, line_by, table_says, line_of, accepted_by, words_for, smaller, greatest_of}
use Rattle.model.specs.Shares.{batch_of, tables_refusal, shares_refusal, table_in}
use Rattle.model.specs.Promises.{CountsShares}
use Rattle.model.specs.Claims.{binomial, builts_of, cells_laid, rows_laid, pool_laid, all_long, smaller_share}
use Rattle.model.proofs.Lists.{words_counted}
use Rattle.model.proofs.Examples.{worked_tables}
use Rattle.model.proofs.InclusionExamples.{plain, nothing_else}
use Rattle.model.proofs.Cases.{Case, case, all_met}

-- the worked table, at most 2 events, up to 4 seconds: 1 of 1, none of 18, 5 of 180; 6 of 199 in all
worked_counts :
    (accepted_of (table_says worked_tables) 2 4 0 ≡ 1)
    × (out_of 2 4 0 ≡ 1)
    × (accepted_of (table_says worked_tables) 2 4 1 ≡ 0)
    × (out_of 2 4 1 ≡ 18)
    × (accepted_of (table_says worked_tables) 2 4 2 ≡ 5)
    × (out_of 2 4 2 ≡ 180)
    × (accepted_of_all (table_says worked_tables) 2 4 2 ≡ 6)
    × (out_of_all 2 4 2 ≡ 199)
unfolding accepted_of accepted_of_all words_up_to words_from count_if table_accepts step_all step verdict worked_tables
worked_counts = (refl, refl, refl, refl, refl, refl, refl, refl)

worked_line :
    line_of worked_tables 2 4
    ≡ (1 ∷ 1 ∷ 1 ∷ 1 ∷ [])
    ++ ((0 ∷ 18 ∷ 0 ∷ 1 ∷ []) ++ ((5 ∷ 180 ∷ 1 ∷ 36 ∷ []) ++ (zeros 16 ++ (6 ∷ 199 ∷ 6 ∷ 199 ∷ []))))
unfolding line_by common_up_to worked_tables
worked_line =
    let c = worked_counts in
    rw (c.0, c.1, c.2, c.3, c.4, c.5, c.6, c.7)

-- the empty word alone, over one symbol: seven shares and in all fill the line; with no event two shares do not
unfoldable empty_alone : Tables
empty_alone =
    tables (record { locations = 1; symbols = 1; clocks = 1; top = 0; ends = 1; rows = 2; total = 1 })
    (2 ∷ 2 ∷ 2 ∷ 2 ∷ [])
    (0 ∷ 1 ∷ 1 ∷ 1 ∷ 0 ∷ 0 ∷ [])
    (0 ∷ [])

none_of_one : List ℕ
none_of_one = 0 ∷ 1 ∷ 0 ∷ 1 ∷ []

lines_are :
    (line_of empty_alone 6 0
    ≡ (1 ∷ 1 ∷ 1 ∷ 1 ∷ [])
    ++ (none_of_one
    ++ (none_of_one
    ++ (none_of_one ++ (none_of_one ++ (none_of_one ++ (none_of_one ++ (1 ∷ 7 ∷ 1 ∷ 7 ∷ []))))))))
    × (line_of empty_alone 0 30 ≡ (1 ∷ 1 ∷ 1 ∷ 1 ∷ []) ++ (zeros 24 ++ (1 ∷ 1 ∷ 1 ∷ 1 ∷ [])))
unfolding line_by accepted_of accepted_of_all words_up_to words_from count_if common_up_to table_accepts step_all step
    verdict
    empty_alone none_of_one
lines_are = (refl, refl)

-- what divides what; the greatest number that divides both, and 1 where one of the two is 0 or has no other
common_are :
    (divides 3 12 ≡ true) × (divides 5 12 ≡ false) × (divides 24 12 ≡ false) × (divides 12 12 ≡ true)
    × (divides 7 0 ≡ true)
    × (divides 0 0 ≡ true)
    × (divides 0 7 ≡ false)
    × (common 12 18 ≡ 6)
    × (common 18 12 ≡ 6)
    × (common 5 180 ≡ 5)
    × (common 8 9 ≡ 1)
    × (common 0 9 ≡ 9)
    × (common 9 0 ≡ 1)
unfolding common_up_to
common_are = (refl, refl, refl, refl, refl, refl, refl, refl, refl, refl, refl, refl, refl)

-- a share as four numbers
shares_lowest :
    (share 0 9 ≡ (0 ∷ 9 ∷ 0 ∷ 1 ∷ [])) × (share 9 9 ≡ (9 ∷ 9 ∷ 1 ∷ 1 ∷ [])) × (share 8 9 ≡ (8 ∷ 9 ∷ 8 ∷ 9 ∷ []))
    × (share 12 18 ≡ (12 ∷ 18 ∷ 2 ∷ 3 ∷ []))
    × (share 5 180 ≡ (5 ∷ 180 ∷ 1 ∷ 36 ∷ []))
    × (share 1 1 ≡ (1 ∷ 1 ∷ 1 ∷ 1 ∷ []))
    × (share 0 0 ≡ zeros 4)
unfolding common_up_to
shares_lowest = (refl, refl, refl, refl, refl, refl, refl)

-- shares compared: 2 of 71 is less than 1 of 21, and equal shares are not
smaller_are :
    (smaller 2 71 1 21 ≡ true) × (smaller 1 21 2 71 ≡ false) × (smaller 1 2 3 6 ≡ false) × (smaller 3 6 1 2 ≡ false)
    × (smaller 0 3 1 3 ≡ true)
    × (smaller 0 3 0 2 ≡ false)
smaller_are = (refl, refl, refl, refl, refl, refl)

-- every word, over two symbols; and none
unfoldable every_word : Tables
every_word =
    tables (record { locations = 1; symbols = 2; clocks = 1; top = 0; ends = 1; rows = 1; total = 1 })
    (zeros 4)
    (0 ∷ 1 ∷ 1 ∷ [])
    (0 ∷ [])

unfoldable no_word : Tables
no_word = plain 2 0 1

-- in all, of at most 2 events up to 2 seconds: 2 of 71, 1 of 71, none of 71, 1 of 21; then up to 4 seconds, and of at
-- most one event up to 2 seconds
shares_in_all :
    (accepted_by worked_tables 2 2 ≡ 2) × (words_for worked_tables 2 2 ≡ 71) × (accepted_by nothing_else 2 2 ≡ 1)
    × (accepted_by no_word 2 2 ≡ 0)
    × (words_for no_word 2 2 ≡ 71)
    × (accepted_by empty_alone 2 2 ≡ 1)
    × (words_for empty_alone 2 2 ≡ 21)
    × (accepted_by worked_tables 4 2 ≡ 6)
    × (words_for worked_tables 4 2 ≡ 199)
    × (accepted_by every_word 2 1 ≡ 11)
    × (words_for every_word 2 1 ≡ 11)
unfolding accepted_of_all words_up_to words_from count_if table_accepts step_all step verdict worked_tables plain
    nothing_else
    empty_alone every_word no_word
shares_in_all = (refl, refl, refl, refl, refl, refl, refl, refl, refl, refl, refl)

-- the greatest: the first, the second, the third, past one that is not greater; the earliest on a tie, also where none
-- is accepted; by shares and not by counts; with no event and with one; none of no table
greatest_are :
    (greatest_of (worked_tables ∷ nothing_else ∷ []) 2 2 ≡ 1)
    × (greatest_of (nothing_else ∷ worked_tables ∷ []) 2 2 ≡ 2)
    × (greatest_of (no_word ∷ nothing_else ∷ worked_tables ∷ []) 2 2 ≡ 3)
    × (greatest_of (nothing_else ∷ no_word ∷ worked_tables ∷ []) 2 2 ≡ 3)
    × (greatest_of (nothing_else ∷ worked_tables ∷ no_word ∷ []) 2 2 ≡ 2)
    × (greatest_of (nothing_else ∷ no_word ∷ nothing_else ∷ []) 2 2 ≡ 1)
    × (greatest_of (nothing_else ∷ worked_tables ∷ worked_tables ∷ []) 2 2 ≡ 2)
    × (greatest_of (no_word ∷ no_word ∷ []) 2 2 ≡ 1)
    × (greatest_of (worked_tables ∷ empty_alone ∷ []) 2 2 ≡ 2)
    × (greatest_of (empty_alone ∷ worked_tables ∷ []) 2 2 ≡ 1)
    × (greatest_of (nothing_else ∷ every_word ∷ []) 0 1 ≡ 1)
    × (greatest_of (nothing_else ∷ every_word ∷ []) 1 0 ≡ 2)
    × (greatest_of (no_word ∷ nothing_else ∷ every_word ∷ []) 1 0 ≡ 3)
    × (greatest_of (nothing_else ∷ no_word ∷ nothing_else ∷ []) 1 0 ≡ 1)
    × (greatest_of (no_word ∷ nothing_else ∷ nothing_else ∷ []) 1 0 ≡ 2)
    × (greatest_of (no_word ∷ []) 2 2 ≡ 1)
    × (greatest_of [] 2 2 ≡ 0)
unfolding greatest_of accepted_of_all words_up_to words_from count_if table_accepts step_all step verdict worked_tables
    plain
    nothing_else empty_alone every_word no_word
greatest_are = (refl, refl, refl, refl, refl, refl, refl, refl, refl, refl, refl, refl, refl, refl, refl, refl, refl)

-- what the claims speak of: a table by its place from 0, one share below another
claims_are :
    (table_in (worked_tables ∷ nothing_else ∷ []) 0 ≡ worked_tables)
    × (table_in (worked_tables ∷ nothing_else ∷ []) 1 ≡ nothing_else)
    × (smaller_share nothing_else worked_tables 2 2 ≡ true)
    × (smaller_share worked_tables nothing_else 2 2 ≡ false)
    × (smaller_share nothing_else every_word 1 0 ≡ true)
    × (smaller_share nothing_else every_word 0 1 ≡ false)
unfolding accepted_of_all words_up_to words_from count_if table_accepts step_all step verdict worked_tables nothing_else
    every_word
claims_are = (refl, refl, refl, refl, refl, refl)

-- Two tables in lent tables with something behind them.
both_cells : List ℕ
both_cells = worked_tables.cells ++ (nothing_else.cells ++ (9 ∷ []))

both_rows : List ℕ
both_rows = worked_tables.rows ++ (nothing_else.rows ++ (9 ∷ []))

both_pools : List ℕ
both_pools = worked_tables.pool ++ (nothing_else.pool ++ (9 ∷ []))

-- the worked table in longer lent tables
longer : Tables
longer = tables worked_tables.built (worked_tables.cells ++ zeros 2) (worked_tables.rows ++ zeros 2)
    (worked_tables.pool ++ zeros 2)

batch : ℕ → List Built → Batch
batch n bs = record { count = n; tables = bs }

-- the second table's part begins where the first one's ends; the count says how many there are
batches_are :
    (batch_of (batch 2 (worked_tables.built ∷ nothing_else.built ∷ [])) both_cells both_rows both_pools
    ≡ tables worked_tables.built both_cells both_rows both_pools
    ∷ tables nothing_else.built (nothing_else.cells ++ (9 ∷ [])) (nothing_else.rows ++ (9 ∷ []))
    (nothing_else.pool ++ (9 ∷ []))
    ∷ [])
    × (batch_of (batch 1 (worked_tables.built ∷ nothing_else.built ∷ [])) both_cells both_rows both_pools
    ≡ tables worked_tables.built both_cells both_rows both_pools ∷ [])
unfolding worked_tables nothing_else both_cells both_rows both_pools batch
batches_are = (refl, refl)

-- so the claim lays them, each cut to what it needs
laid_are :
    (builts_of (worked_tables ∷ nothing_else ∷ []) ≡ (worked_tables.built ∷ nothing_else.built ∷ []))
    × (cells_laid (longer ∷ nothing_else ∷ []) ++ (9 ∷ []) ≡ both_cells)
    × (rows_laid (longer ∷ nothing_else ∷ []) ++ (9 ∷ []) ≡ both_rows)
    × (pool_laid (longer ∷ nothing_else ∷ []) ++ (9 ∷ []) ≡ both_pools)
    × (all_long (longer ∷ nothing_else ∷ []) ≡ true)
    × (all_long (worked_tables ∷ nothing_else ∷ []) ≡ true)
    × (all_long (worked_tables ∷ tables nothing_else.built [] [] [] ∷ []) ≡ false)
unfolding worked_tables nothing_else longer both_cells both_rows both_pools
laid_are = (refl, refl, refl, refl, refl, refl, refl)

-- 40 and 38 on both sides of their ranges, and in this order before 25; 25 at the first table and the second. Sixteen
-- tables are taken.
lent : ℕ → List Built → ℕ → ℕ → Refusal
lent n bs m h = shares_refusal (batch n bs) both_cells both_rows both_pools m h

sixteen : ℕ → Refusal
sixteen n = shares_refusal (batch n (replicate 16 (plain 1 0 1).built)) (zeros 32) (zeros 48) [] 0 0

refusals : List Case
refusals =
    case (lent 2 (worked_tables.built ∷ nothing_else.built ∷ []) 1 0) fine
    ∷ case (lent 1 (worked_tables.built ∷ nothing_else.built ∷ []) 1 0) fine
    ∷ case (lent 0 (worked_tables.built ∷ nothing_else.built ∷ []) 1 0) (refusal 40 0)
    ∷ case (sixteen 16) fine
    ∷ case (sixteen 17) (refusal 40 0)
    ∷ case (lent 0 [] 7 31) (refusal 40 0)
    ∷ case (lent 1 (worked_tables.built ∷ []) 6 0) fine
    ∷ case (lent 1 (worked_tables.built ∷ []) 7 0) (refusal 38 0)
    ∷ case (lent 1 (worked_tables.built ∷ []) 0 30) fine
    ∷ case (lent 1 (worked_tables.built ∷ []) 0 31) (refusal 38 0)
    ∷ case (lent 1 (nothing_else.built ∷ []) 7 0) (refusal 38 0)
    ∷ case (lent 1 (nothing_else.built ∷ []) 0 31) (refusal 38 0)
    ∷ case (lent 1 (nothing_else.built ∷ []) 0 0) (refusal 25 1)
    ∷ case (lent 2 (worked_tables.built ∷ worked_tables.built ∷ []) 0 0) (refusal 25 2)
    ∷ case (lent 2 (nothing_else.built ∷ worked_tables.built ∷ []) 0 0) (refusal 25 1)
    ∷ []

refusals_met : all_met refusals ≡ true
unfolding in_shape shares_refusal words_up_to words_from worked_tables plain nothing_else both_cells both_rows
    both_pools
    batch lent sixteen all_met refusals
refusals_met = refl

-- 43: how long a list is, by binomials
total : ℕ → ℕ → ℕ → ℕ
total s h zero = s ^ 0 * binomial (top_stamp h + 0) 0
total s h (suc m) = total s h m + s ^ suc m * binomial (top_stamp h + suc m) (suc m)

list_total : (s h m : ℕ) → length (words_up_to s h m) ≡ total s h m
unfolding words_up_to total
list_total s h zero = words_counted s 0 (top_stamp h) 0
list_total s h (suc m) =
    length-append (words_up_to s h m) (words_of s h (suc m))
    ∙ ap₂ ◌+◌ (list_total s h m) (words_counted s (suc m) (top_stamp h) 0)

totals_are :
    (out_of_all 2 4 2 ≡ 199) × (out_of_all 16 30 2 ≡ 485073) × (out_of_all 16 0 4 ≡ 69905) ×
    (out_of_all 16 0 5 ≡ 1118481)
    × (out_of_all 1 0 5 ≡ 6)
    × (out_of_all 2 6 6 ≡ 1419263)
    × (out_of_all 1 6 6 ≡ 27132)
unfolding binomial total
totals_are = (
  list_total 2 4 2,
  list_total 16 30 2,
  list_total 16 0 4,
  list_total 16 0 5,
  list_total 1 0 5,
  list_total 2 6 6,
  list_total 1 6 6,
)

-- over sixteen symbols at one stamp 4 events are taken and 5 are not; up to 6 seconds 6 events are too many over two
-- symbols, and not over one; by table, 25 before 43, and 43 of one table before 25 of the next
unfoldable out_of_shape : Tables
out_of_shape = plain 2 0 0

words_refused :
    (tables_refusal 1 (plain 16 0 1 ∷ []) 4 0 ≡ fine)
    × (tables_refusal 1 (plain 16 0 1 ∷ []) 5 0 ≡ refusal 43 1)
    × (tables_refusal 1 (plain 1 0 1 ∷ plain 16 0 1 ∷ []) 5 0 ≡ refusal 43 2)
    × (tables_refusal 1 (plain 2 0 1 ∷ []) 6 6 ≡ refusal 43 1)
    × (tables_refusal 1 (plain 1 0 1 ∷ plain 1 0 1 ∷ []) 6 6 ≡ fine)
    × (tables_refusal 1 (plain 2 0 1 ∷ out_of_shape ∷ []) 6 6 ≡ refusal 43 1)
    × (tables_refusal 1 (out_of_shape ∷ plain 2 0 1 ∷ []) 6 6 ≡ refusal 25 1)
    × (tables_refusal 1 (plain 1 0 1 ∷ out_of_shape ∷ []) 6 6 ≡ refusal 25 2)
unfolding in_shape plain out_of_shape
words_refused =
    let n = totals_are in
    (rw n.2, rw n.3, rw (n.4, n.3), rw n.5, rw n.6, rw n.5, refl, rw n.6)

-- the bound by itself, whatever the table is
most_words :
    (t : Tables) (i m h : ℕ) → in_shape t ≡ true
    → (words_for t h m ≡ 1000000 → tables_refusal i (t ∷ []) m h ≡ fine)
    × (words_for t h m ≡ 1000001 → tables_refusal i (t ∷ []) m h ≡ refusal 43 i)
most_words t i m h shape = (λ e. rw (shape, e), λ e. rw (shape, e))

-- Whole answers: a line for each table, zero past them; and all zero on a refusal.
answers : ℕ → ℕ → ℕ → List ℕ → Shares
answers n p g xs = record { number = n; place = p; greatest = g; lines = xs }

one_of_three : List ℕ
one_of_three = (1 ∷ 1 ∷ 1 ∷ 1 ∷ 0 ∷ 2 ∷ 0 ∷ 1 ∷ zeros 20) ++ (1 ∷ 3 ∷ 1 ∷ 3 ∷ [])

all_of_three : List ℕ
all_of_three = (1 ∷ 1 ∷ 1 ∷ 1 ∷ 2 ∷ 2 ∷ 1 ∷ 1 ∷ zeros 20) ++ (3 ∷ 3 ∷ 1 ∷ 1 ∷ [])

whole_answers :
    CountsShares (batch 1 (worked_tables.built ∷ [])) both_cells both_rows both_pools 1 0
    (answers 0 0 1 (one_of_three ++ zeros 480))
    × CountsShares (batch 2 (worked_tables.built ∷ nothing_else.built ∷ [])) both_cells both_rows both_pools 1 0
    (answers 0 0 1 (one_of_three ++ (one_of_three ++ zeros 448)))
    × CountsShares (batch 2 (nothing_else.built ∷ every_word.built ∷ [])) (nothing_else.cells ++ every_word.cells)
    (nothing_else.rows ++ every_word.rows)
    (nothing_else.pool ++ every_word.pool)
    1
    0
    (answers 0 0 2 (one_of_three ++ (all_of_three ++ zeros 448)))
    × CountsShares (batch 2 (worked_tables.built ∷ worked_tables.built ∷ [])) both_cells both_rows both_pools 1 0
    (answers 25 2 0 (zeros 512))
    × CountsShares (batch 0 (worked_tables.built ∷ [])) both_cells both_rows both_pools 1 0
    (answers 40 0 0 (zeros 512))
unfolding in_shape shares_refusal greatest_of line_by accepted_of accepted_of_all words_up_to words_from count_if
    common_up_to
    table_accepts step_all step verdict worked_tables nothing_else every_word both_cells both_rows both_pools batch
    answers one_of_three all_of_three
whole_answers = (
  record { answer_is = refl },
  record { answer_is = refl },
  record { answer_is = refl },
  record { answer_is = refl },
  record { answer_is = refl },
)
