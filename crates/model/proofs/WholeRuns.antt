-- Whole calls of the runners, by computation: the answer, and the scratch of the exact runner after it. Outcomes.antt
-- has that there is no other outcome.
use Rattle.std.specs.Prelude.{Some}
use mathlib.Core.Path.{◌≡◌, refl}
use mathlib.Core.Bool.{true, false}
use mathlib.Core.List.{List, [], ◌∷◌, ◌++◌}
use Prim.Native.Nat.{ℕ}
use lib.ListN.{length, replicate}
use Rattle.model.specs.declared.Head.{Head}
use Rattle.model.specs.declared.Answer.{Answer}
use Rattle.model.specs.declared.Branch.{Branch}
use Rattle.model.specs.Basics.{pick, one_if, zeros, mask_of, bits_from, Refusal, refusal, fine, passes, ◌⨾◌}
use Rattle.model.specs.Words.{events_of, most_events, most_branch_events, word_refusal}
use Rattle.model.specs.Runs.{accepts_from, accepts_from_some, accepts, least_from, least_start, least_run, held_back}
use Rattle.model.specs.Runs.{path, no_path, by_edges, by_configs, room_refusal_from, room_refusal}
use Rattle.model.specs.Layout.{head_of, edges_numbers, edge_table, rule_in, rule_refusal}
use Rattle.model.specs.Walks.{in_shape, shape_refusal, verdict, step, step_all, table_accepts}
use Rattle.model.specs.Promises.{answer_of, ChecksWord, ChecksTable, config_room, input_refusal, exact_refusal}
use Rattle.model.specs.Promises.{RunsExact, branch_of, RunsBranches, run_refusal, RunsTable}
use Rattle.model.proofs.Examples.{worked_tables}
use Rattle.model.proofs.Cases.{worked_head, worked_edges, zero_head, zero_built, free_edge, forks}
use Rattle.model.proofs.Cases.{worked_passes, forks_passes, short_refused, both_refused, head_refused}

answer : ℕ → ℕ → ℕ → Answer
answer number place value = record { number = number; place = place; value = value }

-- the rule's refusal as it is known, then that of rule and word, then the answer and the scratch
run_as :
    {h : Head} {t : List ℕ} {d : ℕ} {xs ts s s' : List ℕ} {a : Answer} {g : Refusal} (f : Refusal)
    → rule_refusal h t ≡ g
    → (g ⨾ word_refusal h.symbols d most_events xs ts) ≡ f
    → a
    ≡ answer_of (f ⨾ room_refusal (rule_in h t) d (config_room (rule_in h t) s) (events_of xs ts))
    (one_if (accepts (rule_in h t) d (events_of xs ts)))
    → s' ≡ pick (passes f) (zeros (length s)) s
    → RunsExact h t d xs ts s s' a
unfolding rule_in input_refusal exact_refusal
run_as f k e answer_is scratch_is = record { answer_is = rw (k, e) answer_is; scratch_is = rw (k, e) scratch_is }

branch_as :
    {h : Head} {t : List ℕ} {d : ℕ} {xs ts : List ℕ} {a : Branch} {g : Refusal} → rule_refusal h t ≡ g
    → a
    ≡ branch_of (g ⨾ word_refusal h.symbols d most_branch_events xs ts) (least_run (rule_in h t) d (events_of xs ts))
    (held_back (rule_in h t) d (events_of xs ts))
    → RunsBranches h t d xs ts a
unfolding rule_in input_refusal
branch_as k answer_is = record { answer_is = rw k answer_is }

-- The exact runner on the worked case with D = 2: one configuration takes 4 numbers of scratch, all 7 at first.
exact : ℕ → Head → ℕ → ℕ → List ℕ → List ℕ → ℕ → Answer → Type 0
exact left head unused d symbols stamps scratch answer_is =
    RunsExact head (worked_edges unused) d symbols stamps (replicate scratch 7) (replicate scratch left) answer_is

-- 20, 21, 30 to 33, in this order and before 26: the scratch is untouched
exacts_untouched : Type 0
exacts_untouched =
    exact 7 zero_head 21843 2 [] [] 5 (answer 20 0 0) × exact 7 worked_head 21843 2 [] [] 5 (answer 20 0 0)
    × exact 7 zero_head 21844 0 [] [] 5 (answer 21 0 0)
    × exact 7 worked_head 21844 0 (0 ∷ []) [] 5 (answer 30 0 0)
    × exact 7 worked_head 21844 1001 [] [] 5 (answer 30 0 0)
    × exact 7 worked_head 21844 2 (2 ∷ []) [] 5 (answer 31 0 0)
    × exact 7 worked_head 21844 2 (replicate 4097 2) (replicate 4097 0) 5 (answer 31 0 0)
    × exact 7 worked_head 21844 2 (0 ∷ 2 ∷ []) (2 ∷ 1 ∷ []) 3 (answer 32 2 0)
    × exact 7 worked_head 21844 2 (0 ∷ 1 ∷ []) (2 ∷ 1 ∷ []) 3 (answer 33 2 0)

exacts_untouched_are : exacts_untouched
unfolding rule_in word_refusal answer exact exacts_untouched
exacts_untouched_are = (
  run_as (refusal 20 0) both_refused refl refl refl,
  run_as (refusal 20 0) short_refused refl refl refl,
  run_as (refusal 21 0) head_refused refl refl refl,
  run_as (refusal 30 0) worked_passes refl refl refl,
  run_as (refusal 30 0) worked_passes refl refl refl,
  run_as (refusal 31 0) worked_passes refl refl refl,
  run_as (refusal 31 0) worked_passes refl refl refl,
  run_as (refusal 32 2) worked_passes refl refl refl,
  run_as (refusal 33 2) worked_passes refl refl refl,
)

-- 26 and each verdict: the scratch is zero
forked : ℕ → List ℕ → List ℕ → ℕ → Answer → Type 0
forked d symbols stamps scratch answer_is =
    RunsExact (head_of forks) (edge_table 22016 forks) d symbols stamps (replicate scratch 7) (replicate scratch 0)
    answer_is

exacts_zeroed : Type 0
exacts_zeroed =
    exact 0 worked_head 21844 2 [] [] 3 (answer 26 0 0) × exact 0 worked_head 21844 2 [] [] 4 (answer 0 0 1)
    × exact 0 worked_head 21844 2 (0 ∷ []) (2 ∷ []) 4 (answer 0 0 0)
    × exact 0 worked_head 21844 2 (0 ∷ 1 ∷ []) (2 ∷ 4 ∷ []) 9 (answer 0 0 1)
    × exact 0 worked_head 21844 2 (replicate 4096 0) (replicate 4096 0) 4 (answer 0 0 0)
    × forked 1 (1 ∷ []) (0 ∷ []) 7 (answer 26 1 0)
    × forked 1 (1 ∷ []) (0 ∷ []) 8 (answer 0 0 1)
    × forked 1 (0 ∷ 1 ∷ []) (0 ∷ 0 ∷ []) 7 (answer 26 2 0)
    × forked 1 (0 ∷ 0 ∷ []) (0 ∷ 0 ∷ []) 7 (answer 0 0 0)

exacts_zeroed_are : exacts_zeroed
unfolding mask_of bits_from edges_numbers edge_table rule_in word_refusal accepts_from accepts_from_some accepts
    by_edges
    by_configs room_refusal_from room_refusal answer exact free_edge forks forked exacts_zeroed
exacts_zeroed_are = (
  run_as fine worked_passes refl refl refl,
  run_as fine worked_passes refl refl refl,
  run_as fine worked_passes refl refl refl,
  run_as fine worked_passes refl refl refl,
  run_as fine worked_passes refl refl refl,
  run_as fine forks_passes refl refl refl,
  run_as fine forks_passes refl refl refl,
  run_as fine forks_passes refl refl refl,
  run_as fine forks_passes refl refl refl,
)

-- The branch runner: the start and the edges of the least run, unused places zero; all zero where there is none and on
-- a refusal. At most 12 events. What held the rule back: nothing on a refusal, with a run, where no edge leaves an
-- initial location on the first symbol, and where its guard holds.
branch : ℕ → ℕ → Branch
branch number place = record {
  number = number;
  place = place;
  found = false;
  start = 0;
  edges = replicate 12 0;
  held = false;
  position = 0;
}

held_at : ℕ → Branch
held_at position = record {
  number = 0;
  place = 0;
  found = false;
  start = 0;
  edges = replicate 12 0;
  held = true;
  position = position;
}

run_by : List ℕ → Branch
run_by edges =
    record { number = 0; place = 0; found = true; start = 0; edges = edges; held = false; position = 0 }

branches : Type 0
branches =
    RunsBranches zero_head (worked_edges 21843) 0 [] [] (branch 20 0)
    × RunsBranches zero_head (worked_edges 21844) 0 [] [] (branch 21 0)
    × RunsBranches worked_head (worked_edges 21844) 0 (0 ∷ []) [] (branch 30 0)
    × RunsBranches worked_head (worked_edges 21844) 2 (2 ∷ []) [] (branch 31 0)
    × RunsBranches worked_head (worked_edges 21844) 2 (replicate 13 2) (replicate 13 0) (branch 31 0)
    × RunsBranches worked_head (worked_edges 21844) 2 (replicate 12 0) (replicate 12 0) (held_at 0)
    × RunsBranches worked_head (worked_edges 21844) 2 (0 ∷ 2 ∷ []) (2 ∷ 1 ∷ []) (branch 32 2)
    × RunsBranches worked_head (worked_edges 21844) 2 (0 ∷ 1 ∷ []) (2 ∷ 1 ∷ []) (branch 33 2)
    × RunsBranches worked_head (worked_edges 21844) 2 (0 ∷ 1 ∷ []) (2 ∷ 4 ∷ []) (run_by (0 ∷ 1 ∷ replicate 10 0))
    × RunsBranches worked_head (worked_edges 21844) 2 (0 ∷ 1 ∷ []) (2 ∷ 3 ∷ []) (branch 0 0)
    × RunsBranches worked_head (worked_edges 21844) 2 [] [] (run_by (replicate 12 0))
    × RunsBranches worked_head (worked_edges 21844) 2 (0 ∷ []) (1 ∷ []) (held_at 0)
    × RunsBranches worked_head (worked_edges 21844) 2 (1 ∷ []) (1 ∷ []) (branch 0 0)
    × RunsBranches worked_head (worked_edges 21844) 2 (0 ∷ []) (2 ∷ []) (branch 0 0)
    × RunsBranches (head_of forks) (edge_table 22016 forks) 1 (0 ∷ 1 ∷ 1 ∷ []) (0 ∷ 0 ∷ 0 ∷ [])
    (run_by (0 ∷ 2 ∷ 3 ∷ replicate 9 0))
    × RunsBranches (head_of forks) (edge_table 22016 forks) 1 (replicate 12 1) (replicate 12 0)
    (run_by (replicate 11 2 ++ (3 ∷ [])))

branches_are : branches
unfolding mask_of bits_from edges_numbers edge_table rule_in word_refusal accepts_from accepts_from_some accepts
    least_from
    least_start least_run held_back branch held_at run_by free_edge forks branches
branches_are = (
  branch_as both_refused refl,
  branch_as head_refused refl,
  branch_as worked_passes refl,
  branch_as worked_passes refl,
  branch_as worked_passes refl,
  branch_as worked_passes refl,
  branch_as worked_passes refl,
  branch_as worked_passes refl,
  branch_as worked_passes refl,
  branch_as worked_passes refl,
  branch_as worked_passes refl,
  branch_as worked_passes refl,
  branch_as worked_passes refl,
  branch_as worked_passes refl,
  branch_as forks_passes refl,
  branch_as forks_passes refl,
)

-- a position past 0, and that a refusal has neither run nor position
told : Type 0
told =
    (branch_of fine no_path (Some 2) ≡ held_at 2)
    × (branch_of (refusal 21 0) (path true 1 (1 ∷ [])) (Some 3) ≡ branch 21 0)

told_are : told
unfolding branch held_at told
told_are = (refl, refl)

-- The table runner on the worked table: 25, then 30 to 33; yes and no. The checks that it makes.
table : ℕ → List ℕ → List ℕ → Answer → Type 0
table d symbols stamps answer_is =
    RunsTable worked_tables.built worked_tables.cells worked_tables.rows worked_tables.pool d symbols stamps
    answer_is

tables_run : Type 0
tables_run =
    RunsTable zero_built [] [] [] 0 [] [] (answer 25 0 0) × ChecksTable zero_built [] [] [] (answer 25 0 0)
    × ChecksTable worked_tables.built worked_tables.cells worked_tables.rows worked_tables.pool
    (answer 0 0 0)
    × ChecksWord 2 0 4 [] [] (answer 30 0 0)
    × ChecksWord 2 1 4 (replicate 4 0) (replicate 4 0) (answer 0 0 0)
    × ChecksWord 2 1 4 (replicate 5 0) (replicate 5 0) (answer 31 0 0)
    × ChecksWord 2 1 4 (0 ∷ 2 ∷ []) (0 ∷ 0 ∷ []) (answer 32 2 0)
    × table 0 (0 ∷ []) [] (answer 30 0 0)
    × table 2 (2 ∷ []) [] (answer 31 0 0)
    × table 2 (replicate 4096 0) (replicate 4096 0) (answer 0 0 0)
    × table 2 (replicate 4097 0) (replicate 4097 0) (answer 31 0 0)
    × table 2 (0 ∷ 2 ∷ []) (2 ∷ 1 ∷ []) (answer 32 2 0)
    × table 2 (0 ∷ 1 ∷ []) (2 ∷ 1 ∷ []) (answer 33 2 0)
    × table 2 (0 ∷ 1 ∷ []) (2 ∷ 4 ∷ []) (answer 0 0 1)
    × table 2 (0 ∷ 1 ∷ 0 ∷ []) (2 ∷ 4 ∷ 4 ∷ []) (answer 0 0 0)
    × table 2 (0 ∷ 1 ∷ 0 ∷ 1 ∷ []) (2 ∷ 4 ∷ 4 ∷ 6 ∷ []) (answer 0 0 1)

tables_run_are : tables_run
unfolding word_refusal in_shape shape_refusal verdict step step_all table_accepts run_refusal worked_tables answer table
    tables_run
tables_run_are = (
  record { answer_is = refl },
  record { answer_is = refl },
  record { answer_is = refl },
  record { answer_is = refl },
  record { answer_is = refl },
  record { answer_is = refl },
  record { answer_is = refl },
  record { answer_is = refl },
  record { answer_is = refl },
  record { answer_is = refl },
  record { answer_is = refl },
  record { answer_is = refl },
  record { answer_is = refl },
  record { answer_is = refl },
  record { answer_is = refl },
  record { answer_is = refl },
)
