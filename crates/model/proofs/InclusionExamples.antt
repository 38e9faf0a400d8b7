-- Inclusion by computation: words of any number of events, 25, 35 and 36 at their edges and in their order, the room
-- for a word; and whole calls on small tables, with every lent number that they leave.
use mathlib.Core.Path.{◌≡◌, refl, sym, ◌∙◌, ap}
use mathlib.Core.Bool.{Bool, true, false}
use mathlib.Core.List.{List, [], ◌∷◌}
use Prim.Native.Nat.{ℕ, zero, suc, ◌-◌, ◌*◌, ◌/◌, ◌≤◌, ◌<◌}
use native.Mathlib.Omega.{arith}
use lib.Dec.{eqb}
use borrow.Author.Tests.{eq-eqb}
use lib.ListN.{replicate}
use Rattle.model.specs.declared.Follower.{Follower}
use Rattle.model.specs.declared.Inclusion.{Inclusion}
use Rattle.model.specs.Basics.{zeros, mask_of, refusal, fine}
use Rattle.model.specs.Rules.{Rule, rule, valid_rule, cm, pair_count}
use Rattle.model.specs.Words.{Event}
use Rattle.model.specs.Runs.{accepts_from, accepts_from_some, accepts}
use Rattle.model.specs.Files.{record_refusal, with_record, at_end, read_from, read_rule}
use Rattle.model.specs.Construction.{interval_of, interval_count, code_of, location_of, bases_of, start_row, allows}
use Rattle.model.specs.Construction.{row_resets, target_of, next_row, by_intervals, by_symbols, rows_from, rows_of}
use Rattle.model.specs.Tables.{Tables, tables, row_verdict, row_width, row_room, fit_refusal, scratch_need}
use Rattle.model.specs.Tables.{table_refusal}
use Rattle.model.specs.Walks.{in_shape, shape_refusal, verdict, cell_at, start_at, step, step_all}
use Rattle.model.specs.Walks.{table_accepts}
use Rattle.model.specs.Lists.{list_grain, event_of}
use Rattle.model.specs.Inclusion.{keeps_any, Included, OnlyFirst, NoneBelow, state_count, joint_count, word_room}
use Rattle.model.specs.Inclusion.{Comparable, inclusion_refusal, shown_in, OnlyFirstRule, stamps_fit}
use Rattle.model.specs.JointStates.{state, start_state, waited, waits_for, takes, walked, JointReached, begin}
use Rattle.model.specs.JointStates.{wait, take}
use Rattle.model.specs.Promises.{inclusion, holds, shown, too_long, ChecksInclusion}
use Rattle.model.specs.Claims.{AsBuilt}
use Rattle.model.proofs.Logic.{no_way}
use Rattle.model.proofs.Regions.{interval_small}
use Rattle.model.proofs.Words.{Below}
use Rattle.model.proofs.JointWalk.{KeepsAny, keeps_of}
use Rattle.model.proofs.Examples.{worked_file, worked, worked_tables, worked_table_is}
use Rattle.model.proofs.Cases.{Case, case, all_met}

-- D from 1 to 1,000; symbols below S; stamps that do not fall; no event at all, and equal stamps
words_any :
    (keeps_any 2 0 [] ≡ false) × (keeps_any 2 1 [] ≡ true) × (keeps_any 2 1000 [] ≡ true) ×
    (keeps_any 2 1001 [] ≡ false)
    × (keeps_any 2 7 (event_of 1 0 ∷ event_of 0 0 ∷ event_of 1 9 ∷ []) ≡ true)
    × (keeps_any 2 7 (event_of 2 0 ∷ []) ≡ false)
    × (keeps_any 2 7 (event_of 1 5 ∷ event_of 0 4 ∷ []) ≡ false)
words_any = (refl, refl, refl, refl, refl, refl, refl)

-- stamps of 32 bits
stamps_of_32 :
    (stamps_fit [] ≡ true) × (stamps_fit (event_of 0 4294967295 ∷ []) ≡ true)
    × (stamps_fit (event_of 0 0 ∷ event_of 0 4294967296 ∷ []) ≡ false)
stamps_of_32 = (refl, refl, refl)

-- a table of R rows without codes over S symbols, cm = top: it accepts nothing
unfoldable pub plain : ℕ → ℕ → ℕ → Tables
plain symbols top rows =
    tables (record { locations = 1; symbols = symbols; clocks = 1; top = top; ends = 0; rows = rows; total = 0 })
    (zeros (rows * (symbols * interval_count top)))
    (zeros (row_width * rows))
    []

-- the empty word alone, over two symbols
unfoldable pub nothing_else : Tables
nothing_else =
    tables (record { locations = 1; symbols = 2; clocks = 1; top = 0; ends = 1; rows = 2; total = 1 })
    (2 ∷ 2 ∷ 2 ∷ 2 ∷ 2 ∷ 2 ∷ 2 ∷ 2 ∷ [])
    (0 ∷ 1 ∷ 1 ∷ 1 ∷ 0 ∷ 0 ∷ [])
    (0 ∷ [])

-- 25, first table, then second, before 35; 35 before 36; 36 at N and N - 1 numbers, at 1,000,000 and past it
refusals : List Case
refusals =
    case (inclusion_refusal worked_tables worked_tables 144) fine
    ∷ case (inclusion_refusal worked_tables worked_tables 143) (refusal 36 0)
    ∷ case (inclusion_refusal worked_tables nothing_else 48) fine
    ∷ case (inclusion_refusal nothing_else worked_tables 48) fine
    ∷ case (inclusion_refusal worked_tables nothing_else 47) (refusal 36 0)
    ∷ case (inclusion_refusal (plain 2 0 0) worked_tables 144) (refusal 25 0)
    ∷ case (inclusion_refusal worked_tables (plain 2 0 0) 144) (refusal 25 0)
    ∷ case (inclusion_refusal (plain 1 0 0) worked_tables 0) (refusal 25 0)
    ∷ case (inclusion_refusal worked_tables (plain 1 0 0) 0) (refusal 25 0)
    ∷ case (inclusion_refusal worked_tables (plain 1 0 1) 144) (refusal 35 0)
    ∷ case (inclusion_refusal (plain 1 0 1) worked_tables 144) (refusal 35 0)
    ∷ case (inclusion_refusal worked_tables (plain 1 0 1) 0) (refusal 35 0)
    ∷ case (inclusion_refusal (plain 1 0 500) (plain 1 0 500) 1000000) fine
    ∷ case (inclusion_refusal (plain 1 0 500) (plain 1 0 500) 999999) (refusal 36 0)
    ∷ case (inclusion_refusal (plain 1 0 306) (plain 1 0 817) 1000008) (refusal 36 0)
    ∷ []

refusals_met : all_met refusals ≡ true
unfolding in_shape shape_refusal inclusion_refusal worked_tables plain nothing_else all_met refusals
refusals_met = refl

-- the bound by itself, whatever the two tables are: 1,000,000 passes and 1,000,001 is 36, though W is even and the next
-- count that two tables have is 1,000,004
most_joint :
    (t u : Tables) → Comparable t u
    → (joint_count t.built u.built ≡ 1000000 → inclusion_refusal t u 1000000 ≡ fine)
    × (joint_count t.built u.built ≡ 1000001 → inclusion_refusal t u 1000001 ≡ refusal 36 0)
unfolding shape_refusal inclusion_refusal
most_joint t u c =
    let same_s = eq-eqb t.built.symbols u.built.symbols c.same_symbols in (
      λ e. rw (c.first_shape, c.second_shape, same_s, e),
      λ e. rw (c.first_shape, c.second_shape, same_s, e),
    )

-- R · W and their product
counts :
    (state_count worked_tables.built ≡ 12) × (state_count nothing_else.built ≡ 4)
    × (joint_count worked_tables.built nothing_else.built ≡ 48)
unfolding worked_tables nothing_else
counts = (refl, refl, refl)

-- the lesser of the two lent lists, at most 4,096; the word that stands in front of them
rooms :
    (word_room (zeros 3) (zeros 5) ≡ 3) × (word_room (zeros 5) (zeros 3) ≡ 3)
    × (word_room (zeros 4096) (zeros 4097) ≡ 4096)
    × (word_room (zeros 4097) (zeros 4097) ≡ 4096)
    × (shown_in (inclusion fine false 1) (7 ∷ 8 ∷ []) (4 ∷ 5 ∷ 6 ∷ []) ≡ (event_of 7 4 ∷ []))
rooms = (refl, refl, refl, refl, refl)

-- the joint walk: an age up to the top interval and no further, a timer that is reset and one that is not, P3; after
-- one second and an event the second table's age is cut at its own top
walks :
    (waited 1 0 ≡ 1) × (waited 1 2 ≡ 3) × (waited 1 3 ≡ 3) × (waits_for 2 worked_tables (state 2 0) ≡ state 2 2)
    × (waits_for 5 worked_tables (state 2 0) ≡ state 2 3)
    × (takes worked_tables 0 (state 0 2) ≡ state 2 0)
    × (takes worked_tables 0 (state 0 1) ≡ state 1 1)
    × (walked worked_tables 0 (event_of 0 2 ∷ event_of 1 4 ∷ []) start_state ≡ state 0 2)
unfolding walked worked_tables
walks = (refl, refl, refl, refl, refl, refl, refl, refl)

reached : JointReached worked_tables nothing_else 1 (state 2 0) (state 1 1)
unfolding worked_tables nothing_else
reached = take 0 (omega arith) (wait (wait begin))

-- (0, 1 s)(1, 2 s) is P3
only_worked : OnlyFirst worked_tables nothing_else list_grain (event_of 0 2 ∷ event_of 1 4 ∷ [])
unfolding verdict step step_all table_accepts worked_tables nothing_else
only_worked = record { keeps = refl; accepted = refl; not_accepted = refl }

-- and none is shorter: one event leads the worked table to a row that says no
first_cell :
    (s i : ℕ) → s < 2 → i < 4
    → eqb (row_verdict worked_tables.rows (cell_at worked_tables 0 s i / 2)) 1 ≡ false
unfolding worked_tables
first_cell zero zero h g = refl
first_cell zero (suc zero) h g = refl
first_cell zero (suc (suc zero)) h g = refl
first_cell zero (suc (suc (suc zero))) h g = refl
first_cell zero (suc (suc (suc (suc i)))) h g = absurd (omega arith)
first_cell (suc zero) zero h g = refl
first_cell (suc zero) (suc zero) h g = refl
first_cell (suc zero) (suc (suc zero)) h g = refl
first_cell (suc zero) (suc (suc (suc zero))) h g = refl
first_cell (suc zero) (suc (suc (suc (suc i)))) h g = absurd (omega arith)
first_cell (suc (suc s)) i h g = absurd (omega arith)

one_event : (d : ℕ) (v : Event) → 1 ≤ d → v.symbol < 2 → table_accepts worked_tables d (v ∷ []) ≡ false
unfolding table_accepts step_all step verdict worked_tables
one_event d v hd h =
    first_cell v.symbol (interval_of 1 d (v.stamp - 0)) h (interval_small 1 d (v.stamp - 0) hd)

none_shorter : NoneBelow 2 worked_tables nothing_else
unfolding table_accepts step_all verdict worked_tables nothing_else
none_shorter d [] o = no_way (sym o.not_accepted)
none_shorter d (v ∷ []) o =
    let k : KeepsAny 2 d (v ∷ []) = keeps_of 2 d (v ∷ []) o.keeps in
    no_way (sym (one_event d v k.least k.below.0) ∙ o.accepted)
none_shorter d (v ∷ w ∷ vs) o = omega arith

-- Whole calls: outcomes that meet the promise; by One-inclusion any other has the same answer and the same lent memory,
-- but for the word. Nines are lent.
abbrev answers : ℕ → Bool → ℕ → Inclusion
answers n is_included events = record { number = n; place = 0; included = is_included; events = events }

abbrev nines : ℕ → List ℕ
nines n = replicate n 9

-- the word, in a room of three, and in one whose symbols it fills
call_shown :
    ChecksInclusion worked_tables nothing_else (nines 49) (zeros 49) (nines 3) (0 ∷ 1 ∷ 0 ∷ []) (nines 3)
    (2 ∷ 4 ∷ 0 ∷ [])
    (answers 0 false 2)
unfolding in_shape shape_refusal inclusion_refusal worked_tables nothing_else
call_shown = record {
  refused = λ h. no_way (sym h);
  searched = λ h.
      (refl, shown (event_of 0 2 ∷ event_of 1 4 ∷ []) refl (omega arith) refl only_worked none_shorter refl refl);
}

call_fits :
    ChecksInclusion worked_tables nothing_else (nines 48) (zeros 48) (nines 2) (0 ∷ 1 ∷ []) (nines 4)
    (2 ∷ 4 ∷ 0 ∷ 0 ∷ [])
    (answers 0 false 2)
unfolding in_shape shape_refusal inclusion_refusal worked_tables nothing_else
call_fits = record {
  refused = λ h. no_way (sym h);
  searched = λ h.
      (refl, shown (event_of 0 2 ∷ event_of 1 4 ∷ []) refl (omega arith) refl only_worked none_shorter refl refl);
}

-- a room too short by one
call_long :
    ChecksInclusion worked_tables nothing_else (nines 48) (zeros 48) (nines 4) (zeros 4) (nines 1) (zeros 1)
    (answers 37 false 0)
unfolding in_shape shape_refusal inclusion_refusal worked_tables nothing_else
call_long = record {
  refused = λ h. no_way (sym h);
  searched = λ h. (
    refl,
    too_long refl (record { word = event_of 0 2 ∷ event_of 1 4 ∷ []; fits = refl; only = only_worked }) none_shorter
        refl
        refl,
  );
}

-- the empty word, shown in no room at all
no_word : Tables
no_word = plain 2 0 1

only_empty : OnlyFirst worked_tables no_word list_grain []
unfolding verdict step_all table_accepts worked_tables plain no_word
only_empty = record { keeps = refl; accepted = refl; not_accepted = refl }

call_empty :
    ChecksInclusion worked_tables no_word (nines 24) (zeros 24) [] [] (nines 1) (zeros 1) (answers 0 false 0)
unfolding in_shape shape_refusal inclusion_refusal worked_tables plain no_word
call_empty = record {
  refused = λ h. no_way (sym h);
  searched = λ h. (refl, shown [] refl (omega arith) refl only_empty (λ d vs o. omega arith) refl refl);
}

-- yes: a table allows only what it allows itself
call_yes :
    ChecksInclusion worked_tables worked_tables (nines 144) (zeros 144) (nines 3) (zeros 3) (nines 2) (zeros 2)
    (answers 0 true 0)
unfolding in_shape shape_refusal inclusion_refusal worked_tables
call_yes = record {
  refused = λ h. no_way (sym h);
  searched = λ h. (refl, holds refl (λ d vs k yes. yes) refl refl);
}

-- yes, and not the other way round: after any event the second table is in row 1 for good, which says no
one_row : (n s i : ℕ) → n < 2 → s < 2 → i < 2 → cell_at nothing_else n s i ≡ 2
unfolding nothing_else
one_row zero zero zero a b c = refl
one_row zero zero (suc zero) a b c = refl
one_row zero (suc zero) zero a b c = refl
one_row zero (suc zero) (suc zero) a b c = refl
one_row (suc zero) zero zero a b c = refl
one_row (suc zero) zero (suc zero) a b c = refl
one_row (suc zero) (suc zero) zero a b c = refl
one_row (suc zero) (suc zero) (suc zero) a b c = refl
one_row (suc (suc n)) s i a b c = absurd (omega (arith, a))
one_row zero (suc (suc s)) i a b c = absurd (omega (arith, b))
one_row (suc zero) (suc (suc s)) i a b c = absurd (omega (arith, b))
one_row zero zero (suc (suc i)) a b c = absurd (omega (arith, c))
one_row zero (suc zero) (suc (suc i)) a b c = absurd (omega (arith, c))
one_row (suc zero) zero (suc (suc i)) a b c = absurd (omega (arith, c))
one_row (suc zero) (suc zero) (suc (suc i)) a b c = absurd (omega (arith, c))

for_good :
    (f : Follower) (vs : List Event) → 1 ≤ f.grain → f.row ≡ 1 → Below 2 vs
    → verdict nothing_else (step_all nothing_else f vs).row ≡ false
unfolding verdict step step_all nothing_else
for_good f [] d r b = rw r
for_good f (v ∷ vs) d r b =
    let i : ℕ = interval_of 0 f.grain (v.stamp - f.reset.0) in
    let cell : cell_at nothing_else f.row v.symbol i ≡ 2 =
    one_row f.row v.symbol i (omega (arith, r)) b.0 (interval_small 0 f.grain (v.stamp - f.reset.0) d) in
    for_good (step nothing_else f v) vs d (ap (λ (x : ℕ). x / 2) cell) b.1

empty_only : Included nothing_else worked_tables
unfolding table_accepts step_all step verdict worked_tables nothing_else
empty_only d [] k says = refl
empty_only d (v ∷ vs) k says =
    let w : KeepsAny 2 d (v ∷ vs) = keeps_of 2 d (v ∷ vs) k in
    let i : ℕ = interval_of 0 d (v.stamp - 0) in
    let cell : cell_at nothing_else 0 v.symbol i ≡ 2 =
    one_row 0 v.symbol i (omega arith) w.below.0 (interval_small 0 d (v.stamp - 0) w.least) in
    no_way (sym (for_good (step nothing_else (start_at d) v) vs w.least (ap (λ (x : ℕ). x / 2) cell) w.below.1)
    ∙ says)

call_one_way :
    ChecksInclusion nothing_else worked_tables (nines 48) (zeros 48) (nines 1) (zeros 1) [] [] (answers 0 true 0)
unfolding in_shape shape_refusal inclusion_refusal worked_tables nothing_else
call_one_way = record {
  refused = λ h. no_way (sym h);
  searched = λ h. (refl, holds refl empty_only refl refl);
}

-- 25, 35 and 36 leave everything as it was
call_refused :
    ChecksInclusion worked_tables (plain 2 0 0) (nines 9) (nines 9) (nines 3) (nines 3) (nines 2) (nines 2)
    (answers 25 false 0)
    × ChecksInclusion worked_tables (plain 1 0 1) (nines 9) (nines 9) (nines 3) (nines 3) (nines 2) (nines 2)
    (answers 35 false 0)
    × ChecksInclusion worked_tables worked_tables (nines 143) (nines 143) (nines 3) (nines 3) (nines 2) (nines 2)
    (answers 36 false 0)
unfolding in_shape shape_refusal inclusion_refusal worked_tables plain
call_refused = (
  record { refused = λ h. (refl, refl, refl, refl); searched = λ h. no_way h },
  record { refused = λ h. (refl, refl, refl, refl); searched = λ h. no_way h },
  record { refused = λ h. (refl, refl, refl, refl); searched = λ h. no_way h },
)

-- The rules' side: the worked table is that of the worked rule, as built in room that it fills; of the worked rule and
-- one without edges only the worked rule accepts P3.
worked_as_built : AsBuilt worked worked_tables
unfolding cm pair_count record_refusal with_record at_end read_from read_rule code_of location_of bases_of start_row
    allows
    row_resets target_of next_row by_intervals by_symbols rows_from rows_of row_room fit_refusal scratch_need
    table_refusal
    valid_rule worked_file worked
worked_as_built = record {
  valid = refl;
  scratch = 1;
  cells = 24;
  rows = 9;
  pool = 2;
  fits = refl;
  tables_are = sym worked_table_is;
}

without_edges : Rule
without_edges = rule 1 2 1 (0 ∷ []) (0 ∷ []) []

only_worked_rule : OnlyFirstRule worked without_edges list_grain (event_of 0 2 ∷ event_of 1 4 ∷ [])
unfolding mask_of cm pair_count accepts_from accepts_from_some accepts record_refusal with_record at_end read_from
    read_rule
    worked_file worked without_edges
only_worked_rule = record { keeps = refl; accepted = refl; not_accepted = refl }
