-- What every public entry promises: one equation for its answer and one for each lent buffer at exit, in every case.
-- A primed name is the buffer at exit. One part is free, and it is named: which shortest word 2.10 shows.
use Rattle.std.specs.Prelude.{Option}
use Rattle.std.specs.Prelude.{◌≡◌, Bool, true, false, ◌&&◌, not, List, [], ℕ, suc, ◌+◌, ◌*◌, ◌/◌, ◌≤◌, ltb, leb, length}
use Rattle.model.specs.declared.Stamp.{Stamp}
use Rattle.model.specs.declared.Head.{Head}
use Rattle.model.specs.declared.Built.{Built}
use Rattle.model.specs.declared.Answer.{Answer}
use Rattle.model.specs.declared.Reading.{Reading}
use Rattle.model.specs.declared.Building.{Building}
use Rattle.model.specs.declared.Branch.{Branch}
use Rattle.model.specs.declared.Follower.{Follower}
use Rattle.model.specs.declared.Started.{Started}
use Rattle.model.specs.declared.Followed.{Followed}
use Rattle.model.specs.declared.Moved.{Moved}
use Rattle.model.specs.declared.Size.{Size}
use Rattle.model.specs.declared.Listed.{Listed}
use Rattle.model.specs.declared.Next.{Next}
use Rattle.model.specs.declared.Inclusion.{Inclusion}
use Rattle.model.specs.declared.Batch.{Batch}
use Rattle.model.specs.declared.Shares.{Shares}
use Rattle.model.specs.Basics.{pick, one_if, zeros, filled, written, Refusal, refusal, fine, refuse, passes, ◌⨾◌}
use Rattle.model.specs.Rules.{Rule}
use Rattle.model.specs.Words.{Event, events_of, most_events, most_branch_events, grain_ok, word_refusal}
use Rattle.model.specs.Guards.{is_met, failing_position}
use Rattle.model.specs.Runs.{accepts, Path, least_run, held_back, room_refusal}
use Rattle.model.specs.Files.{read_rule, rule_bytes}
use Rattle.model.specs.Layout.{edge_need, head_of, no_head, edge_table, rule_in, rule_refusal}
use Rattle.model.specs.Tables.{Tables, tables, tables_of, built_of, no_built, table_refusal}
use Rattle.model.specs.Walks.{shape_refusal, verdict, start_at, step, table_accepts, follow_refusal}
use Rattle.model.specs.Lists.{After, list_of, word_after, listed_of, events_in, list_refusal, list_grain, symbols_of}
use Rattle.model.specs.Lists.{stamps_of}
use Rattle.model.specs.Inclusion.{stamps_fit, Included, OnlyFirst, SomeOnlyFirst, NoneBelow}
use Rattle.model.specs.Inclusion.{inclusion_refusal, word_room}
use Rattle.model.specs.Shares.{batch_of, shares_refusal, shares_of}

-- the refusal with its place and value 0, or the value
abbrev pub answer_of : Refusal → ℕ → Answer
answer_of f value = record { number = f.number; place = f.place; value = pick (passes f) value 0 }

-- check_rule: 20, 21
pub record ChecksRule (head : Head) (edges : List ℕ) (answer : Answer) : Type 0 where
  pub answer_is : answer ≡ answer_of (rule_refusal head edges) 0

-- check_word: 30, 31, 32, 33
pub record ChecksWord (symbol_count d most : ℕ) (symbols stamps : List ℕ) (answer : Answer) : Type 0 where
  pub answer_is : answer ≡ answer_of (word_refusal symbol_count d most symbols stamps) 0

-- check_table: 25
pub record ChecksTable (built : Built) (cells rows pool : List ℕ) (answer : Answer) : Type 0 where
  pub answer_is : answer ≡ answer_of (shape_refusal (tables built cells rows pool)) 0

-- read_rule: 20, then 1 to 8. After 20 the edge table is untouched; after 1 to 8 it is zero.
abbrev pub too_short : List ℕ → Bool
too_short edges = ltb (length edges) edge_need

unfoldable pub read_refusal : List ℕ → List ℕ → Refusal
read_refusal file edges = refuse (too_short edges) 20 0 ⨾ (read_rule file).refused

abbrev pub reading_of : Refusal → Rule → Reading
reading_of f r = record { number = f.number; place = f.place; head = pick (passes f) (head_of r) no_head }

abbrev pub edges_read : List ℕ → List ℕ → List ℕ
edges_read file edges =
    pick (too_short edges) edges
    (pick (passes (read_refusal file edges)) (edge_table (length edges) (read_rule file).rule_is)
    (zeros (length edges)))

pub record ReadsRule (file edges edges' : List ℕ) (answer : Reading) : Type 0 where
  pub answer_is : answer ≡ reading_of (read_refusal file edges) (read_rule file).rule_is
  pub edges_are : edges' ≡ edges_read file edges

-- write_rule: 20, 21, 27. The value is the file's length; bytes past the file are not touched.
unfoldable pub write_refusal : Head → List ℕ → List ℕ → Refusal
write_refusal head edges out =
    rule_refusal head edges ⨾ refuse (ltb (length out) (length (rule_bytes (rule_in head edges)))) 27 0

pub record WritesRule (head : Head) (edges out out' : List ℕ) (answer : Answer) : Type 0 where
  pub answer_is : answer ≡ answer_of (write_refusal head edges out) (length (rule_bytes (rule_in head edges)))
  pub out_is : out' ≡ pick (passes (write_refusal head edges out)) (written (rule_bytes (rule_in head edges)) out) out

-- build_table: 20, 21, 22, then 23 and 24. Up to 22 all lent memory is untouched; after 23 and 24 it is zero.
-- The scratch ends as zero on success too.
unfoldable pub build_refusal : Head → List ℕ → List ℕ → List ℕ → List ℕ → List ℕ → Refusal
build_refusal head edges scratch cells rows pool =
    rule_refusal head edges
    ⨾ table_refusal (rule_in head edges) (length scratch) (length cells) (length rows) (length pool)

abbrev pub building_of : Refusal → Rule → Building
building_of f r = record { number = f.number; place = f.place; built = pick (passes f) (built_of r) no_built }

-- the tables of a rule in this room
abbrev pub tables_made : Rule → List ℕ → List ℕ → List ℕ → Tables
tables_made r cells rows pool = tables_of r (length cells) (length rows) (length pool)

-- a lent table at exit: as made, zero where the work had begun, else as it was
abbrev pub leaves : Refusal → List ℕ → List ℕ → List ℕ
leaves f made was = pick (passes f) made (pick (leb 23 f.number) (zeros (length was)) was)

pub record BuildsTable
    (head : Head) (edges scratch scratch' cells cells' rows rows' pool pool' : List ℕ) (answer : Building)
    : Type 0 where
  pub answer_is : answer ≡ building_of (build_refusal head edges scratch cells rows pool) (rule_in head edges)
  pub scratch_is : scratch' ≡ leaves (build_refusal head edges scratch cells rows pool) (zeros (length scratch)) scratch
  pub cells_are :
      cells'
      ≡ leaves (build_refusal head edges scratch cells rows pool)
      (tables_made (rule_in head edges) cells rows pool).cells cells
  pub rows_are :
      rows'
      ≡ leaves (build_refusal head edges scratch cells rows pool)
      (tables_made (rule_in head edges) cells rows pool).rows rows
  pub pool_is :
      pool'
      ≡ leaves (build_refusal head edges scratch cells rows pool)
      (tables_made (rule_in head edges) cells rows pool).pool pool

-- run_exact: 20, 21, 30 to 33, then 26. The scratch is zero after a call that passes the checks, also where it ends
-- in 26.
-- Room for scratch length / (2 (K + 1)) configurations, rounded down.
abbrev pub config_room : Rule → List ℕ → ℕ
config_room r scratch = length scratch / (2 * (r.clocks + 1))

unfoldable pub input_refusal : Head → List ℕ → ℕ → ℕ → List ℕ → List ℕ → Refusal
input_refusal head edges d most symbols stamps =
    rule_refusal head edges ⨾ word_refusal (rule_in head edges).symbols d most symbols stamps

unfoldable pub exact_refusal : Head → List ℕ → ℕ → List ℕ → List ℕ → List ℕ → Refusal
exact_refusal head edges d symbols stamps scratch =
    input_refusal head edges d most_events symbols stamps
    ⨾ room_refusal (rule_in head edges) d (config_room (rule_in head edges) scratch) (events_of symbols stamps)

pub record RunsExact
    (head : Head) (edges : List ℕ) (d : ℕ) (symbols stamps scratch scratch' : List ℕ) (answer : Answer) : Type 0 where
  pub answer_is :
      answer
      ≡ answer_of (exact_refusal head edges d symbols stamps scratch)
      (one_if (accepts (rule_in head edges) d (events_of symbols stamps)))
  pub scratch_is :
      scratch'
      ≡ pick (passes (input_refusal head edges d most_events symbols stamps)) (zeros (length scratch)) scratch

-- run_branches: 20, 21, 30 to 33 with at most 12 events. The run is all zero where none accepts, and on a refusal. What
-- held the rule back is a flag and a position; both are zero where it is nothing, and on a refusal.
abbrev pub branch_of : Refusal → Path → Option ℕ → Branch
branch_of f p g = record {
  number = f.number;
  place = f.place;
  found = passes f && p.found;
  start = pick (passes f && p.found) p.start 0;
  edges = filled most_branch_events (pick (passes f && p.found) p.taken []);
  held = passes f && not (is_met g);
  position = pick (passes f) (failing_position g) 0;
}

pub record RunsBranches
    (head : Head) (edges : List ℕ) (d : ℕ) (symbols stamps : List ℕ) (answer : Branch) : Type 0 where
  pub answer_is :
      answer
      ≡ branch_of (input_refusal head edges d most_branch_events symbols stamps)
      (least_run (rule_in head edges) d (events_of symbols stamps))
      (held_back (rule_in head edges) d (events_of symbols stamps))

-- run_table: 25, then 30 to 33
unfoldable pub run_refusal : Tables → ℕ → List ℕ → List ℕ → Refusal
run_refusal t d symbols stamps = shape_refusal t ⨾ word_refusal t.built.symbols d most_events symbols stamps

pub record RunsTable
    (built : Built) (cells rows pool : List ℕ) (d : ℕ) (symbols stamps : List ℕ) (answer : Answer) : Type 0 where
  pub answer_is :
      answer
      ≡ answer_of (run_refusal (tables built cells rows pool) d symbols stamps)
      (one_if (table_accepts (tables built cells rows pool) d (events_of symbols stamps)))

-- start_follower: only 30 refuses, and then D is zero too
abbrev pub started_by : ℕ → Started
started_by d = record {
  number = (refuse (not (grain_ok d)) 30 0).number;
  place = 0;
  follower = start_at (pick (grain_ok d) d 0);
}

pub record StartsFollower (d : ℕ) (answer : Started) : Type 0 where
  pub answer_is : answer ≡ started_by d

-- follow_event: 25, 30, 34, 31, 32, 33. A refused event leaves the follower unchanged.
abbrev pub event : ℕ → Stamp → Event
event s t = record { symbol = s; stamp = t.0 }

abbrev pub followed_by : Refusal → Tables → Follower → Event → Followed
followed_by refused t f v = record {
  number = refused.number;
  place = refused.place;
  yes = passes refused && verdict t (step t f v).row;
  follower = pick (passes refused) (step t f v) f;
}

unfoldable pub followed : Follower → Tables → Event → Followed
followed f t v = followed_by (follow_refusal t f v) t f v

pub record FollowsEvent
    (follower : Follower) (built : Built) (cells rows pool : List ℕ) (symbol : ℕ) (at : Stamp) (answer : Followed)
    : Type 0 where
  pub answer_is : answer ≡ followed follower (tables built cells rows pool) (event symbol at)

-- follow_in_place: the same, the head's own record brought forward where it is kept
abbrev pub moved_by : Followed → Moved
moved_by x = record { number = x.number; place = x.place; yes = x.yes }

pub record FollowsInPlace
    (follower follower' : Follower) (built : Built) (cells rows pool : List ℕ) (symbol : ℕ) (at : Stamp)
    (answer : Moved)
    : Type 0 where
  pub answer_is : answer ≡ moved_by (followed follower (tables built cells rows pool) (event symbol at))
  pub follower_is : follower' ≡ (followed follower (tables built cells rows pool) (event symbol at)).follower

-- decide: the reader, the builder and the table runner in a row; the first refusal met, with its place.
-- The answer speaks of the rule that the file's records spell, and of the runs of that rule.
unfoldable pub roomed_refusal : List ℕ → List ℕ → List ℕ → List ℕ → List ℕ → Refusal
roomed_refusal file scratch cells rows pool =
    table_refusal (read_rule file).rule_is (length scratch) (length cells) (length rows) (length pool)

unfoldable pub decide_refusal : List ℕ → List ℕ → List ℕ → List ℕ → List ℕ → List ℕ → ℕ → List ℕ → List ℕ → Refusal
decide_refusal file edges scratch cells rows pool d symbols stamps =
    read_refusal file edges ⨾ roomed_refusal file scratch cells rows pool
    ⨾ word_refusal (read_rule file).rule_is.symbols d most_events symbols stamps

-- a lent table of the builder's: untouched where the reader refuses
abbrev pub decide_leaves : Refusal → Refusal → List ℕ → List ℕ → List ℕ
decide_leaves read build made was = pick (passes read) (leaves build made was) was

pub record Decides
    (file edges edges' scratch scratch' cells cells' rows rows' pool pool' : List ℕ) (d : ℕ)
    (symbols stamps : List ℕ) (answer : Answer)
    : Type 0 where
  pub answer_is :
      answer
      ≡ answer_of (decide_refusal file edges scratch cells rows pool d symbols stamps)
      (one_if (accepts (read_rule file).rule_is d (events_of symbols stamps)))
  pub edges_are : edges' ≡ edges_read file edges
  pub scratch_is :
      scratch'
      ≡ decide_leaves (read_refusal file edges) (roomed_refusal file scratch cells rows pool) (zeros (length scratch))
      scratch
  pub cells_are :
      cells'
      ≡ decide_leaves (read_refusal file edges) (roomed_refusal file scratch cells rows pool)
      (tables_made (read_rule file).rule_is cells rows pool).cells
      cells
  pub rows_are :
      rows'
      ≡ decide_leaves (read_refusal file edges) (roomed_refusal file scratch cells rows pool)
      (tables_made (read_rule file).rule_is cells rows pool).rows
      rows
  pub pool_is :
      pool'
      ≡ decide_leaves (read_refusal file edges) (roomed_refusal file scratch cells rows pool)
      (tables_made (read_rule file).rule_is cells rows pool).pool
      pool

-- next_word (2.6): 38, 39. The next word of the list; the same word where it was the last, and on a refusal.
abbrev pub next_of : Refusal → After → Listed → Next
next_of f after word = record {
  number = f.number;
  place = f.place;
  last = passes f && not after.some;
  word = pick (passes f && after.some) (listed_of after.word) word;
}

abbrev pub next_given : Size → Listed → Next
next_given size word = next_of (list_refusal size word) (word_after (events_in word) (list_of size)) word

pub record GivesNext (size : Size) (word : Listed) (answer : Next) : Type 0 where
  pub answer_is : answer ≡ next_given size word

-- check_inclusion (2.10): 25, 35, 36 leave all lent memory as it was; else the scratch ends as zero, and so does the
-- word room past the word shown, all of it on yes and after 37.
abbrev pub inclusion : Refusal → Bool → ℕ → Inclusion
inclusion f is_included n = record { number = f.number; place = f.place; included = is_included; events = n }

-- The three ways in which a search ends: yes; a word that only the first accepts, as short as any; 37, the shortest
-- being longer than 4,096 events or than the room. Which of several shortest words is shown is the one free part.
pub data Searched (t u : Tables) (symbols symbols' stamps stamps' : List ℕ) (answer : Inclusion) : Type 0 where
  holds :
      answer ≡ inclusion fine true 0 → Included t u → symbols' ≡ zeros (length symbols)
      → stamps' ≡ zeros (length stamps)
      → Searched t u symbols symbols' stamps stamps' answer
  shown :
      (free : List Event) → answer ≡ inclusion fine false (length free) → length free ≤ word_room symbols stamps
      → stamps_fit free ≡ true
      → OnlyFirst t u list_grain free
      → NoneBelow (length free) t u
      → symbols' ≡ filled (length symbols) (symbols_of free)
      → stamps' ≡ filled (length stamps) (stamps_of free)
      → Searched t u symbols symbols' stamps stamps' answer
  too_long :
      answer ≡ inclusion (refusal 37 0) false 0 → SomeOnlyFirst t u
      → NoneBelow (suc (word_room symbols stamps)) t u
      → symbols' ≡ zeros (length symbols)
      → stamps' ≡ zeros (length stamps)
      → Searched t u symbols symbols' stamps stamps' answer

pub record ChecksInclusion
    (t u : Tables) (scratch scratch' symbols symbols' stamps stamps' : List ℕ) (answer : Inclusion)
    : Type 0 where
  pub refused :
      passes (inclusion_refusal t u (length scratch)) ≡ false
      → (answer ≡ inclusion (inclusion_refusal t u (length scratch)) false 0) × (scratch' ≡ scratch)
      × (symbols' ≡ symbols)
      × (stamps' ≡ stamps)
  pub searched :
      passes (inclusion_refusal t u (length scratch)) ≡ true
      → (scratch' ≡ zeros (length scratch)) × Searched t u symbols symbols' stamps stamps' answer

-- count_shares (2.7): 40, 38, then 25 and 43 by table. The lent tables are only read.
pub record CountsShares (batch : Batch) (cells rows pool : List ℕ) (m h : ℕ) (answer : Shares) : Type 0 where
  pub answer_is :
      answer ≡ shares_of (shares_refusal batch cells rows pool m h) (batch_of batch cells rows pool) m h
