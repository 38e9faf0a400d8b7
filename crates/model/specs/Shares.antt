-- How much of the list a rule allows (2.7): which words of the list are accepted, their share in lowest terms, by
-- length and in all; a batch of tables, and which of them has the greatest share (40, 38, 25, 43).
use Rattle.std.specs.Prelude.{◌≡◌, Bool, true, false, ◌&&◌, not, List, [], ◌∷◌, ◌++◌, ℕ, zero, suc, ◌*◌, eqb, ltb}
use Rattle.std.specs.Prelude.{length, get_or, take, drop}
use Rattle.model.specs.declared.Built.{Built}
use Rattle.model.specs.declared.Batch.{Batch}
use Rattle.model.specs.declared.Shares.{Shares}
use Rattle.model.specs.Basics.{pick, within, quotient, filled, Refusal, fine, refuse, passes, ◌⨾◌}
use Rattle.model.specs.Rules.{Rule}
use Rattle.model.specs.Words.{Event}
use Rattle.model.specs.Runs.{accepts}
use Rattle.model.specs.Tables.{Tables, tables, row_width, no_built}
use Rattle.model.specs.Walks.{cell_need, in_shape, table_accepts}
use Rattle.model.specs.Lists.{most_listed_events, span_ok, list_grain, words_of, words_up_to, count_if}

-- The words of n events over S symbols, up to H whole seconds; and those that a test accepts.
abbrev pub out_of : ℕ → ℕ → ℕ → ℕ
out_of s h n = length (words_of s h n)

unfoldable pub accepted_of : (List Event → Bool) → ℕ → ℕ → ℕ → ℕ
accepted_of says s h n = count_if says (words_of s h n)

-- In all: of at most m events.
abbrev pub out_of_all : ℕ → ℕ → ℕ → ℕ
out_of_all s h m = length (words_up_to s h m)

unfoldable pub accepted_of_all : (List Event → Bool) → ℕ → ℕ → ℕ → ℕ
accepted_of_all says s h m = count_if says (words_up_to s h m)

-- k divides a: a is so many times k
abbrev pub divides : ℕ → ℕ → Bool
divides k a = eqb (quotient a k * k) a

-- the greatest number up to n that divides both
unfoldable pub common_up_to : ℕ → ℕ → ℕ → ℕ
common_up_to zero a b = 1
common_up_to (suc n) a b =
    elim (divides (suc n) a && divides (suc n) b) [ true ↦ suc n | false ↦ common_up_to n a b ]

abbrev pub common : ℕ → ℕ → ℕ
common a b = common_up_to b a b

-- a of b in lowest terms: both divided by the greatest number that divides both
abbrev pub numerator : ℕ → ℕ → ℕ
numerator a b = quotient a (common a b)

abbrev pub denominator : ℕ → ℕ → ℕ
denominator a b = quotient b (common a b)

-- A share is four numbers: accepted, out of, numerator, denominator.
abbrev pub share_width : ℕ
share_width = 4

abbrev pub share : ℕ → ℕ → List ℕ
share a b = a ∷ b ∷ numerator a b ∷ denominator a b ∷ []

-- A line is eight shares: of 0 to 6 events, those above m zero, and in all.
abbrev pub line_width : ℕ
line_width = 32

-- the shares of k lengths from n on
abbrev pub shares_from : ℕ → ℕ → (List Event → Bool) → ℕ → ℕ → List ℕ
shares_from zero n says s h = []
shares_from (suc k) n says s h = share (accepted_of says s h n) (out_of s h n) ++ shares_from k (suc n) says s h

unfoldable pub line_by : (List Event → Bool) → ℕ → ℕ → ℕ → List ℕ
line_by says s m h =
    filled (share_width * suc most_listed_events) (shares_from (suc m) 0 says s h)
    ++ share (accepted_of_all says s h m) (out_of_all s h m)

-- what a table and a rule say of a listed word
abbrev pub table_says : Tables → List Event → Bool
table_says t w = table_accepts t list_grain w

abbrev pub rule_says : Rule → List Event → Bool
rule_says r w = accepts r list_grain w

abbrev pub line_of : Tables → ℕ → ℕ → List ℕ
line_of t m h = line_by (table_says t) t.built.symbols m h

abbrev pub rule_line : Rule → ℕ → ℕ → List ℕ
rule_line r m h = line_by (rule_says r) r.symbols m h

-- one line each
abbrev pub lines_of : List Tables → ℕ → ℕ → List ℕ
lines_of [] m h = []
lines_of (t ∷ ts) m h = line_of t m h ++ lines_of ts m h

-- a table's share in all
abbrev pub accepted_by : Tables → ℕ → ℕ → ℕ
accepted_by t h m = accepted_of_all (table_says t) t.built.symbols h m

abbrev pub words_for : Tables → ℕ → ℕ → ℕ
words_for t h m = out_of_all t.built.symbols h m

-- a of b is a smaller share than a' of b'
abbrev pub smaller : ℕ → ℕ → ℕ → ℕ → Bool
smaller a b a' b' = ltb (a * b') (a' * b)

-- The greatest share in all, the earliest on a tie. The best so far is number `at` with a of b; i is the next number.
abbrev pub greatest_from : ℕ → ℕ → ℕ → ℕ → List Tables → ℕ → ℕ → ℕ
greatest_from at a b i [] m h = at
greatest_from at a b i (t ∷ ts) m h =
    elim (smaller a b (accepted_by t h m) (words_for t h m)) [
      | true ↦ greatest_from i (accepted_by t h m) (words_for t h m) (suc i) ts m h
      | false ↦ greatest_from at a b (suc i) ts m h
    ]

unfoldable pub greatest_of : List Tables → ℕ → ℕ → ℕ
greatest_of [] m h = 0
greatest_of (t ∷ ts) m h = greatest_from 1 (accepted_by t h m) (words_for t h m) 2 ts m h

-- The tables of a batch: their cells, rows and pools one after another without gaps.
abbrev pub laid_out : List Built → List ℕ → List ℕ → List ℕ → List Tables
laid_out [] cells rows pool = []
laid_out (b ∷ bs) cells rows pool =
    tables b cells rows pool
    ∷ laid_out bs (drop (cell_need b) cells) (drop (row_width * b.rows) rows) (drop b.total pool)

abbrev pub batch_of : Batch → List ℕ → List ℕ → List ℕ → List Tables
batch_of x cells rows pool = laid_out (take x.count x.tables) cells rows pool

-- 40: the batch is not 1 to 16. 38: m or H. Then per table, numbered from 1: 25, and 43 if its list is longer than
-- 1,000,000 words.
abbrev pub most_tables : ℕ
most_tables = 16

abbrev pub most_words : ℕ
most_words = 1000000

abbrev pub tables_refusal : ℕ → List Tables → ℕ → ℕ → Refusal
tables_refusal i [] m h = fine
tables_refusal i (t ∷ ts) m h =
    refuse (not (in_shape t)) 25 i ⨾ refuse (ltb most_words (words_for t h m)) 43 i ⨾ tables_refusal (suc i) ts m h

unfoldable pub shares_refusal : Batch → List ℕ → List ℕ → List ℕ → ℕ → ℕ → Refusal
shares_refusal x cells rows pool m h =
    refuse (not (within 1 most_tables x.count)) 40 0 ⨾ refuse (not (span_ok m h)) 38 0
    ⨾ tables_refusal 1 (batch_of x cells rows pool) m h

-- The answer: a line for each table, zero past them; all zero on a refusal.
abbrev pub shares_of : Refusal → List Tables → ℕ → ℕ → Shares
shares_of f ts m h = record {
  number = f.number;
  place = f.place;
  greatest = pick (passes f) (greatest_of ts m h) 0;
  lines = filled (line_width * most_tables) (pick (passes f) (lines_of ts m h) []);
}

-- the table of a batch by its place from 0
abbrev pub table_in : List Tables → ℕ → Tables
table_in ts i = get_or ts i (tables no_built [] [] [])

-- Two tables have the same parts: what their rows need is the same, whatever stands behind it.
pub record SameParts (t u : Tables) : Type 0 where
  pub built_is : t.built ≡ u.built
  pub cells_are : take (cell_need t.built) t.cells ≡ take (cell_need u.built) u.cells
  pub rows_are : take (row_width * t.built.rows) t.rows ≡ take (row_width * u.built.rows) u.rows
  pub pool_is : take t.built.total t.pool ≡ take u.built.total u.pool
