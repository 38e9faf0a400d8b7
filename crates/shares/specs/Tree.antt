-- The tree of a table's list: a node for each word, its children one event longer. A node is the row after its word,
-- the stamp of the last timer reset, and the stamps that are left from its last one on.
use Rattle.std.specs.Prelude.{◌≡◌, List, ℕ, suc, ◌+◌, ◌-◌, ◌*◌, ◌/◌, ◌≤◌, ◌<◌, length, get_or}
use Rattle.model.specs.declared.Built.{Built}
use Rattle.model.specs.declared.Follower.{Follower}
use Rattle.model.specs.Rules.{most_symbols, most_constant}
use Rattle.model.specs.Construction.{most_rows}
use Rattle.model.specs.Tables.{Tables, row_width, row_verdict}
use Rattle.model.specs.Walks.{built_width, cell_need, cell_place, stamp, verdict, step_all}
use Rattle.model.specs.Lists.{most_seconds, list_grain, stamp_count, words_from, count_if}
use Rattle.model.specs.Shares.{most_words, out_of, accepted_of, table_says}

-- what 25 leaves, as far as the walk asks it: sizes, cells and stored verdicts
pub record Sized (b : Built) : Type 0 where
  pub rows_some : 1 ≤ b.rows
  pub rows_most : b.rows ≤ most_rows
  pub symbols_some : 1 ≤ b.symbols
  pub symbols_most : b.symbols ≤ most_symbols
  pub top_most : b.top ≤ most_constant

pub record Celled (b : Built) (cells : List ℕ) : Type 0 where
  pub cells_long : cell_need b ≤ length cells
  pub row_below :
      (n s i : ℕ) → n < b.rows → s < b.symbols → i < built_width b → get_or cells (cell_place b n s i) 0 / 2 < b.rows

pub record Rowed (b : Built) (rows : List ℕ) : Type 0 where
  pub rows_long : row_width * b.rows ≤ length rows
  pub stored : (n : ℕ) → n < b.rows → row_verdict rows n ≤ 1

-- a walk at D = 2, as a follower that has counted nothing
abbrev pub standing : ℕ → ℕ → Follower
standing row reset = record { grain = list_grain; row = row; reset = stamp reset; last = stamp 0; count = 0 }

-- the words of n events below a node that are accepted, their stamps among the k from x on
unfoldable pub tree_count : Tables → ℕ → ℕ → ℕ → ℕ → ℕ → ℕ
tree_count t row reset n k x =
    count_if (λ w. verdict t (step_all t (standing row reset) w).row) (words_from t.built.symbols n k x)

-- a node, its stamps from `from` to below `stamps`
pub record Node (b : Built) (stamps row reset from : ℕ) : Type 0 where
  pub row_in : row < b.rows
  pub reset_before : reset ≤ from
  pub from_before : from ≤ stamps
  pub stamps_most : stamps ≤ stamp_count most_seconds

-- The counts have room for what is below a node: place n is for the words of n + 1 events.
pub record Roomy (t : Tables) (stamps row reset from : ℕ) (counts : List ℕ) : Type 0 where
  pub some : 1 ≤ length counts
  pub room :
      (n : ℕ) → n < length counts
      → get_or counts n 0 + tree_count t row reset (suc n) (stamps - from) from ≤ most_words

-- it was added to them
pub record Tallied (t : Tables) (stamps row reset from : ℕ) (counts counts' : List ℕ) : Type 0 where
  pub same_length : length counts' ≡ length counts
  pub added :
      (n : ℕ) → n < length counts
      → get_or counts' n 0 ≡ get_or counts n 0 + tree_count t row reset (suc n) (stamps - from) from

-- The whole tree: place n is for the words of n events.
pub record Countable (s h : ℕ) (counts : List ℕ) : Type 0 where
  pub seconds_most : h ≤ most_seconds
  pub some : 1 ≤ length counts
  pub zero : (n : ℕ) → get_or counts n 0 ≡ 0
  pub room : (n : ℕ) → n < length counts → out_of s h n ≤ most_words

pub record Counted (t : Tables) (h : ℕ) (counts counts' : List ℕ) : Type 0 where
  pub same_length : length counts' ≡ length counts
  pub counted :
      (n : ℕ) → n < length counts → get_or counts' n 0 ≡ accepted_of (table_says t) t.built.symbols h n
