-- A batch of tables, and its lines.
use Rattle.std.specs.Prelude.{◌≡◌, true, false, List, ℕ, zero, suc, ◌+◌, ◌-◌, ◌*◌, ◌≤◌, ltb, length, get_or}
use Rattle.model.specs.declared.Built.{Built}
use Rattle.model.specs.Basics.{pick, fine}
use Rattle.model.specs.Tables.{Tables}
use Rattle.model.specs.Walks.{in_shape}
use Rattle.model.specs.Shares.{most_tables, most_words, words_for, smaller, line_width, laid_out, tables_refusal}

-- 25 or 43 of one table, 0 for neither
abbrev pub fault_of : Tables → ℕ → ℕ → ℕ
fault_of t m h = pick (in_shape t) (pick (ltb most_words (words_for t h m)) 43 0) 25

-- what 25 and 43 let pass
pub record Passed (bs : List Built) (cells rows pool : List ℕ) (m h : ℕ) : Type 0 where
  pub count_most : length bs ≤ most_tables
  pub tables_fine : tables_refusal 1 (laid_out bs cells rows pool) m h ≡ fine

-- the greatest share in all, read off the lines: the best so far at place `best`, k lines left from place i on
abbrev pub accepted_at : List ℕ → ℕ → ℕ
accepted_at lines i = get_or lines (line_width * i + 28) 0

abbrev pub words_at : List ℕ → ℕ → ℕ
words_at lines i = get_or lines (line_width * i + 29) 0

unfoldable pub best_in : ℕ → ℕ → ℕ → List ℕ → ℕ
best_in zero best i lines = best
best_in (suc k) best i lines =
    elim (smaller (accepted_at lines best) (words_at lines best) (accepted_at lines i) (words_at lines i)) [
      | true ↦ best_in k i (suc i) lines
      | false ↦ best_in k best (suc i) lines
    ]

abbrev pub greatest_in : ℕ → List ℕ → ℕ
greatest_in count lines = suc (best_in (count - 1) 0 1 lines)
