-- Sizes of a built record that are in range, as a test and as plain bounds: what the further checks compute then fits.
use Rattle.std.specs.Prelude.{Bool, true, ◌&&◌, ◌||◌, List, [], ◌∷◌, ℕ, suc, ◌*◌, ◌%◌, ◌≤◌, eqb, leb, length}
use Rattle.model.specs.declared.Built.{Built}
use Rattle.model.specs.Basics.{within}
use Rattle.model.specs.Rules.{most_clocks, most_constant, most_locations, most_pairs, most_symbols, sizes_ok}
use Rattle.model.specs.Construction.{most_rows}
use Rattle.model.specs.Tables.{row_width}
use Rattle.model.specs.Walks.{cell_need, rows_chain}

abbrev pub sizes_in_range : Built → Bool
sizes_in_range b = sizes_ok b.locations b.symbols b.clocks && leb b.top most_constant

pub record InRange (b : Built) : Type 0 where
  pub locations_most : b.locations ≤ most_locations
  pub symbols_most : b.symbols ≤ most_symbols
  pub clocks_most : b.clocks ≤ most_clocks
  pub top_most : b.top ≤ most_constant

-- N and R
abbrev pub counts_ok : ℕ → ℕ → Bool
counts_ok pairs rows = leb pairs most_pairs && within 1 most_rows rows

-- cells and pool no shorter than R and P need
abbrev pub long_ok : Built → List ℕ → List ℕ → Bool
long_ok b cells pool = leb (cell_need b) (length cells) && leb b.total (length pool)

-- as many rows as R, in a chain
abbrev pub rows_ok : ℕ → List ℕ → ℕ → Bool
rows_ok count rows total = leb (row_width * count) (length rows) && rows_chain count 0 rows total

-- no timer reset at an odd place, the first place being `at`
abbrev pub resets_ok : ℕ → List ℕ → Bool
resets_ok at [] = true
resets_ok at (c ∷ cs) = (eqb (c % 2) 0 || eqb (at % 2) 0) && resets_ok (suc at) cs
