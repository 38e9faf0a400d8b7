-- The deterministic one-clock construction (document 000, section 3.2): sets of pairs of a location and bases.
use Rattle.std.specs.Prelude.{Bool, true, false, ◌&&◌, ◌||◌, List, [], ◌∷◌, ◌++◌, ℕ, zero, suc, ◌+◌, ◌-◌, ◌*◌, ◌/◌, ◌^◌}
use Rattle.std.specs.Prelude.{eqb, ltb, leb, length, get_or}
use Rattle.model.specs.Basics.{pick, one_if, is_in, same, zeros, quotient, remainder}
use Rattle.model.specs.Texts.{Members}
use Rattle.model.specs.Rules.{Edge, Rule, guard_of, cm, base_count}
use Rattle.model.specs.Words.{Event}
use Rattle.model.specs.Alike.{half_seconds}
use Rattle.model.specs.Guards.{guard, is_met}
use Rattle.model.specs.Runs.{zeroed}

-- Interval numbers of the timer: 2c is [c], 2c + 1 is (c, c + 1), 2 · cm + 1 is everything above cm.
abbrev pub top_interval : ℕ → ℕ
top_interval c = 2 * c + 1

-- W = 2 · cm + 2 of them
abbrev pub interval_count : ℕ → ℕ
interval_count c = 2 * c + 2

abbrev pub width : Rule → ℕ
width r = interval_count (cm r)

-- the interval of an age, for a cm and a D: up to cm its half seconds
abbrev pub interval_of : ℕ → ℕ → ℕ → ℕ
interval_of c d age = pick (ltb (c * d) age) (top_interval c) (half_seconds d age)

-- a clock's region: its base plus the timer's interval, "above cm" absorbing
abbrev pub region_of : ℕ → ℕ → ℕ → ℕ
region_of c base i =
    pick (ltb c base) (top_interval c) (pick (ltb (2 * c) (2 * base + i)) (top_interval c) (2 * base + i))

-- the regions of all clocks of a pair
abbrev pub regions_of : ℕ → ℕ → List ℕ → List ℕ
regions_of c i [] = []
regions_of c i (b ∷ bases) = region_of c b i ∷ regions_of c i bases

-- a guard over regions; a constant is at most cm, and constant c is region 2c
abbrev pub regions_hold : ℕ → ℕ → List ℕ → Members → Bool
regions_hold c i bases m = is_met (guard 2 (regions_of c i bases) m)

-- The code of a pair: location · (cm + 2)^K plus the sum of base(k) · (cm + 2)^k; and the pair of a code.
abbrev pub digits_code : ℕ → List ℕ → ℕ
digits_code m [] = 0
digits_code m (b ∷ bases) = b + m * digits_code m bases

abbrev pub digits_of : ℕ → ℕ → ℕ → List ℕ
digits_of zero m x = []
digits_of (suc k) m x = remainder x m ∷ digits_of k m (quotient x m)

unfoldable pub code_of : Rule → ℕ → List ℕ → ℕ
code_of r l bases = l * base_count r ^ r.clocks + digits_code (base_count r) bases

unfoldable pub location_of : Rule → ℕ → ℕ
location_of r x = quotient x (base_count r ^ r.clocks)

unfoldable pub bases_of : Rule → ℕ → List ℕ
bases_of r x = digits_of r.clocks (base_count r) (remainder x (base_count r ^ r.clocks))

-- A row (a state of the determinised automaton) is a set of pairs: its codes, ascending.
abbrev pub with_code : ℕ → List ℕ → List ℕ
with_code x [] = x ∷ []
with_code x (y ∷ ys) =
    elim (eqb x y) [
      | true ↦ y ∷ ys
      | false ↦ elim (ltb x y) [ true ↦ x ∷ y ∷ ys | false ↦ y ∷ with_code x ys ]
    ]

-- the start row holds every initial location with bases 0
abbrev pub start_bases : Rule → List ℕ
start_bases r = zeros r.clocks

abbrev pub start_codes : Rule → List ℕ → List ℕ
start_codes r [] = []
start_codes r (l ∷ ls) = with_code (code_of r l (start_bases r)) (start_codes r ls)

unfoldable pub start_row : Rule → List ℕ
start_row r = start_codes r r.initial

-- an edge that a pair allows, on a symbol and an interval of the timer
unfoldable pub allows : Rule → ℕ → ℕ → ℕ → Edge → Bool
allows r s i x e =
    eqb e.source (location_of r x) && eqb e.symbol s && regions_hold (cm r) i (bases_of r x) (guard_of e)

-- the timer is reset if at least one taken edge resets a clock
abbrev pub pair_resets : Rule → ℕ → ℕ → ℕ → List Edge → Bool
pair_resets r s i x [] = false
pair_resets r s i x (e ∷ es) = leb 1 e.resets && allows r s i x e || pair_resets r s i x es

unfoldable pub row_resets : Rule → ℕ → ℕ → List ℕ → Bool
row_resets r s i [] = false
row_resets r s i (x ∷ xs) = pair_resets r s i x r.edges || row_resets r s i xs

-- base plus interval [c], cut at "above cm"
abbrev pub advanced : ℕ → ℕ → List ℕ → List ℕ
advanced c i [] = []
advanced c i (b ∷ bases) = pick (ltb c (b + i / 2)) (suc c) (b + i / 2) ∷ advanced c i bases

-- the target of a pair by an edge: where the timer is reset every base is brought forward; the edge's clocks are zeroed
unfoldable pub target_of : Rule → ℕ → Bool → ℕ → Edge → ℕ
target_of r i timer x e =
    code_of r e.target (zeroed e.resets (pick timer (advanced (cm r) i (bases_of r x)) (bases_of r x)))

abbrev pub pair_targets : Rule → ℕ → ℕ → Bool → ℕ → List Edge → List ℕ → List ℕ
pair_targets r s i timer x [] row = row
pair_targets r s i timer x (e ∷ es) row =
    pair_targets r s i timer x es (pick (allows r s i x e) (with_code (target_of r i timer x e) row) row)

abbrev pub row_targets : Rule → ℕ → ℕ → Bool → List ℕ → List ℕ → List ℕ
row_targets r s i timer [] row = row
row_targets r s i timer (x ∷ xs) row = row_targets r s i timer xs (pair_targets r s i timer x r.edges row)

-- the row that a row leads to; the empty set is a row like any other
unfoldable pub next_row : Rule → ℕ → ℕ → List ℕ → List ℕ
next_row r s i xs = row_targets r s i (row_resets r s i xs) xs []

-- Rows are numbered by discovery: the number of an equal row, else the count of rows.
abbrev pub row_at : List (List ℕ) → ℕ → List ℕ
row_at rows n = get_or rows n []

abbrev pub number_from : ℕ → List ℕ → List (List ℕ) → ℕ
number_from n x [] = n
number_from n x (y ∷ ys) = elim (same x y) [ true ↦ n | false ↦ number_from (suc n) x ys ]

abbrev pub number_of : List ℕ → List (List ℕ) → ℕ
number_of x rows = number_from 0 x rows

abbrev pub with_row : List ℕ → List (List ℕ) → List (List ℕ)
with_row x rows = pick (ltb (number_of x rows) (length rows)) rows (rows ++ (x ∷ []))

-- start row 0, then by row, symbol, interval, ascending
unfoldable pub by_intervals : ℕ → ℕ → Rule → ℕ → List ℕ → List (List ℕ) → List (List ℕ)
by_intervals zero i r s x rows = rows
by_intervals (suc n) i r s x rows = by_intervals n (suc i) r s x (with_row (next_row r s i x) rows)

unfoldable pub by_symbols : ℕ → ℕ → Rule → List ℕ → List (List ℕ) → List (List ℕ)
by_symbols zero s r x rows = rows
by_symbols (suc n) s r x rows = by_symbols n (suc s) r x (by_intervals (width r) 0 r s x rows)

unfoldable pub rows_from : ℕ → ℕ → Rule → List (List ℕ) → List (List ℕ)
rows_from zero n r rows = rows
rows_from (suc fuel) n r rows =
    elim (leb (length rows) n) [
      | true ↦ rows
      | false ↦ rows_from fuel (suc n) r (by_symbols r.symbols 0 r (row_at rows n) rows)
    ]

abbrev pub most_rows : ℕ
most_rows = 4096

-- all rows, or so many that there are more than 4,096
unfoldable pub rows_of : Rule → List (List ℕ)
rows_of r = rows_from (suc most_rows) 0 r (start_row r ∷ [])

-- A cell (a transition of the determinised automaton): next row · 2, plus 1 if the timer is reset.
unfoldable pub cell_of : Rule → List (List ℕ) → List ℕ → ℕ → ℕ → ℕ
cell_of r rows x s i = 2 * number_of (next_row r s i x) rows + one_if (row_resets r s i x)

-- a row's verdict is yes if it holds a final location
unfoldable pub holds_final : Rule → List ℕ → Bool
holds_final r [] = false
holds_final r (x ∷ xs) = is_in (location_of r x) r.final || holds_final r xs

-- The walk of the one timer over the rows, from a row and the stamp of the last timer reset.
unfoldable pub walks_from : Rule → ℕ → List Event → List ℕ → ℕ → Bool
walks_from r d [] x reset = holds_final r x
walks_from r d (v ∷ vs) x reset =
    let i = interval_of (cm r) d (v.stamp - reset) in
    walks_from r d vs (next_row r v.symbol i x) (pick (row_resets r v.symbol i x) v.stamp reset)

unfoldable pub walks : Rule → ℕ → List Event → Bool
walks r d vs = walks_from r d vs (start_row r) 0
