-- What 25 lets pass, as plain facts: sizes in range, tables long enough, rows that end within P, and place by place a
-- cell's row below R and a timer reset at an even interval number only; and where a cell is read.
use mathlib.Core.Path.{◌≡◌, sym, ◌∙◌, ap, ap₂, subst, subst₂}
use mathlib.Core.Bool.{Bool, true, ◌&&◌, ◌||◌}
use mathlib.Core.List.{List, [], ◌∷◌}
use mathlib.Core.Logic.{inl, inr}
use Prim.Native.Nat.{ℕ, zero, suc, ◌+◌, ◌*◌, ◌/◌, ◌%◌, ◌≤◌, ◌<◌}
use native.Mathlib.Omega.{arith}
use native.Mathlib.Nat.{mul-le-mul, mul-le-mul_right, mul_assoc}
use lib.Arith.{digits_lt, digits_mod}
use lib.Dec.{eqb, ltb, leb}
use lib.ListN.{length, get_or, take, drop}
use lib.Seq.{get_or-take, get_or-drop, length-take-le}
use borrow.Author.Tests.{ltb-true, leb-true, eqb-true}
use Rattle.model.specs.declared.Built.{Built}
use Rattle.model.specs.Basics.{within, remainder, all_below}
use Rattle.model.specs.Rules.{most_pairs, most_constant, sizes_ok, most_locations, most_symbols, most_clocks}
use Rattle.model.specs.Construction.{most_rows}
use Rattle.model.specs.Tables.{Tables, row_width, row_start, row_length}
use Rattle.model.specs.Walks.{built_pairs, built_sizes_ok, built_width, cell_need, long_enough, rows_chain, cell_ok}
use Rattle.model.specs.Walks.{cells_ok, verdicts_ok, in_shape, cell_place, cell_at}
use Rattle.model.proofs.Logic.{and_left, and_right, or_cases, remainder_is, within_least, within_most}

-- tables no shorter than they need
pub record Long (t : Tables) : Type 0 where
  pub cells_long : cell_need t.built ≤ length t.cells
  pub rows_long : row_width * t.built.rows ≤ length t.rows
  pub pool_long : t.built.total ≤ length t.pool

pub long_of : (t : Tables) → long_enough t ≡ true → Long t
long_of t h =
    let c = leb (cell_need t.built) (length t.cells) in
    let n = leb (row_width * t.built.rows) (length t.rows) in
    let p = leb t.built.total (length t.pool) in
    record {
      cells_long = leb-true (cell_need t.built) (length t.cells) (and_left c n (and_left (c && n) p h));
      rows_long = leb-true (row_width * t.built.rows) (length t.rows) (and_right c n (and_left (c && n) p h));
      pool_long = leb-true t.built.total (length t.pool) (and_right (c && n) p h);
    }

pub record Shaped (t : Tables) : Type 0 where
  pub rows_some : 1 ≤ t.built.rows
  pub rows_most : t.built.rows ≤ most_rows
  pub symbols_some : 1 ≤ t.built.symbols
  pub symbols_most : t.built.symbols ≤ most_symbols
  pub top_most : t.built.top ≤ most_constant
  pub long : Long t
  pub cells_ok : cells_ok 0 (built_width t.built) t.built.rows (take (cell_need t.built) t.cells) ≡ true

pub shaped : (t : Tables) → in_shape t ≡ true → Shaped t
unfolding in_shape
shaped t h =
    let b : Built = t.built in
    let sizes : Bool = built_sizes_ok b in
    let long : Bool = long_enough t in
    let chain : Bool = rows_chain b.rows 0 t.rows b.total in
    let codes : Bool = all_below (built_pairs b) (take b.total t.pool) in
    let cells : Bool = cells_ok 0 (built_width b) b.rows (take (cell_need b) t.cells) in
    let all_but : (sizes && long && chain && codes && cells) ≡ true =
    and_left (sizes && long && chain && codes && cells) (verdicts_ok b.rows 0 b t.rows t.pool) h in
    let front : (sizes && long) ≡ true =
    and_left (sizes && long) chain
    (and_left (sizes && long && chain) codes (and_left (sizes && long && chain && codes) cells all_but)) in
    let in_range : sizes ≡ true = and_left sizes long front in
    let small : Bool = sizes_ok b.locations b.symbols b.clocks in
    let low : Bool = leb b.top most_constant in
    let few : Bool = leb (built_pairs b) most_pairs in
    let count : within 1 most_rows b.rows ≡ true =
    and_right (small && low && few) (within 1 most_rows b.rows) in_range in
    let both : (small && low) ≡ true =
    and_left (small && low) few (and_left (small && low && few) (within 1 most_rows b.rows) in_range) in
    let locations_in : Bool = within 1 most_locations b.locations in
    let symbols_in : Bool = within 1 most_symbols b.symbols in
    let symbols_are : symbols_in ≡ true =
    and_right locations_in symbols_in
    (and_left (locations_in && symbols_in) (within 1 most_clocks b.clocks) (and_left small low both)) in
    record {
      rows_some = within_least 1 most_rows b.rows count;
      rows_most = within_most 1 most_rows b.rows count;
      symbols_some = within_least 1 most_symbols b.symbols symbols_are;
      symbols_most = within_most 1 most_symbols b.symbols symbols_are;
      top_most = leb-true b.top most_constant (and_right small low both);
      long = long_of t (and_right sizes long front);
      cells_ok = and_right (sizes && long && chain && codes) cells all_but;
    }

-- Rows in a chain end within P.
pub chain_most : (n p : ℕ) (rows : List ℕ) (total : ℕ) → rows_chain n p rows total ≡ true → p ≤ total
chain_most zero p rows total e = omega (arith, eqb-true p total e)
chain_most (suc n) p rows total e =
    let rest = rows_chain n (p + row_length rows 0) (drop row_width rows) total in
    omega (
      arith,
      chain_most n (p + row_length rows 0) (drop row_width rows) total (and_right (eqb (row_start rows 0) p) rest e),
    )

pub row_ends :
    (n p : ℕ) (rows : List ℕ) (total i : ℕ) → rows_chain n p rows total ≡ true → i < n
    → row_start rows i + row_length rows i ≤ total
row_ends zero p rows total i e h = absurd (omega arith)
row_ends (suc n) p rows total zero e h =
    let rest = rows_chain n (p + row_length rows 0) (drop row_width rows) total in
    let start : row_start rows 0 ≡ p = eqb-true (row_start rows 0) p (and_left (eqb (row_start rows 0) p) rest e) in
    omega (
      arith,
      start,
      chain_most n (p + row_length rows 0) (drop row_width rows) total (and_right (eqb (row_start rows 0) p) rest e),
    )
row_ends (suc n) p rows total (suc i) e h =
    let rest = rows_chain n (p + row_length rows 0) (drop row_width rows) total in
    let a : row_start rows (suc i) ≡ row_start (drop row_width rows) i =
    later rows (row_width * suc i) (row_width * i) (omega arith) in
    let b : row_length rows (suc i) ≡ row_length (drop row_width rows) i =
    later rows (row_width * suc i + 1) (row_width * i + 1) (omega arith) in
    let c =
    row_ends n (p + row_length rows 0) (drop row_width rows) total i (and_right (eqb (row_start rows 0) p) rest e)
    (omega arith) in
    omega (arith, a, b, c)
  where
    later : (rows : List ℕ) (a k : ℕ) → a ≡ row_width + k → get_or rows a 0 ≡ get_or (drop row_width rows) k 0
    later rows a k e = rw e (sym (get_or-drop row_width rows k 0))

-- one cell of a table in shape
pub record CellKept (rows i cell : ℕ) : Type 0 where
  pub row_below : cell / 2 < rows
  pub even : cell % 2 ≡ 1 → i % 2 ≡ 0

kept_of : (i rows cell : ℕ) → cell_ok i rows cell ≡ true → CellKept rows i cell
kept_of i rows cell h = record {
  row_below = ltb-true (cell / 2) rows (and_left (ltb (cell / 2) rows) (eqb (cell % 2) 0 || eqb (i % 2) 0) h);
  even = λ odd.
      elim (or_cases (eqb (cell % 2) 0) (eqb (i % 2) 0)
      (and_right (ltb (cell / 2) rows) (eqb (cell % 2) 0 || eqb (i % 2) 0) h)) [
        | inl e ↦ absurd (omega (arith, eqb-true (cell % 2) 0 e))
        | inr e ↦ eqb-true (i % 2) 0 e
      ];
}

cells_at :
    (at w rows : ℕ) (cs : List ℕ) (j : ℕ) → cells_ok at w rows cs ≡ true → j < length cs
    → cell_ok (remainder (at + j) w) rows (get_or cs j 0) ≡ true
cells_at at w rows [] j h g = absurd (omega arith)
cells_at at w rows (c ∷ cs) zero h g =
    let e : at + 0 ≡ at = omega arith in
    rw e (and_left (cell_ok (remainder at w) rows c) (cells_ok (suc at) w rows cs) h)
cells_at at w rows (c ∷ cs) (suc j) h g =
    let e : at + suc j ≡ suc at + j = omega arith in
    rw e
    (cells_at (suc at) w rows cs j (and_right (cell_ok (remainder at w) rows c) (cells_ok (suc at) w rows cs) h)
    (omega arith))

-- the place of a cell stands inside, and its interval is the place's remainder
pub place_below :
    (n s i rows symbols w : ℕ) → n < rows → s < symbols → i < w → (n * symbols + s) * w + i < rows * (symbols * w)
place_below n s i rows symbols w hn hs hi =
    let line : suc (n * symbols + s) ≤ rows * symbols =
    omega (arith, mul-le-mul_right {m = suc n} {n = rows} symbols hn) in
    omega (
      arith,
      mul-le-mul_right {m = suc (n * symbols + s)} {n = rows * symbols} w line,
      mul_assoc rows symbols w,
    )

-- A cell asked for, by a row, a symbol and an interval that the table has, once its symbols n and its width w are read.
pub record CellAsked (b : Built) (cells : List ℕ) (row symbol interval n w : ℕ) : Type 0 where
  pub rows_most : b.rows ≤ most_rows
  pub symbols_most : b.symbols ≤ most_symbols
  pub cells_long : cell_need b ≤ length cells
  pub row_in : row < b.rows
  pub symbol_in : symbol < b.symbols
  pub interval_in : interval < built_width b
  pub symbols_are : n ≡ b.symbols
  pub width_is : w ≡ built_width b

module _ {b : Built} {cells : List ℕ} {row symbol interval n w : ℕ} (k : CellAsked b cells row symbol interval n w)
  where
    line_is : row * n + symbol ≡ row * b.symbols + symbol
    line_is = ap (λ (z : ℕ). row * z + symbol) k.symbols_are

    pub line_most : row * n + symbol ≤ most_rows * most_symbols
    line_most =
        omega (
          arith,
          line_is,
          digits_lt {q = row} {m = b.rows} {r = symbol} {c = b.symbols} k.row_in k.symbol_in,
          mul-le-mul k.rows_most k.symbols_most,
        )

    place_is : (row * n + symbol) * w + interval ≡ cell_place b row symbol interval
    place_is = ap₂ (λ (z v : ℕ). z * v + interval) line_is k.width_is

    pub place_in : (row * n + symbol) * w + interval < length cells
    place_in =
        let p : cell_place b row symbol interval < cell_need b =
        place_below row symbol interval b.rows b.symbols (built_width b) k.row_in k.symbol_in
        k.interval_in in
        subst (λ (z : ℕ). z < length cells) (sym place_is) (omega (arith, p, k.cells_long))

    -- the cell as it was read there
    pub cell_is :
        {cell : ℕ} → cell ≡ get_or cells ((row * n + symbol) * w + interval) 0
        → cell ≡ get_or cells (cell_place b row symbol interval) 0
    cell_is r = r ∙ ap (λ (z : ℕ). get_or cells z 0) place_is

remainder_of : (q w i : ℕ) → i < w → remainder (0 + (q * w + i)) w ≡ i
remainder_of q w i h =
    let z : 0 + (q * w + i) ≡ q * w + i = omega arith in
    ap (λ (x : ℕ). remainder x w) z ∙ remainder_is (q * w + i) w (omega arith) ∙ digits_mod q h

pub cell_kept :
    (t : Tables) → in_shape t ≡ true → (n s i : ℕ) → n < t.built.rows → s < t.built.symbols
    → i < built_width t.built
    → CellKept t.built.rows i (cell_at t n s i)
cell_kept t h n s i hn hs hi =
    let k : Shaped t = shaped t h in
    let b : Built = t.built in
    let at : ℕ = cell_place b n s i in
    let below : at < cell_need b = place_below n s i b.rows b.symbols (built_width b) hn hs hi in
    let inside : at < length (take (cell_need b) t.cells) =
    omega (arith, below, length-take-le (cell_need b) t.cells k.long.cells_long) in
    kept_of i b.rows (cell_at t n s i)
    (subst₂ (λ (x y : ℕ). cell_ok x b.rows y ≡ true) (remainder_of (n * b.symbols + s) (built_width b) i hi)
    (get_or-take (cell_need b) t.cells at 0 below)
    (cells_at 0 (built_width b) b.rows (take (cell_need b) t.cells) at k.cells_ok inside))
