-- What the builder leaves is in shape, so 25 cannot occur: sizes in range, tables long enough, rows in a chain, codes
-- below N, a cell's row below R, resets only at even intervals, and a stored verdict that the codes give.
use mathlib.Core.Path.{◌≡◌, refl, sym, ◌∙◌, ap}
use mathlib.Core.Bool.{Bool, true, false, ◌&&◌, ◌||◌}
use mathlib.Core.List.{List, [], ◌∷◌, ◌++◌}
use Prim.Native.Nat.{ℕ, zero, suc, ◌+◌, ◌-◌, ◌*◌, ◌/◌, ◌%◌, ◌≤◌, ◌<◌}
use native.Mathlib.Omega.{arith}
use lib.Arith.{digits_mod}
use lib.Dec.{eqb, ltb, leb}
use lib.ListN.{length, take, length-append}
use lib.Seq.{take_at}
use borrow.Author.Tests.{lt-ltb, le-leb, eq-eqb}
use Rattle.model.specs.declared.Built.{Built}
use Rattle.model.specs.Basics.{one_if, within, remainder, all_below, zeros, filled}
use Rattle.model.specs.Rules.{Rule, cm, pair_count, most_pairs, sizes_ok}
use Rattle.model.specs.Construction.{width, next_row, row_resets, number_of, rows_of, most_rows, cell_of, holds_final}
use Rattle.model.specs.Tables.{Tables, row_width, row_verdict, cells_from, symbol_cells, cell_numbers, row_numbers}
use Rattle.model.specs.Tables.{pool_numbers, built_by, tables_by, tables_of}
use Rattle.model.specs.Walks.{built_pairs, built_sizes_ok, cell_need, long_enough, rows_chain, cell_ok, cells_ok}
use Rattle.model.specs.Walks.{in_shape}
use Rattle.model.specs.Walks.{codes_say, row_codes, verdicts_ok}
use Rattle.model.specs.Demands.{BuiltInShape}
use Rattle.model.proofs.Logic.{and_left, and_right, and_both, or_right, in_within, remainder_is, In, here, there}
use Rattle.model.proofs.Valid.{Sizes, Valid, valid_of, cm_most}
use Rattle.model.proofs.RowNumbers.{Stands, stands, in_below}
use Rattle.model.proofs.Discovery.{Closed, Each, discovered}
use Rattle.model.proofs.CodeBounds.{rows_below}
use Rattle.model.proofs.Rising.{Below, below_test, below_append}
use Rattle.model.proofs.RowSets.{even_reset}
use Rattle.model.proofs.TableRoom.{fitted, fitted_closed}
use Rattle.model.proofs.TablePlaces.{cells_length, symbols_length, cell_numbers_length, row_numbers_length}
use Rattle.model.proofs.TablePlaces.{stored_by_place, said_by_place, final_asc}
use Rattle.model.proofs.TableWalk.{cell_row}

-- sizes in their ranges
pub sizes_test : (l s k : ℕ) → Sizes l s k → sizes_ok l s k ≡ true
sizes_test l s k h =
    and_both (within 1 32 l && within 1 16 s) (within 1 4 k)
    (and_both (within 1 32 l) (within 1 16 s) (in_within 1 32 l h.locations_least h.locations_most)
    (in_within 1 16 s h.symbols_least h.symbols_most))
    (in_within 1 4 k h.clocks_least h.clocks_most)

built_sizes :
    (r : Rule) (rows : List (List ℕ))
    → Valid r
    → 1 ≤ length rows
    → length rows ≤ most_rows
    → built_sizes_ok (built_by r rows) ≡ true
unfolding pair_count
built_sizes r rows v some few =
    let sizes : Bool = sizes_ok r.locations r.symbols r.clocks in
    let low : Bool = leb (cm r) 30 in
    let pairs : Bool = leb (pair_count r) most_pairs in
    and_both (sizes && low && pairs) (within 1 most_rows (length rows))
    (and_both (sizes && low) pairs
    (and_both sizes low (sizes_test r.locations r.symbols r.clocks v.sizes)
    (le-leb (cm r) 30 (cm_most r v)))
    (le-leb (pair_count r) most_pairs v.pairs_most))
    (in_within 1 most_rows (length rows) some few)

-- a filled table is at least as long as what it holds, and begins with it
filled_long : (n k : ℕ) (xs : List ℕ) → k ≤ length xs → k ≤ length (filled n xs)
filled_long n k xs h = omega (arith, length-append xs (zeros (n - length xs)))

pub long_enough_lem : (r : Rule) (rows : List (List ℕ)) (c n p : ℕ) → long_enough (tables_by r rows c n p) ≡ true
unfolding tables_by
long_enough_lem r rows c n p =
    let cells : List ℕ = cell_numbers r rows rows in
    let numbers : List ℕ = row_numbers (holds_final r) 0 rows in
    let pool : List ℕ = pool_numbers rows in
    let need : ℕ = length rows * (r.symbols * width r) in
    and_both (leb need (length (filled c cells)) && leb (row_width * length rows) (length (filled n numbers)))
    (leb (length pool) (length (filled p pool)))
    (and_both (leb need (length (filled c cells))) (leb (row_width * length rows) (length (filled n numbers)))
    (le-leb need (length (filled c cells)) (filled_long c need cells (omega (arith, cell_numbers_length r rows rows))))
    (le-leb (row_width * length rows) (length (filled n numbers))
    (filled_long n (row_width * length rows) numbers (omega (arith, row_numbers_length (holds_final r) 0 rows)))))
    (le-leb (length pool) (length (filled p pool)) (filled_long p (length pool) pool (omega arith)))

-- rows in a chain
pub rows_chain_lem :
    (says : List ℕ → Bool) (p total : ℕ) (xs : List (List ℕ)) (rest : List ℕ)
    → total ≡ p + length (pool_numbers xs)
    → rows_chain (length xs) p (row_numbers says p xs ++ rest) total ≡ true
rows_chain_lem says p total [] rest h = eq-eqb p total (omega arith)
rows_chain_lem says p total (x ∷ xs) rest h =
    and_both (eqb p p) (rows_chain (length xs) (p + length x) (row_numbers says (p + length x) xs ++ rest) total)
    (eq-eqb p p refl)
    (rows_chain_lem says (p + length x) total xs rest (omega (arith, length-append x (pool_numbers xs))))

-- what is stored is what the codes say
verdicts_ok_lem :
    (r : Rule) (rows : List (List ℕ)) (c n p : ℕ) → Valid r → (k i : ℕ) → i + k ≤ length rows
    → verdicts_ok k i (built_by r rows) (tables_by r rows c n p).rows (tables_by r rows c n p).pool ≡ true
unfolding tables_by
verdicts_ok_lem r rows c n p v zero i h = refl
verdicts_ok_lem r rows c n p v (suc k) i h =
    let t : Tables = tables_by r rows c n p in
    let said : ℕ = one_if (codes_say (built_by r rows) (row_codes t i)) in
    and_both (eqb (row_verdict t.rows i) said) (verdicts_ok k (suc i) (built_by r rows) t.rows t.pool)
    (eq-eqb (row_verdict t.rows i) said
    (stored_by_place r rows c n p i (omega arith)
    ∙ ap one_if (sym (said_by_place r rows c n p i (final_asc r v) (omega arith)))))
    (verdicts_ok_lem r rows c n p v k (suc i) (omega arith))

-- codes below a bound
pub pool_below : (m : ℕ) (xs : List (List ℕ)) → Each (Below m) xs → Below m (pool_numbers xs)
pool_below m [] each = tt
pool_below m (x ∷ xs) each =
    below_append m x (pool_numbers xs) (each x (here refl)) (pool_below m xs (λ y i. each y (there i)))

-- one cell: a row below R, no timer reset at an odd interval
cell_bit : (n i : ℕ) (t : Bool) → (t ≡ true → i % 2 ≡ 0) → (eqb ((2 * n + one_if t) % 2) 0 || eqb (i % 2) 0) ≡ true
cell_bit n i true h = or_right (eqb ((2 * n + 1) % 2) 0) (eqb (i % 2) 0) (eq-eqb (i % 2) 0 (h refl))
cell_bit n i false h = rw (eq-eqb ((2 * n + 0) % 2) 0 (omega arith))

abbrev pub CellsOk : Rule → List (List ℕ) → List ℕ → Type 0
CellsOk r rows x = (s i : ℕ) → s < r.symbols → i < width r → cell_ok i (length rows) (cell_of r rows x s i) ≡ true

pub cell_ok_lem :
    (r : Rule) (rows : List (List ℕ)) → Valid r → Closed r (length rows) rows → Each (CellsOk r rows) rows
unfolding cell_of
cell_ok_lem r rows v closed x at s i hs hi =
    and_both (ltb (cell_of r rows x s i / 2) (length rows)) (eqb (cell_of r rows x s i % 2) 0 || eqb (i % 2) 0)
    (lt-ltb (cell_of r rows x s i / 2) (length rows)
    (rw (cell_row (number_of next rows) (row_resets r s i x)) (in_below next rows next_in)))
    (cell_bit (number_of next rows) i (row_resets r s i x) (even_reset r s i x v))
  where
    next : List ℕ
    next = next_row r s i x

    place : Stands 0 x rows
    place = stands 0 x rows at

    next_in : In (next_row r s i x) rows
    next_in =
        rw place.row_is at (closed place.place s i place.inside hs hi)

-- cells one after another, W to a symbol: a cell's place over W leaves its interval
cells_append :
    (at w n : ℕ) (xs ys : List ℕ)
    → cells_ok at w n xs ≡ true
    → cells_ok (at + length xs) w n ys ≡ true
    → cells_ok at w n (xs ++ ys) ≡ true
cells_append at w n [] ys h g = let e : at + 0 ≡ at = omega arith in rw e at g
cells_append at w n (x ∷ xs) ys h g =
    let e : at + suc (length xs) ≡ suc at + length xs = omega arith in
    let first : Bool = cell_ok (remainder at w) n x in
    and_both first (cells_ok (suc at) w n (xs ++ ys)) (and_left first (cells_ok (suc at) w n xs) h)
    (cells_append (suc at) w n xs ys (and_right first (cells_ok (suc at) w n xs) h) (rw e at g))

module _ (r : Rule) (rows : List (List ℕ)) where
  interval_cells :
      (m i k s : ℕ) (x : List ℕ)
      → CellsOk r rows x
      → s < r.symbols
      → i + m ≤ width r
      → cells_ok (k * width r + i) (width r) (length rows) (cells_from m i r rows x s) ≡ true
  interval_cells zero i k s x ok hs h = refl
  interval_cells (suc m) i k s x ok hs h =
      let e : suc (k * width r + i) ≡ k * width r + suc i = omega arith in
      let at : remainder (k * width r + i) (width r) ≡ i =
      remainder_is (k * width r + i) (width r) (omega arith) ∙ digits_mod k (omega arith) in
      and_both (cell_ok (remainder (k * width r + i) (width r)) (length rows) (cell_of r rows x s i))
      (cells_ok (suc (k * width r + i)) (width r) (length rows) (cells_from m (suc i) r rows x s))
      (rw at (ok s i hs (omega arith)))
      (rw e (interval_cells m (suc i) k s x ok hs (omega arith)))

  symbols_cells :
      (m s k : ℕ) (x : List ℕ)
      → CellsOk r rows x
      → s + m ≤ r.symbols
      → cells_ok (k * width r) (width r) (length rows) (symbol_cells m s r rows x) ≡ true
  symbols_cells zero s k x ok h = refl
  symbols_cells (suc m) s k x ok h =
      let e : k * width r + 0 ≡ k * width r = omega arith in
      let f : suc k * width r ≡ k * width r + length (cells_from (width r) 0 r rows x s) =
      omega (arith, cells_length r rows (width r) 0 x s) in
      cells_append (k * width r) (width r) (length rows) (cells_from (width r) 0 r rows x s)
      (symbol_cells m (suc s) r rows x)
      (rw e at (interval_cells (width r) 0 k s x ok (omega arith) (omega arith)))
      (rw f at (symbols_cells m (suc s) (suc k) x ok (omega arith)))

  pub rows_cells :
      (k : ℕ) (xs : List (List ℕ))
      → Each (CellsOk r rows) xs
      → cells_ok (k * width r) (width r) (length rows) (cell_numbers r rows xs) ≡ true
  rows_cells k [] ok = refl
  rows_cells k (x ∷ xs) ok =
      let f : (k + r.symbols) * width r ≡ k * width r + length (symbol_cells r.symbols 0 r rows x) =
      omega (arith, symbols_length r rows r.symbols 0 x) in
      cells_append (k * width r) (width r) (length rows) (symbol_cells r.symbols 0 r rows x) (cell_numbers r rows xs)
      (symbols_cells r.symbols 0 k x (ok x (here refl)) (omega arith))
      (rw f at (rows_cells (k + r.symbols) xs (λ y i. ok y (there i))))

-- All of it, over any rows that are closed and have their codes below N.
pub shape_by :
    (r : Rule) (rows : List (List ℕ)) (c n p : ℕ)
    → Valid r
    → 1 ≤ length rows
    → length rows ≤ most_rows
    → Closed r (length rows) rows
    → Each (Below (pair_count r)) rows
    → in_shape (tables_by r rows c n p) ≡ true
unfolding in_shape tables_by pair_count
shape_by r rows c n p v some few closed below =
    let b : Built = built_by r rows in
    let sizes : Bool = built_sizes_ok b in
    let long : Bool = long_enough (tables_by r rows c n p) in
    let chain : Bool = rows_chain (length rows) 0 (filled n (row_numbers (holds_final r) 0 rows)) b.total in
    let codes : Bool = all_below (built_pairs b) (take b.total (filled p (pool_numbers rows))) in
    let cells : Bool = cells_ok 0 (width r) (length rows) (take (cell_need b) (filled c (cell_numbers r rows rows))) in
    let front : take b.total (filled p (pool_numbers rows)) ≡ pool_numbers rows =
    take_at (pool_numbers rows) (zeros (p - b.total)) b.total refl in
    let whole : take (cell_need b) (filled c (cell_numbers r rows rows)) ≡ cell_numbers r rows rows =
    take_at (cell_numbers r rows rows) (zeros (c - length (cell_numbers r rows rows))) (cell_need b)
    (cell_numbers_length r rows rows) in
    let z : 0 * width r ≡ 0 = omega arith in
    let t : Tables = tables_by r rows c n p in
    let stored : Bool = verdicts_ok (length rows) 0 b t.rows t.pool in
    and_both (sizes && long && chain && codes && cells) stored
    (and_both (sizes && long && chain && codes) cells
    (and_both (sizes && long && chain) codes
    (and_both (sizes && long) chain
    (and_both sizes long (built_sizes r rows v some few) (long_enough_lem r rows c n p))
    (rows_chain_lem (holds_final r) 0 b.total rows (zeros (n - length (row_numbers (holds_final r) 0 rows)))
    (omega arith)))
    (rw front (below_test (pair_count r) (pool_numbers rows) (pool_below (pair_count r) rows below))))
    (rw whole (rw z at (rows_cells r rows 0 rows (cell_ok_lem r rows v closed)))))
    (verdicts_ok_lem r rows c n p v (length rows) 0 (omega arith))

-- The claim.
pub built_in_shape : BuiltInShape
unfolding tables_of
built_in_shape r scratch cells rows pool valid fits =
    let v : Valid r = valid_of r valid in
    shape_by r (rows_of r) cells rows pool v (discovered r).some (fitted r scratch cells rows pool fits).few
    (fitted_closed r scratch cells rows pool fits) (rows_below r v)
