-- The tables by place: the cell of a row at a symbol and an interval, a row's start and length, its codes in the pool
-- and its verdict are those of the construction. Over any rows and any lent lengths.
use mathlib.Core.Path.{◌≡◌, refl, sym, ◌∙◌, ap, ap₂}
use mathlib.Core.Bool.{Bool, true, false, ◌||◌}
use mathlib.Core.List.{List, [], ◌∷◌, ◌++◌, append_assoc}
use Prim.Native.Nat.{ℕ, zero, suc, ◌+◌, ◌-◌, ◌*◌, ◌≤◌, ◌<◌}
use native.Mathlib.Omega.{arith}
use native.Mathlib.Nat.{mul-le-mul_right, zero-add}
use lib.Dec.{eqb}
use lib.ListN.{length, get_or, take, drop, length-append}
use lib.Seq.{get_or-append-add, get_or-drop, take-append_seam, drop-append-add}
use borrow.Author.Tests.{ltb-true}
use Rattle.model.specs.Basics.{one_if, zeros}
use Rattle.model.specs.Rules.{Rule}
use Rattle.model.specs.Construction.{width, rows_of, row_at, cell_of, location_of, holds_final}
use Rattle.model.specs.Tables.{cells_from, symbol_cells, cell_numbers, row_width, row_numbers, pool_numbers}
use Rattle.model.specs.Tables.{row_verdict, built_by, tables_by, tables_of}
use Rattle.model.specs.Walks.{row_codes, codes_say, verdict, cell_at}
use Rattle.model.specs.Claims.{EveryPlace}
use Rattle.model.proofs.Logic.{first_part}
use Rattle.model.proofs.Masks.{Asc, mask_bits}
use Rattle.model.proofs.Valid.{Valid}
use Rattle.model.proofs.Rising.{rising_asc}

-- a place past the first of two lists
later_part : (xs ys : List ℕ) (n k : ℕ) → k ≡ length xs + n → get_or (xs ++ ys) k 0 ≡ get_or ys n 0
later_part xs ys n k e = rw e (get_or-append-add xs ys n 0)

-- Cells: W for a symbol, S · W for a row.
module _ (r : Rule) (rows : List (List ℕ)) where
  pub cells_length : (n i : ℕ) (x : List ℕ) (s : ℕ) → length (cells_from n i r rows x s) ≡ n
  cells_length zero i x s = refl
  cells_length (suc n) i x s = ap suc (cells_length n (suc i) x s)

  pub symbols_length : (n s : ℕ) (x : List ℕ) → length (symbol_cells n s r rows x) ≡ n * width r
  symbols_length zero s x = omega arith
  symbols_length (suc n) s x =
      length-append (cells_from (width r) 0 r rows x s) (symbol_cells n (suc s) r rows x)
      ∙ (omega (arith, cells_length (width r) 0 x s, symbols_length n (suc s) x))

  pub cell_numbers_length :
      (xs : List (List ℕ)) → length (cell_numbers r rows xs) ≡ length xs * (r.symbols * width r)
  cell_numbers_length [] = omega arith
  cell_numbers_length (x ∷ xs) =
      length-append (symbol_cells r.symbols 0 r rows x) (cell_numbers r rows xs)
      ∙ (omega (arith, symbols_length r.symbols 0 x, cell_numbers_length xs))

  cells_at :
      (n i : ℕ) (x : List ℕ) (s k : ℕ) → k < n → get_or (cells_from n i r rows x s) k 0 ≡ cell_of r rows x s (i + k)
  cells_at zero i x s k h = absurd (omega arith)
  cells_at (suc n) i x s zero h = let e : i + 0 ≡ i = omega arith in rw e
  cells_at (suc n) i x s (suc k) h =
      let e : i + suc k ≡ suc i + k = omega arith in
      rw e (cells_at n (suc i) x s k (omega arith))

  symbols_at :
      (n s : ℕ) (x : List ℕ) (k i : ℕ)
      → k < n
      → i < width r
      → get_or (symbol_cells n s r rows x) (k * width r + i) 0 ≡ cell_of r rows x (s + k) i
  symbols_at zero s x k i h g = absurd (omega arith)
  symbols_at (suc n) s x zero i h g =
      let e : 0 * width r + i ≡ i = omega arith in
      let f : s + 0 ≡ s = omega arith in
      rw (e, f)
      (first_part 0 (cells_from (width r) 0 r rows x s) (symbol_cells n (suc s) r rows x) i
      (omega (arith, cells_length (width r) 0 x s))
      ∙ (rw zero-add at (cells_at (width r) 0 x s i g)))
  symbols_at (suc n) s x (suc k) i h g =
      let f : s + suc k ≡ suc s + k = omega arith in
      rw f
      (later_part (cells_from (width r) 0 r rows x s) (symbol_cells n (suc s) r rows x) (k * width r + i)
      (suc k * width r + i) (omega (arith, cells_length (width r) 0 x s))
      ∙ symbols_at n (suc s) x k i (omega arith) g)

  pub cell_numbers_at :
      (xs : List (List ℕ)) (n s i : ℕ)
      → n < length xs
      → s < r.symbols
      → i < width r
      → get_or (cell_numbers r rows xs) ((n * r.symbols + s) * width r + i) 0 ≡ cell_of r rows (row_at xs n) s i
  cell_numbers_at [] n s i h g l = absurd (omega arith)
  cell_numbers_at (x ∷ xs) zero s i h g l =
      let e : (0 * r.symbols + s) * width r + i ≡ s * width r + i = omega arith in
      rw e
      (first_part 0 (symbol_cells r.symbols 0 r rows x) (cell_numbers r rows xs) (s * width r + i)
      (omega (arith, symbols_length r.symbols 0 x, mul-le-mul_right (width r) g))
      ∙ (rw zero-add at (symbols_at r.symbols 0 x s i g l)))
  cell_numbers_at (x ∷ xs) (suc n) s i h g l =
      later_part (symbol_cells r.symbols 0 r rows x) (cell_numbers r rows xs) ((n * r.symbols + s) * width r + i)
      ((suc n * r.symbols + s) * width r + i) (omega (arith, symbols_length r.symbols 0 x))
      ∙ cell_numbers_at xs n s i (omega arith) g l

-- Rows: where a row starts in the pool.
abbrev pub start_of : ℕ → List (List ℕ) → ℕ
start_of n [] = 0
start_of zero (x ∷ xs) = 0
start_of (suc n) (x ∷ xs) = length x + start_of n xs

-- The numbers of a row by their place, whatever its codes say.
module _ (says : List ℕ → Bool) where
  -- past the first row's
  past_first :
      (p : ℕ) (x : List ℕ) (xs : List (List ℕ)) (a k : ℕ)
      → a ≡ row_width + k
      → get_or (row_numbers says p (x ∷ xs)) a 0 ≡ get_or (row_numbers says (p + length x) xs) k 0
  past_first p x xs a k e = rw e (sym (get_or-drop row_width (row_numbers says p (x ∷ xs)) k 0))

  pub start_number :
      (p : ℕ) (xs : List (List ℕ)) (n : ℕ)
      → n < length xs
      → get_or (row_numbers says p xs) (row_width * n) 0 ≡ p + start_of n xs
  start_number p [] n h = absurd (omega arith)
  start_number p (x ∷ xs) zero h = omega arith
  start_number p (x ∷ xs) (suc n) h =
      past_first p x xs (row_width * suc n) (row_width * n) (omega arith)
      ∙ (start_number (p + length x) xs n (omega arith) ∙ omega arith)

  pub length_number :
      (p : ℕ) (xs : List (List ℕ)) (n : ℕ)
      → n < length xs
      → get_or (row_numbers says p xs) (row_width * n + 1) 0 ≡ length (row_at xs n)
  length_number p [] n h = absurd (omega arith)
  length_number p (x ∷ xs) zero h = refl
  length_number p (x ∷ xs) (suc n) h =
      past_first p x xs (row_width * suc n + 1) (row_width * n + 1) (omega arith)
      ∙ length_number (p + length x) xs n (omega arith)

  pub verdict_number :
      (p : ℕ) (xs : List (List ℕ)) (n : ℕ)
      → n < length xs
      → get_or (row_numbers says p xs) (row_width * n + 2) 0 ≡ one_if (says (row_at xs n))
  verdict_number p [] n h = absurd (omega arith)
  verdict_number p (x ∷ xs) zero h = refl
  verdict_number p (x ∷ xs) (suc n) h =
      past_first p x xs (row_width * suc n + 2) (row_width * n + 2) (omega arith)
      ∙ verdict_number (p + length x) xs n (omega arith)

  pub row_numbers_length : (p : ℕ) (xs : List (List ℕ)) → length (row_numbers says p xs) ≡ row_width * length xs
  row_numbers_length p [] = refl
  row_numbers_length p (x ∷ xs) = omega (arith, row_numbers_length (p + length x) xs)

pub pool_at :
    (xs : List (List ℕ)) (n : ℕ) (rest : List ℕ)
    → n < length xs
    → take (length (row_at xs n)) (drop (start_of n xs) (pool_numbers xs ++ rest)) ≡ row_at xs n
pool_at [] n rest h = absurd (omega arith)
pool_at (x ∷ xs) zero rest h =
    rw (append_assoc x (pool_numbers xs) rest) (take-append_seam x (pool_numbers xs ++ rest))
pool_at (x ∷ xs) (suc n) rest h =
    rw (append_assoc x (pool_numbers xs) rest, drop-append-add x (pool_numbers xs ++ rest) (start_of n xs))
    (pool_at xs n rest (omega arith))

-- a stored verdict read back
pub one_if_is : (b : Bool) → eqb (one_if b) 1 ≡ b
one_if_is true = refl
one_if_is false = refl

-- The tables of a rule over any rows.
module _ (r : Rule) (rows : List (List ℕ)) (c n p : ℕ) where
  pub cell_by_place :
      (m s i : ℕ)
      → m < length rows
      → s < r.symbols
      → i < width r
      → cell_at (tables_by r rows c n p) m s i ≡ cell_of r rows (row_at rows m) s i
  unfolding tables_by
  cell_by_place m s i h g l =
      let a : suc (m * r.symbols + s) ≤ length rows * r.symbols = omega (arith, mul-le-mul_right r.symbols h) in
      first_part 0 (cell_numbers r rows rows) (zeros (c - length (cell_numbers r rows rows)))
      ((m * r.symbols + s) * width r + i)
      (omega (arith, cell_numbers_length r rows rows, mul-le-mul_right (width r) a))
      ∙ cell_numbers_at r rows rows m s i h g l

  -- the row table begins with the rows' numbers
  number_at :
      (k : ℕ) → k < row_width * length rows
      → get_or (tables_by r rows c n p).rows k 0 ≡ get_or (row_numbers (holds_final r) 0 rows) k 0
  unfolding tables_by
  number_at k l =
      first_part 0 (row_numbers (holds_final r) 0 rows) (zeros (n - length (row_numbers (holds_final r) 0 rows))) k
      (omega (arith, row_numbers_length (holds_final r) 0 rows))

  pub codes_by_place : (m : ℕ) → m < length rows → row_codes (tables_by r rows c n p) m ≡ row_at rows m
  unfolding tables_by
  codes_by_place m h =
      let a : get_or (tables_by r rows c n p).rows (row_width * m + 1) 0 ≡ length (row_at rows m) =
      number_at (row_width * m + 1) (omega arith) ∙ length_number (holds_final r) 0 rows m h in
      let b : get_or (tables_by r rows c n p).rows (row_width * m) 0 ≡ start_of m rows =
      number_at (row_width * m) (omega arith) ∙ (start_number (holds_final r) 0 rows m h ∙ (omega arith)) in
      rw (a, b) (pool_at rows m (zeros (p - length (pool_numbers rows))) h)

  pub stored_by_place :
      (m : ℕ) → m < length rows
      → row_verdict (tables_by r rows c n p).rows m ≡ one_if (holds_final r (row_at rows m))
  stored_by_place m h =
      number_at (row_width * m + 2) (omega arith) ∙ verdict_number (holds_final r) 0 rows m h

  pub verdict_by_place :
      (m : ℕ) → m < length rows → verdict (tables_by r rows c n p) m ≡ holds_final r (row_at rows m)
  unfolding verdict
  verdict_by_place m h = rw (stored_by_place m h) (one_if_is (holds_final r (row_at rows m)))

  -- what the codes say: a location is final exactly if its bit is set
  pub codes_say_lem : (xs : List ℕ) → Asc 0 r.final → codes_say (built_by r rows) xs ≡ holds_final r xs
  unfolding holds_final location_of
  codes_say_lem [] a = refl
  codes_say_lem (x ∷ xs) a = ap₂ ◌||◌ (mask_bits 0 r.final (location_of r x) a) (codes_say_lem xs a)

  pub said_by_place :
      (m : ℕ) → Asc 0 r.final → m < length rows
      → codes_say (built_by r rows) (row_codes (tables_by r rows c n p) m) ≡ holds_final r (row_at rows m)
  said_by_place m a h = ap (codes_say (built_by r rows)) (codes_by_place m h) ∙ codes_say_lem (row_at rows m) a

pub final_asc : (r : Rule) → Valid r → Asc 0 r.final
final_asc r v = rising_asc 0 r.locations r.final v.final_rises

-- The claim.
pub every_place : EveryPlace
unfolding tables_of
every_place r scratch cells rows pool valid fits = record {
  cell = λ n s i h g l.
      cell_by_place r (rows_of r) cells rows pool n s i (ltb-true n (length (rows_of r)) h) (ltb-true s r.symbols g)
      (ltb-true i (width r) l);
  codes = λ n h. codes_by_place r (rows_of r) cells rows pool n (ltb-true n (length (rows_of r)) h);
  verdicts = λ n h.
      verdict_by_place r (rows_of r) cells rows pool n (ltb-true n (length (rows_of r)) h);
}
