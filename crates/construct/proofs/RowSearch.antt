-- The search among the rows. A row is compared with the marks by its length and its codes; what the search answers for
-- the rows from here on is what it answers for all, as none passed is equal; and as no two rows are equal, the number
-- that it finds does not depend on where it begins.
use mathlib.Core.Path.{◌≡◌, refl, sym, ◌∙◌, ap}
use mathlib.Core.Bool.{true, false}
use mathlib.Core.List.{List, ◌∷◌}
use Prim.Native.Nat.{ℕ, zero, suc, ◌+◌, ◌-◌, ◌*◌, ◌≤◌, ◌<◌}
use native.Mathlib.Omega.{arith}
use native.Mathlib.Numerals.{add-one}
use lib.Dec.{ltb}
use lib.ListN.{length, get_or, take, drop, length-take, length-drop}
use lib.Seq.{get_or-take, get_or-drop}
use borrow.Author.Tests.{lt-ltb, le-ltb, ltb-true, ltb-false}
use Rattle.model.specs.Basics.{same}
use Rattle.model.specs.Construction.{row_at, number_of}
use Rattle.model.specs.Tables.{row_width, row_start, row_length, codes_at}
use Rattle.model.proofs.Logic.{by_test, same_truth, same_equal, same_self, no_way, cmp, is_lt, is_eq, is_gt}
use Rattle.model.proofs.Logic.{two, less, least}
use Rattle.model.proofs.Masks.{Asc}
use Rattle.model.proofs.RowNumbers.{stands, number_in}
use Rattle.model.proofs.RowNumbers.{Placed as Apart}
use Rattle.bits.specs.Bits.{marked, all_marked, codes_in}
use Rattle.bits.proofs.Rows.{row_is_marked, marked_is_row}
use Rattle.bits.proofs.Loops.{rest_end, none_there, one_there}
use Rattle.construct.specs.declared.Found.{Found}
use Rattle.construct.specs.declared.Found.TheVariants.{At, Nothing}
use Rattle.construct.specs.Rows.{rows_held, rows_in, is_at, found_from, found_in, Within}

pub rows_length : (n i : ℕ) (rows pool : List ℕ) → length (rows_held n i rows pool) ≡ n
rows_length zero i rows pool = refl
rows_length (suc n) i rows pool = ap suc (rows_length n (suc i) rows pool)

-- the row with a number, by its start and length
held_at : (n i k : ℕ) (rows pool : List ℕ) → k < n → row_at (rows_held n i rows pool) k ≡ codes_at rows pool (i + k)
held_at zero i k rows pool h = absurd (omega arith)
held_at (suc n) i zero rows pool h = let e : i + 0 ≡ i = omega arith in rw e
held_at (suc n) i (suc k) rows pool h =
    let e : suc i + k ≡ i + suc k = omega arith in
    held_at n (suc i) k rows pool (omega arith) ∙ ap (codes_at rows pool) e

pub row_held :
    (n k : ℕ) (rows pool : List ℕ) → k < n → row_at (rows_in n rows pool) k ≡ codes_at rows pool k
row_held n k rows pool h =
    let z : 0 + k ≡ k = omega arith in
    held_at n 0 k rows pool h ∙ ap (codes_at rows pool) z

-- a row that has a number lies in the row table
pub row_inside :
    {count row : ℕ} {rows pool : List ℕ} → Within count rows pool → row < count
    → row_width * row + row_width ≤ length rows
row_inside w h = omega (arith, w.rows_long)

-- What the search in all rows found, as a number.
pub found_at :
    (x : List ℕ) (rs : List (List ℕ)) (f : Found) (row : ℕ) → f ≡ found_in x rs → f ≡ At row
    → (number_of x rs < length rs) × (row ≡ number_of x rs)
found_at x rs f row e g =
    by_test (ltb (number_of x rs) (length rs))
    (λ t.
    let k : At row ≡ At (number_of x rs) = sym g ∙ (e ∙ rw t) in
    (ltb-true (number_of x rs) (length rs) t, cc))
    (λ t.
    let k : At row ≡ Nothing = sym g ∙ (e ∙ rw t) in
    absurd (let z : ◌≡◌ {A = ℕ} 0 1 = cc in omega arith))

pub found_nothing :
    (x : List ℕ) (rs : List (List ℕ)) (f : Found) → f ≡ found_in x rs → f ≡ Nothing → length rs ≤ number_of x rs
found_nothing x rs f e g =
    by_test (ltb (number_of x rs) (length rs))
    (λ t.
    let k : Nothing ≡ At (number_of x rs) = sym g ∙ (e ∙ rw t) in
    absurd (let z : ◌≡◌ {A = ℕ} 0 1 = cc in omega arith))
    (λ t. ltb-false (number_of x rs) (length rs) t)

-- The comparison: a row that rises and is as long as the marked codes are many equals them exactly if all its codes are
-- marked; a row of another length never does.
same_marked :
    (marks row : List ℕ) → Asc 0 row → length row ≡ length (codes_in marks)
    → same (codes_in marks) row ≡ all_marked marks row
same_marked marks row a e =
    same_truth (same (codes_in marks) row) (all_marked marks row)
    (λ t. marked_is_row marks row (sym (same_equal (codes_in marks) row t)))
    (λ t. ap (same (codes_in marks)) (row_is_marked marks row a e t) ∙ same_self (codes_in marks))

same_longer : (xs ys : List ℕ) → (length ys ≡ length xs → ⊥) → same xs ys ≡ false
same_longer xs ys n = by_test (same xs ys) (λ t. absurd (n (ap length (sym (same_equal xs ys t))))) (λ t. t)

-- a row that lies at a start and is as long as the marked codes are many
pub record AsLong (marks rows pool : List ℕ) (row start n : ℕ) : Type 0 where
  pub fits : start + n ≤ length pool
  pub part_is : codes_at rows pool row ≡ take n (drop start pool)
  pub length_is : length (codes_at rows pool row) ≡ n
  pub same_is : same (codes_in marks) (codes_at rows pool row) ≡ all_marked marks (codes_at rows pool row)

-- The same of a row by its start and length.
module _
    {count row : ℕ} {rows pool : List ℕ} (marks : List ℕ) (start n : ℕ) (within : Within count rows pool)
    (h : row < count) (is_start : start ≡ row_start rows row) (is_length : n ≡ row_length rows row) where
  pub row_fits : start + n ≤ length pool
  row_fits = omega (arith, within.in_pool row h, is_start, is_length)

  row_part : codes_at rows pool row ≡ take n (drop start pool)
  row_part = rw (is_start, is_length)

  row_length_lem : length (codes_at rows pool row) ≡ n
  row_length_lem = rw row_part (simp (length-take, length-drop) (omega (arith, row_fits)))

  pub row_longer : (n ≡ length (codes_in marks) → ⊥) → same (codes_in marks) (codes_at rows pool row) ≡ false
  row_longer d = same_longer (codes_in marks) (codes_at rows pool row) (λ e. d (sym row_length_lem ∙ e))

  pub row_as_long : n ≡ length (codes_in marks) → AsLong marks rows pool row start n
  row_as_long e = record {
    fits = row_fits;
    part_is = row_part;
    length_is = row_length_lem;
    same_is = same_marked marks (codes_at rows pool row) (within.ascends row h) (row_length_lem ∙ e);
  }

-- Code by code: what is asked of the rest of a row is asked of the whole.
module _
    {marks rows pool : List ℕ} {row start n : ℕ} (long : AsLong marks rows pool row start n) (j : ℕ)
    (inv : all_marked marks (drop j (codes_at rows pool row)) ≡ all_marked marks (codes_at rows pool row)) where
  pub row_ends : j ≡ n → same (codes_in marks) (codes_at rows pool row) ≡ true
  row_ends e =
      let l : length (codes_at rows pool row) ≡ j = long.length_is ∙ sym e in
      long.same_is ∙ (sym inv ∙ rest_end marks (codes_at rows pool row) j (omega arith) (omega arith))

  module _ (code : ℕ) (h : j < n) (is_code : code ≡ get_or pool (start + j) 0) where
    code_held : code ≡ get_or (codes_at rows pool row) j 0
    code_held =
        is_code ∙ sym (ap (λ (xs : List ℕ). get_or xs j 0) long.part_is ∙ rw (get_or-take, get_or-drop))

    pub row_differs : marked marks code ≡ false → same (codes_in marks) (codes_at rows pool row) ≡ false
    row_differs m =
        long.same_is
        ∙ sym
        (none_there marks (codes_at rows pool row) j code inv (omega (arith, long.length_is)) code_held m)

    pub row_goes_on :
        marked marks code ≡ true
        → all_marked marks (drop (j + 1) (codes_at rows pool row)) ≡ all_marked marks (codes_at rows pool row)
    row_goes_on m =
        one_there marks (codes_at rows pool row) j code inv (omega (arith, long.length_is)) code_held m

-- Row by row: what the search answers for the rest, from here, is what it answers for the whole.
pub record Searching (low high row : ℕ) (rows pool codes : List ℕ) : Type 0 where
  pub rest_is :
      found_from row codes (rows_held (high - row) row rows pool)
      ≡ found_from low codes (rows_held (high - low) low rows pool)

rows_rest :
    (high row : ℕ) (rows pool : List ℕ) → row < high
    → rows_held (high - row) row rows pool ≡ codes_at rows pool row ∷ rows_held (high - (row + 1)) (row + 1) rows pool
rows_rest high row rows pool h =
    let a : high - row ≡ suc (high - (row + 1)) = omega arith in rw (a, add-one row)

module _ {low high row : ℕ} {rows pool codes : List ℕ} (inv : Searching low high row rows pool codes) where
  pub search_next :
      row < high → same codes (codes_at rows pool row) ≡ false → Searching low high (row + 1) rows pool codes
  search_next h n = record {
    rest_is = sym (ap (found_from row codes) (rows_rest high row rows pool h) ∙ rw (n, add-one row)) ∙ inv.rest_is;
  }

  pub search_found :
      row < high → same codes (codes_at rows pool row) ≡ true
      → At row ≡ found_from low codes (rows_held (high - low) low rows pool)
  search_found h e =
      sym (ap (found_from row codes) (rows_rest high row rows pool h) ∙ rw e) ∙ inv.rest_is

-- What it answers for n rows from i on: a number of one of them that is equal, or nothing where none is.
module _ (rows pool x : List ℕ) where
  from_at :
      (n i k : ℕ) → found_from i x (rows_held n i rows pool) ≡ At k → (k < i + n) × (x ≡ codes_at rows pool k)
  from_at zero i k e = absurd (let z : ◌≡◌ {A = ℕ} 0 1 = cc in omega arith)
  from_at (suc n) i k e =
      by_test (same x (codes_at rows pool i))
      (λ t.
      let g : At i ≡ At k = rw t at e in
      let z : i ≡ k = cc in
      (omega arith, same_equal x (codes_at rows pool i) t ∙ ap (codes_at rows pool) z))
      (λ t. let on = from_at n (suc i) k (rw t at e) in (omega (arith, on.0), on.1))

  from_nothing :
      (n i : ℕ) → found_from i x (rows_held n i rows pool) ≡ Nothing
      → (k : ℕ) → i ≤ k → k < i + n → x ≡ codes_at rows pool k → ⊥
  from_nothing zero i e k l m q = omega arith
  from_nothing (suc n) i e k l m q =
      by_test (same x (codes_at rows pool i))
      (λ t. let g : At i ≡ Nothing = rw t at e in absurd (let z : ◌≡◌ {A = ℕ} 0 1 = cc in omega arith))
      (λ t.
      elim (cmp i k) [
        | is_lt a ↦ from_nothing n (suc i) (rw t at e) k a (omega arith) q
        | is_eq a ↦ no_way (sym t ∙ (ap (same x) (ap (codes_at rows pool) a ∙ sym q) ∙ same_self x))
        | is_gt a ↦ omega arith
      ])

  -- among all rows, no two of which are equal
  module _ (count : ℕ) where
    there_found :
        Apart (rows_in count rows pool) → (k : ℕ) → k < count → x ≡ codes_at rows pool k
        → At k ≡ found_in x (rows_in count rows pool)
    there_found apart k h e =
        let l : k < length (rows_in count rows pool) = rw (rows_length count 0 rows pool) h in
        let n : number_of x (rows_in count rows pool) ≡ k =
        ap (λ (y : List ℕ). number_of y (rows_in count rows pool)) (e ∙ sym (row_held count k rows pool h))
        ∙ apart k l in
        rw (n, lt-ltb k (length (rows_in count rows pool)) l)

    none_found :
        ((k : ℕ) → k < count → x ≡ codes_at rows pool k → ⊥) → Nothing ≡ found_in x (rows_in count rows pool)
    none_found none =
        let rs : List (List ℕ) = rows_in count rows pool in
        by_test (ltb (number_of x rs) (length rs))
        (λ t.
        let s = stands 0 x rs (number_in 0 x rs (omega (arith, ltb-true (number_of x rs) (length rs) t))) in
        let l : s.place < count = omega (arith, s.inside, rows_length count 0 rows pool) in
        absurd (none s.place l (sym s.row_is ∙ row_held count s.place rows pool l)))
        (λ t. rw t)

    -- from `middle` on, then those before it
    module _
        (apart : Apart (rows_in count rows pool)) (middle : ℕ) (m : middle ≤ count) (first : Found)
        (is_first : first ≡ found_from middle x (rows_held (count - middle) middle rows pool)) where
      pub found_after : (row : ℕ) → first ≡ At row → At row ≡ found_in x (rows_in count rows pool)
      found_after row e =
          let k = from_at (count - middle) middle row (sym is_first ∙ e) in
          there_found apart row (omega (arith, k.0)) k.1

      pub found_before :
          first ≡ Nothing → (f : Found) → f ≡ found_from 0 x (rows_held (middle - 0) 0 rows pool)
          → f ≡ found_in x (rows_in count rows pool)
      found_before e (At k) g =
          let p = from_at (middle - 0) 0 k (sym g) in
          there_found apart k (omega (arith, p.0)) p.1
      found_before e Nothing g =
          none_found
          (λ k h q.
          elim (two k middle) [
            | less l ↦ from_nothing (middle - 0) 0 (sym g) k (omega arith) (omega arith) q
            | least l ↦ from_nothing (count - middle) middle (sym is_first ∙ e) k l (omega arith) q
          ])

-- A row by its number: it has none, or it is compared.
at_row :
    (count row : ℕ) (rows pool codes : List ℕ) → row < count
    → same codes (codes_at rows pool row) ≡ is_at row codes (rows_in count rows pool)
at_row count row rows pool codes h =
    let l : row < length (rows_in count rows pool) = rw (rows_length count 0 rows pool) h in
    rw (lt-ltb row (length (rows_in count rows pool)) l, row_held count row rows pool h)

pub at_none :
    (count row : ℕ) (rows pool codes : List ℕ) → count ≤ row → false ≡ is_at row codes (rows_in count rows pool)
at_none count row rows pool codes h =
    let l : length (rows_in count rows pool) ≤ row = rw (rows_length count 0 rows pool) h in
    rw (le-ltb row (length (rows_in count rows pool)) l)

pub at_longer :
    {count row : ℕ} {rows pool : List ℕ} (marks : List ℕ) (n : ℕ) → Within count rows pool → row < count
    → n ≡ row_length rows row → (n ≡ length (codes_in marks) → ⊥)
    → false ≡ is_at row (codes_in marks) (rows_in count rows pool)
at_longer {count} {row} {rows} {pool} marks n within h is_length d =
    sym (row_longer marks (row_start rows row) n within h refl is_length d)
    ∙ at_row count row rows pool (codes_in marks) h

pub at_marked :
    {count row : ℕ} {rows pool : List ℕ} (marks : List ℕ) (n : ℕ) → Within count rows pool → row < count
    → n ≡ row_length rows row
    → n ≡ length (codes_in marks)
    → all_marked marks (codes_at rows pool row) ≡ is_at row (codes_in marks) (rows_in count rows pool)
at_marked {count} {row} {rows} {pool} marks n within h is_length e =
    sym (row_as_long marks (row_start rows row) n within h refl is_length e).same_is
    ∙ at_row count row rows pool (codes_in marks) h
