-- The row table and the pool as rows are put in: they spell the rows that they hold, and one row more is its numbers
-- and its codes.
use mathlib.Core.Path.{◌≡◌, sym, ◌∙◌, ap, subst}
use mathlib.Core.Bool.{Bool}
use mathlib.Core.List.{List, [], ◌∷◌, ◌++◌, append_assoc, append-nil}
use Prim.Native.Nat.{ℕ, zero, suc, ◌+◌, ◌-◌, ◌*◌, ◌≤◌, ◌<◌}
use native.Mathlib.Omega.{arith}
use native.Mathlib.Nat.{add-zero}
use lib.ListN.{length, set, drop, length-append, drop_of_length-le}
use lib.Seq.{set_at, drop-cons}
use Rattle.model.specs.Basics.{one_if, zeros, filled}
use Rattle.model.specs.Construction.{row_at}
use Rattle.model.specs.Tables.{row_width, row_start, row_length, codes_at, row_numbers, pool_numbers}
use Rattle.model.proofs.Logic.{first_part, in_at}
use Rattle.model.proofs.Masks.{Asc}
use Rattle.model.proofs.TablePlaces.{start_of, start_number, length_number, row_numbers_length, pool_at}
use Rattle.construct.specs.declared.Progress.{Progress}
use Rattle.construct.specs.Rows.{rows_held, rows_in, Within, Held}
use Rattle.construct.proofs.RowSearch.{rows_length, row_held}

-- a table that begins with a list, and one number or one list more
filled_set :
    (n : ℕ) (xs : List ℕ) (k a : ℕ) → length xs ≡ k → k < n → set (filled n xs) k a ≡ filled n (xs ++ (a ∷ []))
filled_set n xs k a f h =
    let e : n - length xs ≡ suc (n - (length xs + 1)) = omega arith in
    rw (e, length-append xs (a ∷ []), append_assoc xs (a ∷ []) (zeros (n - (length xs + 1))))
    (set_at xs 0 (zeros (n - (length xs + 1))) a k f)

-- the three numbers of a row, put in one after another
pub filled_three :
    (n : ℕ) (xs : List ℕ) (k a b c : ℕ) → length xs ≡ k → k + 2 < n
    → set (set (set (filled n xs) k a) (k + 1) b) (k + 2) c ≡ filled n (xs ++ (a ∷ b ∷ c ∷ []))
filled_three n xs k a b c e h =
    let one : set (filled n xs) k a ≡ filled n (xs ++ (a ∷ [])) = filled_set n xs k a e (omega arith) in
    let two : set (filled n (xs ++ (a ∷ []))) (k + 1) b ≡ filled n (xs ++ (a ∷ b ∷ [])) =
    filled_set n (xs ++ (a ∷ [])) (k + 1) b (omega (arith, length-append xs (a ∷ []))) (omega arith)
    ∙ ap (filled n) (append_assoc xs (a ∷ []) (b ∷ [])) in
    ap (λ (l : List ℕ). set (set l (k + 1) b) (k + 2) c) one
    ∙ (ap (λ (l : List ℕ). set l (k + 2) c) two
    ∙ (filled_set n (xs ++ (a ∷ b ∷ [])) (k + 2) c (omega (arith, length-append xs (a ∷ b ∷ []))) h
    ∙ ap (filled n) (append_assoc xs (a ∷ b ∷ []) (c ∷ []))))

-- one row more
pub rows_append :
    (says : List ℕ → Bool) (p : ℕ) (rs : List (List ℕ)) (x : List ℕ)
    → row_numbers says p (rs ++ (x ∷ []))
    ≡ row_numbers says p rs ++ ((p + length (pool_numbers rs)) ∷ length x ∷ one_if (says x) ∷ [])
rows_append says p [] x = rw (add-zero p)
rows_append says p (y ∷ rs) x =
    let e : p + length y + length (pool_numbers rs) ≡ p + length (y ++ pool_numbers rs) =
    rw (length-append y (pool_numbers rs)) (omega arith) in
    rw (rows_append says (p + length y) rs x, e)

pub pool_append : (rs : List (List ℕ)) (x : List ℕ) → pool_numbers (rs ++ (x ∷ [])) ≡ pool_numbers rs ++ x
pool_append [] x = append-nil x
pool_append (y ∷ rs) x = rw (pool_append rs x) (sym (append_assoc y (pool_numbers rs) x))

-- the row with a number, where the tables begin with the rows
module _ (says : List ℕ → Bool) (rs : List (List ℕ)) (l m : ℕ) where
  start_is : (n : ℕ) → n < length rs → row_start (filled l (row_numbers says 0 rs)) n ≡ start_of n rs
  start_is n h =
      first_part 0 (row_numbers says 0 rs) (zeros (l - length (row_numbers says 0 rs))) (row_width * n)
      (omega (arith, row_numbers_length says 0 rs))
      ∙ (start_number says 0 rs n h ∙ omega arith)

  length_is : (n : ℕ) → n < length rs → row_length (filled l (row_numbers says 0 rs)) n ≡ length (row_at rs n)
  length_is n h =
      first_part 0 (row_numbers says 0 rs) (zeros (l - length (row_numbers says 0 rs))) (row_width * n + 1)
      (omega (arith, row_numbers_length says 0 rs))
      ∙ length_number says 0 rs n h

  row_in :
      (n : ℕ) → n < length rs
      → codes_at (filled l (row_numbers says 0 rs)) (filled m (pool_numbers rs)) n ≡ row_at rs n
  row_in n h =
      rw (start_is n h, length_is n h) (pool_at rs n (zeros (m - length (pool_numbers rs))) h)

start_within :
    (n : ℕ) (xs : List (List ℕ)) → n < length xs
    → start_of n xs + length (row_at xs n) ≤ length (pool_numbers xs)
start_within n [] h = absurd (omega arith)
start_within zero (x ∷ xs) h = rw (length-append x (pool_numbers xs)) (omega arith)
start_within (suc n) (x ∷ xs) h =
    rw (length-append x (pool_numbers xs)) (omega (arith, start_within n xs (omega arith)))

-- the rows that such tables hold are the rows
held_from :
    (n i : ℕ) (rows pool : List ℕ) (rs : List (List ℕ)) → i + n ≡ length rs
    → ((k : ℕ) → k < length rs → codes_at rows pool k ≡ row_at rs k)
    → rows_held n i rows pool ≡ drop i rs
held_from zero i rows pool rs e h = let l : length rs ≤ i = omega arith in sym (drop_of_length-le rs l)
held_from (suc n) i rows pool rs e h =
    let l : i < length rs = omega arith in
    rw (h i l, held_from n (suc i) rows pool rs (omega arith) h) (sym (drop-cons rs i [] l))

pub rows_again :
    (says : List ℕ → Bool) (rs : List (List ℕ)) (rows pool : List ℕ) (n l m : ℕ) → n ≡ length rs
    → rows ≡ filled l (row_numbers says 0 rs)
    → pool ≡ filled m (pool_numbers rs)
    → rows_in n rows pool ≡ rs
rows_again says rs rows pool n l m e f g =
    rw (e, f, g)
    (held_from (length rs) 0 (filled l (row_numbers says 0 rs)) (filled m (pool_numbers rs)) rs (omega arith)
    (row_in says rs l m))

-- every row lies in its tables, ascending
pub row_within :
    {says : List ℕ → Bool} {rows pool : List ℕ} {p : Progress} → Held says rows pool p → Within p.rows rows pool
row_within {says} {rows} {pool} {p} held =
    let rs : List (List ℕ) = rows_in p.rows rows pool in
    let count : length rs ≡ p.rows = rows_length p.rows 0 rows pool in
    record {
      rows_long = omega (arith, held.room_fits, held.in_room);
      in_pool = λ n h.
          let l : n < length rs = omega (arith, count) in
          let a : row_start rows n ≡ start_of n rs =
          ap (λ (t : List ℕ). row_start t n) held.rows_are ∙ start_is says rs (length rows) 0 n l in
          let b : row_length rows n ≡ length (row_at rs n) =
          ap (λ (t : List ℕ). row_length t n) held.rows_are ∙ length_is says rs (length rows) 0 n l in
          omega (arith, a, b, start_within n rs l, held.total_is, held.in_pool);
      ascends = λ n h.
          let l : n < length rs = omega (arith, count) in
          subst (Asc 0) (row_held p.rows n rows pool h) (held.rows_ascend (row_at rs n) (in_at [] rs n l));
    }
