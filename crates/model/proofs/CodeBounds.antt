-- Every code of every row is below N: its location is below L and its bases are below cm + 2. So a row has at most N
-- codes.
use mathlib.Core.Path.{refl}
use mathlib.Core.Bool.{Bool}
use mathlib.Core.List.{List, [], ◌∷◌}
use Prim.Native.Nat.{ℕ, suc, ◌+◌, ◌*◌, ◌≤◌, ◌<◌}
use native.Mathlib.Omega.{arith}
use lib.ListN.{length, length-append}
use borrow.Author.Tests.{lt-ltb, le-ltb, eq-eqb, ne_eqb}
use Rattle.model.specs.Rules.{Edge, Rule, pair_count}
use Rattle.model.specs.Construction.{code_of, with_code, start_bases, start_row, target_of, next_row, rows_of}
use Rattle.model.specs.Tables.{pool_numbers}
use Rattle.model.proofs.Logic.{Cmp, cmp, is_lt, is_eq, is_gt, here, there}
use Rattle.model.proofs.Masks.{Asc}
use Rattle.model.proofs.Rising.{Below, rises_below}
use Rattle.model.proofs.Valid.{Valid, EdgeIn}
use Rattle.model.proofs.Codes.{start_bases_lem, code_below}
use Rattle.model.proofs.Codes as Codes
use Rattle.model.proofs.RowsKeep.{start_has, next_has, start_ascends, next_ascends}
use Rattle.model.proofs.Discovery.{Each, each_row}

-- a target
pub target_below :
    (r : Rule) (i : ℕ) (timer : Bool) (x : ℕ) (e : Edge) → EdgeIn r e → target_of r i timer x e < pair_count r
target_below r i timer x e h = Codes.target_below r i timer x e h.target_below

-- the rows
with_below : (m x : ℕ) (ys : List ℕ) → x < m → Below m ys → Below m (with_code x ys)
with_below m x [] h b = (h, tt)
with_below m x (y ∷ ys) h b = go (cmp x y) (with_below m x ys h b.1)
  where
    go : Cmp x y → Below m (with_code x ys) → Below m (with_code x (y ∷ ys))
    go (is_lt l) k = rw (ne_eqb x y (omega arith), with_code, lt-ltb x y l) (h, b)
    go (is_eq l) k = rw (eq-eqb x y l, with_code) b
    go (is_gt l) k = rw (ne_eqb x y (omega arith), with_code, le-ltb x y (omega arith)) (b.0, k)

pub start_row_below : (r : Rule) → Valid r → Below (pair_count r) (start_row r)
start_row_below r v =
    start_has r (Below (pair_count r)) tt
    (λ l i row b.
    with_below (pair_count r) (code_of r l (start_bases r)) row
    (code_below r l (start_bases r) (start_bases_lem r)
    (rises_below 0 r.locations r.initial l v.initial_rises i)) b)

pub next_row_below : (r : Rule) (s i : ℕ) (xs : List ℕ) → Valid r → Below (pair_count r) (next_row r s i xs)
next_row_below r s i xs v =
    next_has r s i xs (Below (pair_count r)) tt
    (λ timer x e j row b.
    with_below (pair_count r) (target_of r i timer x e) row (target_below r i timer x e (v.edges_in e j)) b)

pub rows_below : (r : Rule) → Valid r → Each (Below (pair_count r)) (rows_of r)
rows_below r v =
    each_row r (Below (pair_count r)) (start_row_below r v) (λ s i x. next_row_below r s i x v)

-- so a row, ascending, has at most N codes
ascending_short : (n m : ℕ) (xs : List ℕ) → n ≤ m → Asc n xs → Below m xs → n + length xs ≤ m
ascending_short n m [] h a b = omega arith
ascending_short n m (x ∷ xs) h a b = omega (arith, a.0, ascending_short (suc x) m xs b.0 a.1 b.1)

pub row_most : (m : ℕ) (xs : List ℕ) → Asc 0 xs → Below m xs → length xs ≤ m
row_most m xs a b = omega (arith, ascending_short 0 m xs (omega arith) a b)

pub pool_most :
    (m : ℕ) (rows : List (List ℕ)) → Each (λ x. length x ≤ m) rows → length (pool_numbers rows) ≤ length rows * m
pool_most m [] each = omega arith
pool_most m (x ∷ xs) each =
    omega (arith, length-append x (pool_numbers xs), each x (here refl), pool_most m xs (λ y i. each y (there i)))

pub rows_most : (r : Rule) → Valid r → Each (λ x. length x ≤ pair_count r) (rows_of r)
rows_most r v =
    each_row r (λ x. length x ≤ pair_count r)
    (row_most (pair_count r) (start_row r) (start_ascends r) (start_row_below r v))
    (λ s i x. row_most (pair_count r) (next_row r s i x) (next_ascends r s i x) (next_row_below r s i x v))
