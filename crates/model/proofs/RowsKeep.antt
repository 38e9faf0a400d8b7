-- What holds of the empty row and is kept by every code that an edge makes holds of every successor row. So every row
-- is ascending.
use mathlib.Core.Path.{◌≡◌, refl}
use mathlib.Core.Bool.{Bool, true, false}
use mathlib.Core.List.{List, [], ◌∷◌}
use Prim.Native.Nat.{ℕ, suc, ◌≤◌}
use native.Mathlib.Omega.{arith}
use borrow.Author.Tests.{lt-ltb, le-ltb, le-leb, eq-eqb, ne_eqb}
use Rattle.model.specs.Basics.{pick}
use Rattle.model.specs.Rules.{Edge, Rule}
use Rattle.model.specs.Construction.{with_code, code_of, start_bases, start_codes, start_row, allows, row_resets}
use Rattle.model.specs.Construction.{target_of, pair_targets, row_targets, next_row}
use Rattle.model.specs.Claims.{ascending}
use Rattle.model.proofs.Logic.{Cmp, cmp, is_lt, is_eq, is_gt, In, here, there}
use Rattle.model.proofs.Masks.{Asc}

-- a property of rows, kept as a code is put in
abbrev pub Keeps : (List ℕ → Type 0) → ℕ → Type 0
Keeps Q code = (row : List ℕ) → Q row → Q (with_code code row)

-- the start row
start_codes_have :
    (r : Rule) (Q : List ℕ → Type 0) (ls : List ℕ)
    → Q []
    → ((l : ℕ) → In l ls → Keeps Q (code_of r l (start_bases r)))
    → Q (start_codes r ls)
start_codes_have r Q [] none keeps = none
start_codes_have r Q (l ∷ ls) none keeps =
    keeps l (here refl) (start_codes r ls) (start_codes_have r Q ls none (λ m i. keeps m (there i)))

pub start_has :
    (r : Rule) (Q : List ℕ → Type 0)
    → Q []
    → ((l : ℕ) → In l r.initial → Keeps Q (code_of r l (start_bases r)))
    → Q (start_row r)
unfolding start_row
start_has r Q none keeps = start_codes_have r Q r.initial none keeps

-- a successor row
module _ (r : Rule) (s i : ℕ) (timer : Bool) (Q : List ℕ → Type 0) where
  pair_targets_have :
      (x : ℕ) (es : List Edge) (row : List ℕ)
      → ((e : Edge) → In e es → Keeps Q (target_of r i timer x e))
      → Q row
      → Q (pair_targets r s i timer x es row)
  pair_targets_have x [] row keeps q = q
  pair_targets_have x (e ∷ es) row keeps q =
      pair_targets_have x es (pick (allows r s i x e) (with_code (target_of r i timer x e) row) row)
      (λ f j. keeps f (there j)) (go (allows r s i x e))
    where
      go : (t : Bool) → Q (pick t (with_code (target_of r i timer x e) row) row)
      go true = keeps e (here refl) row q
      go false = q

  row_targets_have :
      (xs row : List ℕ)
      → ((x : ℕ) (e : Edge) → In e r.edges → Keeps Q (target_of r i timer x e))
      → Q row
      → Q (row_targets r s i timer xs row)
  row_targets_have [] row keeps q = q
  row_targets_have (x ∷ xs) row keeps q =
      row_targets_have xs (pair_targets r s i timer x r.edges row) keeps
      (pair_targets_have x r.edges row (keeps x) q)

pub next_has :
    (r : Rule) (s i : ℕ) (xs : List ℕ) (Q : List ℕ → Type 0)
    → Q []
    → ((timer : Bool) (x : ℕ) (e : Edge) → In e r.edges → Keeps Q (target_of r i timer x e))
    → Q (next_row r s i xs)
unfolding next_row
next_has r s i xs Q none keeps =
    row_targets_have r s i (row_resets r s i xs) Q xs [] (keeps (row_resets r s i xs)) none

-- ascending rows, as a test and as a type
pub ascending_of : (n : ℕ) (xs : List ℕ) → Asc n xs → ascending n xs ≡ true
ascending_of n [] a = refl
ascending_of n (x ∷ xs) a = rw (le-leb n x a.0, ascending_of (suc x) xs a.1)

-- a code is put in where it keeps the order
pub with_ascends : (n x : ℕ) (ys : List ℕ) → n ≤ x → Asc n ys → Asc n (with_code x ys)
with_ascends n x [] h a = (h, tt)
with_ascends n x (y ∷ ys) h a = go (cmp x y) (with_ascends (suc y) x ys)
  where
    go : Cmp x y → (suc y ≤ x → Asc (suc y) ys → Asc (suc y) (with_code x ys)) → Asc n (with_code x (y ∷ ys))
    go (is_lt l) k = rw (ne_eqb x y (omega arith), with_code, lt-ltb x y l) (h, (l, a.1))
    go (is_eq l) k = rw (eq-eqb x y l, with_code) a
    go (is_gt l) k = rw (ne_eqb x y (omega arith), with_code, le-ltb x y (omega arith)) (a.0, k l a.1)

pub start_ascends : (r : Rule) → Asc 0 (start_row r)
start_ascends r = start_has r (Asc 0) tt (λ l i row a. with_ascends 0 (code_of r l (start_bases r)) row (omega arith) a)

pub next_ascends : (r : Rule) (s i : ℕ) (xs : List ℕ) → Asc 0 (next_row r s i xs)
next_ascends r s i xs =
    next_has r s i xs (Asc 0) tt (λ timer x e j row a. with_ascends 0 (target_of r i timer x e) row (omega arith) a)
