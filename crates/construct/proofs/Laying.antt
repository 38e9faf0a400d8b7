-- The cells of a symbol, of a row and of all rows, with one more at the end, and the number that a cell keeps.
use mathlib.Core.Path.{◌≡◌, sym, ◌∙◌, ap}
use mathlib.Core.List.{List, [], ◌∷◌, ◌++◌, append_assoc, append-nil}
use Prim.Native.Nat.{ℕ, zero, suc, ◌+◌}
use native.Mathlib.Omega.{arith}
use native.Mathlib.Nat.{add-zero}
use Rattle.model.specs.Rules.{Rule}
use Rattle.model.specs.Construction.{width, next_row, number_of, with_row, cell_of}
use Rattle.model.specs.Tables.{cells_from, symbol_cells, cell_numbers}
use Rattle.model.proofs.RowNumbers.{number_stays, with_has, with_number}

-- the cells of one symbol, of one row, of all rows, with one more at the end
module _ (r : Rule) (all_are : List (List ℕ)) where
  pub cells_snoc :
      (n i : ℕ) (x : List ℕ) (s : ℕ)
      → cells_from (suc n) i r all_are x s ≡ cells_from n i r all_are x s ++ (cell_of r all_are x s (i + n) ∷ [])
  cells_snoc zero i x s = rw (add-zero i)
  cells_snoc (suc n) i x s =
      let e : suc i + n ≡ i + suc n = omega arith in
      ap (λ (l : List ℕ). cell_of r all_are x s i ∷ l) (cells_snoc n (suc i) x s ∙ rw e)

  pub symbols_snoc :
      (n s : ℕ) (x : List ℕ)
      → symbol_cells (suc n) s r all_are x ≡ symbol_cells n s r all_are x ++ cells_from (width r) 0 r all_are x (s + n)
  symbols_snoc zero s x = rw (add-zero s) (append-nil (cells_from (width r) 0 r all_are x s))
  symbols_snoc (suc n) s x =
      let e : suc s + n ≡ s + suc n = omega arith in
      ap (λ (l : List ℕ). cells_from (width r) 0 r all_are x s ++ l) (symbols_snoc n (suc s) x ∙ rw e)
      ∙ sym
      (append_assoc (cells_from (width r) 0 r all_are x s) (symbol_cells n (suc s) r all_are x)
      (cells_from (width r) 0 r all_are x (s + suc n)))

  pub numbers_snoc :
      (xs : List (List ℕ)) (x : List ℕ)
      → cell_numbers r all_are (xs ++ (x ∷ [])) ≡ cell_numbers r all_are xs ++ symbol_cells r.symbols 0 r all_are x
  numbers_snoc [] x = append-nil (symbol_cells r.symbols 0 r all_are x)
  numbers_snoc (y ∷ xs) x =
      ap (λ (l : List ℕ). symbol_cells r.symbols 0 r all_are y ++ l) (numbers_snoc xs x)
      ∙ sym
      (append_assoc (symbol_cells r.symbols 0 r all_are y) (cell_numbers r all_are xs)
      (symbol_cells r.symbols 0 r all_are x))

-- a cell keeps its number as rows are appended
pub cell_stays :
    (r : Rule) (s i : ℕ) (x : List ℕ) (rs more : List (List ℕ))
    → cell_of r (with_row (next_row r s i x) rs ++ more) x s i ≡ cell_of r rs x s i
unfolding cell_of
cell_stays r s i x rs more =
    let next : List ℕ = next_row r s i x in
    let e : number_of next (with_row next rs ++ more) ≡ number_of next rs =
    number_stays 0 next (with_row next rs) more (with_has next rs) ∙ with_number next rs in
    rw e
