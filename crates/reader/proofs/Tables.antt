-- The table as far as it is read: the edges' numbers, then zeros. The next edge has 86 zeros for its places, and once
-- it stands there the table is that of the rule with one edge more.
use mathlib.Core.Path.{◌≡◌, refl, sym, ◌∙◌, ap, ap₂}
use mathlib.Core.Bool.{true}
use mathlib.Core.List.{List, ◌∷◌, ◌++◌, append_assoc}
use Prim.Native.Nat.{ℕ, zero, suc, ◌+◌, ◌-◌, ◌*◌, ◌≤◌}
use native.Mathlib.Omega.{arith}
use lib.ListN.{length, take, drop, length-append}
use lib.Seq.{take_at, drop_at}
use Rattle.model.specs.Basics.{zeros, filled}
use Rattle.model.specs.Rules.{Edge, Rule, sized}
use Rattle.model.specs.Files.{with_edge}
use Rattle.model.specs.Layout.{edge_width, edge_numbers, edges_numbers, edge_table}
use Rattle.model.proofs.EdgesWritten.{edge_numbers_length, edges_numbers_last}

pub drop_zeros : (k n : ℕ) → drop k (zeros n) ≡ zeros (n - k)
drop_zeros zero n = let e : n - 0 ≡ n = omega arith in rw e
drop_zeros (suc k) zero = let e : 0 - suc k ≡ 0 = omega arith in rw e
drop_zeros (suc k) (suc n) = let e : suc n - suc k ≡ n - k = omega arith in rw e (drop_zeros k n)

-- the table with one edge more, where n edges stand
abbrev pub table_with : ℕ → Edge → List ℕ → List ℕ
table_with n e t = take (edge_width * n) t ++ (edge_numbers e ++ drop edge_width (drop (edge_width * n) t))

take_zeros : (k n : ℕ) → k ≤ n → take k (zeros n) ≡ zeros k
take_zeros zero n h = refl
take_zeros (suc k) zero h = absurd (omega arith)
take_zeros (suc k) (suc n) h = ap (λ (l : List ℕ). 0 ∷ l) (take_zeros k n (omega arith))

-- a table that begins with the numbers of n edges
module _ (front t : List ℕ) (n : ℕ) (wide : length front ≡ edge_width * n) (is : t ≡ filled (length t) front) where
  before : take (edge_width * n) t ≡ front
  before = ap (take (edge_width * n)) is ∙ take_at front (zeros (length t - length front)) (edge_width * n) wide

  after : drop (edge_width * n) t ≡ zeros (length t - edge_width * n)
  after =
      ap (drop (edge_width * n)) is
      ∙ (drop_at front (zeros (length t - length front)) (edge_width * n) wide
      ∙ ap (λ (k : ℕ). zeros (length t - k)) wide)

  pub edge_zero : edge_width * n + edge_width ≤ length t → take edge_width (drop (edge_width * n) t) ≡ zeros edge_width
  edge_zero h = ap (take edge_width) after ∙ take_zeros edge_width (length t - edge_width * n) (omega arith)

  with_more :
      (new : List ℕ) → length new ≡ edge_width
      → take (edge_width * n) t ++ (new ++ drop edge_width (drop (edge_width * n) t)) ≡ filled (length t) (front ++ new)
  with_more new e =
      let left : length t - edge_width * n - edge_width ≡ length t - length (front ++ new) =
      rw (length-append front new) (omega arith) in
      ap₂ (λ (a b : List ℕ). a ++ (new ++ b)) before
      (ap (drop edge_width) after ∙ drop_zeros edge_width (length t - edge_width * n))
      ∙ (sym (append_assoc front new (zeros (length t - edge_width * n - edge_width)))
      ∙ ap (λ (k : ℕ). (front ++ new) ++ zeros k) left)

  pub edge_more :
      (e : Edge) → sized e ≡ true → table_with n e t ≡ filled (length t) (front ++ edge_numbers e)
  edge_more e fits = with_more (edge_numbers e) (edge_numbers_length e fits)

-- the table of a rule, and with one edge more
module _ (r : Rule) (t : List ℕ) (n : ℕ) where
  module _ (wide : length (edges_numbers r.edges) ≡ edge_width * n) (is : t ≡ edge_table (length t) r) where
    pub next_zero :
        edge_width * n + edge_width ≤ length t → take edge_width (drop (edge_width * n) t) ≡ zeros edge_width
    unfolding edge_table
    next_zero h = edge_zero (edges_numbers r.edges) t n wide is h

    pub table_more :
        (e : Edge) → sized e ≡ true → table_with n e t ≡ edge_table (length t) (with_edge r e)
    unfolding edge_table
    table_more e fits =
        edge_more (edges_numbers r.edges) t n wide is e fits
        ∙ ap (filled (length t)) (sym (edges_numbers_last r.edges e))
