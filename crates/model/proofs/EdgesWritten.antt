-- The edge table of a rule, read back: 86 numbers an edge, and the edges that they spell are the rule's.
use mathlib.Core.Path.{◌≡◌, refl, sym, ◌∙◌, ap, ap₂}
use mathlib.Core.Bool.{true}
use mathlib.Core.List.{List, [], ◌∷◌, ◌++◌, append-nil, append_assoc}
use Prim.Native.Nat.{ℕ, suc, ◌-◌, ◌*◌, ◌≤◌}
use native.Mathlib.Omega.{arith}
use lib.ListN.{length, length-append, length-replicate}
use lib.Seq.{take_at, drop_at}
use Rattle.model.specs.Basics.{zeros, filled}
use Rattle.model.specs.Rules.{Edge, Rule, sized, edges_ok}
use Rattle.model.specs.Layout.{edge_fields, edge_width, edge_numbers, edges_numbers, edge_in, edges_in}
use Rattle.model.proofs.ValidParts.{first_edge, other_edges, sized_of}

-- a lent table that begins with xs has the length that was lent
pub filled_length : (n : ℕ) (xs : List ℕ) → length xs ≤ n → length (filled n xs) ≡ n
filled_length n xs h =
    omega (arith, length-append xs (zeros (n - length xs)), length-replicate {A = ℕ} (n - length xs) 0)

pub edge_numbers_length : (e : Edge) → sized e ≡ true → length (edge_numbers e) ≡ edge_width
edge_numbers_length e h =
    let few : length e.text ≤ edge_width - edge_fields = (sized_of e h).length_most in
    omega (arith, filled_length (edge_width - edge_fields) e.text few)

pub edge_written : (e : Edge) (rest : List ℕ) → sized e ≡ true → edge_in (edge_numbers e ++ rest) ≡ e
edge_written e rest h =
    let z : List ℕ = zeros (edge_width - edge_fields - length e.text) in
    let n : ℕ = length e.text in
    rw (append_assoc e.text z rest, (sized_of e h).counted, take_at e.text (z ++ rest) n refl)

-- one edge more
pub edges_numbers_last : (es : List Edge) (e : Edge)
    → edges_numbers (es ++ (e ∷ [])) ≡ edges_numbers es ++ edge_numbers e
unfolding edges_numbers
edges_numbers_last [] e = append-nil (edge_numbers e)
edges_numbers_last (f ∷ es) e =
    ap (λ (l : List ℕ). edge_numbers f ++ l) (edges_numbers_last es e)
    ∙ sym (append_assoc (edge_numbers f) (edges_numbers es) (edge_numbers e))

-- edges of a size that their kind has
module _ (r : Rule) where
  pub edges_numbers_length :
      (es : List Edge) → edges_ok r es ≡ true → length (edges_numbers es) ≡ edge_width * length es
  unfolding edges_numbers
  edges_numbers_length [] h = refl
  edges_numbers_length (e ∷ es) h =
      let one = edge_numbers_length e (first_edge r e es h).is_sized in
      let more = edges_numbers_length es (other_edges r e es h) in
      omega (arith, length-append (edge_numbers e) (edges_numbers es))

  pub edges_written :
      (es : List Edge) (rest : List ℕ) → edges_ok r es ≡ true → edges_in (length es) (edges_numbers es ++ rest) ≡ es
  unfolding edges_numbers
  edges_written [] rest h = refl
  edges_written (e ∷ es) rest h =
      let after : List ℕ = edges_numbers es ++ rest in
      let long : length (edge_numbers e) ≡ edge_width = edge_numbers_length e (first_edge r e es h).is_sized in
      ap (λ (t : List ℕ). edges_in (suc (length es)) t) (append_assoc (edge_numbers e) (edges_numbers es) rest)
      ∙ ap₂ (λ (f : Edge) (fs : List Edge). f ∷ fs) (edge_written e after (first_edge r e es h).is_sized)
      (ap (λ (t : List ℕ). edges_in (length es) t) (drop_at (edge_numbers e) after edge_width long)
      ∙ edges_written es rest (other_edges r e es h))
