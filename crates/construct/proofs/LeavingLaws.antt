-- Links from edge to edge: the edges that they pass by do not leave the location on the symbol.
use mathlib.Core.Path.{◌≡◌, refl, sym, ◌∙◌, ap, ap₂}
use mathlib.Core.Bool.{true, false}
use mathlib.Core.List.{List, [], ◌∷◌}
use Prim.Native.Nat.{ℕ, suc, ◌+◌, ◌-◌, ◌≤◌, ◌<◌}
use native.Mathlib.Omega.{arith}
use borrow.Author.Tests.{eqb-true, eq-eqb}
use lib.Dec.{eqb}
use lib.ListN.{length, get_or, drop, set, length-drop, length-set, drop_of_length-le}
use lib.Seq.{drop-cons, get_or-set_same, get_or-set_other}
use Rattle.edges.specs.Leaving.{leaves_on}
use Rattle.model.specs.Basics.{pick}
use Rattle.model.specs.Rules.{Edge, most_locations, most_symbols, most_edges}
use Rattle.model.specs.Runs.{no_edge}
use Rattle.model.proofs.Logic.{no_way, by_test, and_left, and_right, and_both, Cmp, cmp, is_lt, is_eq, is_gt}
use Rattle.construct.specs.Leaving.{first_leaving, leaving_from, edge_of, first_place, next_place}
use Rattle.construct.specs.Leaving.{link_count, LinkedFrom}

first_least : (l s n : ℕ) (es : List Edge) → n ≤ first_leaving l s n es
first_least l s n [] = omega arith
first_least l s n (e ∷ es) =
    by_test (leaves_on l s e) (λ q. rw q (omega arith)) (λ q. rw q (omega (arith, first_least l s (suc n) es)))

first_most : (l s n : ℕ) (es : List Edge) → first_leaving l s n es ≤ n + length es
first_most l s n [] = omega arith
first_most l s n (e ∷ es) =
    by_test (leaves_on l s e) (λ q. rw q (omega arith)) (λ q. rw q (omega (arith, first_most l s (suc n) es)))

-- the edges from n on, taken apart
module _ (all : List Edge) (n : ℕ) (e : Edge) (es : List Edge) (h : drop n all ≡ e ∷ es) where
  in_all : n < length all
  in_all = omega (arith, length-drop n all, ap length h)

  both : get_or all n no_edge ∷ drop (suc n) all ≡ e ∷ es
  both = sym (drop-cons all n no_edge in_all) ∙ h

  head_is : get_or all n no_edge ≡ e
  head_is = ap (λ (l : List Edge). get_or l 0 no_edge) both

  tail_is : drop (suc n) all ≡ es
  tail_is = ap (drop 1) both

first_leaves :
    (l s n : ℕ) (es all : List Edge) → drop n all ≡ es → first_leaving l s n es < length all
    → leaves_on l s (edge_of all (first_leaving l s n es)) ≡ true
first_leaves l s n [] all h g = absurd (omega (arith, length-drop n all, ap length h))
first_leaves l s n (e ∷ es) all h g =
    by_test (leaves_on l s e) (λ q. rw (q, head_is all n e es h) q)
    (λ q. rw q (first_leaves l s (suc n) es all (tail_is all n e es h) (rw q at g)))

-- Edge n leaves_on l on s, or no edge from here on does.
pub record Standing (es : List Edge) (l s n : ℕ) : Type 0 where
  pub most : n ≤ length es
  pub here_leaves : n < length es → leaves_on l s (edge_of es n) ≡ true

pub standing_from : (es : List Edge) (l s n : ℕ) → n ≤ length es → Standing es l s (leaving_from es l s n)
standing_from es l s n h = record {
  most = omega (arith, first_most l s n (drop n es), length-drop n es);
  here_leaves = first_leaves l s n (drop n es) es refl;
}

source_of : (l s : ℕ) (e : Edge) → leaves_on l s e ≡ true → e.source ≡ l
source_of l s e q = eqb-true e.source l (and_left (eqb e.source l) (eqb e.symbol s) q)

symbol_of : (l s : ℕ) (e : Edge) → leaves_on l s e ≡ true → e.symbol ≡ s
symbol_of l s e q = eqb-true e.symbol s (and_right (eqb e.source l) (eqb e.symbol s) q)

-- the link of an edge that leaves_on l on s
pub next_is :
    {es : List Edge} {l s n : ℕ} {links : List ℕ}
    → LinkedFrom es 0 links
    → Standing es l s n
    → n < length es
    → get_or links (next_place n) 0 ≡ leaving_from es l s (suc n)
next_is {es} {l} {s} {n} linked standing h =
    let q : leaves_on l s (edge_of es n) ≡ true = standing.here_leaves h in
    linked.nexts n (omega arith) h
    ∙ ap₂ (λ (x y : ℕ). leaving_from es x y (suc n)) (source_of l s (edge_of es n) q) (symbol_of l s (edge_of es n) q)

pub next_later : (es : List Edge) (l s n : ℕ) → n < leaving_from es l s (suc n)
next_later es l s n = first_least l s (suc n) (drop (suc n) es)

-- What is blind to edges that do not leave l on s is the same from the first that does.
module _
    {A : Type 0} (l s : ℕ) (P : List Edge → A)
    (blind : (e : Edge) (es : List Edge) → leaves_on l s e ≡ false → P (e ∷ es) ≡ P es) where
  skipped : (n : ℕ) (es all : List Edge) → drop n all ≡ es → P es ≡ P (drop (first_leaving l s n es) all)
  skipped n [] all h = ap P (sym h)
  skipped n (e ∷ es) all h =
      by_test (leaves_on l s e) (λ q. rw q (ap P (sym h)))
      (λ q. rw q (blind e es q ∙ skipped (suc n) es all (tail_is all n e es h)))

  pub from_first : (es : List Edge) (n : ℕ) → P (drop n es) ≡ P (drop (leaving_from es l s n) es)
  from_first es n = skipped n (drop n es) es refl

-- Links made from the last edge to the first.
pub linked_none :
    (es : List Edge) (n : ℕ) (links : List ℕ) → n ≡ length es → length links ≡ link_count
    → ((k : ℕ) → k < link_count → get_or links k 0 ≡ n)
    → LinkedFrom es n links
linked_none es n links e long all_none = record {
  long = long;
  firsts = λ l s hl hs.
      all_none (first_place l s) (omega arith)
      ∙ rw (drop_of_length-le es {i = n} (omega arith));
  nexts = λ k hk hl. absurd (omega arith);
}

module _
    {es : List Edge} {n : ℕ} {links : List ℕ} (linked : LinkedFrom es (suc n) links) (inside : n < length es)
    (few : n < most_edges) (first : ℕ)
    (location : (edge_of es n).source < most_locations) (symbol : (edge_of es n).symbol < most_symbols)
    (first_is : first ≡ first_place (edge_of es n).source (edge_of es n).symbol) where
  abbrev e : Edge
  e = edge_of es n

  abbrev links' : List ℕ
  links' = set (set links (next_place n) (get_or links first 0)) first n

  leaving_step : (l s : ℕ) → leaving_from es l s n ≡ pick (leaves_on l s e) n (leaving_from es l s (suc n))
  leaving_step l s = ap (first_leaving l s n) (drop-cons es n no_edge inside)

  -- every other place is kept
  kept : (k : ℕ) → (k ≡ first → ⊥) → (k ≡ next_place n → ⊥) → get_or links' k 0 ≡ get_or links k 0
  kept k a b =
      get_or-set_other (set links (next_place n) (get_or links first 0)) first k n 0 a
      ∙ get_or-set_other links (next_place n) k (get_or links first 0) 0 b

  long' : length links' ≡ link_count
  long' =
      length-set (set links (next_place n) (get_or links first 0)) first n
      ∙ (length-set links (next_place n) (get_or links first 0) ∙ linked.long)

  first' : (l s : ℕ) → l < most_locations → s < most_symbols → get_or links' (first_place l s) 0 ≡ leaving_from es l s n
  first' l s hl hs =
      by_test (leaves_on l s e)
      (λ q.
      let k : first_place l s ≡ first =
      sym (first_is ∙ ap₂ first_place (source_of l s e q) (symbol_of l s e q)) in
      ap (λ (j : ℕ). get_or links' j 0) k
      ∙ (get_or-set_same (set links (next_place n) (get_or links first 0)) first n 0
      (omega (arith, first_is, length-set links (next_place n) (get_or links first 0), linked.long))
      ∙ sym (leaving_step l s ∙ rw q)))
      (λ q.
      kept (first_place l s)
      (λ k.
      no_way
      (sym q
      ∙ and_both (eqb e.source l) (eqb e.symbol s) (eq-eqb e.source l (omega (arith, k, first_is)))
      (eq-eqb e.symbol s (omega (arith, k, first_is)))))
      (λ k. omega (arith, k))
      ∙ (linked.firsts l s hl hs ∙ sym (leaving_step l s ∙ rw q)))

  next' :
      (k : ℕ) → n ≤ k → k < length es
      → get_or links' (next_place k) 0 ≡ leaving_from es (edge_of es k).source (edge_of es k).symbol (suc k)
  next' k hk hl = go (cmp k n)
    where
      go :
          Cmp k n
          → get_or links' (next_place k) 0 ≡ leaving_from es (edge_of es k).source (edge_of es k).symbol (suc k)
      go (is_lt h) = absurd (omega arith)
      go (is_eq h) =
          rw h
          (get_or-set_other (set links (next_place n) (get_or links first 0)) first (next_place n) n 0
          (λ q. omega (arith, q, first_is))
          ∙ (get_or-set_same links (next_place n) (get_or links first 0) 0 (omega (arith, linked.long))
          ∙ (rw first_is (linked.firsts e.source e.symbol location symbol))))
      go (is_gt h) =
          kept (next_place k) (λ q. omega (arith, q, first_is)) (λ q. omega (arith, q)) ∙ linked.nexts k h hl

  pub linked_next : LinkedFrom es n (set (set links (next_place n) (get_or links first 0)) first n)
  linked_next = record { long = long'; firsts = first'; nexts = next' }

-- the same, as the loop counts
pub link_step :
    (es : List Edge) (n first : ℕ) (links : List ℕ) → LinkedFrom es n links → 0 < n → n ≤ most_edges
    → n - 1 < length es
    → (edge_of es (n - 1)).source < most_locations
    → (edge_of es (n - 1)).symbol < most_symbols
    → first ≡ first_place (edge_of es (n - 1)).source (edge_of es (n - 1)).symbol
    → LinkedFrom es (n - 1) (set (set links (next_place (n - 1)) (get_or links first 0)) first (n - 1))
link_step es n first links linked some few inside location symbol first_is =
    let s : n ≡ suc (n - 1) = omega arith in
    linked_next (rw s at linked) inside (omega arith) first location symbol first_is
