-- The edges that a pair meets by its links: the code tests them as the construction does, and those passed by change
-- nothing, neither whether the timer is reset nor the targets.
use mathlib.Core.Path.{◌≡◌, refl, sym, ◌∙◌, ap, ap₂, subst⁻¹}
use mathlib.Core.Bool.{Bool, true, false, ◌&&◌, ◌||◌}
use mathlib.Core.List.{List, [], ◌∷◌}
use Prim.Native.Nat.{ℕ, suc, ◌+◌, ◌%◌, ◌≤◌, ◌<◌}
use native.Mathlib.Omega.{arith}
use borrow.Author.Tests.{ltb-true, ltb-false, ne_eqb}
use Rattle.std.specs.List.{list_any}
use lib.Dec.{eqb, ltb, leb}
use lib.ListN.{length, get_or, drop, drop_of_length-le}
use lib.Seq.{drop-cons}
use Rattle.model.specs.declared.Head.{Head}
use Rattle.edges.specs.Leaving.{leaves_on}
use Rattle.model.specs.Rules.{Edge, Rule, most_locations, most_symbols, most_edges}
use Rattle.model.specs.Runs.{no_edge}
use Rattle.model.specs.Layout.{edge_at, edges_in, rule_in, rule_refusal}
use Rattle.model.specs.Construction.{location_of, allows, pair_resets, row_resets, target_of, pair_targets}
use Rattle.model.proofs.Logic.{by_test, In, here, there, in_at}
use Rattle.model.proofs.Valid.{valid_of, Valid, EdgeIn}
use Rattle.model.proofs.Readable.{passes_valid}
use Rattle.model.proofs.RowSets.{even_reset}
use Rattle.model.proofs.EdgeTable.{edges_length, edge_at_lem}
use Rattle.codes.specs.declared.Scale.{Scale}
use Rattle.codes.specs.declared.Pair.{Pair}
use Rattle.edges.specs.declared.StoredEdge.{StoredEdge}
use Rattle.edges.specs.Views.{edge_of as edge_by}
use Rattle.pairs.specs.declared.Departure.{Departure}
use Rattle.pairs.specs.declared.Input.{Input}
use Rattle.codes.specs.Codes.{Powered, Scaled, unpacked}
use Rattle.pairs.specs.Pairs.{pair_allows, pair_resets_on, pair_target}
use Rattle.codes.proofs.Agreement.{location_is}
use Rattle.pairs.proofs.Agreement.{allows_is, target_is}
use Rattle.construct.specs.Leaving.{first_leaving, leaving_from, edge_of, next_place, first_link, Linked}
use Rattle.construct.proofs.LeavingLaws.{Standing, standing_from, next_is, next_later, from_first}

-- the edges of the rule that head record and edge table spell
pub edges_of : (h : Head) (t : List ℕ) → (rule_in h t).edges ≡ edges_in h.count t
unfolding rule_in
edges_of h t = refl

pub edge_count : (h : Head) (t : List ℕ) → length (rule_in h t).edges ≡ h.count
edge_count h t = ap length (edges_of h t) ∙ edges_length h.count t

edge_of_lem :
    (h : Head) (t : List ℕ) (n : ℕ) → n < h.count → edge_at n t ≡ edge_of (rule_in h t).edges n
edge_of_lem h t n l = rw (edges_of h t) (sym (edge_at_lem h.count n t l))

pub edges_few : (h : Head) (t : List ℕ) → (rule_refusal h t).number ≡ 0 → h.count ≤ most_edges
edges_few h t passed =
    omega (arith, edge_count h t, (valid_of (rule_in h t) (passes_valid h t passed)).edges_most)

-- Source and symbol of edge n, as the table has them; both have a place among the links.
pub record Fields (t : List ℕ) (es : List Edge) (n : ℕ) : Type 0 where
  pub inside : n < length es
  pub source_is : (edge_at n t).source ≡ (edge_of es n).source
  pub symbol_is : (edge_at n t).symbol ≡ (edge_of es n).symbol
  pub source_few : (edge_of es n).source < most_locations
  pub symbol_few : (edge_of es n).symbol < most_symbols

pub fields_of :
    (h : Head) (t : List ℕ) (n : ℕ) → (rule_refusal h t).number ≡ 0 → n < h.count
    → Fields t (edges_in h.count t) n
fields_of h t n passed l =
    let es : List Edge = edges_in h.count t in
    let v : Valid (rule_in h t) = valid_of (rule_in h t) (passes_valid h t passed) in
    let k : n < length es = omega (arith, edges_length h.count t) in
    let e : EdgeIn (rule_in h t) (edge_of es n) =
    v.edges_in (edge_of es n) (rw (edges_of h t) (in_at no_edge es n k)) in
    let same_edge : edge_at n t ≡ edge_of es n = sym (edge_at_lem h.count n t (omega arith)) in
    record {
      inside = k;
      source_is = ap (λ (f : Edge). f.source) same_edge;
      symbol_is = ap (λ (f : Edge). f.symbol) same_edge;
      source_few = omega (arith, e.source_below, v.sizes.locations_most);
      symbol_few = omega (arith, e.symbol_below, v.sizes.symbols_most);
    }

-- the same of a stored edge
pub place_by :
    {t : List ℕ} {es : List Edge} {n : ℕ} (f : Fields t es n) (edge : StoredEdge)
    → (edge.table.now ≡ t) × (edge.number ≡ n)
    → {source symbol : ℕ} → source ≡ (edge_by edge).source → symbol ≡ (edge_by edge).symbol
    → (source ≡ (edge_of es n).source) × (symbol ≡ (edge_of es n).symbol)
place_by f edge is p q =
    let same_edge = ap₂ edge_at is.1 is.0 in (
      p ∙ (ap (λ (e : Edge). e.source) same_edge ∙ f.source_is),
      q ∙ (ap (λ (e : Edge). e.symbol) same_edge ∙ f.symbol_is),
    )

-- The first link is the first edge that leaves; from a location or on a symbol that no rule has, none does.
none_leaves :
    (l s n : ℕ) (es : List Edge) → ((e : Edge) → In e es → leaves_on l s e ≡ false) → first_leaving l s n es
    ≡ n + length es
none_leaves l s n [] h = omega arith
none_leaves l s n (e ∷ es) h =
    rw (h e (here refl)) (none_leaves l s (suc n) es (λ f i. h f (there i)) ∙ omega arith)

none_first :
    (l s : ℕ) (es : List Edge) → ((e : Edge) → In e es → leaves_on l s e ≡ false) → length es ≡ first_leaving l s 0 es
none_first l s es h = omega (arith, none_leaves l s 0 es h)

not_on : (a b : Bool) → b ≡ false → (a && b) ≡ false
not_on true b h = h
not_on false b h = refl

pub first_link_lem :
    (r : Rule) (l s : ℕ) (links : List ℕ) → Valid r → Linked r links
    → first_link (length r.edges) l s links ≡ leaving_from r.edges l s 0
first_link_lem r l s links v linked =
    by_test (ltb l most_locations)
    (λ p.
    by_test (ltb s most_symbols)
    (λ q. rw (p, q) (linked.firsts l s (ltb-true l most_locations p) (ltb-true s most_symbols q)))
    (λ q.
    rw (p, q)
    (none_first l s r.edges
    (λ e i.
    not_on (eqb e.source l) (eqb e.symbol s)
    (ne_eqb e.symbol s
    (λ k. omega (arith, k, ltb-false s most_symbols q, (v.edges_in e i).symbol_below, v.sizes.symbols_most)))))))
    (λ p.
    rw p
    (none_first l s r.edges
    (λ e i.
    rw
    (ne_eqb e.source l
    (λ k. omega (arith, k, ltb-false l most_locations p, (v.edges_in e i).source_below, v.sizes.locations_most))))))

-- the first edge for the pair of a code
pub first_at :
    (h : Head) (t : List ℕ) {z : Scale} (links : List ℕ) (s x : ℕ) (p : Pair) → (rule_refusal h t).number ≡ 0
    → Scaled (rule_in h t) z
    → Linked (rule_in h t) links
    → p ≡ unpacked z x
    → first_link h.count p.location s links ≡ leaving_from (rule_in h t).edges (location_of (rule_in h t) x) s 0
first_at h t links s x p passed scaled linked u =
    ap₂ (λ (n l : ℕ). first_link n l s links) (sym (edge_count h t))
    (ap (λ (q : Pair). q.location) u ∙ location_is scaled x)
    ∙ first_link_lem (rule_in h t) (location_of (rule_in h t) x) s links
    (valid_of (rule_in h t) (passes_valid h t passed)) linked

-- An edge that does not leave the pair's location on the symbol is not allowed.
not_allowed : (r : Rule) (s i x : ℕ) (e : Edge) → leaves_on (location_of r x) s e ≡ false → allows r s i x e ≡ false
unfolding allows
not_allowed r s i x e q = rw q

resets_blind :
    (r : Rule) (s i x : ℕ) (e : Edge) (es : List Edge) → leaves_on (location_of r x) s e ≡ false
    → pair_resets r s i x (e ∷ es) ≡ pair_resets r s i x es
resets_blind r s i x e es q =
    ap (λ (b : Bool). b || pair_resets r s i x es)
    (not_on (leb 1 e.resets) (allows r s i x e) (not_allowed r s i x e q))

targets_blind :
    (r : Rule) (s i : ℕ) (timer : Bool) (x : ℕ) (row : List ℕ) (e : Edge) (es : List Edge)
    → leaves_on (location_of r x) s e ≡ false
    → pair_targets r s i timer x (e ∷ es) row ≡ pair_targets r s i timer x es row
targets_blind r s i timer x row e es q = rw (not_allowed r s i x e q)

-- so both are the same from the next edge that leaves
resets_from :
    (r : Rule) (s i x n : ℕ)
    → pair_resets r s i x (drop n r.edges)
    ≡ pair_resets r s i x (drop (leaving_from r.edges (location_of r x) s n) r.edges)
resets_from r s i x n = from_first (location_of r x) s (pair_resets r s i x) (resets_blind r s i x) r.edges n

pub targets_from :
    (r : Rule) (s i : ℕ) (timer : Bool) (x : ℕ) (row : List ℕ) (n : ℕ)
    → pair_targets r s i timer x (drop n r.edges) row
    ≡ pair_targets r s i timer x (drop (leaving_from r.edges (location_of r x) s n) r.edges) row
targets_from r s i timer x row n =
    from_first (location_of r x) s (λ es. pair_targets r s i timer x es row) (targets_blind r s i timer x row)
    r.edges n

-- What the code tests at edge n, and where it leads, is the construction's.
module _
    (h : Head) (t : List ℕ) {z : Scale} (passed : (rule_refusal h t).number ≡ 0) (scaled : Scaled (rule_in h t) z)
    {n : ℕ}
    (inside : n < h.count) where
  pub edge_in_lem : EdgeIn (rule_in h t) (edge_of (rule_in h t).edges n)
  edge_in_lem =
      (valid_of (rule_in h t) (passes_valid h t passed)).edges_in (edge_of (rule_in h t).edges n)
      (in_at no_edge (rule_in h t).edges n (omega (arith, edge_count h t)))

  allowed_is :
      (at : Input) (x : ℕ) (p : Pair) (b : Bool) → p ≡ unpacked z x
      → b ≡ pair_allows z.top at p (edge_at n t)
      → b ≡ allows (rule_in h t) at.symbol at.interval x (edge_of (rule_in h t).edges n)
  allowed_is at x p b u q =
      q
      ∙ (ap₂ (λ (y : Pair) (f : Edge). pair_allows z.top at y f) u (edge_of_lem h t n inside)
      ∙ allows_is scaled at x (edge_of (rule_in h t).edges n) edge_in_lem)

  resets_is :
      (at : Input) (x : ℕ) (p : Pair) (b : Bool) → p ≡ unpacked z x
      → b ≡ pair_resets_on z.top at p (edge_at n t)
      → b
      ≡ leb 1 (edge_of (rule_in h t).edges n).resets
      && allows (rule_in h t) at.symbol at.interval x (edge_of (rule_in h t).edges n)
  resets_is at x p b u q =
      q
      ∙ ap₂ (λ (f : Edge) (a : Bool). leb 1 f.resets && a) (edge_of_lem h t n inside)
      (allowed_is at x p (pair_allows z.top at p (edge_at n t)) u refl)

  to_is :
      (i : ℕ) (timer : Bool) (x : ℕ) (p : Pair) (to : ℕ) → p ≡ unpacked z x
      → to ≡ pair_target z i timer p (edge_at n t)
      → to ≡ target_of (rule_in h t) i timer x (edge_of (rule_in h t).edges n)
  to_is i timer x p to u q =
      q
      ∙ (ap₂ (λ (y : Pair) (f : Edge). pair_target z i timer y f) u (edge_of_lem h t n inside)
      ∙ target_is scaled i timer x (edge_of (rule_in h t).edges n))

  -- the same, as the code asks it of a departure and a stored edge
  module _
      (at : Input) (x : ℕ) (left : Departure) (edge : StoredEdge)
      (is_left : left ≡ record { pair = unpacked z x; input = at; scale = z })
      (is_edge : (edge.table.now ≡ t) × (edge.number ≡ n)) where
    pub allowed_by :
        {b : Bool} → b ≡ pair_allows left.scale.top left.input left.pair (edge_by edge)
        → b ≡ allows (rule_in h t) at.symbol at.interval x (edge_of (rule_in h t).edges n)
    allowed_by {b} q =
        allowed_is at x (unpacked z x) b refl
        (q
        ∙ ap₂ (λ (d : Departure) (e : Edge). pair_allows d.scale.top d.input d.pair e) is_left
        (ap₂ edge_at is_edge.1 is_edge.0))

    pub resets_by :
        {b : Bool} → b ≡ pair_resets_on left.scale.top left.input left.pair (edge_by edge)
        → b
        ≡ leb 1 (edge_of (rule_in h t).edges n).resets
        && allows (rule_in h t) at.symbol at.interval x (edge_of (rule_in h t).edges n)
    resets_by {b} q =
        resets_is at x (unpacked z x) b refl
        (q
        ∙ ap₂ (λ (d : Departure) (e : Edge). pair_resets_on d.scale.top d.input d.pair e) is_left
        (ap₂ edge_at is_edge.1 is_edge.0))

    pub target_by :
        (timer : Bool) {to : ℕ}
        → (Powered left.scale → to ≡ pair_target left.scale left.input.interval timer left.pair (edge_by edge))
        → to ≡ target_of (rule_in h t) at.interval timer x (edge_of (rule_in h t).edges n)
    target_by timer {to} q =
        to_is at.interval timer x (unpacked z x) to refl
        (q (subst⁻¹ (λ (d : Departure). Powered d.scale) is_left scaled.powered)
        ∙ ap₂ (λ (d : Departure) (e : Edge). pair_target d.scale d.input.interval timer d.pair e) is_left
        (ap₂ edge_at is_edge.1 is_edge.0))

-- The edges to come say whether a pair resets as all edges do; edge n is the next that leaves.
pub record Looking (r : Rule) (s i x n : ℕ) : Type 0 where
  pub standing : Standing r.edges (location_of r x) s n
  pub rest : pair_resets r s i x (drop n r.edges) ≡ pair_resets r s i x r.edges

pub looking_start :
    (r : Rule) (s i x n : ℕ) → n ≡ leaving_from r.edges (location_of r x) s 0 → Looking r s i x n
looking_start r s i x n q =
    rw q
    (record {
      standing = standing_from r.edges (location_of r x) s 0 (omega arith);
      rest = sym (resets_from r s i x 0);
    })

module _ {r : Rule} {s i x n : ℕ} (look : Looking r s i x n) where
  pub looking_found :
      (b : Bool) → n < length r.edges
      → b ≡ leb 1 (edge_of r.edges n).resets && allows r s i x (edge_of r.edges n)
      → b ≡ true
      → true ≡ pair_resets r s i x r.edges
  looking_found b l q y =
      ap (λ (a : Bool). a || pair_resets r s i x (drop (suc n) r.edges)) (sym y ∙ q)
      ∙ (ap (pair_resets r s i x) (sym (drop-cons r.edges n no_edge l)) ∙ look.rest)

  pub looking_next :
      (b : Bool) (m : ℕ) {links : List ℕ} → Linked r links → n < length r.edges
      → b ≡ leb 1 (edge_of r.edges n).resets && allows r s i x (edge_of r.edges n)
      → b ≡ false
      → m ≡ get_or links (next_place n) 0
      → Looking r s i x m
  looking_next b m linked l q y k =
      let here_not : pair_resets r s i x (drop n r.edges) ≡ pair_resets r s i x (drop (suc n) r.edges) =
      ap (pair_resets r s i x) (drop-cons r.edges n no_edge l)
      ∙ ap (λ (a : Bool). a || pair_resets r s i x (drop (suc n) r.edges)) (sym q ∙ y) in
      rw (k ∙ next_is linked look.standing l)
      (record {
        standing = standing_from r.edges (location_of r x) s (suc n) l;
        rest =
            sym (resets_from r s i x (suc n))
            ∙ (sym here_not ∙ look.rest);
      })

  pub looking_end : length r.edges ≤ n → false ≡ pair_resets r s i x r.edges
  looking_end l = ap (pair_resets r s i x) (sym (drop_of_length-le r.edges l)) ∙ look.rest

  -- the next edge comes later
  pub looking_later :
      (m : ℕ) {links : List ℕ} → Linked r links → n < length r.edges → m ≡ get_or links (next_place n) 0 → n < m
  looking_later m linked l k =
      rw (k ∙ next_is linked look.standing l) (next_later r.edges (location_of r x) s n)

-- whether some pair of a row resets
pub row_asked :
    (r : Rule) (s i : ℕ) (row : List ℕ) → list_any (λ x. pair_resets r s i x r.edges) row ≡ row_resets r s i row
unfolding row_resets
row_asked r s i [] = refl
row_asked r s i (x ∷ row) = ap (λ (b : Bool). pair_resets r s i x r.edges || b) (row_asked r s i row)

-- resets are pinned to whole seconds
pub odd_never :
    (h : Head) (t : List ℕ) (s i : ℕ) (row : List ℕ) → (rule_refusal h t).number ≡ 0 → (i % 2 ≡ 0 → ⊥)
    → false ≡ row_resets (rule_in h t) s i row
odd_never h t s i row passed odd =
    by_test (row_resets (rule_in h t) s i row)
    (λ b. absurd (odd (even_reset (rule_in h t) s i row (valid_of (rule_in h t) (passes_valid h t passed)) b)))
    (λ b. sym b)
