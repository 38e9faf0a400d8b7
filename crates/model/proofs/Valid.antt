-- A valid rule, as plain facts: every number in its range, resets pinned, cm at most 30.
use mathlib.Core.Path.{◌≡◌, refl}
use mathlib.Core.Bool.{Bool, true, ◌&&◌}
use mathlib.Core.List.{List, [], ◌∷◌}
use mathlib.Core.Logic.{inl, inr}
use Prim.Native.Nat.{ℕ, ◌^◌, ◌≤◌, ◌<◌}
use native.Mathlib.Omega.{arith}
use lib.Dec.{eqb, ltb, leb}
use lib.ListN.{length}
use borrow.Author.Tests.{ltb-true, leb-true, eqb-true}
use Rattle.model.specs.Basics.{within}
use Rattle.model.specs.Rules.{Atom, Edge, Rule, largest_constant, largest_of, cm, pair_count, most_pairs, most_edges}
use Rattle.model.specs.Rules.{sizes_ok, atom_ok, atoms_ok, edge_ok, is_pinned, integer_reset, rising}
use Rattle.model.specs.Texts.{outer}
use Rattle.model.specs.Rules.{atoms_of, guard_of, text_ok, sized, kinds_rise, edges_ok, valid_rule}
use Rattle.model.proofs.Logic.{and_left, and_right, or_cases, within_least, within_most, larger_left}
use Rattle.model.proofs.Logic.{larger_right, larger_most, In, here, there}

-- the sizes, in their ranges
pub record Sizes (l s k : ℕ) : Type 0 where
  pub locations_least : 1 ≤ l
  pub locations_most : l ≤ 32
  pub symbols_least : 1 ≤ s
  pub symbols_most : s ≤ 16
  pub clocks_least : 1 ≤ k
  pub clocks_most : k ≤ 4

pub sizes_of : (l s k : ℕ) → sizes_ok l s k ≡ true → Sizes l s k
sizes_of l s k h =
    let a : (within 1 32 l && within 1 16 s) ≡ true = and_left (within 1 32 l && within 1 16 s) (within 1 4 k) h in
    let b : within 1 4 k ≡ true = and_right (within 1 32 l && within 1 16 s) (within 1 4 k) h in
    let c : within 1 32 l ≡ true = and_left (within 1 32 l) (within 1 16 s) a in
    let d : within 1 16 s ≡ true = and_right (within 1 32 l) (within 1 16 s) a in
    record {
      locations_least = within_least 1 32 l c;
      locations_most = within_most 1 32 l c;
      symbols_least = within_least 1 16 s d;
      symbols_most = within_most 1 16 s d;
      clocks_least = within_least 1 4 k b;
      clocks_most = within_most 1 4 k b;
    }

-- an atom and an edge, in their ranges
pub record AtomIn (k : ℕ) (a : Atom) : Type 0 where
  pub clock_below : a.clock < k
  pub relation_most : a.relation ≤ 5
  pub constant_most : a.constant ≤ 30

pub atom_of : (k : ℕ) (a : Atom) → atom_ok k a ≡ true → AtomIn k a
atom_of k a h =
    let b : (ltb a.clock k && leb a.relation 5) ≡ true =
    and_left (ltb a.clock k && leb a.relation 5) (leb a.constant 30) h in
    record {
      clock_below = ltb-true a.clock k (and_left (ltb a.clock k) (leb a.relation 5) b);
      relation_most = leb-true a.relation 5 (and_right (ltb a.clock k) (leb a.relation 5) b);
      constant_most = leb-true a.constant 30 (and_right (ltb a.clock k && leb a.relation 5)
          (leb a.constant 30) h);
    }

pub atoms_of_lem : (k : ℕ) (xs : List Atom) → atoms_ok k xs ≡ true → (a : Atom) → In a xs → AtomIn k a
atoms_of_lem k [] h a x'' = elim x'' [ ]
atoms_of_lem k (x ∷ xs) h a (here e) = rw e (atom_of k x (and_left (atom_ok k x) (atoms_ok k xs) h))
atoms_of_lem k (x ∷ xs) h a (there i) = atoms_of_lem k xs (and_right (atom_ok k x) (atoms_ok k xs) h) a i

pub record EdgeIn (r : Rule) (e : Edge) : Type 0 where
  pub source_below : e.source < r.locations
  pub target_below : e.target < r.locations
  pub symbol_below : e.symbol < r.symbols
  pub resets_below : e.resets < 2 ^ r.clocks
  pub keeps_rules : text_ok e ≡ true
  pub atoms_in : (a : Atom) → In a (atoms_of e) → AtomIn r.clocks a
  pub pinned : integer_reset e ≡ true
  pub is_sized : sized e ≡ true

edge_of_lem :
    (r : Rule) (e : Edge) → edge_ok r e ≡ true → integer_reset e ≡ true → sized e ≡ true
    → EdgeIn r e
edge_of_lem r e h p m =
    let s : Bool = ltb e.source r.locations in
    let t : Bool = ltb e.target r.locations in
    let y : Bool = ltb e.symbol r.symbols in
    let z : Bool = ltb e.resets (2 ^ r.clocks) in
    let k : Bool = text_ok e in
    let q : Bool = atoms_ok r.clocks (atoms_of e) in
    let h5 : (s && t && y && z && k) ≡ true = and_left (s && t && y && z && k) q h in
    let h4 : (s && t && y && z) ≡ true = and_left (s && t && y && z) k h5 in
    let h3 : (s && t && y) ≡ true = and_left (s && t && y) z h4 in
    let h2 : (s && t) ≡ true = and_left (s && t) y h3 in
    record {
      source_below = ltb-true e.source r.locations (and_left s t h2);
      target_below = ltb-true e.target r.locations (and_right s t h2);
      symbol_below = ltb-true e.symbol r.symbols (and_right (s && t) y h3);
      resets_below = ltb-true e.resets (2 ^ r.clocks) (and_right (s && t && y) z h4);
      keeps_rules = and_right (s && t && y && z) k h5;
      atoms_in = atoms_of_lem r.clocks (atoms_of e) (and_right (s && t && y && z && k) q h);
      pinned = p;
      is_sized = m;
    }

pub edges_of : (r : Rule) (es : List Edge) → edges_ok r es ≡ true → (e : Edge) → In e es → EdgeIn r e
edges_of r [] h e i = elim i [ ]
edges_of r (f ∷ es) h e i =
    let a : Bool = edge_ok r f in
    let b : Bool = integer_reset f in
    let c : Bool = sized f in
    let d : Bool = edges_ok r es in
    let h3 : (a && b && c) ≡ true = and_left (a && b && c) d h in
    let h2 : (a && b) ≡ true = and_left (a && b) c h3 in
    elim i [
      | here p ↦ rw p (edge_of_lem r f (and_left a b h2) (and_right a b h2) (and_right (a && b) c h3))
      | there j ↦ edges_of r es (and_right (a && b && c) d h) e j
    ]

-- all but the bound on N
pub record Parts (r : Rule) : Type 0 where
  pub sizes : sizes_ok r.locations r.symbols r.clocks ≡ true
  pub initial_rises : rising 0 r.locations r.initial ≡ true
  pub final_rises : rising 0 r.locations r.final ≡ true
  pub edges_most : length r.edges ≤ most_edges
  pub edges_ok : edges_ok r r.edges ≡ true
  pub kinds_rise : kinds_rise 5 r.edges ≡ true

pub valid_parts : (r : Rule) → valid_rule r ≡ true → Parts r
unfolding valid_rule
valid_parts r h =
    let a : Bool = sizes_ok r.locations r.symbols r.clocks in
    let b : Bool = rising 0 r.locations r.initial in
    let c : Bool = rising 0 r.locations r.final in
    let e : Bool = leb (length r.edges) most_edges in
    let f : Bool = edges_ok r r.edges in
    let g : Bool = leb (pair_count r) most_pairs in
    let k : Bool = kinds_rise 5 r.edges in
    let h6 : (a && b && c && e && f && k) ≡ true = and_left (a && b && c && e && f && k) g h in
    let h5 : (a && b && c && e && f) ≡ true = and_left (a && b && c && e && f) k h6 in
    let h4 : (a && b && c && e) ≡ true = and_left (a && b && c && e) f h5 in
    let h3 : (a && b && c) ≡ true = and_left (a && b && c) e h4 in
    let h2 : (a && b) ≡ true = and_left (a && b) c h3 in
    record {
      sizes = and_left a b h2;
      initial_rises = and_right a b h2;
      final_rises = and_right (a && b) c h3;
      edges_most = leb-true (length r.edges) most_edges (and_right (a && b && c) e h4);
      edges_ok = and_right (a && b && c && e) f h5;
      kinds_rise = and_right (a && b && c && e && f) k h6;
    }

pub valid_pairs : (r : Rule) → valid_rule r ≡ true → pair_count r ≤ most_pairs
unfolding valid_rule
valid_pairs r h =
    leb-true (pair_count r) most_pairs
    (and_right
    (sizes_ok r.locations r.symbols r.clocks && rising 0 r.locations r.initial
    && rising 0 r.locations r.final
    && leb (length r.edges) most_edges
    && edges_ok r r.edges
    && kinds_rise 5 r.edges)
    (leb (pair_count r) most_pairs)
    h)

-- the whole rule
pub record Valid (r : Rule) : Type 0 where
  pub sizes : Sizes r.locations r.symbols r.clocks
  pub initial_rises : rising 0 r.locations r.initial ≡ true
  pub final_rises : rising 0 r.locations r.final ≡ true
  pub edges_most : length r.edges ≤ most_edges
  pub edges_in : (e : Edge) → In e r.edges → EdgeIn r e
  pub pairs_most : pair_count r ≤ most_pairs

pub valid_of : (r : Rule) → valid_rule r ≡ true → Valid r
valid_of r h =
    let p : Parts r = valid_parts r h in
    record {
      sizes = sizes_of r.locations r.symbols r.clocks p.sizes;
      initial_rises = p.initial_rises;
      final_rises = p.final_rises;
      edges_most = p.edges_most;
      edges_in = edges_of r r.edges p.edges_ok;
      pairs_most = valid_pairs r h;
    }

-- a constant is at most the largest, and the largest at most a bound of all
pub constant_largest : (a : Atom) (xs : List Atom) → In a xs → a.constant ≤ largest_constant xs
constant_largest a [] x' = elim x' [ ]
constant_largest a (x ∷ xs) (here h) = rw h (larger_left x.constant (largest_constant xs))
constant_largest a (x ∷ xs) (there i) =
    omega (arith, constant_largest a xs i, larger_right x.constant (largest_constant xs))

pub edge_largest : (e : Edge) (es : List Edge) → In e es → largest_constant (atoms_of e) ≤ largest_of es
edge_largest e [] x' = elim x' [ ]
edge_largest e (f ∷ es) (here h) = rw h (larger_left (largest_constant (atoms_of f)) (largest_of es))
edge_largest e (f ∷ es) (there h) =
    omega (arith, edge_largest e es h, larger_right (largest_constant (atoms_of f)) (largest_of es))

pub constant_below : (r : Rule) (e : Edge) (a : Atom) → In e r.edges → In a (atoms_of e) → a.constant ≤ cm r
unfolding cm
constant_below r e a i j =
    omega (arith, constant_largest a (atoms_of e) j, edge_largest e r.edges i)

pub atoms_largest : (xs : List Atom) (m : ℕ) → ((a : Atom) → In a xs → a.constant ≤ m) → largest_constant xs ≤ m
atoms_largest [] m h = omega arith
atoms_largest (x ∷ xs) m h =
    larger_most x.constant (largest_constant xs) m (h x (here refl)) (atoms_largest xs m (λ a i. h a (there i)))

pub edges_largest :
    (es : List Edge) (m : ℕ) → ((e : Edge) → In e es → largest_constant (atoms_of e) ≤ m) → largest_of es ≤ m
edges_largest [] m h = omega arith
edges_largest (x ∷ xs) m h =
    larger_most (largest_constant (atoms_of x)) (largest_of xs) m (h x (here refl))
    (edges_largest xs m (λ e i. h e (there i)))

pub cm_most : (r : Rule) → Valid r → cm r ≤ 30
unfolding cm
cm_most r v =
    edges_largest r.edges 30
    (λ e i. atoms_largest (atoms_of e) 30 (λ a j. ((v.edges_in e i).atoms_in a j).constant_most))

-- an edge that resets a clock is pinned
pub is_pinned_lem : (e : Edge) → integer_reset e ≡ true → 1 ≤ e.resets → is_pinned (outer (guard_of e)) ≡ true
is_pinned_lem e h p =
    elim (or_cases (eqb e.resets 0) (is_pinned (outer (guard_of e))) h) [
      | inl z ↦ absurd (omega (arith, eqb-true e.resets 0 z))
      | inr q ↦ q
    ]
