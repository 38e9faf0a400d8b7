-- A valid rule in parts and back: the tests of its lists and edges one by one, and with one location or edge more.
use mathlib.Core.Path.{◌≡◌, refl, ap₂}
use mathlib.Core.Bool.{Bool, true, ◌&&◌}
use mathlib.Core.List.{List, [], ◌∷◌, ◌++◌}
use Prim.Native.Nat.{ℕ, suc, ◌%◌, ◌≤◌, ◌<◌}
use native.Mathlib.Omega.{arith}
use lib.Dec.{eqb, ltb, leb}
use lib.ListN.{length}
use borrow.Author.Tests.{leb-true, eqb-true, lt-ltb, le-leb}
use Rattle.model.specs.Rules.{Edge, Rule, pair_count, most_pairs, most_edges, edge_ok, integer_reset, sized}
use Rattle.model.specs.Rules.{rising, edges_ok, kinds_rise, valid_rule}
use Rattle.model.specs.Files.{past_last}
use Rattle.model.specs.Layout.{text_count, text_length}
use Rattle.model.proofs.Logic.{by_test, and_left, and_right, and_both, In, here, there}
use Rattle.model.proofs.Valid.{Parts}
use Rattle.model.proofs.Rising.{rising_least, rising_below, rising_rest}

-- the parts make the rule
pub parts_valid : (r : Rule) → Parts r → pair_count r ≤ most_pairs → valid_rule r ≡ true
unfolding valid_rule
parts_valid r q h =
    rw (
      q.sizes,
      q.initial_rises,
      q.final_rises,
      le-leb (length r.edges) most_edges q.edges_most,
      q.edges_ok,
      q.kinds_rise,
      le-leb (pair_count r) most_pairs h,
    )

-- one edge
pub record EdgeOk (r : Rule) (e : Edge) : Type 0 where
  pub in_range : edge_ok r e ≡ true
  pub pinned : integer_reset e ≡ true
  pub is_sized : sized e ≡ true

module _ (r : Rule) (e : Edge) (es : List Edge) where
  pub first_edge : edges_ok r (e ∷ es) ≡ true → EdgeOk r e
  first_edge h =
      let a : Bool = edge_ok r e in
      let b : Bool = integer_reset e in
      let c : Bool = sized e in
      let h3 : (a && b && c) ≡ true = and_left (a && b && c) (edges_ok r es) h in
      let h2 : (a && b) ≡ true = and_left (a && b) c h3 in
      record {
        in_range = and_left a b h2;
        pinned = and_right a b h2;
        is_sized = and_right (a && b) c h3;
      }

  pub other_edges : edges_ok r (e ∷ es) ≡ true → edges_ok r es ≡ true
  other_edges h = and_right (edge_ok r e && integer_reset e && sized e) (edges_ok r es) h

  pub edge_more : EdgeOk r e → edges_ok r es ≡ true → edges_ok r (e ∷ es) ≡ true
  edge_more q h = rw (q.in_range, q.pinned, q.is_sized, h)

-- an edge is judged by the sizes alone
pub same_sizes :
    (q r : Rule) (es : List Edge) → q.locations ≡ r.locations → q.symbols ≡ r.symbols → q.clocks ≡ r.clocks
    → edges_ok q es ≡ edges_ok r es
same_sizes q r [] a b c = refl
same_sizes q r (e ∷ es) a b c =
    let one : edge_ok q e ≡ edge_ok r e = rw (a, b, c) in
    ap₂ (λ (x y : Bool). x && integer_reset e && sized e && y) one (same_sizes q r es a b c)

-- one edge more at the end
pub edge_last :
    (r : Rule) (es : List Edge) (e : Edge) → edges_ok r es ≡ true → EdgeOk r e → edges_ok r (es ++ (e ∷ [])) ≡ true
edge_last r [] e h q = edge_more r e [] q refl
edge_last r (f ∷ es) e h q =
    edge_more r f (es ++ (e ∷ [])) (first_edge r f es h) (edge_last r es e (other_edges r f es h) q)

-- edges of rising kinds, one more at the end
pub kinds_last :
    (least : ℕ) (es : List Edge) (x : Edge) → kinds_rise least es ≡ true
    → ((e : Edge) → In e es → e.kind ≤ x.kind)
    → least ≤ x.kind
    → kinds_rise least (es ++ (x ∷ [])) ≡ true
kinds_last least [] x h below l = rw (le-leb least x.kind l)
kinds_last least (f ∷ es) x h below l =
    and_both (leb least f.kind) (kinds_rise f.kind (es ++ (x ∷ [])))
    (and_left (leb least f.kind) (kinds_rise f.kind es) h)
    (kinds_last f.kind es x (and_right (leb least f.kind) (kinds_rise f.kind es) h) (λ e i. below e (there i))
    (below f (here refl)))

-- what a size says of the text
pub record Sized (e : Edge) : Type 0 where
  pub length_most : length e.text ≤ 80
  pub kind_least : 5 ≤ e.kind
  pub kind_most : e.kind ≤ 6
  pub counted : text_length e.kind (text_count e.kind (length e.text)) ≡ length e.text

pub sized_of : (e : Edge) → sized e ≡ true → Sized e
sized_of e h =
    by_test (eqb e.kind 5)
    (λ f.
    let g : (leb (length e.text) 24 && eqb (length e.text % 3) 0) ≡ true = rw f at h in
    let a = leb-true (length e.text) 24 (and_left (leb (length e.text) 24) (eqb (length e.text % 3) 0) g) in
    let b =
    eqb-true (length e.text % 3) 0 (and_right (leb (length e.text) 24) (eqb (length e.text % 3) 0) g) in
    let k = eqb-true e.kind 5 f in
    record {
      length_most = omega arith;
      kind_least = omega arith;
      kind_most = omega arith;
      counted = rw f (omega arith);
    })
    (λ f.
    let g : (eqb e.kind 6 && leb (length e.text) 80) ≡ true = rw f at h in
    let k = eqb-true e.kind 6 (and_left (eqb e.kind 6) (leb (length e.text) 80) g) in
    record {
      length_most = leb-true (length e.text) 80 (and_right (eqb e.kind 6) (leb (length e.text) 80) g);
      kind_least = omega arith;
      kind_most = omega arith;
      counted = rw f;
    })

-- one location more at the end
pub past_last_lem : (xs : List ℕ) (x : ℕ) → past_last (xs ++ (x ∷ [])) ≡ suc x
past_last_lem [] x = refl
past_last_lem (y ∷ []) x = refl
past_last_lem (y ∷ z ∷ ys) x = past_last_lem (z ∷ ys) x

after_last :
    (least l y : ℕ) (ys : List ℕ) (x : ℕ) → rising least l (y ∷ ys) ≡ true → past_last (y ∷ ys) ≤ x → x < l
    → rising least l ((y ∷ ys) ++ (x ∷ [])) ≡ true
after_last least l y [] x h b c =
    let p = le-leb least y (rising_least least l y [] h) in
    let q = lt-ltb y l (rising_below least l y [] h) in
    rw (p, q, le-leb (suc y) x b, lt-ltb x l c)
after_last least l y (z ∷ ys) x h b c =
    and_both (leb least y && ltb y l) (rising (suc y) l ((z ∷ ys) ++ (x ∷ [])))
    (and_left (leb least y && ltb y l) (rising (suc y) l (z ∷ ys)) h)
    (after_last (suc y) l z ys x (rising_rest least l y (z ∷ ys) h) b c)

pub rising_last :
    (l : ℕ) (xs : List ℕ) (x : ℕ) → rising 0 l xs ≡ true → past_last xs ≤ x → x < l
    → rising 0 l (xs ++ (x ∷ [])) ≡ true
rising_last l [] x h b c = rw (le-leb 0 x (omega arith), lt-ltb x l c)
rising_last l (y ∷ ys) x h b c = after_last 0 l y ys x h b c
