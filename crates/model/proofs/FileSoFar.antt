-- The rule so far, while a file is read: valid in all its parts, and with nothing yet of the kinds past the last
-- record's. A record that is allowed keeps it so.
use mathlib.Core.Path.{◌≡◌, refl, ◌∙◌}
use mathlib.Core.Bool.{true}
use mathlib.Core.List.{List, [], ◌∷◌, ◌++◌}
use Prim.Native.Nat.{ℕ, ◌-◌, ◌/◌, ◌%◌, ◌≤◌}
use native.Mathlib.Omega.{arith}
use lib.Dec.{eqb}
use lib.ListN.{drop, length-append}
use borrow.Author.Tests.{eqb-true, eqb-false, eq-eqb, ne_eqb, le-leb}
use Rattle.model.specs.Basics.{within}
use Rattle.model.specs.Rules.{Edge, Rule, sized, edges_ok}
use Rattle.model.specs.Files.{number_at, plain_body, grouped_body, body_ok, edge_from, with_sizes, with_initial}
use Rattle.model.specs.Files.{with_final}
use Rattle.model.specs.Files.{with_edge, with_record}
use Rattle.model.proofs.Valid.{sizes_of, Parts}
use Rattle.model.proofs.ValidParts.{same_sizes, edge_last, kinds_last, rising_last}
use Rattle.model.proofs.Logic.{by_test, and_left, and_right, within_least, within_most, In, here, there}
use Rattle.model.proofs.Logic.{not_in_nil}
use Rattle.model.proofs.Bytes.{numbers_of_length}
use Rattle.model.proofs.FileRecords.{SizesAllowed, LocationAllowed, CeilingAllowed, EdgeAllowed, Allowed}
use Rattle.model.proofs.FileRecords.{sizes, initial, final, ceiling, edge}

pub record SoFar (last : ℕ) (r : Rule) : Type 0 where
  pub parts : Parts r
  pub no_final : last ≤ 2 → r.final ≡ []
  pub no_edges : last ≤ 4 → r.edges ≡ []
  pub kinds_most : (e : Edge) → In e r.edges → e.kind ≤ last

-- after the sizes
pub sizes_so_far : (r : Rule) (n : ℕ) (body : List ℕ) → SizesAllowed r n body → SoFar 1 (with_sizes body)
sizes_so_far r n body a = record {
  parts = record {
    sizes = a.in_range;
    initial_rises = refl;
    final_rises = refl;
    edges_most = omega arith;
    edges_ok = refl;
    kinds_rise = refl;
  };
  no_final = λ b. refl;
  no_edges = λ b. refl;
  kinds_most = λ e i. not_in_nil i;
}

-- a record of an edge adds the edge
pub with_edge_lem :
    (r : Rule) (kind n : ℕ) (body : List ℕ) → 5 ≤ kind
    → with_record r kind n body ≡ with_edge r (edge_from kind n body)
unfolding with_record
with_edge_lem r kind n body h =
    rw
    (ne_eqb kind 1 (omega arith), ne_eqb kind 2 (omega arith), ne_eqb kind 3 (omega arith), ne_eqb kind 4 (omega arith))

-- a body of a length that its kind has makes a text of a size that its kind has
pub sized_from : (kind n : ℕ) (body : List ℕ) → 5 ≤ kind → kind ≤ 6 → body_ok kind n ≡ true
    → sized (edge_from kind n body) ≡ true
sized_from kind n body a b h =
    let long = numbers_of_length ((n - 8) / 2) (drop 8 body) in
    by_test (eqb kind 5)
    (λ f.
    let five = eqb-true kind 5 f in
    let ok : plain_body n ≡ true = rw five at h in
    let most = within_most 8 56 n (and_left (within 8 56 n) (eqb ((n - 8) % 6) 0) ok) in
    let least = within_least 8 56 n (and_left (within 8 56 n) (eqb ((n - 8) % 6) 0) ok) in
    let whole = eqb-true ((n - 8) % 6) 0 (and_right (within 8 56 n) (eqb ((n - 8) % 6) 0) ok) in
    rw (f, long, le-leb ((n - 8) / 2) 24 (omega arith), eq-eqb ((n - 8) / 2 % 3) 0 (omega arith)))
    (λ f.
    let six : kind ≡ 6 = omega (arith, eqb-false kind 5 f) in
    let ok : grouped_body n ≡ true = rw six at h in
    let most = within_most 8 168 n (and_left (within 8 168 n) (eqb (n % 2) 0) ok) in
    rw (f, eq-eqb kind 6 six, long, le-leb ((n - 8) / 2) 80 (omega arith)))

kinds_with : (es : List Edge) (x f : Edge) → (In f es → f.kind ≤ x.kind) → In f (es ++ (x ∷ [])) → f.kind ≤ x.kind
kinds_with [] x f h (here e) = rw e (omega arith)
kinds_with [] x f h (there i) = not_in_nil i
kinds_with (y ∷ es) x f h (here e) = h (here e)
kinds_with (y ∷ es) x f h (there i) = kinds_with es x f (λ j. h (there j)) i

-- after one more of each kind
module _ (last : ℕ) (r : Rule) (was : SoFar last r) where
  -- the edges are judged by the sizes, which stay
  edges_still : (q : Rule) → q.locations ≡ r.locations → q.symbols ≡ r.symbols → q.clocks ≡ r.clocks
      → edges_ok q r.edges ≡ true
  edges_still q a b c = same_sizes q r r.edges a b c ∙ was.parts.edges_ok

  -- no edges, no kinds
  no_kinds : {most : ℕ} → r.edges ≡ [] → (e : Edge) → In e r.edges → e.kind ≤ most
  no_kinds none e i = not_in_nil (rw none at i)

  initial_so_far :
      (n : ℕ) (body : List ℕ) → LocationAllowed last 2 r r.initial n body
      → SoFar 2 (with_initial r (number_at 0 body))
  initial_so_far n body a =
      let x : ℕ = number_at 0 body in
      record {
        parts = record {
          sizes = was.parts.sizes;
          initial_rises =
              rising_last r.locations r.initial x was.parts.initial_rises a.rises a.in_range;
          final_rises = was.parts.final_rises;
          edges_most = was.parts.edges_most;
          edges_ok = edges_still (with_initial r x) refl refl refl;
          kinds_rise = was.parts.kinds_rise;
        };
        no_final = λ b. was.no_final a.no_fall;
        no_edges = λ b. was.no_edges (omega (arith, a.no_fall));
        kinds_most = no_kinds (was.no_edges (omega (arith, a.no_fall)));
      }

  final_so_far :
      (n : ℕ) (body : List ℕ) → LocationAllowed last 3 r r.final n body → SoFar 3 (with_final r (number_at 0 body))
  final_so_far n body a =
      let x : ℕ = number_at 0 body in
      record {
        parts = record {
          sizes = was.parts.sizes;
          initial_rises = was.parts.initial_rises;
          final_rises = rising_last r.locations r.final x was.parts.final_rises a.rises a.in_range;
          edges_most = was.parts.edges_most;
          edges_ok = edges_still (with_final r x) refl refl refl;
          kinds_rise = was.parts.kinds_rise;
        };
        no_final = λ b. absurd (omega arith);
        no_edges = λ b. was.no_edges (omega (arith, a.no_fall));
        kinds_most = no_kinds (was.no_edges (omega (arith, a.no_fall)));
      }

  -- a ceiling is dropped
  ceiling_so_far : (n : ℕ) (body : List ℕ) → CeilingAllowed last r n body → SoFar 4 r
  ceiling_so_far n body a = record {
    parts = was.parts;
    no_final = λ b. absurd (omega arith);
    no_edges = λ b. was.no_edges a.no_fall;
    kinds_most = no_kinds (was.no_edges a.no_fall);
  }

  edge_so_far :
      (kind n : ℕ) (body : List ℕ) → 5 ≤ kind → kind ≤ 6 → EdgeAllowed last kind r n body
      → SoFar kind (with_edge r (edge_from kind n body))
  edge_so_far kind n body low high a =
      let e : Edge = edge_from kind n body in
      record {
        parts = record {
          sizes = was.parts.sizes;
          initial_rises = was.parts.initial_rises;
          final_rises = was.parts.final_rises;
          edges_most = omega (arith, length-append r.edges (e ∷ []), a.room);
          edges_ok = edge_last (with_edge r e) r.edges e (edges_still (with_edge r e) refl refl refl) (record {
            in_range = a.in_range;
            pinned = a.pinned;
            is_sized = sized_from kind n body low high a.length_ok;
          });
          kinds_rise =
              kinds_last 5 r.edges e was.parts.kinds_rise
              (λ f i. omega (arith, was.kinds_most f i, a.no_fall))
              low;
        };
        no_final = λ b. absurd (omega arith);
        no_edges = λ b. absurd (omega arith);
        kinds_most = λ f i. kinds_with r.edges e f (λ j. omega (arith, was.kinds_most f j, a.no_fall)) i;
      }

  pub sizes_once : (n : ℕ) (body : List ℕ) → SizesAllowed r n body → ⊥
  sizes_once n body a =
      omega (arith, (sizes_of r.locations r.symbols r.clocks was.parts.sizes).locations_least, a.none_yet)

  -- after any record that is allowed
  pub record_so_far :
      (kind n : ℕ) (body : List ℕ) → Allowed last r kind n body → SoFar kind (with_record r kind n body)
  unfolding with_record
  record_so_far kind n body (sizes e a) = absurd (sizes_once n body a)
  record_so_far kind n body (initial e a) = rw e (initial_so_far n body a)
  record_so_far kind n body (final e a) = rw e (final_so_far n body a)
  record_so_far kind n body (ceiling e a) = rw e (ceiling_so_far n body a)
  record_so_far kind n body (edge low high a) = rw (with_edge_lem r kind n body low)
      (edge_so_far kind n body low high a)
