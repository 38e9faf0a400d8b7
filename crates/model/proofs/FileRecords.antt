-- What each kind of record asks for, as plain facts: the tests of 2 to 7 pass exactly if they hold.
use mathlib.Core.Path.{◌≡◌, refl}
use mathlib.Core.Bool.{Bool, true, false, ◌&&◌, ◌||◌, not}
use mathlib.Core.List.{List}
use Prim.Native.Nat.{ℕ, ◌-◌, ◌%◌, ◌≤◌, ◌<◌}
use native.Mathlib.Omega.{arith}
use lib.Dec.{eqb, ltb, leb}
use lib.ListN.{length}
use borrow.Author.Tests.{ltb-false, leb-true, leb-false, eqb-true, le-ltb, le-leb, lt-leb, eqb-false, eq-eqb, ne_eqb}
use borrow.Author.Tests.{not-false}
use Rattle.model.specs.Basics.{within}
use Rattle.model.specs.Rules.{Edge, Rule, most_edges, sizes_ok, edge_ok, integer_reset}
use Rattle.model.specs.Files.{number_at, body_ok, edge_from, past_last, seen_sizes, out_of_order, one_too_many}
use Rattle.model.specs.Files.{grouped_body, is_edge, bad_sizes, out_of_range, not_pinned}
use Rattle.model.proofs.Logic.{by_test, and_left, and_right, neither_left, neither_right}
use Rattle.model.proofs.Logic.{within_least, within_most}

-- kind 1: the sizes, first
pub record SizesAllowed (r : Rule) (n : ℕ) (body : List ℕ) : Type 0 where
  pub length_is : n ≡ 6
  pub none_yet : r.locations ≡ 0
  pub in_range : sizes_ok (number_at 0 body) (number_at 1 body) (number_at 2 body) ≡ true

-- kinds 2 and 3: a location above those so far
pub record LocationAllowed (last kind : ℕ) (r : Rule) (so_far : List ℕ) (n : ℕ) (body : List ℕ) : Type 0 where
  pub length_is : n ≡ 2
  pub sizes_seen : 1 ≤ r.locations
  pub no_fall : last ≤ kind
  pub rises : past_last so_far ≤ number_at 0 body
  pub in_range : number_at 0 body < r.locations

-- kind 4: the ceiling, once
pub record CeilingAllowed (last : ℕ) (r : Rule) (n : ℕ) (body : List ℕ) : Type 0 where
  pub length_is : n ≡ 2
  pub sizes_seen : 1 ≤ r.locations
  pub no_fall : last ≤ 4
  pub none_yet : last ≡ 4 → ⊥
  pub in_range : number_at 0 body ≤ 30

-- kinds 5 and 6: an edge
pub record EdgeAllowed (last kind : ℕ) (r : Rule) (n : ℕ) (body : List ℕ) : Type 0 where
  pub length_least : 8 ≤ n
  pub length_most : n ≤ 168
  pub length_even : n % 2 ≡ 0
  pub length_ok : body_ok kind n ≡ true
  pub sizes_seen : 1 ≤ r.locations
  pub no_fall : last ≤ kind
  pub room : length r.edges < most_edges
  pub in_range : edge_ok r (edge_from kind n body) ≡ true
  pub pinned : integer_reset (edge_from kind n body) ≡ true

pub data Allowed (last : ℕ) (r : Rule) (kind n : ℕ) (body : List ℕ) : Type 0 where
  sizes : kind ≡ 1 → SizesAllowed r n body → Allowed last r kind n body
  initial : kind ≡ 2 → LocationAllowed last 2 r r.initial n body → Allowed last r kind n body
  final : kind ≡ 3 → LocationAllowed last 3 r r.final n body → Allowed last r kind n body
  ceiling : kind ≡ 4 → CeilingAllowed last r n body → Allowed last r kind n body
  edge : 5 ≤ kind → kind ≤ 6 → EdgeAllowed last kind r n body → Allowed last r kind n body

-- the tests of 2 to 7, passed
pub record Passed (last : ℕ) (r : Rule) (kind n : ℕ) (body : List ℕ) : Type 0 where
  pub of_length : body_ok kind n ≡ true
  pub in_order : out_of_order last r kind body ≡ false
  pub not_too_many : one_too_many r kind ≡ false
  pub good_sizes : bad_sizes kind body ≡ false
  pub in_range : out_of_range r kind n body ≡ false
  pub pinned : not_pinned kind n body ≡ false

-- kinds other than 1 to 6 have no body length
pub data Kind (kind : ℕ) : Type 0 where
  first : kind ≡ 1 → Kind kind
  second : kind ≡ 2 → Kind kind
  third : kind ≡ 3 → Kind kind
  fourth : kind ≡ 4 → Kind kind
  fifth : kind ≡ 5 → Kind kind
  sixth : kind ≡ 6 → Kind kind

kind_is : (kind n : ℕ) → body_ok kind n ≡ true → Kind kind
kind_is kind n h =
    by_test (eqb kind 1) (λ a. first (eqb-true kind 1 a))
    (λ a. by_test (within 2 4 kind)
    (λ b. middle (within_least 2 4 kind b) (within_most 2 4 kind b))
    (λ b. by_test (eqb kind 5) (λ c. fifth (eqb-true kind 5 c))
    (λ c. sixth (eqb-true kind 6 (and_left (eqb kind 6) (grouped_body n) (rw (a, b, c) at h))))))
  where
    middle : 2 ≤ kind → kind ≤ 4 → Kind kind
    middle p q =
        by_test (eqb kind 2) (λ c. second (eqb-true kind 2 c))
        (λ c. by_test (eqb kind 3) (λ d. third (eqb-true kind 3 d))
        (λ d. fourth (omega (arith, eqb-false kind 2 c, eqb-false kind 3 d))))

sizes_by : (last : ℕ) (r : Rule) (n : ℕ) (body : List ℕ) → Passed last r 1 n body → SizesAllowed r n body
sizes_by last r n body h = record {
  length_is = eqb-true n 6 h.of_length;
  none_yet = omega (arith, leb-false 1 r.locations h.in_order);
  in_range = not-false (sizes_ok (number_at 0 body) (number_at 1 body) (number_at 2 body)) h.good_sizes;
}

-- the tests of order for a kind past 1
record Ordered (last kind : ℕ) (r : Rule) (body : List ℕ) : Type 0 where
  sizes_seen : 1 ≤ r.locations
  no_fall : last ≤ kind
  one_ceiling : (eqb kind 4 && eqb last 4) ≡ false
  initial_rises : (eqb kind 2 && ltb (number_at 0 body) (past_last r.initial)) ≡ false
  final_rises : (eqb kind 3 && ltb (number_at 0 body) (past_last r.final)) ≡ false

ordered :
    (last kind : ℕ) (r : Rule) (body : List ℕ) → 2 ≤ kind → out_of_order last r kind body ≡ false
    → Ordered last kind r body
ordered last kind r body p h =
    let one : eqb kind 1 ≡ false = ne_eqb kind 1 (omega arith) in
    let a : Bool = not (seen_sizes r) in
    let b : Bool = ltb kind last in
    let c : Bool = eqb kind 4 && eqb last 4 in
    let d : Bool = eqb kind 2 && ltb (number_at 0 body) (past_last r.initial) in
    let e : Bool = eqb kind 3 && ltb (number_at 0 body) (past_last r.final) in
    let all : (a || b || c || d || e) ≡ false = rw one at h in
    let four : (a || b || c || d) ≡ false = neither_left (a || b || c || d) e all in
    let three : (a || b || c) ≡ false = neither_left (a || b || c) d four in
    let both : (a || b) ≡ false = neither_left (a || b) c three in
    record {
      sizes_seen = leb-true 1 r.locations (not-false (seen_sizes r) (neither_left a b both));
      no_fall = ltb-false kind last (neither_right a b both);
      one_ceiling = neither_right (a || b) c three;
      initial_rises = neither_right (a || b || c) d four;
      final_rises = neither_right (a || b || c || d) e all;
    }

-- the tests of range for a kind past 1
record Ranged (kind : ℕ) (r : Rule) (n : ℕ) (body : List ℕ) : Type 0 where
  location_below : (within 2 3 kind && leb r.locations (number_at 0 body)) ≡ false
  ceiling_most : (eqb kind 4 && ltb 30 (number_at 0 body)) ≡ false
  edge_in_range : (is_edge kind && not (edge_ok r (edge_from kind n body))) ≡ false

ranged : (kind : ℕ) (r : Rule) (n : ℕ) (body : List ℕ) → out_of_range r kind n body ≡ false → Ranged kind r n body
ranged kind r n body h =
    let a : Bool = within 2 3 kind && leb r.locations (number_at 0 body) in
    let b : Bool = eqb kind 4 && ltb 30 (number_at 0 body) in
    let c : Bool = is_edge kind && not (edge_ok r (edge_from kind n body)) in
    let both : (a || b) ≡ false = neither_left (a || b) c h in
    record {
      location_below = neither_left a b both;
      ceiling_most = neither_right a b both;
      edge_in_range = neither_right (a || b) c h;
    }

initial_by :
    (last : ℕ) (r : Rule) (n : ℕ) (body : List ℕ) → Passed last r 2 n body
    → LocationAllowed last 2 r r.initial n body
initial_by last r n body h =
    let o = ordered last 2 r body (omega arith) h.in_order in
    let q = ranged 2 r n body h.in_range in
    record {
      length_is = eqb-true n 2 h.of_length;
      sizes_seen = o.sizes_seen;
      no_fall = o.no_fall;
      rises = ltb-false (number_at 0 body) (past_last r.initial) o.initial_rises;
      in_range = leb-false r.locations (number_at 0 body) q.location_below;
    }

final_by_lem :
    (last : ℕ) (r : Rule) (n : ℕ) (body : List ℕ) → Passed last r 3 n body → LocationAllowed last 3 r r.final n body
final_by_lem last r n body h =
    let o = ordered last 3 r body (omega arith) h.in_order in
    let q = ranged 3 r n body h.in_range in
    record {
      length_is = eqb-true n 2 h.of_length;
      sizes_seen = o.sizes_seen;
      no_fall = o.no_fall;
      rises = ltb-false (number_at 0 body) (past_last r.final) o.final_rises;
      in_range = leb-false r.locations (number_at 0 body) q.location_below;
    }

ceiling_by : (last : ℕ) (r : Rule) (n : ℕ) (body : List ℕ) → Passed last r 4 n body → CeilingAllowed last r n body
ceiling_by last r n body h =
    let o = ordered last 4 r body (omega arith) h.in_order in
    let q = ranged 4 r n body h.in_range in
    record {
      length_is = eqb-true n 2 h.of_length;
      sizes_seen = o.sizes_seen;
      no_fall = o.no_fall;
      none_yet = eqb-false last 4 o.one_ceiling;
      in_range = ltb-false 30 (number_at 0 body) q.ceiling_most;
    }

-- what the tests make of the two kinds of edges
record EdgeKind (kind : ℕ) : Type 0 where
  least : 2 ≤ kind
  is_edge_lem : is_edge kind ≡ true
  not_one : eqb kind 1 ≡ false
  not_two : eqb kind 2 ≡ false
  not_three : eqb kind 3 ≡ false
  not_four : eqb kind 4 ≡ false
  no_location : within 2 3 kind ≡ false
  lengths : (n : ℕ) → body_ok kind n ≡ true → (8 ≤ n) × (n ≤ 168) × (n % 2 ≡ 0)

edge_five : EdgeKind 5
edge_five = record {
  least = omega arith;
  is_edge_lem = refl;
  not_one = refl;
  not_two = refl;
  not_three = refl;
  not_four = refl;
  no_location = refl;
  lengths = λ n h.
      let long : within 8 56 n ≡ true = and_left (within 8 56 n) (eqb ((n - 8) % 6) 0) h in
      let low = within_least 8 56 n long in
      let high = within_most 8 56 n long in
      let whole = eqb-true ((n - 8) % 6) 0 (and_right (within 8 56 n) (eqb ((n - 8) % 6) 0) h) in
      (low, omega arith, omega arith);
}

edge_six : EdgeKind 6
edge_six = record {
  least = omega arith;
  is_edge_lem = refl;
  not_one = refl;
  not_two = refl;
  not_three = refl;
  not_four = refl;
  no_location = refl;
  lengths = λ n h.
      let long : within 8 168 n ≡ true = and_left (within 8 168 n) (eqb (n % 2) 0) h in (
        within_least 8 168 n long,
        within_most 8 168 n long,
        eqb-true (n % 2) 0 (and_right (within 8 168 n) (eqb (n % 2) 0) h),
      );
}

kind_of : (kind : ℕ) → 5 ≤ kind → kind ≤ 6 → EdgeKind kind
kind_of kind a b =
    by_test (eqb kind 5) (λ e. rw (eqb-true kind 5 e) edge_five)
    (λ e. let six : kind ≡ 6 = omega (arith, eqb-false kind 5 e) in rw six edge_six)

edge_by :
    (last kind : ℕ) (r : Rule) (n : ℕ) (body : List ℕ) → EdgeKind kind → Passed last r kind n body
    → EdgeAllowed last kind r n body
edge_by last kind r n body k h =
    let o = ordered last kind r body k.least h.in_order in
    let q = ranged kind r n body h.in_range in
    let f : Edge = edge_from kind n body in
    let long = k.lengths n h.of_length in
    record {
      length_least = long.0;
      length_most = long.1;
      length_even = long.2;
      length_ok = h.of_length;
      sizes_seen = o.sizes_seen;
      no_fall = o.no_fall;
      room = leb-false most_edges (length r.edges) (rw k.is_edge_lem at h.not_too_many);
      in_range = not-false (edge_ok r f) (rw k.is_edge_lem at q.edge_in_range);
      pinned = not-false (integer_reset f) (rw k.is_edge_lem at h.pinned);
    }

pub passed_allowed :
    (last : ℕ) (r : Rule) (kind n : ℕ) (body : List ℕ) → Passed last r kind n body → Allowed last r kind n body
passed_allowed last r kind n body h = go (kind_is kind n h.of_length)
  where
    at : (k : ℕ) → kind ≡ k → Passed last r k n body
    at k e = rw e at h

    go : Kind kind → Allowed last r kind n body
    go (first e) = sizes e (sizes_by last r n body (at 1 e))
    go (second e) = initial e (initial_by last r n body (at 2 e))
    go (third e) = final e (final_by_lem last r n body (at 3 e))
    go (fourth e) = ceiling e (ceiling_by last r n body (at 4 e))
    go (fifth e) = edge (omega arith) (omega arith) (rw e (edge_by last 5 r n body edge_five (at 5 e)))
    go (sixth e) = edge (omega arith) (omega arith) (rw e (edge_by last 6 r n body edge_six (at 6 e)))

-- The other way round.
sizes_pass : (last : ℕ) (r : Rule) (n : ℕ) (body : List ℕ) → SizesAllowed r n body → Passed last r 1 n body
sizes_pass last r n body h = record {
  of_length = eq-eqb n 6 h.length_is;
  in_order = lt-leb 1 r.locations (omega arith);
  not_too_many = refl;
  good_sizes = rw h.in_range;
  in_range = refl;
  pinned = refl;
}

initial_pass :
    (last : ℕ) (r : Rule) (n : ℕ) (body : List ℕ) → LocationAllowed last 2 r r.initial n body
    → Passed last r 2 n body
initial_pass last r n body h =
    let rises = le-ltb (number_at 0 body) (past_last r.initial) h.rises in
    record {
      of_length = eq-eqb n 2 h.length_is;
      in_order = rw (le-leb 1 r.locations h.sizes_seen, le-ltb 2 last h.no_fall, rises);
      not_too_many = refl;
      good_sizes = refl;
      in_range = rw (lt-leb r.locations (number_at 0 body) h.in_range);
      pinned = refl;
    }

final_pass :
    (last : ℕ) (r : Rule) (n : ℕ) (body : List ℕ) → LocationAllowed last 3 r r.final n body → Passed last r 3 n body
final_pass last r n body h =
    let rises = le-ltb (number_at 0 body) (past_last r.final) h.rises in
    record {
      of_length = eq-eqb n 2 h.length_is;
      in_order = rw (le-leb 1 r.locations h.sizes_seen, le-ltb 3 last h.no_fall, rises);
      not_too_many = refl;
      good_sizes = refl;
      in_range = rw (lt-leb r.locations (number_at 0 body) h.in_range);
      pinned = refl;
    }

ceiling_pass : (last : ℕ) (r : Rule) (n : ℕ) (body : List ℕ) → CeilingAllowed last r n body → Passed last r 4 n body
ceiling_pass last r n body h = record {
  of_length = eq-eqb n 2 h.length_is;
  in_order = rw (le-leb 1 r.locations h.sizes_seen, le-ltb 4 last h.no_fall, ne_eqb last 4 h.none_yet);
  not_too_many = refl;
  good_sizes = refl;
  in_range = rw (le-ltb 30 (number_at 0 body) h.in_range);
  pinned = refl;
}

edge_pass :
    (last kind : ℕ) (r : Rule) (n : ℕ) (body : List ℕ) → EdgeKind kind → EdgeAllowed last kind r n body
    → Passed last r kind n body
edge_pass last kind r n body k h = record {
  of_length = h.length_ok;
  in_order =
      rw (
        k.not_one,
        le-leb 1 r.locations h.sizes_seen,
        le-ltb kind last h.no_fall,
        k.not_four,
        k.not_two,
        k.not_three,
      );
  not_too_many = rw k.is_edge_lem (lt-leb most_edges (length r.edges) h.room);
  good_sizes = rw k.not_one;
  in_range = rw (k.no_location, k.not_four, h.in_range, k.is_edge_lem);
  pinned = rw (k.is_edge_lem, h.pinned);
}

pub allowed_passes :
    (last : ℕ) (r : Rule) (kind n : ℕ) (body : List ℕ) → Allowed last r kind n body → Passed last r kind n body
allowed_passes last r kind n body (sizes e h) = rw e (sizes_pass last r n body h)
allowed_passes last r kind n body (initial e h) = rw e (initial_pass last r n body h)
allowed_passes last r kind n body (final e h) = rw e (final_pass last r n body h)
allowed_passes last r kind n body (ceiling e h) = rw e (ceiling_pass last r n body h)
allowed_passes last r kind n body (edge a b h) = edge_pass last kind r n body (kind_of kind a b) h
