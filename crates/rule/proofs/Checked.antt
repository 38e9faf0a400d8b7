-- 21 is what the direct test finds: the rule is valid, and head record and edge table are what that rule becomes.
use mathlib.Core.Path.{◌≡◌, refl, ◌∙◌}
use mathlib.Core.Bool.{Bool, true, false, ◌&&◌}
use mathlib.Core.List.{List}
use Prim.Native.Nat.{ℕ, ◌^◌, ◌≤◌, ◌<◌}
use native.Mathlib.Omega.{arith}
use lib.Dec.{ltb, leb}
use lib.ListN.{length}
use borrow.Author.Tests.{le-leb, leb-true, ltb-true, eq-eqb, lt-ltb, le-ltb}
use Rattle.model.specs.declared.Head.{Head}
use Rattle.model.specs.Basics.{filled, same, mask_of}
use Rattle.model.specs.Rules.{Edge, rule, Rule, plain_edge, cm, pair_count, most_pairs, most_edges, sizes_ok, rising}
use Rattle.model.specs.Rules.{most_clocks, most_constant, most_locations, edges_ok, kinds_rise, valid_rule}
use Rattle.model.specs.Layout.{edges_numbers, edge_need, edge_table, edges_in, locations_in, rule_in}
use Rattle.model.specs.Layout.{is_readable, rule_refusal}
use Rattle.model.specs.Promises.{ChecksRule}
use Rattle.model.proofs.Logic.{same_truth, and_left, and_right}
use Rattle.model.proofs.Valid.{Sizes, sizes_of}
use Rattle.model.proofs.TopMost.{edges_top}
use Rattle.model.proofs.MaskSets.{mask_below, bits_rise, mask_again}
use Rattle.model.proofs.EdgeTable.{edges_length}
use Rattle.edges.specs.Powers.{small_pairs}
use Rattle.rule.specs.Checks.{head_good, edges_good, pairs_good}
use Rattle.rule.proofs.Unused.{edges_same}

-- a good head record, as plain facts
pub record GoodHead (h : Head) : Type 0 where
  pub sizes : Sizes h.locations h.symbols h.clocks
  pub count_most : h.count ≤ most_edges

pub good_head : (h : Head) → head_good h ≡ true → GoodHead h
unfolding head_good
good_head h q =
    let a : Bool = sizes_ok h.locations h.symbols h.clocks in
    let b : Bool = ltb h.starts (2 ^ h.locations) in
    let c : Bool = ltb h.ends (2 ^ h.locations) in
    let d : Bool = leb h.count most_edges in
    let q3 : (a && b && c) ≡ true = and_left (a && b && c) d q in
    record {
      sizes = sizes_of h.locations h.symbols h.clocks (and_left a b (and_left (a && b) c q3));
      count_most = leb-true h.count most_edges (and_right (a && b && c) d q);
    }

-- the test of a mask: its bits rise below l exactly if it is below 2 ^ l
mask_rises : (l mask : ℕ) → mask < 2 ^ 32 → rising 0 l (locations_in mask) ≡ ltb mask (2 ^ l)
mask_rises l mask h =
    same_truth (rising 0 l (locations_in mask)) (ltb mask (2 ^ l))
    (λ r. lt-ltb mask (2 ^ l) (omega (arith, mask_below l (locations_in mask) r, mask_again mask h)))
    (λ b. bits_rise most_locations 0 l mask (ltb-true mask (2 ^ l) b))

-- the tests in the code's order and in the definition's
reorder : (x f u g m k : Bool) → (x ≡ true → (f && u && m) ≡ k) → (x && f && u && g && true && m) ≡ (x && k && g)
reorder false f u g m k e = refl
reorder true f u g m k e = rw (← e refl) (go f u g m)
  where
    go : (f u g m : Bool) → (f && u && g && true && m) ≡ (f && u && m && g)
    go false u g m = refl
    go true false g m = refl
    go true true false false = refl
    go true true false true = refl
    go true true true false = refl
    go true true true true = refl

pub readable_is :
    (h : Head) (t : List ℕ) → h.starts < 2 ^ 32 → h.ends < 2 ^ 32 → edge_need ≤ length t
    → is_readable h t ≡ (head_good h && edges_good h plain_edge h.count t && pairs_good h t)
unfolding head_good rule_in valid_rule edge_table is_readable
readable_is h t p q long =
    let x : Bool =
    sizes_ok h.locations h.symbols h.clocks && ltb h.starts (2 ^ h.locations)
    && ltb h.ends (2 ^ h.locations) in
    rw (
      mask_rises h.locations h.starts p,
      mask_rises h.locations h.ends q,
      edges_length h.count t,
      eq-eqb (mask_of (locations_in h.starts)) h.starts (mask_again h.starts p),
      eq-eqb (mask_of (locations_in h.ends)) h.ends (mask_again h.ends q),
    )
    (reorder (x && leb h.count most_edges) (edges_ok (rule_in h t) (edges_in h.count t))
    (kinds_rise plain_edge (edges_in h.count t)) (leb (pair_count (rule_in h t)) most_pairs)
    (same (edge_table (length t) (rule_in h t)) t)
    (edges_good h plain_edge h.count t)
    (λ e. let few : h.count ≤ most_edges = leb-true h.count most_edges (and_right x (leb h.count most_edges) e) in
    edges_same h (locations_in h.starts) (locations_in h.ends) (edges_in h.count t) plain_edge h.count t
    (omega arith)))

-- N, where head record and edge table are good: sizes in range, and cm at most the largest constant
good_top :
    (h : Head) (t : List ℕ) → GoodHead h → edge_need ≤ length t → edges_good h plain_edge h.count t ≡ true
    → cm (rule_in h t) ≤ most_constant
unfolding cm rule_in
good_top h t good long q =
    let i : List ℕ = locations_in h.starts in
    let f : List ℕ = locations_in h.ends in
    let es : List Edge = edges_in h.count t in
    let r : Rule = rule h.locations h.symbols h.clocks i f es in
    let all = edges_same h i f es plain_edge h.count t (omega (arith, good.count_most)) ∙ q in
    let kinds : Bool = kinds_rise plain_edge es in
    edges_top r es
    (and_left (edges_ok r es) kinds
    (and_left (edges_ok r es && kinds) (same (filled (length t) (edges_numbers es)) t) all))

pub pairs_good_lem :
    (h : Head) (t : List ℕ) (p : ℕ) → head_good h ≡ true → edge_need ≤ length t
    → edges_good h plain_edge h.count t ≡ true
    → p ≡ small_pairs h t
    → leb p most_pairs ≡ pairs_good h t
pairs_good_lem h t p q long edges e =
    let good = good_head h q in
    rw (
      e,
      le-leb h.locations most_locations good.sizes.locations_most,
      le-leb h.clocks most_clocks good.sizes.clocks_most,
      le-leb (cm (rule_in h t)) most_constant (good_top h t good long edges),
    )

-- the three answers
pub answers_short :
    (h : Head) (t : List ℕ) → length t < edge_need
    → ChecksRule h t (record { number = 20; place = 0; value = 0 })
unfolding rule_refusal
answers_short h t q = record { answer_is = rw (lt-ltb (length t) edge_need q) }

pub answers_pass :
    (h : Head) (t : List ℕ) → edge_need ≤ length t → is_readable h t ≡ true
    → ChecksRule h t (record { number = 0; place = 0; value = 0 })
unfolding rule_refusal
answers_pass h t q e = record { answer_is = rw (le-ltb (length t) edge_need q, e) }

pub answers_not :
    (h : Head) (t : List ℕ) → edge_need ≤ length t → is_readable h t ≡ false
    → ChecksRule h t (record { number = 21; place = 0; value = 0 })
unfolding rule_refusal
answers_not h t q e = record { answer_is = rw (le-ltb (length t) edge_need q, e) }
