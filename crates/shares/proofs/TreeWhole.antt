-- The whole tree, from its root: the words of no event are counted by row 0, and the longer ones below it.
use mathlib.Core.Path.{◌≡◌, refl, ◌∙◌, ap}
use mathlib.Core.List.{List}
use Prim.Native.Nat.{ℕ, zero, suc, ◌-◌, ◌≤◌, ◌<◌}
use native.Mathlib.Omega.{arith}
use lib.ListN.{length, get_or, set, length-set}
use lib.Seq.{get_or-set_same, get_or-set_other}
use borrow.Rule.Slice.PartMut.{same_len_mid}
use Rattle.model.specs.declared.Built.{Built}
use Rattle.model.specs.Tables.{Tables, row_verdict}
use Rattle.model.specs.Walks.{table_accepts}
use Rattle.model.specs.Lists.{stamp_count}
use Rattle.model.specs.Shares.{accepted_of, table_says}
use Rattle.model.proofs.ShareCounts.{at_most_all}
use Rattle.shares.specs.Tree.{tree_count, Sized, Node, Roomy, Tallied, Countable, Counted}
use Rattle.shares.proofs.TreeLaws.{stored_leaf}
use Rattle.shares.proofs.TreeCounts.{tail, back, tail_long, tail_at, back_first, back_later}

accepted_is :
    (t : Tables) (h n : ℕ) → tree_count t 0 0 n (stamp_count h) 0 ≡ accepted_of (table_says t) t.built.symbols h n
unfolding tree_count accepted_of table_accepts
accepted_is t h n = refl

pub root_node :
    {b : Built} {h stamps : ℕ} {counts : List ℕ} → Sized b → Countable b.symbols h counts → stamps ≡ stamp_count h
    → Node b stamps 0 0 0
root_node s k e = record {
  row_in = s.rows_some;
  reset_before = omega arith;
  from_before = omega arith;
  stamps_most = omega (arith, e, k.seconds_most);
}

module _ (t : Tables) {h stamps v : ℕ} {counts : List ℕ} (k : Countable t.built.symbols h counts)
    (stamps_are : stamps ≡ stamp_count h)
    (verdict_is : v ≡ row_verdict t.rows 0)
    (verdict_most : v ≤ 1) where
  begun_long : length (set counts 0 v) ≡ length counts
  begun_long = length-set counts 0 v

  below_root : (n : ℕ) → tree_count t 0 0 n (stamps - 0) 0 ≡ accepted_of (table_says t) t.built.symbols h n
  below_root n =
      let e : stamps - 0 ≡ stamp_count h = omega (arith, stamps_are) in
      ap (λ (z : ℕ). tree_count t 0 0 n z 0) e ∙ accepted_is t h n

  first_is : get_or (set counts 0 v) 0 0 ≡ accepted_of (table_says t) t.built.symbols h 0
  first_is =
      get_or-set_same counts 0 v 0 k.some ∙ stored_leaf t 0 0 (stamps - 0) 0 v verdict_is verdict_most ∙ below_root 0

  later_is : (n : ℕ) → get_or (set counts 0 v) (suc n) 0 ≡ 0
  later_is n = get_or-set_other counts 0 (suc n) v 0 (λ e. absurd (omega (arith, e))) ∙ k.zero (suc n)

  pub root_roomy : 1 < length (set counts 0 v) → Roomy t stamps 0 0 0 (tail (set counts 0 v))
  root_roomy m = record {
    some = omega (arith, tail_long (set counts 0 v));
    room = λ n g.
        omega (
          arith,
          tail_at (set counts 0 v) n,
          later_is n,
          below_root (suc n),
          at_most_all (table_says t) t.built.symbols h (suc n),
          k.room (suc n) (omega (arith, tail_long (set counts 0 v), begun_long)),
        );
  }

  -- counted: the word of no event alone, or all
  pub root_alone : length (set counts 0 v) ≤ 1 → Counted t h counts (set counts 0 v)
  root_alone m = record { same_length = begun_long; counted = at_place }
    where
      at_place :
          (n : ℕ) → n < length counts → get_or (set counts 0 v) n 0 ≡ accepted_of (table_says t) t.built.symbols h n
      at_place zero g = first_is
      at_place (suc n) g = absurd (omega (arith, begun_long))

  module _ {part : List ℕ} (some : 1 < length (set counts 0 v))
      (d : Tallied t stamps 0 0 0 (tail (set counts 0 v)) part) where
    pub whole_long : length (back (set counts 0 v) part) ≡ length counts
    whole_long = same_len_mid 1 (length (set counts 0 v) - 1) (set counts 0 v) part d.same_length ∙ begun_long

    pub whole_tree : Counted t h counts (back (set counts 0 v) part)
    whole_tree = record { same_length = whole_long; counted = at_place }
      where
        at_place :
            (n : ℕ) → n < length counts
            → get_or (back (set counts 0 v) part) n 0 ≡ accepted_of (table_says t) t.built.symbols h n
        at_place zero g = back_first (set counts 0 v) part (omega arith) ∙ first_is
        at_place (suc n) g =
            let w : n < length (tail (set counts 0 v)) = omega (arith, tail_long (set counts 0 v), begun_long) in
            omega (
              arith,
              back_later (set counts 0 v) part n (omega arith) (omega (arith, d.same_length)),
              d.added n w,
              tail_at (set counts 0 v) n,
              later_is n,
              below_root (suc n),
            )
