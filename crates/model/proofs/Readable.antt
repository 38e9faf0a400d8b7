-- What a rule that was read becomes, a head record and an edge table, passes 20 and 21 and spells that rule again; and
-- only what reading some accepted file leaves passes 21.
use mathlib.Core.Path.{◌≡◌, refl, sym, ◌∙◌, ap}
use mathlib.Core.Bool.{Bool, true, ◌&&◌, not}
use mathlib.Core.List.{List}
use Prim.Native.Nat.{ℕ, ◌-◌, ◌≤◌}
use native.Mathlib.Omega.{arith}
use lib.Dec.{eqb, ltb}
use lib.ListN.{length}
use borrow.Author.Tests.{leb-true, eqb-true, eq-eqb, le-ltb, not-false}
use Rattle.model.specs.declared.Head.{Head}
use Rattle.model.specs.Basics.{same, zeros, mask_of, fine, refuse}
use Rattle.model.specs.Rules.{Rule, valid_rule}
use Rattle.model.specs.Files.{rule_bytes}
use Rattle.model.specs.Layout.{edge_need, head_of, edges_numbers, edge_table, rule_in, is_readable, rule_refusal}
use Rattle.model.specs.Demands.{Spelled, OnlyRead}
use Rattle.model.proofs.Logic.{and_left, and_right, same_equal, same_self}
use Rattle.model.proofs.Refusals.{refused_false, then_passes, Settled, refuse_settled, then_settled}
use Rattle.model.proofs.MaskLists.{bits_of_mask}
use Rattle.model.proofs.Valid.{sizes_of, valid_of, Parts, valid_parts}
use Rattle.model.proofs.EdgeTable.{edges_length}
use Rattle.model.proofs.EdgesWritten.{filled_length, edges_numbers_length, edges_written}
use Rattle.model.proofs.FileRead.{valid_is_spelt}
use Rattle.model.proofs.FileBytes.{valid_bytes}

-- 20 and 21 have no place
pub rule_settled : (h : Head) (t : List ℕ) → Settled (rule_refusal h t)
unfolding rule_refusal
rule_settled h t =
    then_settled (refuse (ltb (length t) edge_need) 20 0) (refuse (not (is_readable h t)) 21 0)
    (refuse_settled (ltb (length t) edge_need) 19 0) (refuse_settled (not (is_readable h t)) 20 0)

-- the test of 21, as facts
pub record Readable (h : Head) (t : List ℕ) : Type 0 where
  pub valid : valid_rule (rule_in h t) ≡ true
  pub starts_are : mask_of (rule_in h t).initial ≡ h.starts
  pub ends_are : mask_of (rule_in h t).final ≡ h.ends
  pub table_is : edge_table (length t) (rule_in h t) ≡ t

pub readable_of : (h : Head) (t : List ℕ) → is_readable h t ≡ true → Readable h t
unfolding is_readable
readable_of h t q =
    let a : Bool = valid_rule (rule_in h t) in
    let b : Bool = eqb (mask_of (rule_in h t).initial) h.starts in
    let c : Bool = eqb (mask_of (rule_in h t).final) h.ends in
    let d : Bool = same (edge_table (length t) (rule_in h t)) t in
    let front : (a && (b && c)) ≡ true = and_left (a && (b && c)) d q in
    let masks : (b && c) ≡ true = and_right a (b && c) front in
    record {
      valid = and_left a (b && c) front;
      starts_are = eqb-true (mask_of (rule_in h t).initial) h.starts (and_left b c masks);
      ends_are = eqb-true (mask_of (rule_in h t).final) h.ends (and_right b c masks);
      table_is = same_equal (edge_table (length t) (rule_in h t)) t (and_right (a && (b && c)) d q);
    }

-- what passes 20 and 21 is a valid rule
pub passes_valid : (h : Head) (t : List ℕ) → (rule_refusal h t).number ≡ 0 → valid_rule (rule_in h t) ≡ true
unfolding rule_refusal
passes_valid h t z =
    (readable_of h t
    (not-false (is_readable h t)
    (refused_false (not (is_readable h t)) 20 0
    (then_passes (refuse (ltb (length t) edge_need) 20 0) (refuse (not (is_readable h t)) 21 0) z)))
    ).valid

pub is_readable_lem : (h : Head) (t : List ℕ) → Readable h t → is_readable h t ≡ true
unfolding is_readable
is_readable_lem h t q =
    let starts = eq-eqb (mask_of (rule_in h t).initial) h.starts q.starts_are in
    let ends = eq-eqb (mask_of (rule_in h t).final) h.ends q.ends_are in
    let table : same (edge_table (length t) (rule_in h t)) t ≡ true = rw q.table_is (same_self t) in
    rw (q.valid, starts, ends, table)

-- a valid rule's edge table fits, and its head and table spell it
module _ (r : Rule) (v : Parts r) (n : ℕ) (room : edge_need ≤ n) where
  pub table_length : length (edge_table n r) ≡ n
  unfolding edge_table
  table_length =
      filled_length n (edges_numbers r.edges)
      (omega (arith, edges_numbers_length r r.edges v.edges_ok, v.edges_most))

  pub table_spells : rule_in (head_of r) (edge_table n r) ≡ r
  unfolding rule_in edge_table
  table_spells =
      let l : r.locations ≤ 32 = (sizes_of r.locations r.symbols r.clocks v.sizes).locations_most in
      rw (
        bits_of_mask r.locations r.initial l v.initial_rises,
        bits_of_mask r.locations r.final l v.final_rises,
        edges_written r r.edges (zeros (n - length (edges_numbers r.edges))) v.edges_ok,
      )

-- a rule in place of what a head and a table spell
readable_rule :
    (r : Rule) (h : Head) (t : List ℕ) → rule_in h t ≡ r → valid_rule r ≡ true → mask_of r.initial ≡ h.starts
    → mask_of r.final ≡ h.ends → edge_table (length t) r ≡ t
    → Readable h t
readable_rule r h t e v a b c = record {
  valid = rw e v;
  starts_are = rw e a;
  ends_are = rw e b;
  table_is = rw e c;
}

passes_both : (h : Head) (t : List ℕ) → edge_need ≤ length t → is_readable h t ≡ true → rule_refusal h t ≡ fine
unfolding rule_refusal
passes_both h t room q = rw (le-ltb (length t) edge_need room, q)

pub spelled : Spelled
spelled r n valid lent =
    let v : Parts r = valid_parts r valid in
    let room : edge_need ≤ n = leb-true edge_need n lent in
    let spells : rule_in (head_of r) (edge_table n r) ≡ r = table_spells r v n room in
    let long : length (edge_table n r) ≡ n = table_length r v n room in
    let again : edge_table (length (edge_table n r)) r ≡ edge_table n r = ap (λ (m : ℕ). edge_table m r) long in
    let own = readable_rule r (head_of r) (edge_table n r) spells valid refl refl again in
    record {
      passes_both =
          passes_both (head_of r) (edge_table n r) (rw long room) (is_readable_lem (head_of r) (edge_table n r) own);
      spells = spells;
    }

-- what passes 21 is what its own rule becomes
own_head : (h : Head) (t : List ℕ) → Readable h t → h ≡ head_of (rule_in h t)
unfolding rule_in
own_head h t q = rw (q.starts_are, q.ends_are, edges_length h.count t)

pub only_read : OnlyRead
only_read h t q =
    let r : Rule = rule_in h t in
    let read : Readable h t = readable_of h t q in
    let back = valid_is_spelt r read.valid in
    record {
      file = rule_bytes r;
      bytes = valid_bytes r (valid_of r read.valid);
      accepted = back.accepted;
      head_is = own_head h t read ∙ ap head_of (sym back.spells);
      table_is = sym read.table_is ∙ ap (edge_table (length t)) (sym back.spells);
    }
