-- The whole file: what passes 20 and 21 can be written, and the answers of write_rule.
use mathlib.Core.Path.{◌≡◌, sym, ◌∙◌, subst}
use mathlib.Core.Bool.{false, not}
use mathlib.Core.List.{List}
use Prim.Native.Nat.{ℕ, ◌+◌, ◌≤◌, ◌<◌}
use native.Mathlib.Omega.{arith}
use lib.Dec.{eqb, ltb}
use lib.ListN.{length, get_or}
use lib.Seq.{sets-eq}
use borrow.Author.Tests.{eqb-false, ltb-false, lt-ltb, le-ltb, ne_eqb}
use Rattle.model.specs.declared.Head.{Head}
use Rattle.std.specs.Prelude.{Result, Ok, Err}
use Rattle.std.specs.Result.{IsErrAnd}
use Rattle.model.specs.declared.Fault.TheVariants.{NoRoomForFile}
use Rattle.model.specs.declared.Refused.{Refused}
use Rattle.model.specs.Faults.{fault_number, at_once, answer_in}
use Rattle.model.proofs.Faults.{refuses}
use Rattle.model.specs.Basics.{Refusal, refusal, fine, refuse, ◌⨾◌}
use Rattle.model.specs.Rules.{Edge, most_text}
use Rattle.model.specs.Runs.{no_edge}
use Rattle.model.specs.Files.{rule_bytes}
use Rattle.model.specs.Layout.{edge_need, edge_at, edges_in, rule_in, is_readable, rule_refusal}
use Rattle.model.specs.Promises.{write_refusal, ChecksRule, WritesRule}
use Rattle.model.proofs.Logic.{In, in_at}
use Rattle.model.proofs.Refusals.{refused_false, first_passes, on_pass, both_fine, refuse_fine, refuse_met}
use Rattle.model.proofs.Answers.{number_is, first_refuses, answers}
use Rattle.model.proofs.Inputs.{passed_valid}
use Rattle.model.proofs.Valid.{Valid}
use Rattle.model.proofs.ValidParts.{sized_of}
use Rattle.model.proofs.EdgeTable.{edges_length, edge_at_lem}
use Rattle.writer.specs.Writing.{Puts, Writable}

module _ (h : Head) (t : List ℕ) where
  -- an edge of a valid rule has a text of at most 80 numbers
  text_few :
      Valid (rule_in h t) → (e : ℕ) → e < h.count → length (edge_at e t).text ≤ most_text
  unfolding rule_in
  text_few v e q =
      let es : List Edge = edges_in h.count t in
      let inside : In (get_or es e no_edge) es = in_at no_edge es e (omega (arith, edges_length h.count t)) in
      let is_one : get_or es e no_edge ≡ edge_at e t = edge_at_lem h.count e t q in
      subst (λ (x : Edge). length x.text ≤ most_text) is_one
      (sized_of (get_or es e no_edge) (v.edges_in (get_or es e no_edge) inside).is_sized).length_most

  long_table : (rule_refusal h t).number ≡ 0 → edge_need ≤ length t
  unfolding rule_refusal
  long_table z =
      ltb-false (length t) edge_need
      (refused_false (ltb (length t) edge_need) 19 0
      (first_passes (refuse (ltb (length t) edge_need) 20 0) (refuse (not (is_readable h t)) 21 0) z))

  writable_of : Valid (rule_in h t) → edge_need ≤ length t → Writable h t
  unfolding rule_in
  writable_of v long = record {
    locations_most = v.sizes.locations_most;
    symbols_most = v.sizes.symbols_most;
    clocks_most = v.sizes.clocks_most;
    table = record {
      count_most = omega (arith, v.edges_most, edges_length h.count t);
      long = long;
      few = text_few v;
    };
  }

  -- what passes 20 and 21
  module _ (checked : ChecksRule h t (record { number = 0; place = 0; value = 0 })) where
    passed : (rule_refusal h t).number ≡ 0
    passed = sym (number_is (rule_refusal h t) 0 checked.answer_is)

    pub is_writable : Writable h t
    is_writable = writable_of (passed_valid h t passed) (long_table passed)

  module _ (out : List ℕ) where
    abbrev short : Refusal
    short = refuse (ltb (length out) (length (rule_bytes (rule_in h t)))) 27 0

    -- 20 or 21
    pub writes_refused :
        (r : Result ℕ Refused) (e : Refused) → IsErrAnd r (λ y. y ≡ e)
        → ChecksRule h t (record { number = fault_number e.fault; place = e.place; value = 0 })
        → WritesRule h t out out (answer_in (λ n. n) r)
    unfolding write_refusal
    writes_refused (Ok n) e never checked = elim never [ ]
    writes_refused (Err y) e is checked =
        let f : Refusal = rule_refusal h t in
        let some : fault_number e.fault ≡ 0 → ⊥ = eqb-false (fault_number e.fault) 0 (refuses e.fault e.place) in
        let met : eqb f.number 0 ≡ false = ne_eqb f.number 0 (λ z. some (number_is f 0 checked.answer_is ∙ z)) in
        rw is
        (record {
          answer_is = first_refuses f short 0 (length (rule_bytes (rule_in h t))) checked.answer_is some;
          out_is = rw (met, met);
        })

    module _ (checked : ChecksRule h t (record { number = 0; place = 0; value = 0 })) where
      -- 27
      pub writes_short :
          {e : Refused} → length out < length (rule_bytes (rule_in h t)) → e ≡ at_once NoRoomForFile
          → WritesRule h t out out (record { number = fault_number e.fault; place = e.place; value = 0 })
      unfolding write_refusal
      writes_short q is =
          let f : Refusal = rule_refusal h t in
          let is_27 : (f ⨾ short) ≡ refusal 27 0 =
          on_pass f short (passed checked)
          ∙ refuse_met (ltb (length out) (length (rule_bytes (rule_in h t)))) 27 0
          (lt-ltb (length out) (length (rule_bytes (rule_in h t))) q) in
          rw is (record { answer_is = rw is_27; out_is = rw is_27 })

      -- the file, and what stood past it
      pub writes_file :
          {out' : List ℕ} {next : ℕ} → length (rule_bytes (rule_in h t)) ≤ length out
          → Puts (rule_bytes (rule_in h t)) out 0 out' next
          → WritesRule h t out out' (record { number = 0; place = 0; value = next })
      unfolding write_refusal
      writes_file {out'} {next} room puts =
          let f : Refusal = rule_refusal h t in
          let file : List ℕ = rule_bytes (rule_in h t) in
          let fits : (f ⨾ short) ≡ fine =
          both_fine f short (passed checked)
          (refuse_fine (ltb (length out) (length file)) 27 0 (le-ltb (length out) (length file) room)) in
          let size : next ≡ length file = omega (arith, puts.next_is) in
          let from_start : 0 + length file ≡ length file = omega arith in
          record {
            answer_is = rw size (answers (f ⨾ short) (length file) fits);
            out_is = rw fits (puts.out_is ∙ (sets-eq file out 0 (omega arith) ∙ rw from_start));
          }
