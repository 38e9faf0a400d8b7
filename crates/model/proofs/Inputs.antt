-- The two checks that both runners over a rule make first: which refusal is met, and what holds where neither refuses.
use mathlib.Core.Path.{◌≡◌, sym, ◌∙◌, ap}
use mathlib.Core.Bool.{Bool, true, false, ◌&&◌, not}
use mathlib.Core.List.{List}
use Prim.Native.Nat.{ℕ, ◌+◌, ◌≤◌, ◌<◌}
use native.Mathlib.Omega.{arith}
use lib.Dec.{ltb}
use lib.ListN.{length, get_or, drop}
use borrow.Author.Tests.{ne_eqb, not-false}
use Rattle.model.specs.declared.Head.{Head}
use Rattle.model.specs.declared.Answer.{Answer}
use Rattle.model.specs.Basics.{same, Refusal, fine, refuse, passes}
use Rattle.model.specs.Rules.{Rule, most_edges, valid_rule}
use Rattle.model.specs.Words.{events_of, word_refusal}
use Rattle.model.specs.Layout.{edge_need, edge_table, rule_in, same_masks, is_readable, rule_refusal}
use Rattle.model.specs.Promises.{answer_of, ChecksRule, ChecksWord, input_refusal}
use Rattle.model.proofs.Logic.{and_left}
use Rattle.model.proofs.Refusals.{refused_false, on_pass, on_refused, then_passes}
use Rattle.model.proofs.Valid.{Valid, valid_of}
use Rattle.model.proofs.Words.{Ordered, Keeps, word_keeps, word_settled}
use Rattle.model.proofs.EdgeTable.{edges_length}
use Rattle.model.proofs.Events.{events_rest}

-- stamps in order from event i on: event i's stamp is no lower than the one before, and the later ones are in order
pub ordered_rest :
    (last : ℕ) (xs ts : List ℕ) (i : ℕ) → i < length xs → length xs ≡ length ts
    → Ordered last (events_of (drop i xs) (drop i ts))
    → (last ≤ get_or ts i 0) × Ordered (get_or ts i 0) (events_of (drop (i + 1) xs) (drop (i + 1) ts))
ordered_rest last xs ts i h e o = rw (events_rest xs ts i h (omega arith)) at o

module _ (head : Head) (edges : List ℕ) where
  -- the rule that passes 20 and 21 is valid
  pub passed_valid : (rule_refusal head edges).number ≡ 0 → Valid (rule_in head edges)
  unfolding rule_refusal is_readable
  passed_valid h =
      let r : Rule = rule_in head edges in
      let ok : Bool = valid_rule r in
      let masks : Bool = same_masks r head in
      let table : Bool = same (edge_table (length edges) r) edges in
      let short : Refusal = refuse (ltb (length edges) edge_need) 20 0 in
      let unread : Refusal = refuse (not (ok && masks && table)) 21 0 in
      let readable : (ok && masks && table) ≡ true =
      not-false (ok && masks && table) (refused_false (not (ok && masks && table)) 20 0 (then_passes short unread h)) in
      valid_of r (and_left ok masks (and_left (ok && masks) table readable))

module _ (head : Head) (edges : List ℕ) (d most : ℕ) (symbols stamps : List ℕ) where
  abbrev input : Refusal
  input = input_refusal head edges d most symbols stamps

  abbrev word : Refusal
  word = word_refusal head.symbols d most symbols stamps

  -- 20 or 21, else 30 to 33
  rule_first : ((rule_refusal head edges).number ≡ 0 → ⊥) → input ≡ rule_refusal head edges
  unfolding input_refusal
  rule_first n = on_refused (rule_refusal head edges) (word_refusal (rule_in head edges).symbols d most symbols stamps)
      n

  then_word : (rule_refusal head edges).number ≡ 0 → input ≡ word
  unfolding input_refusal rule_in
  then_word h = on_pass (rule_refusal head edges) word h

  -- a check's answer that refuses is the refusal of the input
  pub record Refused (a : Answer) : Type 0 where
    pub answer_is : a ≡ answer_of input 0
    pub not_passed : passes input ≡ false

  refused_by : (f : Refusal) (a : Answer) → input ≡ f → a ≡ answer_of f 0 → (a.number ≡ 0 → ⊥) → Refused a
  refused_by f a e h n =
      let m : f.number ≡ 0 → ⊥ = λ z. n (ap (λ (x : Answer). x.number) h ∙ z) in
      record { answer_is = rw e h; not_passed = rw e (ne_eqb f.number 0 m) }

  pub rule_refused : (a : Answer) → ChecksRule head edges a → (a.number ≡ 0 → ⊥) → Refused a
  rule_refused a c n =
      let m : (rule_refusal head edges).number ≡ 0 → ⊥ = λ z. n (ap (λ (x : Answer). x.number) c.answer_is ∙ z) in
      refused_by (rule_refusal head edges) a (rule_first m) c.answer_is n

  -- a valid rule and a word that keeps the rules, in the head's numbers
  pub record Checked : Type 0 where
    pub passes_both : input ≡ fine
    pub clocks_least : 1 ≤ head.clocks
    pub clocks_most : head.clocks ≤ 4
    pub count_most : head.count ≤ most_edges
    pub keeps : Keeps head.symbols d most symbols stamps

  checked : (rule_refusal head edges).number ≡ 0 → word.number ≡ 0 → Checked
  unfolding rule_in
  checked h g =
      let v : Valid (rule_in head edges) = passed_valid head edges h in
      record {
        passes_both = then_word h ∙ word_settled head.symbols d most symbols stamps g;
        clocks_least = v.sizes.clocks_least;
        clocks_most = v.sizes.clocks_most;
        count_most = omega (arith, v.edges_most, edges_length head.count edges);
        keeps = word_keeps head.symbols d most symbols stamps g;
      }

  module _ (a w : Answer) (c : ChecksRule head edges a) (v : ChecksWord head.symbols d most symbols stamps w)
      (z : a.number ≡ 0) where
    rule_passes : (rule_refusal head edges).number ≡ 0
    rule_passes = sym (ap (λ (x : Answer). x.number) c.answer_is) ∙ z

    pub word_refused : (w.number ≡ 0 → ⊥) → Refused w
    word_refused n = refused_by word w (then_word rule_passes) v.answer_is n

    pub both_passed : w.number ≡ 0 → Checked
    both_passed y = checked rule_passes (sym (ap (λ (x : Answer). x.number) v.answer_is) ∙ y)
