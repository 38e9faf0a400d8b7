-- What the exact runner and the branch runner leave, told by the number of the answer, for all inputs; the most events.
use mathlib.Core.Path.{◌≡◌, sym, ◌∙◌, ap}
use mathlib.Core.Bool.{false, not, ◌&&◌}
use mathlib.Core.List.{List, [], ◌∷◌}
use mathlib.Core.Logic.{◌⊎◌, inl, inr}
use Prim.Native.Nat.{ℕ, suc, ◌-◌, ◌≤◌, ◌<◌}
use native.Mathlib.Omega.{arith}
use lib.Dec.{eqb, ltb}
use lib.ListN.{length, replicate}
use borrow.Author.Tests.{eqb-false, ne_eqb}
use Rattle.model.specs.declared.Head.{Head}
use Rattle.model.specs.declared.Answer.{Answer}
use Rattle.model.specs.declared.Branch.{Branch}
use Rattle.model.specs.Basics.{Refusal, fine, refuse, passes, ◌⨾◌}
use Rattle.model.specs.Words.{Event, events_of, word_refusal}
use Rattle.model.specs.Rules.{Rule}
use Rattle.model.specs.Runs.{least_run, Config, by_configs, start_configs, room_refusal_from, room_refusal}
use Rattle.model.specs.Layout.{edge_need, rule_in, is_readable, rule_refusal}
use Rattle.model.specs.Promises.{config_room, input_refusal, exact_refusal, RunsExact, RunsBranches}
use Rattle.model.proofs.Logic.{by_test}
use Rattle.model.proofs.Numbers.{Among, none, some, among_refuse, among_then, word_numbers}

-- The exact runner: the scratch is zero after a verdict and after 26; any other refusal leaves it untouched.
from_room :
    (r : Rule) (d room i last : ℕ) (cs : List Config) (vs : List Event)
    → Among 26 26 (room_refusal_from r d room i last cs vs)
unfolding room_refusal_from
from_room r d room i last cs [] = among_refuse (ltb room (length cs)) 26 i (omega arith) (omega arith)
from_room r d room i last cs (v ∷ vs) =
    by_test (ltb room (length cs)) (λ e. rw (e, room_refusal_from) (some (omega arith) (omega arith)))
    (λ e. rw (e, room_refusal_from) (from_room r d room (suc i) v.stamp (by_configs r d v (v.stamp - last) cs []) vs))

room_numbers : (r : Rule) (d room : ℕ) (vs : List Event) → Among 26 26 (room_refusal r d room vs)
unfolding room_refusal
room_numbers r d room vs = from_room r d room 0 0 (start_configs r r.initial) vs

-- a refusal of the rule or of the word is none of 22 to 29
abbrev Apart : Refusal → Type 0
Apart f = (22 ≤ f.number) → (f.number ≤ 29) → ⊥

apart_then : (f g : Refusal) → Apart f → Apart g → Apart (f ⨾ g)
apart_then f g a b =
    by_test (eqb f.number 0) (λ e. rw e b) (λ e. rw e a)

apart_among : (low high : ℕ) (f : Refusal) → (low ≤ high → (high < 22) ⊎ (29 < low)) → Among low high f → Apart f
apart_among low high f h (none e) l m = absurd (omega (arith, ap (λ (x : Refusal). x.number) e))
apart_among low high f h (some p q) l m = elim (h (omega arith)) [ inl x ↦ omega arith | inr x ↦ omega arith ]

input_apart : (h : Head) (t : List ℕ) (d most : ℕ) (xs ts : List ℕ) → Apart (input_refusal h t d most xs ts)
unfolding input_refusal rule_refusal
input_apart h t d most xs ts =
    apart_then (rule_refusal h t) (word_refusal (rule_in h t).symbols d most xs ts)
    (apart_among 20 21 (rule_refusal h t) (λ e. inl (omega arith))
    (among_then (refuse (ltb (length t) edge_need) 20 0) _
    (among_refuse (ltb (length t) edge_need) 20 0 (omega arith) (omega arith))
    (among_refuse (not (is_readable h t)) 21 0 (omega arith) (omega arith))))
    (apart_among 30 33 (word_refusal (rule_in h t).symbols d most xs ts) (λ e. inr (omega arith))
    (word_numbers (rule_in h t).symbols d most xs ts))

module _
    (h : Head) (t : List ℕ) (d : ℕ) (xs ts s s' : List ℕ) (a : Answer) (p : RunsExact h t d xs ts s s' a)
  where
    input : Refusal
    input = input_refusal h t d 4096 xs ts

    room : Refusal
    room = room_refusal (rule_in h t) d (config_room (rule_in h t) s) (events_of xs ts)

    exact_number : a.number ≡ (input ⨾ room).number
    unfolding input room exact_refusal
    exact_number = ap (λ (x : Answer). x.number) p.answer_is

    pub exact_zeroed : (a.number ≡ 0) ⊎ (a.number ≡ 26) → s' ≡ replicate (length s) 0
    unfolding input
    exact_zeroed e =
        by_test (eqb input.number 0) (λ q. p.scratch_is ∙ rw q)
        (λ q.
        let same : a.number ≡ input.number = exact_number ∙ rw q in
        let stops : input.number ≡ 0 → ⊥ = eqb-false input.number 0 q in
        elim e [
          | inl z ↦ absurd (stops (sym same ∙ z))
          | inr z ↦ absurd (input_apart h t d 4096 xs ts (omega (arith, same)) (omega (arith, same)))
        ])

    pub exact_kept : (a.number ≡ 0 → ⊥) → (a.number ≡ 26 → ⊥) → s' ≡ s
    unfolding input room
    exact_kept n m =
        by_test (eqb input.number 0)
        (λ q.
        let same : a.number ≡ room.number = exact_number ∙ rw q in
        elim (room_numbers (rule_in h t) d (config_room (rule_in h t) s) (events_of xs ts)) [
          | none e ↦ absurd (n (same ∙ ap (λ (x : Refusal). x.number) e))
          | some l k ↦ absurd (m (omega (arith, same)))
        ])
        (λ q. p.scratch_is ∙ rw q)

-- The branch runner: all zero on a refusal, and where no run is found.
pub branch_zeroed :
    (h : Head) (t : List ℕ) (d : ℕ) (xs ts : List ℕ) (a : Branch) → RunsBranches h t d xs ts a → a.found ≡ false
    → (a.start ≡ 0) × (a.edges ≡ replicate 12 0)
branch_zeroed h t d xs ts a p e =
    let r : Refusal = input_refusal h t d 12 xs ts in
    let found : (passes r && (least_run (rule_in h t) d (events_of xs ts)).found) ≡ false =
    sym (ap (λ (x : Branch). x.found) p.answer_is) ∙ e in (
      ap (λ (x : Branch). x.start) p.answer_is ∙ rw found,
      ap (λ (x : Branch). x.edges) p.answer_is ∙ rw found,
    )

pub branch_refused :
    (h : Head) (t : List ℕ) (d : ℕ) (xs ts : List ℕ) (a : Branch) → RunsBranches h t d xs ts a → (a.number ≡ 0 → ⊥)
    → (a.found ≡ false) × (a.held ≡ false) × (a.position ≡ 0)
branch_refused h t d xs ts a p n =
    let r : Refusal = input_refusal h t d 12 xs ts in
    let number : a.number ≡ r.number = ap (λ (x : Branch). x.number) p.answer_is in
    let stops : passes r ≡ false = ne_eqb r.number 0 (λ z. n (number ∙ z)) in (
      ap (λ (x : Branch). x.found) p.answer_is ∙ rw stops,
      ap (λ (x : Branch). x.held) p.answer_is ∙ rw stops,
      ap (λ (x : Branch). x.position) p.answer_is ∙ rw stops,
    )

-- Event 4,097, and event 13 by branch, of any rule: 31.
pub exact_most :
    (h : Head) (t s s' : List ℕ) (a : Answer) → rule_refusal h t ≡ fine
    → RunsExact h t 1 (replicate 4097 0) (replicate 4097 0) s s' a
    → a.number ≡ 31
unfolding exact_refusal input_refusal word_refusal
exact_most h t s s' a e p = ap (λ (x : Answer). x.number) p.answer_is ∙ rw e

pub branch_most :
    (h : Head) (t : List ℕ) (a : Branch) → rule_refusal h t ≡ fine
    → RunsBranches h t 1 (replicate 13 0) (replicate 13 0) a
    → a.number ≡ 31
unfolding input_refusal word_refusal
branch_most h t a e p = ap (λ (x : Branch). x.number) p.answer_is ∙ rw e
