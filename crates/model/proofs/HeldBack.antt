-- A guard that does not hold names its first member that does not. The branch runner names one exactly where no run
-- accepts, there is an event, and the guard of the lowest edge that leaves an initial location on its symbol names it.
use Rattle.std.specs.Prelude.{Option, Some, None}
use mathlib.Core.Path.{◌≡◌, refl, sym, ◌∙◌, ap}
use mathlib.Core.Bool.{Bool, true, false, ◌&&◌, not}
use mathlib.Core.List.{List, [], ◌∷◌}
use Prim.Native.Nat.{ℕ, zero, suc, ◌-◌, ◌≤◌, ◌<◌}
use native.Mathlib.Omega.{arith}
use lib.Dec.{eqb, ltb}
use lib.ListN.{length, get_or}
use borrow.Author.Tests.{ltb-true, lt-ltb, eq-eqb}
use Rattle.model.specs.declared.Head.{Head}
use Rattle.model.specs.declared.Branch.{Branch}
use Rattle.model.specs.Basics.{pick, is_in, Refusal, passes}
use Rattle.model.specs.Texts.{Atom, Members, end, atom, group}
use Rattle.model.specs.Rules.{Edge, Rule, guard_of}
use Rattle.model.specs.Words.{Event, events_of, most_branch_events}
use Rattle.model.specs.Guards.{meets, first_failing, guard, is_met, failing_position}
use Rattle.model.specs.Runs.{no_edge, accepts, lowest_leaving, held_back}
use Rattle.model.specs.Layout.{rule_in}
use Rattle.model.specs.Promises.{input_refusal, RunsBranches}
use Rattle.model.specs.Claims.{member_count, member_holds, GuardNames, Held, HeldAre}
use Rattle.model.proofs.Logic.{no_way, by_test, ltb_suc, and_left, and_right}
use Rattle.model.proofs.Guards.{guard_holds}

-- the position that an answer names, counted from n
record Failing (n : ℕ) (t : Atom → Bool) (m : Members) (k : ℕ) : Type 0 where
  past : n ≤ k
  inside : k - n < member_count m
  fails : member_holds true (k - n) t m ≡ false
  before_hold : (j : ℕ) → j < k - n → member_holds true j t m ≡ true

-- one member, and those behind it
one_member :
    (n : ℕ) (t : Atom → Bool) (all behind : Members) (k : ℕ) → member_count all ≡ suc (member_count behind)
    → ((j : ℕ) → member_holds true (suc j) t all ≡ member_holds true j t behind)
    → pick (member_holds true 0 t all) (first_failing (suc n) t behind) (Some n) ≡ Some k
    → (first_failing (suc n) t behind ≡ Some k → Failing (suc n) t behind k)
    → Failing n t all k
one_member n t all behind k count_is behind_are h rest =
    by_test (member_holds true 0 t all) (λ e. later e (rest (rw e at h))) now
  where
    before :
        member_holds true 0 t all ≡ true → Failing (suc n) t behind k → (j : ℕ) → j < k - n
        → member_holds true j t all ≡ true
    before e p zero l = e
    before e p (suc j) l = behind_are j ∙ p.before_hold j (omega (arith, p.past))

    later : member_holds true 0 t all ≡ true → Failing (suc n) t behind k → Failing n t all k
    later e p =
        let j : k - n ≡ suc (k - suc n) = omega (arith, p.past) in
        record {
          past = omega (arith, p.past);
          inside = omega (arith, p.past, p.inside, count_is);
          fails = rw (j, behind_are (k - suc n)) p.fails;
          before_hold = before e p;
        }

    now : member_holds true 0 t all ≡ false → Failing n t all k
    now e =
        let named : Some n ≡ Some k = rw e at h in
        let same : n ≡ k = ap failing_position named in
        let j : k - n ≡ 0 = omega (arith, same) in
        record {
          past = omega (arith, same);
          inside = omega (arith, same, count_is);
          fails = rw j e;
          before_hold = λ m l. absurd (omega (arith, same));
        }

failing : (n : ℕ) (t : Atom → Bool) (m : Members) (k : ℕ) → first_failing n t m ≡ Some k → Failing n t m k
failing n t end k h = no_way (sym (ap is_met h))
failing n t (atom a m) k h = one_member n t (atom a m) m k refl (λ j. refl) h (failing (suc n) t m k)
failing n t (group g m) k h = one_member n t (group g m) m k refl (λ j. refl) h (failing (suc n) t m k)

pub guard_names : GuardNames
guard_names = record {
  names = λ unit readings m n h.
      let p : Failing 0 (meets unit readings) m n = failing 0 (meets unit readings) m n h in
      let from_none : n - 0 ≡ n = omega arith in
      record {
        inside = lt-ltb n (member_count m) (rw from_none at p.inside);
        fails = rw from_none at p.fails;
        before_hold = λ k l. p.before_hold k (rw from_none (ltb-true k n l));
      };
  holds_where = λ unit readings m. guard_holds 0 (meets unit readings) m;
}

-- The lowest edge of a list that leaves an initial location on a symbol, both ways.
module _ (initial : List ℕ) (s d : ℕ) (ages : List ℕ) where
  abbrev leaves_at : List Edge → ℕ → Bool
  leaves_at es e =
      ltb e (length es) && is_in (get_or es e no_edge).source initial && eqb (get_or es e no_edge).symbol s

  leaves_later : (e : Edge) (es : List Edge) (k : ℕ) → leaves_at (e ∷ es) (suc k) ≡ leaves_at es k
  leaves_later e es k =
      ap
      (λ (b : Bool). b && is_in (get_or es k no_edge).source initial && eqb (get_or es k no_edge).symbol s)
      (ltb_suc k (length es))

  leaves_first : (e : Edge) (es : List Edge) → leaves_at (e ∷ es) 0 ≡ (is_in e.source initial && eqb e.symbol s)
  leaves_first e es = rw (lt-ltb 0 (suc (length es)) (omega arith))

  record First (es : List Edge) (n : ℕ) : Type 0 where
    edge : ℕ
    leaves_one : leaves_at es edge ≡ true
    none_lower : (m : ℕ) → ltb m edge ≡ true → leaves_at es m ≡ false
    answer_is : guard d ages (guard_of (get_or es edge no_edge)) ≡ Some n

  named_first : (es : List Edge) (n : ℕ) → lowest_leaving initial s d ages es ≡ Some n → First es n
  named_first [] n h = no_way (sym (ap is_met h))
  named_first (e ∷ es) n h =
      by_test (is_in e.source initial && eqb e.symbol s)
      (λ t. record {
        edge = 0;
        leaves_one = leaves_first e es ∙ t;
        none_lower = λ m l. absurd (omega (arith, ltb-true m 0 l));
        answer_is = rw t at h;
      })
      (λ t. later t (named_first es n (rw t at h)))
    where
      lower :
          (is_in e.source initial && eqb e.symbol s) ≡ false → (p : First es n) → (m : ℕ)
          → ltb m (suc p.edge) ≡ true
          → leaves_at (e ∷ es) m ≡ false
      lower t p zero l = leaves_first e es ∙ t
      lower t p (suc m) l = leaves_later e es m ∙ p.none_lower m (sym (ltb_suc m p.edge) ∙ l)

      later : (is_in e.source initial && eqb e.symbol s) ≡ false → First es n → First (e ∷ es) n
      later t p = record {
        edge = suc p.edge;
        leaves_one = leaves_later e es p.edge ∙ p.leaves_one;
        none_lower = lower t p;
        answer_is = p.answer_is;
      }

  first_named :
      (es : List Edge) (k n : ℕ) → leaves_at es k ≡ true → ((m : ℕ) → ltb m k ≡ true → leaves_at es m ≡ false)
      → guard d ages (guard_of (get_or es k no_edge)) ≡ Some n
      → lowest_leaving initial s d ages es ≡ Some n
  first_named [] k n l u g =
      let inside : ltb k 0 ≡ true =
      and_left (ltb k 0) (is_in 0 initial) (and_left (ltb k 0 && is_in 0 initial) (eqb 0 s) l) in
      absurd (omega (arith, ltb-true k 0 inside))
  first_named (e ∷ es) zero n l u g = rw (sym (leaves_first e es) ∙ l) g
  first_named (e ∷ es) (suc k) n l u g =
      let other : (is_in e.source initial && eqb e.symbol s) ≡ false =
      sym (leaves_first e es) ∙ u 0 (lt-ltb 0 (suc k) (omega arith)) in
      rw other
      (first_named es k n (sym (leaves_later e es k) ∙ l)
      (λ m h. sym (leaves_later e es m) ∙ u (suc m) (ltb_suc m k ∙ h)) g)

-- what held a rule back, both ways
held_of : (r : Rule) (d : ℕ) (vs : List Event) (n : ℕ) → held_back r d vs ≡ Some n → Held r d vs n
unfolding held_back
held_of r d [] n h = no_way (sym (ap is_met h))
held_of r d (v ∷ vs) n h =
    by_test (accepts r d (v ∷ vs)) (λ e. no_way (sym (ap is_met (rw e at h))))
    (λ e.
    let p = named_first r.initial v.symbol d _ r.edges n (rw e at h) in
    record {
      some_event = lt-ltb 0 (suc (length vs)) (omega arith);
      not_accepted = e;
      edge = p.edge;
      lowest = record { leaves_one = p.leaves_one; none_lower = p.none_lower };
      answer_is = p.answer_is;
    })

of_held : (r : Rule) (d : ℕ) (vs : List Event) (n : ℕ) → Held r d vs n → held_back r d vs ≡ Some n
unfolding held_back
of_held r d [] n p = absurd (omega (arith, ltb-true 0 0 p.some_event))
of_held r d (v ∷ vs) n p =
    rw p.not_accepted
    (first_named r.initial v.symbol d _ r.edges p.edge n p.lowest.leaves_one p.lowest.none_lower
    p.answer_is)

-- an answer that does not hold names a position
names_one : (g : Option ℕ) → not (is_met g) ≡ true → g ≡ Some (failing_position g)
names_one None h = no_way h
names_one (Some n) h = refl

pub held_are : HeldAre
held_are = record { named = named; names = names }
  where
    named :
        (head : Head) (edges : List ℕ) (d : ℕ) (symbols stamps : List ℕ) (branch : Branch)
        → RunsBranches head edges d symbols stamps branch
        → branch.held ≡ true
        → Held (rule_in head edges) d (events_of symbols stamps) branch.position
    named head edges d symbols stamps branch p h =
        let f : Refusal = input_refusal head edges d most_branch_events symbols stamps in
        let g : Option ℕ = held_back (rule_in head edges) d (events_of symbols stamps) in
        let both : (passes f && not (is_met g)) ≡ true = sym (ap (λ (x : Branch). x.held) p.answer_is) ∙ h in
        let at : branch.position ≡ failing_position g =
        ap (λ (x : Branch). x.position) p.answer_is ∙ rw (and_left (passes f) (not (is_met g)) both) in
        held_of (rule_in head edges) d (events_of symbols stamps) branch.position
        (names_one g (and_right (passes f) (not (is_met g)) both) ∙ ap (λ (n : ℕ). Some n) (sym at))

    names :
        (head : Head) (edges : List ℕ) (d : ℕ) (symbols stamps : List ℕ) (branch : Branch) (n : ℕ)
        → RunsBranches head edges d symbols stamps branch
        → branch.number ≡ 0
        → Held (rule_in head edges) d (events_of symbols stamps) n
        → (branch.held ≡ true) × (branch.position ≡ n)
    names head edges d symbols stamps branch n p z h =
        let f : Refusal = input_refusal head edges d most_branch_events symbols stamps in
        let pass : passes f ≡ true =
        eq-eqb f.number 0 (sym (ap (λ (x : Branch). x.number) p.answer_is) ∙ z) in
        let g : held_back (rule_in head edges) d (events_of symbols stamps) ≡ Some n =
        of_held (rule_in head edges) d (events_of symbols stamps) n h in (
          ap (λ (x : Branch). x.held) p.answer_is ∙ rw (pass, g),
          ap (λ (x : Branch). x.position) p.answer_is ∙ rw (pass, g),
        )
