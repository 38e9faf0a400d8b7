-- A level while its text is read: a member stands in front of what is left, and what stands for the members passed,
-- together with the members to come, is what stands for all. One invariant for all-of and any-of.
use Rattle.std.specs.Prelude.{Some}
use mathlib.Core.Path.{◌≡◌, refl, sym, ◌∙◌, ap}
use mathlib.Core.Bool.{Bool, true, false, not}
use mathlib.Core.List.{List, [], ◌∷◌}
use mathlib.Core.Logic.{◌⊎◌, inl, inr}
use Prim.Native.Nat.{ℕ, ◌+◌, ◌-◌, ◌≤◌, ◌<◌}
use native.Mathlib.Omega.{arith}
use native.Mathlib.Numerals.{add-one}
use lib.ListN.{length, get_or, take, drop, length-drop}
use lib.Seq.{take_all, drop-length}
use Rattle.model.specs.Basics.{pick}
use Rattle.model.specs.Texts.{Atom, atom_at, end, rest, with_atom, with_group, levels_past, levels, members_in}
use Rattle.model.specs.Guards.{together, level_holds, first_failing}
use Rattle.texts.specs.declared.Mark.{Mark}
use Rattle.texts.specs.declared.Mark.TheVariants.{OpensAll, OpensAny, IsAtom, Closes, Other}
use Rattle.texts.specs.Marks.{mark_of}
use Rattle.texts.proofs.Marks.{after, mark_front, after_is, no_numbers, levels_at, levels_by}
use Rattle.texts.proofs.Outermost.{fewer}
use Rattle.guards.specs.declared.groups.Group.{Group}
use Rattle.guards.specs.Groups.{Evaluated}

-- members together
together_assoc : (all a b c : Bool) → together all a (together all b c) ≡ together all (together all a b) c
together_assoc true true b c = refl
together_assoc true false b c = refl
together_assoc false true b c = refl
together_assoc false false b c = refl

together_none : (all a : Bool) → together all a all ≡ a
together_none true true = refl
together_none true false = refl
together_none false true = refl
together_none false false = refl

together_start : (all a : Bool) → together all all a ≡ a
together_start true a = refl
together_start false a = refl

-- A member stands in front; it holds or does not, and the others follow in what is left past it. Of an all-of, it also
-- tells whether it is the first that does not hold.
pub record Member (all : Bool) (test : Atom → Bool) (left : List ℕ) (met : Bool) (past : List ℕ) : Type 0 where
  pub forward : length past < length left
  pub left_is : (k : ℕ) × (past ≡ drop k (after left))
  pub goes_on : rest (levels left) ≡ rest (levels past)
  pub level_is : level_holds all test (members_in left) ≡ together all met (level_holds all test (members_in past))
  pub first_is :
      (n : ℕ) → all ≡ true
      → first_failing n test (members_in left)
      ≡ pick met (first_failing (n + 1) test (members_in past)) (Some n)

module _ (left : List ℕ) (h : 1 ≤ length left) where
  after_length : length (after left) ≡ length left - 1
  after_length = ap length (after_is left) ∙ length-drop 1 left

  levels_here :
      {mark : Mark} → mark ≡ mark_of (get_or left 0 0) → levels left ≡ levels_at mark (after left)
  levels_here {mark = mark} e = ap levels (mark_front left h) ∙ levels_by mark (get_or left 0 0) (after left) e

  pub atom_member :
      (all : Bool) (test : Atom → Bool) (met : Bool) (past : List ℕ) (a : Atom) → IsAtom ≡ mark_of (get_or left 0 0)
      → met ≡ test a → a ≡ atom_at 0 (after left) → past ≡ drop 3 (after left)
      → Member all test left met past
  atom_member all test met past a e t q p =
      let k : levels left ≡ with_atom a (levels past) = rw (p, q) (levels_here e) in
      record {
        forward = rw p (omega (arith, after_length, length-drop 3 (after left)));
        left_is = (3, p);
        goes_on = rw k;
        level_is = rw (k, t);
        first_is = λ n y. rw (k, t, add-one n);
      }

  opened :
      {mark : Mark} → (mark ≡ OpensAll) ⊎ (mark ≡ OpensAny) → mark ≡ mark_of (get_or left 0 0)
      → levels left ≡ with_group (levels (after left))
  opened (inl o) e = levels_here (sym o ∙ e)
  opened (inr o) e = levels_here (sym o ∙ e)

  pub group_member :
      {mark : Mark} (all : Bool) (test : Atom → Bool) (inner : Group) → (mark ≡ OpensAll) ⊎ (mark ≡ OpensAny)
      → mark ≡ mark_of (get_or left 0 0) → Evaluated (not all) test (after left) inner
      → Member all test left inner.holds (take (length (after left) - inner.past) (drop inner.past (after left)))
  group_member all test inner o e v =
      let k = opened o e in
      let p : take (length (after left) - inner.past) (drop inner.past (after left)) ≡ drop inner.past (after left) =
      take_all (length (after left) - inner.past) (drop inner.past (after left))
      (omega (arith, length-drop inner.past (after left))) in
      rw p
      (record {
        forward = omega (arith, after_length, length-drop inner.past (after left));
        left_is = (inner.past, refl);
        goes_on = rw (k, v.goes_on);
        level_is = rw (k, v.goes_on, v.holds_is);
        first_is = λ n y. rw (k, v.goes_on, v.holds_is, y, add-one n);
      })

  pub closed :
      {mark : Mark} → (mark ≡ Closes) ⊎ (mark ≡ Other) → mark ≡ mark_of (get_or left 0 0)
      → levels left ≡ end ∷ levels (after left)
  closed (inl o) e = levels_here (sym o ∙ e)
  closed (inr o) e = levels_here (sym o ∙ e)

-- A level under way: the members up to what is left, which stands at the text's end, stand for `holds`.
pub record Passed (all : Bool) (test : Atom → Bool) (text : List ℕ) (holds : Bool) (left : List ℕ) : Type 0 where
  pub in_reach : length left ≤ length text
  pub left_is : left ≡ drop (length text - length left) text
  pub holds_is :
      level_holds all test (members_in text) ≡ together all holds (level_holds all test (members_in left))
  pub goes_on : rest (levels left) ≡ rest (levels text)

pub passed_start : (all : Bool) (test : Atom → Bool) (text : List ℕ) → Passed all test text all text
passed_start all test text =
    let z : length text - length text ≡ 0 = omega arith in
    record {
      in_reach = omega arith;
      left_is = rw z;
      holds_is = sym (together_start all (level_holds all test (members_in text)));
      goes_on = refl;
    }

module _
    {all : Bool} {test : Atom → Bool} {text left : List ℕ} {holds : Bool} (inv : Passed all test text holds left)
    (h : 1 ≤ length left)
  where
    after_reach : length (after left) ≤ length text
    after_reach = omega (arith, after_length left h, inv.in_reach)

    after_at : after left ≡ drop (length text - length (after left)) text
    after_at = rw (after_is left) (fewer text left 1 inv.in_reach inv.left_is)

    pub passed_member :
        {met : Bool} {past : List ℕ} → Member all test left met past
        → Passed all test text (together all holds met) past
    passed_member {met = met} {past = past} m = record {
      in_reach = omega (arith, inv.in_reach, m.forward);
      left_is = rw m.left_is.1 (fewer text (after left) m.left_is.0 after_reach after_at);
      holds_is =
          inv.holds_is ∙ rw m.level_is (together_assoc all holds met (level_holds all test (members_in past)));
      goes_on = sym m.goes_on ∙ inv.goes_on;
    }

    pub passed_close :
        {mark : Mark} → (mark ≡ Closes) ⊎ (mark ≡ Other) → mark ≡ mark_of (get_or left 0 0)
        → Evaluated all test text (record { holds = holds; past = length text - length (after left) })
    passed_close o e =
        let k = closed left h o e in
        record {
          holds_is = sym (inv.holds_is ∙ rw k (together_none all holds));
          goes_on = ap levels (sym after_at) ∙ (sym (ap rest k) ∙ inv.goes_on);
          in_reach = omega arith;
        }

pub passed_end :
    {all : Bool} {test : Atom → Bool} {text left : List ℕ} {holds : Bool} → Passed all test text holds left
    → length left < 1
    → Evaluated all test text (record { holds = holds; past = length text })
unfolding levels_past
passed_end {all = all} {text = text} {left = left} {holds = holds} inv h =
    let k : left ≡ [] = no_numbers left h in
    record {
      holds_is = sym (inv.holds_is ∙ rw k (together_none all holds));
      goes_on = rw (drop-length text) (rw k at inv.goes_on);
      in_reach = omega arith;
    }
