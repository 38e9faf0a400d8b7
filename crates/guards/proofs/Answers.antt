-- A guard's answer, member by member: those passed hold, so the answer is what those to come give. One invariant for
-- the atoms of kind 5 and the outermost level of kind 6.
use Rattle.std.specs.Prelude.{Some, None}
use denote.Bor.{Bor}
use mathlib.Core.Path.{◌≡◌, refl, sym, ◌∙◌, ap, subst}
use mathlib.Core.Bool.{Bool, true, false}
use mathlib.Core.List.{List, [], ◌∷◌}
use mathlib.Core.Logic.{◌⊎◌}
use Prim.Native.Nat.{ℕ, ◌+◌, ◌≤◌, ◌<◌}
use native.Mathlib.Omega.{arith}
use native.Mathlib.Numerals.{add-one}
use lib.ListN.{length, get_or, drop, length-drop}
use Rattle.model.specs.Basics.{pick}
use Rattle.model.specs.Texts.{Atom, atom_at, Members, end, plain_atoms, flat, first, levels_past, members_in}
use Rattle.model.specs.Guards.{first_failing}
use Rattle.texts.specs.declared.Mark.{Mark}
use Rattle.texts.specs.declared.Mark.TheVariants.{Closes, Other}
use Rattle.texts.specs.Marks.{mark_of}
use Rattle.texts.proofs.Marks.{after_atom, after_atom_is, no_numbers}
use Rattle.texts.proofs.Found.{plain_none}
use Rattle.guards.proofs.Levels.{Member, closed}

-- the members that a text of kind 5 spells
abbrev pub plain_in : List ℕ → Members
plain_in text = flat (plain_atoms text)

-- What the members to come answer, in what is left of the text, is the guard's answer.
pub record Holding (spell : List ℕ → Members) (test : Atom → Bool) (text left : List ℕ) (position : ℕ) : Type 0 where
  pub few : position + length left ≤ length text
  pub answer_is : first_failing position test (spell left) ≡ first_failing 0 test (spell text)

pub holding_start : (spell : List ℕ → Members) (test : Atom → Bool) (text : List ℕ) → Holding spell test text text 0
holding_start spell test text = record { few = omega arith; answer_is = refl }

module _
    {spell : List ℕ → Members} {test : Atom → Bool} {text left : List ℕ} {position : ℕ}
    (inv : Holding spell test text left position)
  where
    -- the next member holds or does not
    module _
        {met : Bool} (past : List ℕ)
        (answer :
        first_failing position test (spell left)
        ≡ pick met (first_failing (position + 1) test (spell past)) (Some position))
      where
        pub holding_next : length past < length left → met ≡ true → Holding spell test text past (position + 1)
        holding_next shorter y = record {
          few = omega (arith, inv.few);
          answer_is = sym (rw y at answer) ∙ inv.answer_is;
        }

        pub failing : met ≡ false → Some position ≡ first_failing 0 test (spell text)
        failing y = sym (rw y at answer) ∙ inv.answer_is

    -- no member is left
    pub holding_end : spell left ≡ end → None ≡ first_failing 0 test (spell text)
    holding_end k = sym (ap (first_failing position test) k) ∙ inv.answer_is

-- a member of kind 6
module _
    {test : Atom → Bool} {text left : List ℕ} {position : ℕ} (inv : Holding members_in test text left position)
  where
    pub member_next :
        {met : Bool} {past next : Bor (List ℕ)} → next ≡ past → Member true test left met past.now → met ≡ true
        → Holding members_in test text next.now (position + 1)
    member_next {past = past} q member y =
        subst (λ (b : Bor (List ℕ)). Holding members_in test text b.now (position + 1)) (sym q)
        (holding_next inv past.now (member.first_is position refl) member.forward y)

    pub member_fails :
        {met : Bool} {past : List ℕ} → Member true test left met past → met ≡ false
        → Some position ≡ first_failing 0 test (members_in text)
    member_fails {past = past} member y = failing inv past (member.first_is position refl) y

-- an atom of kind 5
plain_first : (t : List ℕ) → 3 ≤ length t → plain_in t ≡ flat (atom_at 0 t ∷ plain_atoms (drop 3 t))
plain_first [] h = absurd (omega arith)
plain_first (c ∷ []) h = absurd (omega arith)
plain_first (c ∷ r ∷ []) h = absurd (omega arith)
plain_first (c ∷ r ∷ k ∷ t) h = refl

pub atom_shorter : (left : List ℕ) → 3 ≤ length left → length (after_atom left) < length left
atom_shorter left h = rw (after_atom_is left) (omega (arith, length-drop 3 left))

pub atom_answers :
    (left : List ℕ) (test : Atom → Bool) (met : Bool) (n : ℕ) → 3 ≤ length left → met ≡ test (atom_at 0 left)
    → first_failing n test (plain_in left)
    ≡ pick met (first_failing (n + 1) test (plain_in (after_atom left))) (Some n)
atom_answers left test met n h t = rw (plain_first left h, after_atom_is left, t, add-one n)

pub plain_over : (left : List ℕ) → length left < 3 → plain_in left ≡ end
plain_over left h = ap flat (plain_none left h)

-- where the outermost level ends
pub members_closed :
    {mark : Mark} (left : List ℕ) → 1 ≤ length left → (mark ≡ Closes) ⊎ (mark ≡ Other)
    → mark ≡ mark_of (get_or left 0 0)
    → members_in left ≡ end
members_closed left h o e = ap first (closed left h o e)

pub members_over : (left : List ℕ) → length left < 1 → members_in left ≡ end
unfolding levels_past
members_over left h = ap members_in (no_numbers left h)
