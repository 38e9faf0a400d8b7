-- The levels of a text are a stack: at a depth, the outermost level goes on behind as many levels as are open.
use mathlib.Core.Path.{◌≡◌, refl, sym, ◌∙◌, ap, ap₂}
use mathlib.Core.List.{List, [], ◌∷◌}
use mathlib.Core.Logic.{◌⊎◌, inl, inr}
use Prim.Native.Nat.{ℕ, zero, suc, ◌+◌, ◌-◌, ◌≤◌, ◌<◌}
use native.Mathlib.Omega.{arith}
use native.Mathlib.Numerals.{add-one}
use lib.Dec.{leb}
use lib.ListN.{length, get_or, drop, drop_of_length-le, length-drop}
use lib.Seq.{drop-drop}
use borrow.Author.Tests.{leb-true, leb-false}
use Rattle.model.specs.Texts.{Atom, atom_at, Members, end, outer, first, rest, with_atom, with_group, levels_past}
use Rattle.model.specs.Texts.{levels}
use Rattle.model.proofs.Logic.{by_test}
use Rattle.texts.specs.declared.Mark.{Mark}
use Rattle.texts.specs.declared.Mark.TheVariants.{OpensAll, OpensAny, IsAtom, Closes, Other}
use Rattle.texts.specs.Marks.{mark_of}
use Rattle.texts.specs.Atoms.{NextAtom, outermost}
use Rattle.texts.proofs.Marks.{after, mark_front, after_is, no_numbers, atom_left, levels_at, levels_by}
use Rattle.texts.proofs.Found.{none_left, one_left}

-- the atoms of the level that so many open levels stand before
abbrev rests : ℕ → List Members → List Members
rests zero ms = ms
rests (suc n) ms = rests n (rest ms)

abbrev pub behind : ℕ → List ℕ → List Atom
behind depth t = outer (first (rests depth (levels t)))

-- what is left of a text stands at its end
at_end : (text : List ℕ) (from : ℕ) → drop from text ≡ drop (length text - (length text - from)) text
at_end text from =
    by_test (leb from (length text))
    (λ y.
    let g : from ≤ length text = leb-true from (length text) y in
    let p : from ≡ length text - (length text - from) = omega arith in
    ap (λ (n : ℕ). drop n text) p)
    (λ y.
    let g : length text < from = leb-false from (length text) y in
    drop_of_length-le text (omega arith) ∙ sym (drop_of_length-le text (omega arith)))

-- The outermost level from a place on goes on behind the levels that are open before what is left of the text.
pub record Deep (text : List ℕ) (from : ℕ) (left : List ℕ) (depth : ℕ) : Type 0 where
  pub inside : length left ≤ length text - from
  pub left_is : left ≡ drop (length text - length left) text
  pub few : depth + length left ≤ length text
  pub rest_is : behind depth left ≡ outermost (drop from text)

-- with fewer numbers it does, too
pub fewer :
    (text left : List ℕ) (k : ℕ) → length left ≤ length text → left ≡ drop (length text - length left) text
    → drop k left ≡ drop (length text - length (drop k left)) text
fewer text left k h e =
    by_test (leb k (length left))
    (λ y.
    let g : k ≤ length left = leb-true k (length left) y in
    let p : length text - length left + k ≡ length text - length (drop k left) = omega (arith, length-drop k left) in
    ap (drop k) e ∙ (drop-drop k (length text - length left) text ∙ ap (λ (n : ℕ). drop n text) p))
    (λ y.
    let g : length left < k = leb-false k (length left) y in
    drop_of_length-le left (omega arith)
    ∙ sym (drop_of_length-le text (omega (arith, length-drop k left))))

pub deep_start : (text left : List ℕ) (from : ℕ) → left ≡ drop from text → Deep text from left 0
deep_start text left from e =
    let n : length left ≡ length text - from = ap length e ∙ length-drop from text in
    record {
      inside = omega arith;
      left_is = e ∙ (at_end text from ∙ ap (λ (k : ℕ). drop (length text - k) text) (sym n));
      few = omega arith;
      rest_is = ap outermost e;
    }

-- a mark behind open levels
behind_atom :
    (depth : ℕ) (a : Atom) (ms : List Members) → (depth ≡ 0 → ⊥)
    → outer (first (rests depth (with_atom a ms))) ≡ outer (first (rests depth ms))
behind_atom zero a ms n = absurd (n refl)
behind_atom (suc depth) a ms n = refl

behind_open :
    (depth : ℕ) (ms : List Members)
    → outer (first (rests depth (with_group ms))) ≡ outer (first (rests (depth + 1) ms))
behind_open zero ms = refl
behind_open (suc depth) ms = rw (add-one (suc depth))

behind_close :
    (depth : ℕ) (ms : List Members) → (depth ≡ 0 → ⊥)
    → outer (first (rests depth (end ∷ ms))) ≡ outer (first (rests (depth - 1) ms))
behind_close zero ms n = absurd (n refl)
behind_close (suc depth) ms n = let k : suc depth - 1 ≡ depth = omega arith in rw k

behind_none : (depth : ℕ) → outer (first (rests depth [])) ≡ []
behind_none zero = refl
behind_none (suc depth) = behind_none depth

-- what the marks that open, and those that close, say of the levels
opened :
    {mark : Mark} {as_are : List Atom} (depth : ℕ) (t : List ℕ) → (mark ≡ OpensAll) ⊎ (mark ≡ OpensAny)
    → outer (first (rests depth (levels_at mark t))) ≡ as_are
    → outer (first (rests depth (with_group (levels t)))) ≡ as_are
opened depth t (inl o) e = rw o at e
opened depth t (inr o) e = rw o at e

shut :
    {mark : Mark} {as_are : List Atom} (depth : ℕ) (t : List ℕ) → (mark ≡ Closes) ⊎ (mark ≡ Other)
    → outer (first (rests depth (levels_at mark t))) ≡ as_are
    → outer (first (rests depth (end ∷ levels t))) ≡ as_are
shut depth t (inl o) e = rw o at e
shut depth t (inr o) e = rw o at e

module _
    {text left : List ℕ} {from depth : ℕ} (inv : Deep text from left depth) (h : 1 ≤ length left)
  where
    after_length : length (after left) ≡ length left - 1
    after_length = ap length (after_is left) ∙ length-drop 1 left

    after_at : after left ≡ drop (length text - length (after left)) text
    after_at = rw (after_is left) (fewer text left 1 (omega (arith, inv.few)) inv.left_is)

    pub shorter : length (after left) ≤ length text
    shorter = omega (arith, after_length, inv.few)

    module _ {mark : Mark} (e : mark ≡ mark_of (get_or left 0 0)) where
      -- what the levels at the mark say of the outermost one
      level_is : outer (first (rests depth (levels_at mark (after left)))) ≡ outermost (drop from text)
      level_is =
          sym
          (ap (λ (ms : List Members). outer (first (rests depth ms)))
          (ap levels (mark_front left h) ∙ levels_by mark (get_or left 0 0) (after left) e))
          ∙ inv.rest_is

    module _ (e : IsAtom ≡ mark_of (get_or left 0 0)) where
      pub outer_found : depth ≡ 0 → NextAtom outermost text from (length text - length (after left))
      outer_found z =
          let r : ℕ = length text - length (after left) in
          let here : atom_at 0 (after left) ∷ outermost (drop 3 (after left)) ≡ outermost (drop from text) =
          rw z at (level_is e) in
          one_left outermost text from r (omega arith) (omega (arith, after_length, inv.inside, inv.few))
          (sym here
          ∙ ap₂ (λ (a : Atom) (t : List ℕ). a ∷ outermost t) (ap (atom_at 0) after_at ∙ atom_left text r)
          (ap (drop 3) after_at ∙ drop-drop 3 r text))

      pub deep_atom :
          (next : List ℕ) → next ≡ drop 3 (after left) → (depth ≡ 0 → ⊥) → Deep text from next depth
      deep_atom next q d =
          rw q
          (record {
            inside = omega (arith, after_length, inv.inside, length-drop 3 (after left));
            left_is = fewer text (after left) 3 shorter after_at;
            few = omega (arith, after_length, inv.few, length-drop 3 (after left));
            rest_is = sym (behind_atom depth (atom_at 0 (after left)) (levels (drop 3 (after left))) d) ∙ level_is e;
          })

    module _ {mark : Mark} (e : mark ≡ mark_of (get_or left 0 0)) where
      pub deep_open : (mark ≡ OpensAll) ⊎ (mark ≡ OpensAny) → Deep text from (after left) (depth + 1)
      deep_open o = record {
        inside = omega (arith, after_length, inv.inside);
        left_is = after_at;
        few = omega (arith, after_length, inv.few);
        rest_is = sym (behind_open depth (levels (after left))) ∙ opened depth (after left) o (level_is e);
      }

      pub outer_closed :
          (mark ≡ Closes) ⊎ (mark ≡ Other) → depth ≡ 0 → NextAtom outermost text from (length text + 1)
      outer_closed o z =
          let here : ◌≡◌ {A = List Atom} [] (outermost (drop from text)) =
          rw z at (shut depth (after left) o (level_is e)) in
          none_left outermost text from (sym here)

      pub deep_close : (mark ≡ Closes) ⊎ (mark ≡ Other) → (depth ≡ 0 → ⊥) → Deep text from (after left) (depth - 1)
      deep_close o d = record {
        inside = omega (arith, after_length, inv.inside);
        left_is = after_at;
        few = omega (arith, after_length, inv.few);
        rest_is = sym (behind_close depth (levels (after left)) d) ∙ shut depth (after left) o (level_is e);
      }

pub deep_end :
    {text left : List ℕ} {from depth : ℕ} → Deep text from left depth → length left < 1
    → NextAtom outermost text from (length text + 1)
unfolding levels_past
deep_end {text = text} {left = left} {from = from} {depth = depth} inv h =
    none_left outermost text from
    (sym inv.rest_is
    ∙ (ap (λ (t : List ℕ). outer (first (rests depth (levels t)))) (no_numbers left h) ∙ behind_none depth))
