-- Where the next atom of a text stands: in one of kind 5 right here, in one of kind 6 at the next mark of an atom.
use mathlib.Core.Path.{◌≡◌, refl, sym, ◌∙◌, ap, ap₂}
use mathlib.Core.List.{List, [], ◌∷◌}
use Prim.Native.Nat.{ℕ, zero, suc, ◌+◌, ◌-◌, ◌≤◌, ◌<◌}
use native.Mathlib.Omega.{arith}
use lib.Dec.{eqb}
use lib.ListN.{length, get_or, drop, length-drop}
use lib.Seq.{drop-drop, get_or-drop, drop-length}
use borrow.Author.Tests.{eqb-true}
use Rattle.std.specs.Prelude.{Some, None, position}
use Rattle.std.specs.List.{position_or_len}
use Rattle.std.proofs.lemmas.Grind.{common_steps}
use Rattle.std.proofs.lemmas.Bool.{not-true}
use Rattle.std.proofs.lemmas.List.Quantifiers.{position-Some}
use Rattle.std.proofs.lemmas.List.Sums.{prefix_len_passes}
use mathlib.Core.Bool.{false, not}
use Rattle.model.specs.Texts.{Atom, atom_at, plain_atoms, atoms_past}
use Rattle.model.proofs.Texts.{atoms_mark}
use Rattle.texts.specs.Atoms.{NextAtom}
use Rattle.texts.proofs.Marks.{mark_left, atom_left}

-- by what the atoms from a place on are
pub none_left :
    (atoms : List ℕ → List Atom) (text : List ℕ) (from : ℕ) → atoms (drop from text) ≡ []
    → NextAtom atoms text from (length text + 1)
none_left atoms text from e = record {
  none = λ h. e;
  one = λ h. absurd (omega arith);
  forward = λ h. absurd (omega arith);
}

pub one_left :
    (atoms : List ℕ → List Atom) (text : List ℕ) (from r : ℕ) → r ≤ length text → from ≤ r
    → atoms (drop from text) ≡ atom_at r text ∷ atoms (drop (r + 3) text)
    → NextAtom atoms text from r
one_left atoms text from r h f e = record {
  none = λ k. absurd (omega arith);
  one = λ k. e;
  forward = λ k. f;
}

-- kind 5: three numbers an atom
pub plain_none : (t : List ℕ) → length t < 3 → plain_atoms t ≡ []
plain_none [] h = refl
plain_none (c ∷ []) h = refl
plain_none (c ∷ r ∷ []) h = refl
plain_none (c ∷ r ∷ k ∷ t) h = absurd (omega arith)

plain_one : (t : List ℕ) → 3 ≤ length t → plain_atoms t ≡ atom_at 0 t ∷ plain_atoms (drop 3 t)
plain_one [] h = absurd (omega arith)
plain_one (c ∷ []) h = absurd (omega arith)
plain_one (c ∷ r ∷ []) h = absurd (omega arith)
plain_one (c ∷ r ∷ k ∷ t) h = refl

pub plain_front :
    (text : List ℕ) (from : ℕ) → 3 ≤ length text - from
    → plain_atoms (drop from text) ≡ atom_at from text ∷ plain_atoms (drop (from + 3) text)
plain_front text from k =
    plain_one (drop from text) (omega (arith, length-drop from text))
    ∙ ap₂ (λ (a : Atom) (t : List ℕ). a ∷ plain_atoms t) (atom_left text from) (drop-drop 3 from text)

-- kind 6: the numbers before the first mark of an atom pass
atoms_past_lem : (n : ℕ) (t : List ℕ) → atoms_past n t ≡ atoms_past 0 (drop n t)
unfolding atoms_past
atoms_past_lem zero t = refl
atoms_past_lem (suc n) [] = refl
atoms_past_lem (suc n) (x ∷ t) = atoms_past_lem n t

passed_over :
    (k : ℕ) (t : List ℕ) → k ≤ length t → ((j : ℕ) → j < k → eqb (get_or t j 0) 3 ≡ false)
    → atoms_past 0 t ≡ atoms_past 0 (drop k t)
passed_over zero t h f = refl
passed_over (suc k) [] h f = refl
passed_over (suc k) (x ∷ t) h f =
    atoms_mark x t ∙ rw (f 0 (omega arith)) (passed_over k t (omega arith) (λ j l. f (suc j) (omega arith)))

no_atoms_in : (t : List ℕ) → ((j : ℕ) → j < length t → eqb (get_or t j 0) 3 ≡ false) → atoms_past 0 t ≡ []
unfolding atoms_past
no_atoms_in t f = passed_over (length t) t (omega arith) f ∙ ap (atoms_past 0) (drop-length t)

module _ (text : List ℕ) (from : ℕ) where
  pub atom_passed :
      (k : ℕ) → position (λ (n : ℕ). eqb n 3) (drop from text) ≡ Some k
      → NextAtom (atoms_past 0) text from (from + k + 1)
  atom_passed k e =
      let some = position-Some (λ (n : ℕ). eqb n 3) (drop from text) k 0 e in
      let inside : from + k < length text = omega (arith, some.0, length-drop from text) in
      let mark : 3 ≡ get_or text (from + k) 0 = sym (sym (get_or-drop from text k 0) ∙ eqb-true _ 3 some.1) in
      let past : from + k + 1 + 3 ≡ from + k + (1 + 3) = omega arith in
      one_left (atoms_past 0) text from (from + k + 1) (omega arith) (omega arith)
      (passed_over k (drop from text) (omega (arith, some.0)) some.2
      ∙ (ap (atoms_past 0) (drop-drop k from text ∙ mark_left text (from + k) 3 inside mark)
      ∙ (atoms_mark 3 (drop (from + k + 1) text)
      ∙ ap₂ (λ (a : Atom) (as_are : List Atom). a ∷ as_are) (atom_left text (from + k + 1))
      (atoms_past_lem 3 (drop (from + k + 1) text)
      ∙ ap (atoms_past 0) (drop-drop 3 (from + k + 1) text)))))

  pub all_passed :
      position (λ (n : ℕ). eqb n 3) (drop from text) ≡ None → NextAtom (atoms_past 0) text from (length text + 1)
  all_passed e =
      let long : length (drop from text) ≤ position_or_len (λ (n : ℕ). eqb n 3) (drop from text) =
      grind (arith, common_steps) in
      none_left (atoms_past 0) text from
      (no_atoms_in (drop from text)
      (λ j l. not-true _ (prefix_len_passes (λ (n : ℕ). not (eqb n 3)) (drop from text) j 0 (omega arith))))
