-- A mark and the number that it is read from; what the levels of a text are at a mark.
use mathlib.Core.Path.{◌≡◌, refl, sym, ◌∙◌, ap, subst}
use mathlib.Core.List.{List, [], ◌∷◌}
use Prim.Native.Nat.{ℕ, zero, suc, ◌+◌, ◌-◌, ◌≤◌, ◌<◌}
use native.Mathlib.Omega.{arith}
use lib.ListN.{length, get_or, take, drop, length-drop}
use lib.Seq.{take_all, drop-cons, get_or-drop}
use borrow.Author.Tests.{ne_eqb}
use Rattle.model.specs.Texts.{Members, end, atom_at, with_atom, with_group, levels_past, levels}
use Rattle.model.proofs.Texts.{levels_mark}
use Rattle.texts.specs.declared.Mark.{Mark}
use Rattle.texts.specs.declared.Mark.TheVariants.{OpensAll, OpensAny, IsAtom, Closes, Other}
use Rattle.texts.specs.Marks.{mark_of}

-- what stands behind a text's first number, as a pattern lends it, and past an atom's numbers
abbrev pub after : List ℕ → List ℕ
after t = take (length t - 1) (drop 1 t)

abbrev pub after_atom : List ℕ → List ℕ
after_atom t = take (length t - 3) (drop 3 t)

pub mark_front : (t : List ℕ) → 1 ≤ length t → t ≡ get_or t 0 0 ∷ after t
mark_front [] h = absurd (omega arith)
mark_front (x ∷ t) h = ap (λ (l : List ℕ). x ∷ l) (sym (take_all (length (x ∷ t) - 1) t (omega arith)))

pub after_is : (t : List ℕ) → after t ≡ drop 1 t
after_is t = take_all (length t - 1) (drop 1 t) (omega (arith, length-drop 1 t))

pub after_atom_is : (t : List ℕ) → after_atom t ≡ drop 3 t
after_atom_is t = take_all (length t - 3) (drop 3 t) (omega (arith, length-drop 3 t))

pub no_numbers : (t : List ℕ) → length t < 1 → t ≡ []
no_numbers [] h = refl
no_numbers (x ∷ t) h = absurd (omega arith)

-- what is left of a text at a place, and the numbers of an atom there
pub mark_left :
    (text : List ℕ) (at mark : ℕ) → at < length text → mark ≡ get_or text at 0
    → drop at text ≡ mark ∷ drop (at + 1) text
mark_left text at mark h e =
    let k : suc at ≡ at + 1 = omega arith in
    rw (e, ← k) (drop-cons text at 0 h)

pub atom_left : (text : List ℕ) (at : ℕ) → atom_at 0 (drop at text) ≡ atom_at at text
atom_left text at =
    let z : at + 0 ≡ at = omega arith in
    rw (get_or-drop at text 0 0, get_or-drop at text 1 0, get_or-drop at text 2 0, z)

-- the numbers that are read as a mark
abbrev pub ReadAs : Mark → ℕ → Type 0
ReadAs OpensAll n = n ≡ 1
ReadAs OpensAny n = n ≡ 2
ReadAs IsAtom n = n ≡ 3
ReadAs Closes n = n ≡ 4
ReadAs Other n = (n ≡ 1 → ⊥) × (n ≡ 2 → ⊥) × (n ≡ 3 → ⊥) × (n ≡ 4 → ⊥)

other_number : (n : ℕ) → 4 < n → mark_of n ≡ Other
other_number n h =
    rw (
      ne_eqb n 1 (omega arith),
      ne_eqb n 2 (omega arith),
      ne_eqb n 3 (omega arith),
      ne_eqb n 4 (omega arith),
    )

past_marks : (n : ℕ) → 4 < n → ReadAs Other n
past_marks n h =
    (λ e. absurd (omega arith), λ e. absurd (omega arith), λ e. absurd (omega arith), λ e. absurd (omega arith))

mark_read : (n : ℕ) → ReadAs (mark_of n) n
mark_read zero =
    (λ e. absurd (omega arith), λ e. absurd (omega arith), λ e. absurd (omega arith), λ e. absurd (omega arith))
mark_read (suc zero) = refl
mark_read (suc (suc zero)) = refl
mark_read (suc (suc (suc zero))) = refl
mark_read (suc (suc (suc (suc zero)))) = refl
mark_read (suc (suc (suc (suc (suc n))))) =
    let m : ℕ = suc (suc (suc (suc (suc n)))) in
    subst (λ (k : Mark). ReadAs k m) (sym (other_number m (omega arith))) (past_marks m (omega arith))

pub read_as : {mark : Mark} (n : ℕ) → mark ≡ mark_of n → ReadAs mark n
read_as n e = subst (λ (k : Mark). ReadAs k n) (sym e) (mark_read n)

-- a mark that opens is one number
pub same_number : (n k : ℕ) → mark_of n ≡ mark_of k → 1 ≤ k → k ≤ 2 → n ≡ k
same_number n zero e h g = absurd (omega arith)
same_number n (suc zero) e h g = read_as n (sym e)
same_number n (suc (suc zero)) e h g = read_as n (sym e)
same_number n (suc (suc (suc k))) e h g = absurd (omega arith)

-- the levels at a mark, by what stands behind it
abbrev pub levels_at : Mark → List ℕ → List Members
levels_at OpensAll t = with_group (levels t)
levels_at OpensAny t = with_group (levels t)
levels_at IsAtom t = with_atom (atom_at 0 t) (levels (drop 3 t))
levels_at Closes t = end ∷ levels t
levels_at Other t = end ∷ levels t

levels_past_lem : (n : ℕ) (t : List ℕ) → levels_past n t ≡ levels (drop n t)
unfolding levels_past
levels_past_lem zero t = refl
levels_past_lem (suc n) [] = refl
levels_past_lem (suc n) (x ∷ t) = levels_past_lem n t

pub levels_by : (mark : Mark) (n : ℕ) (t : List ℕ) → mark ≡ mark_of n → levels (n ∷ t) ≡ levels_at mark t
levels_by OpensAll n t e = levels_mark n t ∙ rw (read_as n e)
levels_by OpensAny n t e = levels_mark n t ∙ rw (read_as n e)
levels_by IsAtom n t e = levels_mark n t ∙ rw (read_as n e, levels_past_lem 3 t)
levels_by Closes n t e = levels_mark n t ∙ rw (read_as n e)
levels_by Other n t e =
    let r = read_as n e in
    levels_mark n t ∙ rw (ne_eqb n 3 r.2, ne_eqb n 1 r.0, ne_eqb n 2 r.1)
