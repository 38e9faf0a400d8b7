-- What an edge's text spells: every atom of the guard is one of the edge's atoms, and the outermost atoms are members
-- of the outermost level.
use mathlib.Core.Path.{◌≡◌, refl}
use mathlib.Core.Bool.{Bool, true, false, ◌&&◌}
use mathlib.Core.List.{List, [], ◌∷◌}
use mathlib.Core.Logic.{◌⊎◌, inl, inr}
use Prim.Native.Nat.{ℕ, zero, suc, ◌+◌, ◌-◌}
use lib.Dec.{eqb, ltb, leb}
use Rattle.model.specs.Basics.{pick}
use Rattle.model.specs.Texts.{Atom, atom_at, Members, end, atom, group, outer, flat, first, rest, opens_group}
use Rattle.model.specs.Texts.{with_atom, with_group, levels_past, atoms_past, plain_atoms, members_in, open_mark}
use Rattle.model.specs.Texts.{most_levels, groups_past}
use Rattle.model.specs.Rules.{Edge, atoms_of, guard_of}
use Rattle.model.specs.Claims.{atoms_within}
use Rattle.model.proofs.Logic.{In, here, there, not_in_nil, in_left, in_right}

-- a mark, by its tests
pub levels_mark :
    (mark : ℕ) (t : List ℕ)
    → levels_past 0 (mark ∷ t)
    ≡ pick (eqb mark 3) (with_atom (atom_at 0 t) (levels_past 3 t))
    (pick (opens_group mark) (with_group (levels_past 0 t)) (end ∷ levels_past 0 t))
unfolding levels_past
levels_mark mark t = go (eqb mark 3) (opens_group mark)
  where
    go :
        (three opens : Bool)
        → elim three [
          | true ↦ with_atom (atom_at 0 t) (levels_past 3 t)
          | false ↦ elim opens [ true ↦ with_group (levels_past 0 t) | false ↦ end ∷ levels_past 0 t ]
        ]
        ≡ pick three (with_atom (atom_at 0 t) (levels_past 3 t))
        (pick opens (with_group (levels_past 0 t)) (end ∷ levels_past 0 t))
    go true opens = refl
    go false true = refl
    go false false = refl

pub groups_mark :
    (level groups atoms mark : ℕ) (t : List ℕ)
    → groups_past 0 level groups atoms (mark ∷ t)
    ≡ pick (eqb mark 3) (leb 1 atoms && groups_past 3 level groups (atoms - 1) t)
    (pick (eqb mark 4) (leb 1 level && groups_past 0 (level - 1) groups atoms t)
    (eqb mark (open_mark level) && ltb (level + 1) most_levels && leb 1 groups
    && groups_past 0 (level + 1) (groups - 1) atoms t))
unfolding groups_past
groups_mark level groups atoms mark t = go (eqb mark 3) (eqb mark 4)
  where
    opens : Bool
    opens =
        eqb mark (open_mark level) && ltb (level + 1) most_levels && leb 1 groups
        && groups_past 0 (level + 1) (groups - 1) atoms t

    go :
        (three four : Bool)
        → elim three [
          | true ↦ leb 1 atoms && groups_past 3 level groups (atoms - 1) t
          | false ↦ elim four [ true ↦ leb 1 level && groups_past 0 (level - 1) groups atoms t | false ↦ opens ]
        ]
        ≡ pick three (leb 1 atoms && groups_past 3 level groups (atoms - 1) t)
        (pick four (leb 1 level && groups_past 0 (level - 1) groups atoms t) opens)
    go true four = refl
    go false true = refl
    go false false = refl

pub atoms_mark :
    (mark : ℕ) (t : List ℕ)
    → atoms_past 0 (mark ∷ t) ≡ pick (eqb mark 3) (atom_at 0 t ∷ atoms_past 3 t) (atoms_past 0 t)
unfolding atoms_past
atoms_mark mark t = go (eqb mark 3)
  where
    go :
        (three : Bool)
        → elim three [ true ↦ atom_at 0 t ∷ atoms_past 3 t | false ↦ atoms_past 0 t ]
        ≡ pick three (atom_at 0 t ∷ atoms_past 3 t) (atoms_past 0 t)
    go true = refl
    go false = refl

-- an atom in a level, in whatever group
pub data Within (a : Atom) : Members → Type 0 where
  this : {x : Atom} {m : Members} → a ≡ x → Within a (atom x m)
  after_atom : {x : Atom} {m : Members} → Within a m → Within a (atom x m)
  inside : {g m : Members} → Within a g → Within a (group g m)
  after_group : {g m : Members} → Within a m → Within a (group g m)

not_within_end : {a : Atom} {A : Type 0} → Within a end → A
not_within_end h = elim h [ ]

-- in some level of several
pub data WithinSome (a : Atom) : List Members → Type 0 where
  now_in : {m : Members} {ms : List Members} → Within a m → WithinSome a (m ∷ ms)
  later_in : {m : Members} {ms : List Members} → WithinSome a ms → WithinSome a (m ∷ ms)

first_in_lem : (a : Atom) (ms : List Members) → Within a (first ms) → WithinSome a ms
first_in_lem a [] h = not_within_end h
first_in_lem a (m ∷ ms) h = now_in h

rest_in : (a : Atom) (ms : List Members) → WithinSome a (rest ms) → WithinSome a ms
rest_in a [] h = h
rest_in a (m ∷ ms) h = later_in h

in_with_atom : (a x : Atom) (ms : List Members) → WithinSome a (with_atom x ms) → (a ≡ x) ⊎ WithinSome a ms
in_with_atom a x ms (now_in (this e)) = inl e
in_with_atom a x ms (now_in (after_atom h)) = inr (first_in_lem a ms h)
in_with_atom a x ms (later_in h) = inr (rest_in a ms h)

in_with_group : (a : Atom) (ms : List Members) → WithinSome a (with_group ms) → WithinSome a ms
in_with_group a ms (now_in (inside h)) = first_in_lem a ms h
in_with_group a ms (now_in (after_group h)) = rest_in a ms (first_in_lem a (rest ms) h)
in_with_group a ms (later_in h) = rest_in a ms (rest_in a (rest ms) h)

in_with_end : (a : Atom) (ms : List Members) → WithinSome a (end ∷ ms) → WithinSome a ms
in_with_end a ms (now_in h) = not_within_end h
in_with_end a ms (later_in h) = h

-- every atom of every level is one of the text's
levels_atoms : (n : ℕ) (t : List ℕ) (a : Atom) → WithinSome a (levels_past n t) → In a (atoms_past n t)
unfolding levels_past atoms_past
levels_atoms n [] a h = elim h [ ]
levels_atoms (suc n) (x ∷ t) a h = levels_atoms n t a h
levels_atoms zero (mark ∷ t) a h =
    rw (atoms_mark mark t)
    (go (eqb mark 3) (opens_group mark) (rw (levels_mark mark t) at h) (levels_atoms 3 t a) (levels_atoms 0 t a))
  where
    go :
        (three opens : Bool)
        → WithinSome a
        (pick three (with_atom (atom_at 0 t) (levels_past 3 t))
        (pick opens (with_group (levels_past 0 t)) (end ∷ levels_past 0 t)))
        → (WithinSome a (levels_past 3 t) → In a (atoms_past 3 t))
        → (WithinSome a (levels_past 0 t) → In a (atoms_past 0 t))
        → In a (pick three (atom_at 0 t ∷ atoms_past 3 t) (atoms_past 0 t))
    go true opens k p q =
        elim (in_with_atom a (atom_at 0 t) (levels_past 3 t) k) [ inl e ↦ here e | inr i ↦ there (p i) ]
    go false true k p q = q (in_with_group a (levels_past 0 t) k)
    go false false k p q = q (in_with_end a (levels_past 0 t) k)

flat_atoms : (xs : List Atom) (a : Atom) → Within a (flat xs) → In a xs
flat_atoms [] a h = not_within_end h
flat_atoms (x ∷ xs) a (this e) = here e
flat_atoms (x ∷ xs) a (after_atom h) = there (flat_atoms xs a h)

pub guard_atoms : (e : Edge) (a : Atom) → Within a (guard_of e) → In a (atoms_of e)
guard_atoms e a h = go (eqb e.kind 5) h
  where
    go :
        (five : Bool) → Within a (pick five (flat (plain_atoms e.text)) (members_in e.text))
        → In a (pick five (plain_atoms e.text) (atoms_past 0 e.text))
    go true k = flat_atoms (plain_atoms e.text) a k
    go false k = levels_atoms 0 e.text a (first_in_lem a (levels_past 0 e.text) k)

-- the outermost atoms
pub outer_within : (m : Members) (a : Atom) → In a (outer m) → Within a m
outer_within end a h = not_in_nil h
outer_within (atom x m) a (here e) = this e
outer_within (atom x m) a (there i) = after_atom (outer_within m a i)
outer_within (group g m) a i = after_group (outer_within m a i)

-- an atom in a level is one of the atoms within it
pub within_atoms : (m : Members) (a : Atom) → Within a m → In a (atoms_within m)
within_atoms end a h = not_within_end h
within_atoms (atom x m) a (this e) = here e
within_atoms (atom x m) a (after_atom h) = there (within_atoms m a h)
within_atoms (group g m) a (inside h) = in_left a (atoms_within g) (atoms_within m) (within_atoms g a h)
within_atoms (group g m) a (after_group h) = in_right a (atoms_within g) (atoms_within m) (within_atoms m a h)
