-- What an edge's text spells (2.9): atoms, groups of atoms, and the rules that groups keep.
use Rattle.std.specs.Prelude.{Bool, true, false, ◌&&◌, ◌||◌, List, [], ◌∷◌, ℕ, zero, suc, ◌+◌, ◌-◌, ◌%◌, eqb, ltb, leb}
use Rattle.std.specs.Prelude.{get_or}

-- an atom of a guard: a clock, a relation by its code, a whole constant
pub record Atom : Type 0 where
  pub clock : ℕ
  pub relation : ℕ
  pub constant : ℕ

-- the atom whose three numbers stand from a place on
abbrev pub atom_at : ℕ → List ℕ → Atom
atom_at at t = record { clock = get_or t at 0; relation = get_or t (at + 1) 0; constant = get_or t (at + 2) 0 }

-- The members of a level, in order: atoms, and groups with their own members. The outermost level is an all-of; a group
-- in an all-of is an any-of, and a group in an any-of is an all-of, so that a group's kind need not be kept.
pub data Members : Type 0 where
  end : Members
  atom : Atom → Members → Members
  group : Members → Members → Members

-- the atoms that are members of a level themselves, in no group
abbrev pub outer : Members → List Atom
outer end = []
outer (atom a m) = a ∷ outer m
outer (group g m) = outer m

-- Kind 5: three numbers per atom, and no groups.
abbrev pub plain_atoms : List ℕ → List Atom
plain_atoms [] = []
plain_atoms (c ∷ []) = []
plain_atoms (c ∷ r ∷ []) = []
plain_atoms (c ∷ r ∷ k ∷ t) = record { clock = c; relation = r; constant = k } ∷ plain_atoms t

abbrev pub flat : List Atom → Members
flat [] = end
flat (a ∷ as_are) = atom a (flat as_are)

-- Kind 6: 1 opens an all-of group, 2 opens an any-of group, 3 is an atom with its three numbers, 4 closes.
abbrev pub opens_all : ℕ
opens_all = 1

abbrev pub opens_any : ℕ
opens_any = 2

abbrev pub is_atom : ℕ
is_atom = 3

abbrev pub closes : ℕ
closes = 4

abbrev pub opens_group : ℕ → Bool
opens_group mark = eqb mark opens_all || eqb mark opens_any

-- A text has its levels, the one that it begins in first; `past` numbers are passed over. Any other mark is taken for
-- 4; such a text breaks the group rules.
abbrev pub first : List Members → Members
first [] = end
first (m ∷ ms) = m

abbrev pub rest : List Members → List Members
rest [] = []
rest (m ∷ ms) = ms

abbrev pub with_atom : Atom → List Members → List Members
with_atom a ms = atom a (first ms) ∷ rest ms

abbrev pub with_group : List Members → List Members
with_group ms = group (first ms) (first (rest ms)) ∷ rest (rest ms)

unfoldable pub levels_past : ℕ → List ℕ → List Members
levels_past past [] = []
levels_past (suc past) (x ∷ t) = levels_past past t
levels_past zero (mark ∷ t) =
    elim (eqb mark is_atom) [
      | true ↦ with_atom (atom_at 0 t) (levels_past 3 t)
      | false ↦ elim (opens_group mark) [ true ↦ with_group (levels_past 0 t) | false ↦ end ∷ levels_past 0 t ]
    ]

abbrev pub levels : List ℕ → List Members
levels t = levels_past 0 t

-- the outermost level
abbrev pub members_in : List ℕ → Members
members_in t = first (levels t)

-- all atoms of a text, in whatever group
unfoldable pub atoms_past : ℕ → List ℕ → List Atom
atoms_past past [] = []
atoms_past (suc past) (x ∷ t) = atoms_past past t
atoms_past zero (mark ∷ t) = elim (eqb mark is_atom) [ true ↦ atom_at 0 t ∷ atoms_past 3 t | false ↦ atoms_past 0 t ]

-- The group rules: at most 4 levels, the outermost included, 8 opened groups, 16 atoms.
abbrev pub most_levels : ℕ
most_levels = 4

abbrev pub most_groups : ℕ
most_groups = 8

abbrev pub most_grouped_atoms : ℕ
most_grouped_atoms = 16

-- the mark that may open a group at a level; level 0 is the outermost, all-of and any-of take turns
abbrev pub open_mark : ℕ → ℕ
open_mark level = 2 - level % 2

-- from a level on, with so many groups and atoms still allowed
unfoldable pub groups_past : ℕ → ℕ → ℕ → ℕ → List ℕ → Bool
groups_past past level groups atoms [] = eqb past 0 && eqb level 0
groups_past (suc past) level groups atoms (x ∷ t) = groups_past past level groups atoms t
groups_past zero level groups atoms (mark ∷ t) =
    elim (eqb mark is_atom) [
      | true ↦ leb 1 atoms && groups_past 3 level groups (atoms - 1) t
      | false ↦
          elim (eqb mark closes) [
            | true ↦ leb 1 level && groups_past 0 (level - 1) groups atoms t
            | false ↦
                eqb mark (open_mark level) && ltb (level + 1) most_levels && leb 1 groups
                && groups_past 0 (level + 1) (groups - 1) atoms t
          ]
    ]

abbrev pub groups_ok : List ℕ → Bool
groups_ok t = groups_past 0 0 most_groups most_grouped_atoms t
