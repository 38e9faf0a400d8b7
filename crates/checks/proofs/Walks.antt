-- What `all` and `any` find, walking over atoms, is what the definitions say of them.
use mathlib.Core.Path.{◌≡◌, refl, ap}
use mathlib.Core.Bool.{Bool, ◌&&◌, ◌||◌}
use mathlib.Core.List.{List, [], ◌∷◌}
use Prim.Native.Nat.{ℕ}
use lib.Dec.{eqb}
use Rattle.std.specs.List.{list_all, list_any}
use Rattle.model.specs.Texts.{outer, flat}
use Rattle.model.specs.Rules.{Atom, atom_ok, atoms_ok, has_atom, pins, any_pins}

pub all_ok : (clocks : ℕ) (atoms : List Atom) → list_all (atom_ok clocks) atoms ≡ atoms_ok clocks atoms
all_ok clocks [] = refl
all_ok clocks (a ∷ atoms) = ap (λ (rest : Bool). atom_ok clocks a && rest) (all_ok clocks atoms)

-- an atom of these numbers
abbrev pub same_atom : ℕ → ℕ → ℕ → Atom → Bool
same_atom clock relation constant a =
    eqb a.clock clock && eqb a.relation relation && eqb a.constant constant

pub any_same :
    (clock relation constant : ℕ) (atoms : List Atom)
    → list_any (same_atom clock relation constant) atoms ≡ has_atom clock relation constant atoms
any_same clock relation constant [] = refl
any_same clock relation constant (a ∷ atoms) =
    ap (λ (rest : Bool). same_atom clock relation constant a || rest) (any_same clock relation constant atoms)

pub any_pinned : (among atoms : List Atom) → list_any (pins among) atoms ≡ any_pins among atoms
any_pinned among [] = refl
any_pinned among (a ∷ atoms) = ap (λ (rest : Bool). pins among a || rest) (any_pinned among atoms)

-- the atoms of a text without groups all stand on its outermost level
pub flat_outer : (atoms : List Atom) → outer (flat atoms) ≡ atoms
flat_outer [] = refl
flat_outer (a ∷ atoms) = ap (λ (rest : List Atom). a ∷ rest) (flat_outer atoms)
