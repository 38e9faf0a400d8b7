-- The atoms that a walk over a text comes to.
use Rattle.std.specs.Prelude.{◌≡◌, List, [], ◌∷◌, ℕ, Option, MatchOption, drop}
use Rattle.model.specs.Texts.{Atom}
use Rattle.edges.specs.declared.atoms.Atom.{Atom as StoredAtom}

abbrev pub atom_of : StoredAtom → Atom
atom_of atom = record { clock = atom.clock; relation = atom.relation; constant = atom.constant }

-- of the atoms that `atoms` reads off a text, the first one from a place on, and the place behind it
abbrev pub NextIs : (List ℕ → List Atom) → List ℕ → ℕ → Option (StoredAtom × ℕ) → Type 0
NextIs atoms text from r =
    MatchOption r (atoms (drop from text) ≡ [])
    (λ found. atoms (drop from text) ≡ atom_of found.0 ∷ atoms (drop found.1 text))
