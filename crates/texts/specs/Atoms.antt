-- The atoms of a text, one after the other: where the next one stands.
use Rattle.std.specs.Prelude.{◌≡◌, List, [], ◌∷◌, ℕ, ◌+◌, ◌≤◌, ◌<◌, length, drop}
use Rattle.model.specs.Texts.{Atom, atom_at, outer, members_in}
use Rattle.model.specs.Rules.{atom_width}

-- the atoms on the outermost level of a text of kind 6
abbrev pub outermost : List ℕ → List Atom
outermost text = outer (members_in text)

-- of the atoms that `atoms` reads off a text, the first one from a place on: its three numbers stand at `r`, and the
-- others follow behind them; there is none where `r` is past the text's end
pub record NextAtom (atoms : List ℕ → List Atom) (text : List ℕ) (from r : ℕ) : Type 0 where
  pub none : length text < r → atoms (drop from text) ≡ []
  pub one : r ≤ length text → atoms (drop from text) ≡ atom_at r text ∷ atoms (drop (r + atom_width) text)
  pub forward : r ≤ length text → from ≤ r
