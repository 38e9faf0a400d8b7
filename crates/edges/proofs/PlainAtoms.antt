-- A text without groups has no atom where fewer than three numbers are left.
use mathlib.Core.Path.{◌≡◌, refl}
use mathlib.Core.List.{List, [], ◌∷◌}
use Prim.Native.Nat.{ℕ, ◌-◌, ◌<◌}
use native.Mathlib.Omega.{arith}
use lib.ListN.{length, drop, length-drop}
use Rattle.model.specs.Texts.{plain_atoms}
use Rattle.model.specs.Rules.{atom_width}

none : (text : List ℕ) → length text < 3 → plain_atoms text ≡ []
none [] h = refl
none (c ∷ []) h = refl
none (c ∷ r ∷ []) h = refl
none (c ∷ r ∷ k ∷ text) h = absurd (omega arith)

pub plain_none : (text : List ℕ) (from : ℕ) → length text - from < atom_width → plain_atoms (drop from text) ≡ []
plain_none text from h = none (drop from text) (omega (arith, length-drop from text))
