-- Flags of tests, as the branches of code meet them: `r` is how a test came out, `q` how the next one did.
use mathlib.Core.Path.{◌≡◌, sym, ◌∙◌}
use mathlib.Core.Bool.{Bool, true, false, ◌&&◌}

-- the first held, so the second decides
pub held : {flag r q a b : Bool} → r ≡ a → r ≡ true → q ≡ b → flag ≡ q → flag ≡ (a && b)
held e h s f = f ∙ (s ∙ rw (sym e ∙ h))

-- the first failed, and is the answer
pub failed : {flag r a : Bool} (b : Bool) → r ≡ a → r ≡ false → flag ≡ r → flag ≡ (a && b)
failed b e h f = f ∙ (h ∙ rw (sym e ∙ h))

-- a test that was asked negated: `r` is how it came out
pub is_false : {r a : Bool} → r ≡ a → r ≡ false → a ≡ false
is_false e h = sym e ∙ h

pub is_true : {r a : Bool} → r ≡ a → r ≡ true → a ≡ true
is_true e h = sym e ∙ h
