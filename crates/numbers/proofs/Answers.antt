-- What a test of a call's answer says of the definition that the answer stands for.
use mathlib.Core.Path.{◌≡◌, sym, ◌∙◌}
use mathlib.Core.Bool.{Bool, true, false}

pub failed : {t a : Bool} → t ≡ a → t ≡ false → a ≡ false
failed e h = sym e ∙ h

pub passed : {t a : Bool} → t ≡ a → t ≡ true → a ≡ true
passed e h = sym e ∙ h
