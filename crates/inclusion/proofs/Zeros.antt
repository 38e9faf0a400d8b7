-- A room that was cleared.
use mathlib.Core.Path.{◌≡◌, sym, ◌∙◌, ap}
use mathlib.Core.List.{List}
use Prim.Native.Nat.{ℕ}
use lib.ListN.{length, length-replicate}
use Rattle.model.specs.Basics.{zeros}

pub cleared_length : {s : List ℕ} (n : ℕ) → s ≡ zeros n → length s ≡ n
cleared_length n e = ap length e ∙ length-replicate n 0

pub cleared_self : {s : List ℕ} (n : ℕ) → s ≡ zeros n → s ≡ zeros (length s)
cleared_self n e = e ∙ ap zeros (sym (cleared_length n e))
