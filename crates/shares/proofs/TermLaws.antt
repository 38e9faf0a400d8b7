-- What a share is divided by.
use mathlib.Core.Path.{◌≡◌}
use Prim.Native.Nat.{ℕ, ◌<◌}
use native.Mathlib.Omega.{arith}
use Rattle.model.specs.Shares.{common}
use Rattle.model.proofs.LowestTerms.{common_some}

-- what is divided by is not 0
pub by_some : (a b : ℕ) {by : ℕ} → by ≡ common a b → 0 < by
by_some a b e = omega (arith, e, common_some a b)
