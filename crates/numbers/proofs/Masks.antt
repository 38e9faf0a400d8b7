-- Bits of a mask.
use mathlib.Core.Path.{◌≡◌}
use mathlib.Core.Bool.{false}
use Prim.Native.Nat.{ℕ, ◌/◌, ◌^◌, ◌≤◌, ◌<◌}
use native.Mathlib.Nat.{div-eq_of_lt, lt_of_lt_of_le}
use lib.Pow.{pow_mono}
use Rattle.model.specs.Basics.{bit}

-- a bit past the width is not set
pub bit_past : (width i mask : ℕ) → mask < 2 ^ width → width ≤ i → false ≡ bit i mask
bit_past width i mask h g =
    let z : mask / 2 ^ i ≡ 0 = div-eq_of_lt (lt_of_lt_of_le h (pow_mono g)) in
    rw z
