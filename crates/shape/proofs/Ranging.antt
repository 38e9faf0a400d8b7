-- Sizes in range, and that N and the number of cells then fit.
use mathlib.Core.Path.{◌≡◌}
use mathlib.Core.Bool.{true}
use Prim.Native.Nat.{ℕ, ◌+◌, ◌*◌, ◌^◌, ◌≤◌, ◌<◌}
use native.Mathlib.Omega.{arith}
use native.Mathlib.Nat.{le_trans, pow-le-pow_left, pow-le-pow_right, mul-le-mul}
use lib.Dec.{leb}
use borrow.Author.Tests.{leb-true}
use Rattle.model.specs.declared.Built.{Built}
use Rattle.model.specs.Rules.{most_clocks, most_constant, sizes_ok}
use Rattle.model.specs.Walks.{location_weight}
use Rattle.model.proofs.Logic.{and_left, and_right}
use Rattle.model.proofs.Valid.{sizes_of}
use Rattle.shape.specs.Ranges.{sizes_in_range, InRange}

pub in_range : (b : Built) → sizes_in_range b ≡ true → InRange b
in_range b h =
    let sizes = sizes_ok b.locations b.symbols b.clocks in
    let s = sizes_of b.locations b.symbols b.clocks (and_left sizes (leb b.top most_constant) h) in
    record {
      locations_most = s.locations_most;
      symbols_most = s.symbols_most;
      clocks_most = s.clocks_most;
      top_most = leb-true b.top most_constant (and_right sizes (leb b.top most_constant) h);
    }

module _ (b : Built) (i : InRange b) where
  weight_most : location_weight b ≤ (most_constant + 2) ^ most_clocks
  weight_most =
      let base : b.top + 2 ≤ most_constant + 2 = omega arith in
      le_trans (pow-le-pow_left base b.clocks)
      (pow-le-pow_right {n = most_constant + 2} (omega arith) {i = b.clocks} {j = most_clocks} (omega arith))

  pub pairs_fit : (p : ℕ) → p ≡ location_weight b → b.locations * p < 2 ^ 32
  pairs_fit p e =
      let m : p ≤ (most_constant + 2) ^ most_clocks = rw e weight_most in
      omega (arith, mul-le-mul i.locations_most m)
