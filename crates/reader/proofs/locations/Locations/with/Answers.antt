-- `reader::locations::Locations::with` keeps its invariant: a mask below 2 ^ x, and x itself, are below 2 ^ (x + 1).
use Rattle.std.proofs.Common.{◌≡◌, ap, add-one, ℕ, suc, ◌+◌, ◌*◌, ◌%◌, ◌^◌, ◌<◌, ◌≤◌, arith}
use lib.Pow.{pow_mono}
use Rattle.reader.proofs.locations.Locations.with.Goals as goal

mask_below : (m l x : ℕ) → m < 2 ^ l → l ≤ x → x < 32 → m + 1 * 2 ^ x % 4294967296 < 2 ^ (x + 1)
mask_below m l x a b h =
    let next : 2 ^ (x + 1) ≡ 2 ^ suc x = ap (λ (n : ℕ). 2 ^ n) (add-one x) in
    omega (arith, next, pow_mono {i = l} {j = x} b, pow_mono {i = x} {j = 31} (omega arith))

pub invariant_of-result : goal.invariant_of-result
invariant_of-result c =
    record {
      below = mask_below c.args.self.mask c.args.self.least c.args.location c.args.self.below
          c.if-location-self.false (omega arith);
    }
