-- `shape::Sizes::pair_count` meets its contract: with sizes in range N fits.
use Rattle.std.proofs.Common.{arith}
use Rattle.shape.proofs.Ranging.{pairs_fit}
use Rattle.shape.proofs.Sizes.pair_count.Goals as goal

pub overflow_mul-pairs : goal.overflow_mul-pairs
overflow_mul-pairs c =
    omega (arith, pairs_fit c.args.self.built c.args.self.in_range _ c.location_weight.ensures)

pub overflow_cast-result : goal.overflow_cast-result
overflow_cast-result c =
    omega (arith, pairs_fit c.args.self.built c.args.self.in_range _ c.location_weight.ensures)
