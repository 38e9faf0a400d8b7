-- `edges::small_power`: the power fits, since its base and its exponent are small.
use Rattle.std.proofs.Common.{arith}
use Rattle.edges.proofs.Laws.{power_fits}
use Rattle.edges.proofs.small_power.Goals as goal

pub overflow_mul-power : goal.overflow_mul-power
overflow_mul-power c =
    rw c.loop.invariant (omega (arith, power_fits c.args.base c.loop.counter (omega arith) (omega arith)))
