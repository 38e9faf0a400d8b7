-- `codes::powers::powers_of` meets its contract: the powers up to k are in, and zero past them.
use Rattle.std.proofs.Common.{◌*◌, ◌+◌, ◌^◌, ◌≤◌, rules}
use Rattle.codes.proofs.PowerLaws.{raising_start, power_most, raising_next}
use Rattle.codes.proofs.powers.powers_of.Goals as goal

pub loop-k-init : goal.loop-k-init
loop-k-init c = raising_start _ _

pub overflow_mul-power : goal.overflow_mul-power
overflow_mul-power c =
    let h : c.loop-k.power * (_ + 2) ≤ 32 ^ 4 = power_most c.loop-k.invariant (search rules) (search rules) in
    search rules

pub loop-k-preserved : goal.loop-k-preserved
loop-k-preserved c = raising_next c.loop-k.invariant (search rules) (search rules)
