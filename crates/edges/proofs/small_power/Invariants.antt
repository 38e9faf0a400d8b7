-- `edges::small_power`: after k turns the product is the k-th power.
use Rattle.std.proofs.Common.{◌≡◌, ◌^◌}
use Rattle.edges.proofs.small_power.Given as goal

abbrev pub invariant-loop : goal.invariant-loop
invariant-loop l = l.power ≡ l.base ^ l.counter
