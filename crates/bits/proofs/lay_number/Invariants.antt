-- `bits::lay_number` meets its contract: the codes written, with those still in the rest, are the number's.
use mathlib.Core.Path.{◌≡◌}
use mathlib.Core.List.{List, []}
use Prim.Native.Nat.{ℕ, ◌+◌, ◌≤◌, ◌<◌, ◌^◌}
use lib.ListN.{length}
use Rattle.bits.proofs.Laying.{Writing}
use Rattle.bits.proofs.lay_number.Given as goal

abbrev pub invariant-loop-rest : goal.invariant-loop-rest
invariant-loop-rest l =
    (l.rest < 2 ^ 32) × (l.first + 32 ≤ 65536) × (length l.out ≡ length l.initial.out)
    × (Writing l.bits l.first l.at l.initial.out l.initial.out l.initial.rest l.initial.to []
    → (done : List ℕ) × Writing l.bits l.first l.at l.initial.out l.out l.rest l.to done)

abbrev pub decreases-loop-rest : goal.decreases-loop-rest
decreases-loop-rest l = l.rest
