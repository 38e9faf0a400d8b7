-- `Scale::unpack` meets its contract: the bases from clock k on are out, and what power k leaves is left; once nothing
-- is left, the bases still to come are 0.
use Rattle.std.proofs.Common.{◌+◌}
use Rattle.codes.specs.Codes.{Powered}
use Rattle.codes.proofs.Loops.{Taking}
use Rattle.codes.proofs.Scale.unpack.Given as goal

abbrev pub invariant-loop-k : goal.invariant-loop-k
invariant-loop-k l =
    Powered l.fn.self → Taking (l.fn.self.top + 2) l.powers l.clocks l.code l.k l.rest l.bases
