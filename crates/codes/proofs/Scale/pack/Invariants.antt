-- `Scale::pack` meets its contract: the code so far, with the bases to come, is the code.
use Rattle.std.proofs.Common.{◌+◌}
use Rattle.codes.proofs.Loops.{Packing, later_code}
use Rattle.codes.proofs.Scale.pack.Given as goal

abbrev pub invariant-loop-k : goal.invariant-loop-k
invariant-loop-k l =
    Packing l.powers l.clocks l.k l.code (l.initial.code + later_code l.powers l.clocks l.bases) l.bases
