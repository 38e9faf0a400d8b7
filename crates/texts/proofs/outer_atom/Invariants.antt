-- `texts::outer_atom` meets its contract: the outermost level goes on behind as many levels as are open.
use Rattle.std.proofs.Common.{length}
use Rattle.texts.proofs.Outermost.{Deep}
use Rattle.texts.proofs.outer_atom.Given as goal

abbrev pub invariant-loop-rest : goal.invariant-loop-rest
invariant-loop-rest l = Deep l.text l.from l.rest l.depth

abbrev pub decreases-loop-rest : goal.decreases-loop-rest
decreases-loop-rest l = length l.rest
