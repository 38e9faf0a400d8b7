-- `shape::codes_below` meets its contract: what the flag says and what holds of the codes to come is what holds of all.
use Rattle.shape.proofs.Loops.{CodesBelow}
use Rattle.shape.proofs.codes_below.Given as goal

abbrev pub invariant-loop-code : goal.invariant-loop-code
invariant-loop-code l = CodesBelow l.limit l.codes l.below l.code-index
