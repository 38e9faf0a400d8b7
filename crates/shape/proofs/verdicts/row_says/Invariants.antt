-- `shape::verdicts::row_says` meets its contract: what is found so far or among the codes to come is found in all.
use Rattle.shape.proofs.Saying.{Said}
use Rattle.shape.proofs.verdicts.row_says.Given as goal

abbrev pub invariant-loop-code : goal.invariant-loop-code
invariant-loop-code l = Said l.reciprocal l.ends l.codes l.says l.code-index
