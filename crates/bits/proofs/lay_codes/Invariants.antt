-- `bits::lay_codes` meets its contract: the codes of the first k numbers stand in the table.
use Rattle.bits.proofs.Laying.{Filling}
use Rattle.bits.proofs.lay_codes.Given as goal

abbrev pub invariant-loop-k : goal.invariant-loop-k
invariant-loop-k l =
    Filling l.marks 0 l.fn.out l.fn.out 0 l.fn.span.low → Filling l.marks 0 l.fn.out l.out l.to l.k
