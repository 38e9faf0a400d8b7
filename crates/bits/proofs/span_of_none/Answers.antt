-- `bits::span_of_none` meets its contract.
use Rattle.bits.proofs.Loops.{no_marks}
use Rattle.bits.proofs.span_of_none.Goals as goal

pub returns : goal.returns
returns c none = no_marks c.args.marks.now none
