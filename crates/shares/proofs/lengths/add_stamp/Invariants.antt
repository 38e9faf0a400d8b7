-- `shares::lengths::add_stamp` meets its contract: places passed hold the lengths with one stamp more, the others those
-- of before.
use Rattle.shares.proofs.LengthLaws.{Stamping}
use Rattle.shares.proofs.lengths.add_stamp.Given as goal

abbrev pub invariant-loop-n : goal.invariant-loop-n
invariant-loop-n l = Stamping l.symbols l.initial.lengths l.lengths l.n
