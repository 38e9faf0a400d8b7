-- `shares::greatest_of` meets its contract: line after line against the best so far.
use Rattle.shares.proofs.GreatestLaws.{Searching}
use Rattle.shares.proofs.greatest_of.Given as goal

abbrev pub invariant-loop-i : goal.invariant-loop-i
invariant-loop-i l = Searching l.count l.lines l.best l.i
