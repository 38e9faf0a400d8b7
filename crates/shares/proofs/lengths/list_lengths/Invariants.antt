-- `shares::lengths::list_lengths` meets its contract: with no stamp there is the empty word alone, and each turn adds a
-- stamp.
use Rattle.shares.proofs.LengthLaws.{Listing}
use Rattle.shares.proofs.lengths.list_lengths.Given as goal

abbrev pub invariant-loop-stamp : goal.invariant-loop-stamp
invariant-loop-stamp l = Listing l.symbols l.stamps l.initial.lengths l.lengths l._stamp
