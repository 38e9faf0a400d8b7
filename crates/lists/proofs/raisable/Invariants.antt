-- `lists::raisable` meets its contract: from place i on no event can be raised.
use Rattle.model.specs.Lists.{top_stamp}
use Rattle.lists.proofs.Raised.{Stuck}
use Rattle.lists.proofs.raisable.Given as goal

abbrev pub invariant-loop-at : goal.invariant-loop-at
invariant-loop-at l = Stuck l.size.symbols (top_stamp l.size.seconds) l.fn.word l.at
