-- `lists::events_fit` meets its contract: what is left fits from the last stamp on exactly if all events fit.
use Rattle.std.proofs.Common.{length}
use Rattle.model.specs.Lists.{top_stamp}
use Rattle.lists.proofs.Fitting.{Fit}
use Rattle.lists.proofs.events_fit.Given as goal

abbrev pub invariant-loop-symbol : goal.invariant-loop-symbol
invariant-loop-symbol l =
    (goal.iterator-loop-symbol).can_next l.symbol-iterator × (goal.iterator-loop-symbol).is_finite l.symbol-iterator
    × Fit l.size.symbols (top_stamp l.size.seconds) l.fn.word l.last (length l.yielded)
