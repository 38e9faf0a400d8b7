-- `branch::held::lowest_leaving` meets its contract: the edges passed leave no initial location on the symbol, so the
-- answer is what those still to come give, over what the clocks read at the first event.
use Rattle.branch.proofs.Lowest.{Asking}
use Rattle.branch.proofs.held.lowest_leaving.Given as goal

abbrev pub invariant-loop-e : goal.invariant-loop-e
invariant-loop-e l =
    Asking l.rule.head.starts l.symbol l.rule.head.count l.grain l.rule.edges.now l.by l.e
