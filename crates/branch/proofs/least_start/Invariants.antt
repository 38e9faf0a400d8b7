-- `branch::least_start` meets its contract: the first initial location from which there is an accepting run.
use Rattle.branch.proofs.Starts.{Starting}
use Rattle.branch.proofs.least_start.Given as goal

abbrev pub invariant-loop-l : goal.invariant-loop-l
invariant-loop-l l =
    Starting l.given.rule.head l.given.rule.edges.now l.given.grain l.given.events.symbols.now l.given.events.stamps.now
    l.starts l.l
