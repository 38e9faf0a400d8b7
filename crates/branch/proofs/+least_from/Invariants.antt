-- `branch::least_from` meets its contract: it calls itself with one event fewer. The edges passed led to no accepting
-- run, so the least one is what the edges still to try give.
use Rattle.std.proofs.Common.{◌^◌, ◌<◌}
use Rattle.branch.proofs.Laws.{Trying}
use Rattle.branch.proofs.+least_from.Given as goal

abbrev pub decreases-least_from : goal.decreases-least_from
decreases-least_from l = l.left

abbrev pub invariant-loop-e : goal.invariant-loop-e
invariant-loop-e l =
    (l.at < 2 ^ 32)
    × Trying l.given.rule.head l.given.rule.edges.now l.given.grain l.given.events.symbols.now l.given.events.stamps.now
    l.depth l.now l.by l.e
