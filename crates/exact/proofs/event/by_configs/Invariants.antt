-- `exact::event::by_configs` meets its contract: the configurations passed are done, those left are still to come.
use Rattle.std.proofs.Common.{◌≡◌, ◌+◌, ◌≤◌, length}
use Rattle.std.specs.Slice.Iter.{chunks_exact_rest, chunks_exact_size}
use Rattle.model.specs.Rules.{most_clocks}
use Rattle.exact.specs.Banks.{configs_of}
use Rattle.exact.specs.Ready.{by_configs_of}
use Rattle.exact.proofs.Moving.{Moving}
use Rattle.exact.proofs.event.by_configs.Given as goal

abbrev pub invariant-loop-numbers : goal.invariant-loop-numbers
invariant-loop-numbers l =
    (chunks_exact_size l.numbers-iterator ≡ l.rule.head.clocks + 1)
    × (l.rule.head.clocks ≤ most_clocks)
    × Moving l.rule.head l.rule.edges.now l.grain l.symbol l.delay.0 (length l.fn.to.numbers.now)
    (by_configs_of l.rule.head l.rule.edges.now l.grain l.symbol l.delay.0 (configs_of l.from))
    (chunks_exact_rest l.numbers-iterator)
    l.to
