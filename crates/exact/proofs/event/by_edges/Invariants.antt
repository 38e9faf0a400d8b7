-- `exact::event::by_edges` meets its contract: the edges passed are done, those from e on are left.
use Rattle.std.proofs.Common.{length}
use Rattle.exact.specs.Banks.{configs_of}
use Rattle.exact.specs.Ready.{by_edges_of}
use Rattle.exact.proofs.Spreading.{Spreading}
use Rattle.exact.proofs.event.by_edges.Given as goal

abbrev pub invariant-loop-e : goal.invariant-loop-e
invariant-loop-e l =
    let r = l.rule.head in
    Spreading r.clocks r.count l.rule.edges.now l.grain l.symbol l.from l.e (length l.fn.bank.numbers.now)
    (by_edges_of r.clocks r.count l.rule.edges.now l.grain l.symbol l.from (configs_of l.fn.bank))
    l.bank
