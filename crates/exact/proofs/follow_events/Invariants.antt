-- `exact::follow_events` meets its contract: refusal and verdict over the events left are those of the word.
use Rattle.std.specs.Slice.Iter.{iter_rest}
use Rattle.exact.proofs.Running.{Running}
use Rattle.exact.proofs.follow_events.Given as goal

abbrev pub invariant-loop-i : goal.invariant-loop-i
invariant-loop-i g l =
    Running l.rule.head l.rule.edges.now l.grain l.events.symbols.now l.events.stamps.now g.room l.i-iterator.count
    l.last.0
    (iter_rest l.i-iterator.iter.a)
    (iter_rest l.i-iterator.iter.b)
    l.from
    l.to
