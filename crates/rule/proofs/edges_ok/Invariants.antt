-- `rule::edges_ok`: the edges passed are good, of kinds that never fall, so that the rest decides.
use Rattle.std.specs.Slice.Iter.{chunks_exact_rest, chunks_exact_size}
use Rattle.std.proofs.Common.{◌≡◌}
use Rattle.model.specs.Layout.{edge_width}
use Rattle.rule.proofs.Laws.{EdgesLeft}
use Rattle.rule.proofs.edges_ok.Given as goal

abbrev pub invariant-loop-edge : goal.invariant-loop-edge
invariant-loop-edge l = record {
  may : (goal.iterator-loop-edge).can_next l.edge-iterator;
  ends : (goal.iterator-loop-edge).is_finite l.edge-iterator;
  size : chunks_exact_size l.edge-iterator ≡ edge_width;
  left : EdgesLeft l.rule.head l.last (chunks_exact_rest l.edge-iterator) l.past l.rule.edges.now;
}
