-- `construct::leaving::link_edges` meets its contract: from the last edge to the first, those passed are linked.
use Rattle.model.specs.Layout.{edges_in}
use Rattle.construct.specs.Leaving.{LinkedFrom}
use Rattle.construct.proofs.leaving.link_edges.Given as goal

abbrev pub invariant-loop-e : goal.invariant-loop-e
invariant-loop-e l = LinkedFrom (edges_in l.count l.rule.edges.now) l.e l.links
