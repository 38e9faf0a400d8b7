-- `edges::StoredRule::top`: each edge's largest constant, one after another.
use Rattle.edges.proofs.Laws.{LargestEdge}
use Rattle.edges.proofs.StoredRule.top.Given as goal

abbrev pub invariant-loop-e : goal.invariant-loop-e
invariant-loop-e l = LargestEdge 0 l.self.head.count l.e l.most l.self.edges.now
