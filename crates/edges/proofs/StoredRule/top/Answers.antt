-- `edges::StoredRule::top`: each edge's largest constant, one after another.
use Rattle.std.proofs.Common.{◌≡◌, ◌∙◌, ap, ap₂}
use Rattle.model.specs.Basics.{larger}
use Rattle.model.specs.Rules.{Edge, atoms_of, largest_constant}
use Rattle.model.specs.Layout.{edge_at}
use Rattle.edges.specs.Views.{edge_of}
use Rattle.edges.proofs.EdgeAtoms.{max_is}
use Rattle.edges.proofs.Laws.{edges_next, edges_end, cm_found}
use Rattle.edges.proofs.StoredRule.top.Goals as goal

pub loop-e-preserved : goal.loop-e-preserved
loop-e-preserved c =
    let edge : edge_of c.edge.result ≡ edge_at c.loop-e.e c.args.self.edges.now =
    ap₂ edge_at c.edge.ensures.1 c.edge.ensures.0 in
    let top = c.top.ensures ∙ ap (λ (e : Edge). largest_constant (atoms_of e)) edge in
    edges_next c.loop-e.invariant _ c.loop-e-test.true
    (c.max-most.ensures ∙ (max_is c.loop-e.most c.top.result ∙ ap (larger c.loop-e.most) top))

pub returns : goal.returns
returns c =
    cm_found c.args.self.head c.args.self.edges.now c.loop-e.most (edges_end c.loop-e.invariant c.loop-e-test.false)
