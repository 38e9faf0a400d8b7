-- `writer::edges_length`: the edges so far and those still to come.
use Rattle.std.proofs.Common.{arith, ◌≡◌, ◌∙◌, ap, ap₂}
use Rattle.model.specs.Rules.{Edge}
use Rattle.model.specs.Layout.{edge_at}
use Rattle.edges.specs.Views.{edge_of}
use Rattle.writer.proofs.Lengths.{summed_next, summed_end}
use Rattle.writer.proofs.edges_length.Goals as goal

pub loop-e-preserved : goal.loop-e-preserved
loop-e-preserved c =
    let edge : edge_of c.edge.result ≡ edge_at c.loop-e.e c.args.rule.edges.now =
    ap₂ edge_at c.edge.ensures.1 c.edge.ensures.0 in
    summed_next c.loop-e.invariant c.loop-e-test.true (c.requires.few c.loop-e.e c.loop-e-test.true)
    (c.text.ensures ∙ ap (λ (e : Edge). e.text) edge)

pub returns : goal.returns
returns c = (
  summed_end c.loop-e.invariant c.loop-e-test.false,
  omega (arith, c.loop-e.invariant.few, c.requires.count_most),
)
