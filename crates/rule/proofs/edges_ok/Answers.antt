-- `rule::edges_ok`: the edges passed are good, of kinds that never fall, so that the rest decides.
use Rattle.std.proofs.Common.{◌≡◌, ◌∙◌, sym, ap, arith, length}
use Rattle.numbers.specs.Lent.{all_zero}
use Rattle.numbers.proofs.Parts.{part_rest}
use Rattle.model.specs.Layout.{edge_width}
use Rattle.rule.proofs.Laws.{edges_fall, edges_fail, edges_next, edges_end}
use Rattle.rule.proofs.edges_ok.Goals as goal
use Rattle.rule.proofs.edges_ok.Goals.{then-kind-last-via-then-kind-last}
use Rattle.rule.proofs.edges_ok.Goals.{then-kind-last-via-else-kind-last+then-not-edge_ok}

pub returns-then-kind-last : goal.returns-then-kind-last
returns-then-kind-last c =
    let parts = c.in-Some.ensures.steps.1 in
    let edges = c.loop-edge.invariant.left in
    let long : length c.in-Some.edge.now ≡ edge_width = parts.1 ∙ c.loop-edge.invariant.size in
    elim c.then-kind-last.branch [
      | then-kind-last-via-then-kind-last w ↦
          edges_fall edges _ _ parts.0 long _ c.kind-kind.ensures.0 w.if-kind-last.true
      | then-kind-last-via-else-kind-last+then-not-edge_ok w ↦
          edges_fail edges _ _ parts.0 long (sym w.edge_ok.ensures ∙ w.if-not-edge_ok.true)
    ]

pub loop-edge-preserved : goal.loop-edge-preserved
loop-edge-preserved c =
    let parts = c.in-Some.ensures.steps.1 in
    let long : length c.in-Some.edge.now ≡ edge_width = parts.1 ∙ c.loop-edge.invariant.size in
    record {
      may = omega (arith, c.in-Some.ensures.steps.0, c.loop-edge.invariant.may);
      ends = tt;
      size = c.in-Some.ensures.steps.0 ∙ c.loop-edge.invariant.size;
      left =
          edges_next c.loop-edge.invariant.left _ _ parts.0 long _ c.kind-kind.ensures.0 c.if-kind-last.false
          (sym c.edge_ok.ensures ∙ c.if-not-edge_ok.false);
    }

pub returns : goal.returns
returns c =
    c.all_zero.ensures
    ∙ (ap all_zero (part_rest _ c.args.rule.edges.now)
    ∙ edges_end c.loop-edge.invariant.left
    (omega (arith, c.in-None.ensures.steps.1.0, c.loop-edge.invariant.size)))
