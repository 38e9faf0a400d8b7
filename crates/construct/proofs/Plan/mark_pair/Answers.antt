-- `Plan::mark_pair` meets its contract: the targets by the edges passed are marked.
use Rattle.std.proofs.Common.{◌∙◌, ap, arith}
use Rattle.pairs.specs.declared.Departure.{Departure}
use Rattle.construct.proofs.MarkLaws.{marks_again}
use Rattle.construct.proofs.EdgeLaws.{first_at, allowed_by, target_by}
use Rattle.construct.proofs.TargetMarks.{pairing_start, pairing_can, pairing_next, pairing_skip}
use Rattle.construct.proofs.TargetMarks.{pairing_later, pairing_end}
use Rattle.construct.proofs.Plan.mark_pair.Goals as goal
use Rattle.construct.proofs.Plan.mark_pair.Goals.{then-allows, else-allows}

pub loop-e-init : goal.loop-e-init
loop-e-init c =
    let plan = c.args.self in
    pairing_start plan.rule.head plan.rule.edges.now c.args.input c.args.timer c.args.code _ _ _
    (c.first_edge-e.ensures
    ∙ first_at plan.rule.head plan.rule.edges.now plan.links.now c.args.input.symbol c.args.code _ plan.passed
    plan.scaled
    plan.linked
    (ap (λ (d : Departure). d.pair) c.departure-left.ensures))
    c.requires.in_span

pub loop-e-smaller : goal.loop-e-smaller
loop-e-smaller c =
    let plan = c.args.self in
    omega (
      arith,
      c.loop-e-test.true,
      pairing_later c.loop-e.invariant plan.passed plan.scaled c.requires.enough plan.linked c.loop-e-test.true _
          c.next_edge-e.ensures,
    )

pub loop-e-preserved : goal.loop-e-preserved
loop-e-preserved c =
    let plan = c.args.self in
    let h = plan.rule.head in
    let t = plan.rule.edges.now in
    let inv = c.loop-e.invariant in
    let l = c.loop-e-test.true in
    let left = c.departure-left in
    let edge = c.edge-edge in
    let allowed =
    allowed_by h t plan.passed plan.scaled l c.args.input c.args.code left.result edge.result left.ensures edge.ensures
    c.allows.ensures in
    elim c.if-allows.branch [
      | then-allows w ↦
          let to =
          target_by h t plan.passed plan.scaled l c.args.input c.args.code left.result edge.result left.ensures
          edge.ensures c.args.timer w.target-to.ensures in
          pairing_next inv plan.passed plan.scaled c.requires.enough plan.linked l _ _ _ allowed w.if-allows.true to
          (marks_again _ _
          (w.mark-span.ensures
          (pairing_can inv plan.passed plan.scaled c.requires.enough plan.linked l to c.loop-e.auto.marks))
          w.marks-is w.span-is)
          c.next_edge-e.ensures
      | else-allows w ↦
          pairing_skip inv plan.passed plan.scaled c.requires.enough plan.linked l _ _ _ allowed w.if-allows.false
          w.marks-is w.span-is c.next_edge-e.ensures
    ]

pub returns : goal.returns
returns c = pairing_end c.loop-e.invariant c.loop-e-test.false
