-- `Plan::pair_resets` meets its contract: the edges to come say what all say, while none passed resets.
use Rattle.std.proofs.Common.{◌∙◌, ap, arith}
use Rattle.pairs.specs.declared.Departure.{Departure}
use Rattle.construct.specs.Marks.{rule_by}
use Rattle.construct.proofs.EdgeLaws.{edge_count, first_at, resets_by, looking_start, looking_found}
use Rattle.construct.proofs.EdgeLaws.{looking_next, looking_end, looking_later}
use Rattle.construct.proofs.Plan.pair_resets.Goals as goal

pub loop-e-init : goal.loop-e-init
loop-e-init c =
    let plan = c.args.self in
    looking_start (rule_by plan) c.args.input.symbol c.args.input.interval c.args.code _
    (c.first_edge-e.ensures
    ∙ first_at plan.rule.head plan.rule.edges.now plan.links.now c.args.input.symbol c.args.code _ plan.passed
    plan.scaled
    plan.linked
    (ap (λ (d : Departure). d.pair) c.departure-left.ensures))

pub returns-then-resets_on : goal.returns-then-resets_on
returns-then-resets_on c =
    let plan = c.args.self in
    looking_found c.loop-e.invariant _
    (omega (arith, edge_count plan.rule.head plan.rule.edges.now, c.loop-e-test.true))
    (resets_by plan.rule.head plan.rule.edges.now plan.passed plan.scaled c.loop-e-test.true c.args.input
    c.args.code c.departure-left.result c.edge.result c.departure-left.ensures c.edge.ensures c.resets_on.ensures)
    c.if-resets_on.true

pub loop-e-smaller : goal.loop-e-smaller
loop-e-smaller c =
    let plan = c.args.self in
    omega (
      arith,
      c.loop-e-test.true,
      looking_later c.loop-e.invariant _ plan.linked
          (omega (arith, edge_count plan.rule.head plan.rule.edges.now, c.loop-e-test.true)) c.next_edge-e.ensures,
    )

pub loop-e-preserved : goal.loop-e-preserved
loop-e-preserved c =
    let plan = c.args.self in
    looking_next c.loop-e.invariant _ _ plan.linked
    (omega (arith, edge_count plan.rule.head plan.rule.edges.now, c.loop-e-test.true))
    (resets_by plan.rule.head plan.rule.edges.now plan.passed plan.scaled c.loop-e-test.true c.args.input
    c.args.code c.departure-left.result c.edge.result c.departure-left.ensures c.edge.ensures c.resets_on.ensures)
    c.if-resets_on.false
    c.next_edge-e.ensures

pub returns : goal.returns
returns c =
    let plan = c.args.self in
    looking_end c.loop-e.invariant
    (omega (arith, edge_count plan.rule.head plan.rule.edges.now, c.loop-e-test.false))
