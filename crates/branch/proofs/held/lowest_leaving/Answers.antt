-- `branch::held::lowest_leaving` meets its contract: the edges passed leave no initial location on the symbol, so the
-- answer is what those still to come give, over what the clocks read at the first event.
use mathlib.Core.Path.{refl}
use Rattle.edges.specs.Views.{edge_of}
use Rattle.branch.proofs.Laws.{edge_by}
use Rattle.branch.proofs.Lowest.{asking, asking_next, asking_found, asking_none, lowest_is}
use Rattle.branch.proofs.held.lowest_leaving.Goals as goal

pub loop-e-init : goal.loop-e-init
loop-e-init c = asking _ _ _ _ _ _

pub returns-then-leaves_some : goal.returns-then-leaves_some
returns-then-leaves_some c =
    let r = c.args.rule in
    lowest_is r.head r.edges.now c.args.grain c.args.symbol c.args.stamp r.head.count r.head.clocks _ _ _ _ _ _
    c.requires.0 c.ranges.stamp.fits c.start.ensures.1 c.since.ensures c.after_delay-now.ensures c.readings-read.ensures
    refl c.part_of-by.ensures refl
    (asking_found _ _ _ _ _ _ c.loop-e.invariant c.loop-e-test.true (edge_of c.edge-edge.result)
    (edge_by c.edge-edge.result c.loop-e.e r.edges.now c.edge-edge.ensures) _ c.leaves_some.ensures _
    c.if-leaves_some.true c.guard_of.ensures)

pub loop-e-preserved : goal.loop-e-preserved
loop-e-preserved c =
    asking_next _ _ _ _ _ _ c.loop-e.invariant c.loop-e-test.true (edge_of c.edge-edge.result)
    (edge_by c.edge-edge.result c.loop-e.e c.args.rule.edges.now c.edge-edge.ensures) _ c.leaves_some.ensures
    c.if-leaves_some.false

pub returns : goal.returns
returns c =
    let r = c.args.rule in
    lowest_is r.head r.edges.now c.args.grain c.args.symbol c.args.stamp r.head.count r.head.clocks _ _ _ _ _ _
    c.requires.0 c.ranges.stamp.fits c.start.ensures.1 c.since.ensures c.after_delay-now.ensures c.readings-read.ensures
    refl c.part_of-by.ensures refl
    (asking_none _ _ _ _ _ _ c.loop-e.invariant c.loop-e-test.false)
