-- `construct::leaving::link_edges` meets its contract: from the last edge to the first, those passed are linked.
use Rattle.std.proofs.Common.{◌≡◌, ◌≤◌, ◌<◌, ◌-◌, refl, sym, arith, rules}
use lib.ListN.{get_or-replicate}
use Rattle.model.specs.Rules.{most_edges}
use Rattle.model.proofs.EdgeTable.{edges_length}
use Rattle.construct.specs.Leaving.{link_count}
use Rattle.construct.proofs.LeavingLaws.{linked_none, link_step}
use Rattle.construct.proofs.EdgeLaws.{edges_of, edges_few, fields_of, place_by}
use Rattle.construct.proofs.leaving.link_edges.Goals as goal

pub overflow_cast-links : goal.overflow_cast-links
overflow_cast-links c =
    let few : c.args.rule.head.count ≤ most_edges = edges_few c.args.rule.head c.args.rule.edges.now c.requires in
    search rules

pub loop-e-init : goal.loop-e-init
loop-e-init c =
    let rule = c.args.rule in
    linked_none _ _ _ (sym (edges_length rule.head.count rule.edges.now)) refl
    (λ k h. get_or-replicate link_count k rule.head.count 0 h)

pub bounds-links-first : goal.bounds-links-first
bounds-links-first c =
    let rule = c.args.rule in
    let below : c.loop-e.e - 1 < rule.head.count = search rules in
    let f = fields_of rule.head rule.edges.now (c.loop-e.e - 1) c.requires below in
    let place = place_by f c.edge-edge.result c.edge-edge.ensures c.source.ensures.0 c.symbol.ensures.0 in
    omega (arith, place.0, place.1, f.source_few, f.symbol_few)

pub bounds-links-e : goal.bounds-links-e
bounds-links-e c =
    let few : c.args.rule.head.count ≤ most_edges = edges_few c.args.rule.head c.args.rule.edges.now c.requires in
    omega arith

pub overflow_cast-links-in-loop-e-2 : goal.overflow_cast-links-in-loop-e-2
overflow_cast-links-in-loop-e-2 c =
    let few : c.args.rule.head.count ≤ most_edges = edges_few c.args.rule.head c.args.rule.edges.now c.requires in
    search rules

pub bounds-links-first-in-loop-e : goal.bounds-links-first-in-loop-e
bounds-links-first-in-loop-e c =
    let rule = c.args.rule in
    let below : c.loop-e.e - 1 < rule.head.count = search rules in
    let f = fields_of rule.head rule.edges.now (c.loop-e.e - 1) c.requires below in
    let place = place_by f c.edge-edge.result c.edge-edge.ensures c.source.ensures.0 c.symbol.ensures.0 in
    omega (arith, place.0, place.1, f.source_few, f.symbol_few)

pub loop-e-preserved : goal.loop-e-preserved
loop-e-preserved c =
    let rule = c.args.rule in
    let few : rule.head.count ≤ most_edges = edges_few rule.head rule.edges.now c.requires in
    let below : c.loop-e.e - 1 < rule.head.count = search rules in
    let f = fields_of rule.head rule.edges.now (c.loop-e.e - 1) c.requires below in
    let place = place_by f c.edge-edge.result c.edge-edge.ensures c.source.ensures.0 c.symbol.ensures.0 in
    link_step _ _ _ _ c.loop-e.invariant c.loop-e-test.true (search rules) f.inside f.source_few f.symbol_few
    (omega (arith, place.0, place.1))

pub returns : goal.returns
returns c =
    let rule = c.args.rule in
    let none_left : c.loop-e.e ≡ 0 = omega arith in
    rw (edges_of rule.head rule.edges.now) (rw none_left at c.loop-e.invariant)
