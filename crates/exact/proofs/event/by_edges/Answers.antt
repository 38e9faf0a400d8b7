-- `exact::event::by_edges` meets its contract: the edges passed are done, those from e on are left.
use Rattle.std.proofs.Common.{refl}
use Rattle.exact.proofs.Spreading.{spreading_other, spreading_added, spreading_full, spread_all}
use Rattle.exact.proofs.event.by_edges.Goals as goal
use Rattle.exact.proofs.event.by_edges.Goals.{then-can_take+in_ok-add, else-can_take}

pub returns-in_err-add : goal.returns-in_err-add
returns-in_err-add c =
    let r = c.args.rule.head in
    rw c.from_residual.ensures
    (spreading_full r.clocks r.count c.args.rule.edges.now c.args.grain c.args.symbol c.args.from
    c.loop-e.invariant c.loop-e-test.true _ c.edge-edge.result c.edge-edge.ensures c.can_take.ensures
    c.if-can_take.true c.after_edge-next.result
    c.after_edge-next.ensures
    c.in_err-add.ensures _ c.requires)

pub loop-e-preserved : goal.loop-e-preserved
loop-e-preserved c =
    let r = c.args.rule.head in
    elim c.if-can_take.branch [
      | then-can_take+in_ok-add w ↦
          rw w.bank-is
          (spreading_added r.clocks r.count c.args.rule.edges.now c.args.grain c.args.symbol c.args.from
          c.loop-e.invariant c.loop-e-test.true _ c.edge-edge.result c.edge-edge.ensures c.can_take.ensures
          w.if-can_take.true w.after_edge-next.result
          w.after_edge-next.ensures _ w.in_ok-add.ensures)
      | else-can_take w ↦
          rw w.bank-is
          (spreading_other r.clocks r.count c.args.rule.edges.now c.args.grain c.args.symbol c.args.from
          c.loop-e.invariant c.loop-e-test.true _ c.edge-edge.result c.edge-edge.ensures c.can_take.ensures
          w.if-can_take.false)
    ]

pub returns : goal.returns
returns c =
    let r = c.args.rule.head in
    spread_all r.clocks r.count c.args.rule.edges.now c.args.grain c.args.symbol c.args.from c.args.bank.now
    c.loop-e.invariant c.loop-e-test.false c.requires refl
