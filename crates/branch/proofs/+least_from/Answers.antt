-- `branch::least_from` meets its contract: the edges passed led to no accepting run, so the least one is what the edges
-- still to try give; the first edge that leads to one gives it.
use Rattle.std.specs.Prelude.{Some}
use mathlib.Core.Path.{◌≡◌, sym, ◌∙◌, ap}
use Prim.Native.Nat.{ℕ, ◌+◌, ◌-◌, ◌≤◌}
use native.Mathlib.Omega.{arith}
use lib.ListN.{length}
use Rattle.model.specs.Runs.{Path}
use Rattle.edges.specs.Views.{edge_of}
use Rattle.ages.proofs.Laws.{not_leaving, guard_decides}
use Rattle.branch.specs.Branches.{placed}
use Rattle.branch.proofs.Laws.{end_found, end_none, trying_other, trying_stuck, trying_found, trying_none}
use Rattle.branch.proofs.Laws.{edge_by, at_event, next_ready}
use Rattle.branch.proofs.+least_from.Goals as goal
use Rattle.branch.proofs.+least_from.Goals.{then-is_left+then-guard_holds+in_default, else-is_left}
use Rattle.branch.proofs.+least_from.Goals.{else-is_left-via-then-is_left+else-guard_holds}
use Rattle.branch.proofs.+least_from.Goals.{else-is_left-via-else-is_left}

-- the call's first event is one place further
next_place : (n left : ℕ) → left ≤ n → (left ≡ 0 → ⊥) → n - (left - 1) ≡ n - left + 1
next_place n left h z = omega arith

pub returns-then-has_location : goal.returns-then-has_location
returns-then-has_location t c =
    let g = c.args.given.now in
    end_found g.rule.head g.rule.edges.now g.grain g.events.symbols.now g.events.stamps.now _ _ c.args.from _
    c.requires.1 (omega arith) c.has_location.ensures c.if-has_location.true

pub returns-then-left-eq0 : goal.returns-then-left-eq0
returns-then-left-eq0 t c =
    let g = c.args.given.now in
    end_none g.rule.head g.rule.edges.now g.grain g.events.symbols.now g.events.stamps.now _ _ c.args.from _
    (omega arith) c.has_location.ensures c.if-has_location.false

pub least_from-requires : goal.least_from-requires
least_from-requires t c =
    let a = c.args in
    let g = a.given.now in
    let depth = length g.events.symbols.now - a.left in (
      omega arith,
      (
        omega (arith, c.requires.0),
        next_ready g.rule.head g.events.symbols.now g.events.stamps.now depth _ a.last.0 _ (edge_of c.edge-edge.result)
            a.from _ _ c.requires.1 (omega arith) (next_place _ a.left c.requires.0 c.if-left-eq0.false)
            c.loop-e.invariant.0 c.since.ensures c.after_delay-now.ensures c.after_edge-next.ensures,
      ),
    )

pub returns-in-Some : goal.returns-in-Some
returns-in-Some t c =
    let a = c.args in
    let g = a.given.now in
    let l = c.loop-e in
    let depth = length g.events.symbols.now - a.left in
    let now_is = c.after_delay-now.result in
    let edge = edge_of c.edge-edge.result in
    let can =
    guard_decides g.grain g.rule.head.clocks _ now_is edge _ c.is_left.ensures _ _ c.if-is_left.true
    l.invariant.1.clocks_read c.guard_holds.ensures in
    let found =
    trying_found g.rule.head g.rule.edges.now g.grain g.events.symbols.now g.events.stamps.now depth now_is
    l.invariant.1
    c.loop-e-test.true edge (edge_by c.edge-edge.result l.e g.rule.edges.now c.edge-edge.ensures)
    c.after_edge-next.result c.after_edge-next.ensures _ (next_place _ a.left c.requires.0 c.if-left-eq0.false) _ can
    c.if-guard_holds.true c.in-Some.run'
    (omega (arith, c.requires.1.events_most, c.requires.1.depth_in)) c.in-Some.ensures in
    let from_event =
    at_event g.rule.head g.rule.edges.now g.grain g.events.symbols.now g.events.stamps.now depth a.last.0 _ a.from _
    c.requires.1 (omega arith) c.loop-e.invariant.0 c.since.ensures c.after_delay-now.ensures in
    ap Some c.with_edge.ensures ∙ (found ∙ ap (λ (p : Path). placed depth p) (sym from_event))

pub loop-e-preserved : goal.loop-e-preserved
loop-e-preserved t c =
    let a = c.args in
    let g = a.given.now in
    let l = c.loop-e in
    let depth = length g.events.symbols.now - a.left in
    let now_is = c.after_delay-now.result in
    let edge = edge_of c.edge-edge.result in
    let edge_is = edge_by c.edge-edge.result l.e g.rule.edges.now c.edge-edge.ensures in
    let read = l.invariant.1.clocks_read in (
      l.invariant.0,
      elim c.if-is_left.branch [
        | then-is_left+then-guard_holds+in_default w ↦
            trying_stuck g.rule.head g.rule.edges.now g.grain g.events.symbols.now g.events.stamps.now depth now_is
            l.invariant.1 c.loop-e-test.true edge edge_is w.after_edge-next.result w.after_edge-next.ensures _
            (next_place _ a.left c.requires.0 c.if-left-eq0.false) _
            (guard_decides g.grain g.rule.head.clocks _ now_is edge _ c.is_left.ensures _ _ w.if-is_left.true read
            w.guard_holds.ensures)
            w.if-guard_holds.true w.in_default.ensures
        | else-is_left v ↦
            elim v.else-is_left.branch [
              | else-is_left-via-then-is_left+else-guard_holds w ↦
                  trying_other g.rule.head g.rule.edges.now g.grain g.events.symbols.now g.events.stamps.now depth
                  now_is l.invariant.1 c.loop-e-test.true edge edge_is _
                  (guard_decides g.grain g.rule.head.clocks _ now_is edge _ c.is_left.ensures _ _ w.if-is_left.true read
                  w.guard_holds.ensures)
                  w.if-guard_holds.false
              | else-is_left-via-else-is_left w ↦
                  trying_other g.rule.head g.rule.edges.now g.grain g.events.symbols.now g.events.stamps.now depth
                  now_is l.invariant.1 c.loop-e-test.true edge edge_is _
                  (not_leaving g.grain g.rule.head.clocks _ now_is edge _ c.is_left.ensures w.if-is_left.false)
                  w.if-is_left.false
            ]
      ],
    )

pub returns : goal.returns
returns t c =
    let a = c.args in
    let g = a.given.now in
    let depth = length g.events.symbols.now - a.left in
    let none =
    trying_none g.rule.head g.rule.edges.now g.grain g.events.symbols.now g.events.stamps.now depth _
    c.loop-e.invariant.1 c.loop-e-test.false in
    let from_event =
    at_event g.rule.head g.rule.edges.now g.grain g.events.symbols.now g.events.stamps.now depth a.last.0 _ a.from _
    c.requires.1 (omega arith) c.loop-e.invariant.0 c.since.ensures c.after_delay-now.ensures in
    sym (ap (λ (p : Path). placed depth p) (from_event ∙ none))
