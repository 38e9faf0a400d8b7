-- `branch::least_start` meets its contract: the first initial location from which there is an accepting run.
use mathlib.Core.Path.{refl, sym, ap}
use native.Mathlib.Omega.{arith}
use Rattle.model.specs.Runs.{Path}
use Rattle.branch.specs.Branches.{begun}
use Rattle.branch.proofs.Starts.{start_ready, starting, starting_other, starting_stuck, starting_found}
use Rattle.branch.proofs.Starts.{starting_none}
use Rattle.branch.proofs.least_start.Goals as goal
use Rattle.branch.proofs.least_start.Goals.{then-has_bit+in_default, else-has_bit}

pub loop-l-init : goal.loop-l-init
loop-l-init c = starting _ _ _ _ _ _ refl

pub least_from-requires : goal.least_from-requires
least_from-requires c = (omega arith, start_ready _ _ _ _ c.requires c.start-from.ensures.1)

pub returns-in-Some : goal.returns-in-Some
returns-in-Some c =
    let g = c.args.given.now in
    starting_found g.rule.head g.rule.edges.now g.grain g.events.symbols.now g.events.stamps.now c.loop-l.invariant
    c.loop-l-test.true _ c.start-from.result c.requires c.has_bit.ensures c.if-has_bit.true c.start-from.ensures.0
    c.start-from.ensures.1 _ c.in-Some.ensures

pub loop-l-preserved : goal.loop-l-preserved
loop-l-preserved c =
    let g = c.args.given.now in
    elim c.if-has_bit.branch [
      | then-has_bit+in_default w ↦
          starting_stuck g.rule.head g.rule.edges.now g.grain g.events.symbols.now g.events.stamps.now
          c.loop-l.invariant c.loop-l-test.true _ w.start-from.result c.requires c.has_bit.ensures w.if-has_bit.true
          w.start-from.ensures.0 w.start-from.ensures.1 w.in_default.ensures
      | else-has_bit w ↦
          starting_other g.rule.head g.rule.edges.now g.grain g.events.symbols.now g.events.stamps.now
          c.loop-l.invariant c.loop-l-test.true _ c.has_bit.ensures w.if-has_bit.false
    ]

pub returns : goal.returns
returns c =
    let g = c.args.given.now in
    let none =
    starting_none g.rule.head g.rule.edges.now g.grain g.events.symbols.now g.events.stamps.now c.loop-l.invariant
    c.loop-l-test.false in
    sym (ap (λ (p : Path). begun p) none)
