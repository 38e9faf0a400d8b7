-- `Plan::fill_symbol` meets its contract: the cells so far stand in their place, until a row does not fit.
use Rattle.std.proofs.Common.{◌≤◌, refl, arith}
use Rattle.model.specs.Rules.{most_symbols}
use Rattle.construct.proofs.SymbolFilling.{filling_start, filling_leave, filling_refused}
use Rattle.construct.proofs.SymbolFilling.{filling_next, filling_fits, filling_end, symbols_of, symbols_few}
use Rattle.construct.proofs.Handing.{handed_on}
use Rattle.construct.proofs.Plan.fill_symbol.Goals as goal

pub place_of-at-requires : goal.place_of-at-requires
place_of-at-requires c =
    let rule = c.args.self.rule in
    let few : rule.head.symbols ≤ most_symbols = symbols_few rule.head rule.edges.now c.args.self.passed in
    let leave = c.requires.can_fill.leave in (
      omega (arith, leave.row_below, leave.held.in_room, leave.held.room_most),
      omega (arith, few),
      omega (arith, few, c.requires.symbol_lt_symbols),
      omega (arith, c.width-width.ensures.1),
    )

pub loop-i-init : goal.loop-i-init
loop-i-init c = filling_start _ _ _ _ _ _ _ _ _ c.requires.can_fill

pub make_cell-requires : goal.make_cell-requires
make_cell-requires c = filling_leave c.loop-i.invariant c.requires.can_fill.leave.enough

pub returns-in_err-filled : goal.returns-in_err-filled
returns-in_err-filled c =
    rw (handed_on _ _ c.from_residual.ensures.1)
    (filling_refused c.loop-i.invariant (omega (arith, c.loop-i-test.true, c.width-width.ensures.0)) refl refl
    c.in_err-filled.ensures)

pub bounds-cells-at : goal.bounds-cells-at
bounds-cells-at c =
    let rule = c.args.self.rule in
    let fits =
    filling_fits c.loop-i.invariant _ c.width-width.ensures.0 c.loop-i-test.true
    (rw (symbols_of rule.head rule.edges.now) c.requires.symbol_lt_symbols)
    c.requires.can_fill.cells_fit
    (rw (symbols_of rule.head rule.edges.now) c.place_of-at.ensures) in
    omega (arith, fits, c.loop-i.invariant.cells_long)

pub loop-i-preserved : goal.loop-i-preserved
loop-i-preserved c =
    let rule = c.args.self.rule in
    let fits =
    filling_fits c.loop-i.invariant _ c.width-width.ensures.0 c.loop-i-test.true
    (rw (symbols_of rule.head rule.edges.now) c.requires.symbol_lt_symbols)
    c.requires.can_fill.cells_fit
    (rw (symbols_of rule.head rule.edges.now) c.place_of-at.ensures) in
    filling_next c.loop-i.invariant (omega (arith, c.loop-i-test.true, c.width-width.ensures.0)) refl refl
    c.in_ok-filled.ensures _ fits refl

pub returns : goal.returns
returns c =
    let rule = c.args.self.rule in
    filling_end c.loop-i.invariant (omega (arith, c.loop-i-test.false, c.width-width.ensures.0))
    (rw (← c.width-width.ensures.0, symbols_of rule.head rule.edges.now) c.place_of-at.ensures)
