-- `Plan::fill_row` meets its contract: the cells of the symbols so far stand in their place.
use Rattle.construct.proofs.RowFilling.{row_start, row_can, row_refused, row_next, row_end}
use Rattle.construct.proofs.SymbolFilling.{symbols_of}
use Rattle.construct.proofs.Handing.{handed_on}
use Rattle.construct.proofs.Plan.fill_row.Goals as goal

pub loop-symbol-init : goal.loop-symbol-init
loop-symbol-init c = row_start _ _ _ _ _ _ _ c.requires

pub fill_symbol-requires : goal.fill_symbol-requires
fill_symbol-requires c = record {
  can_fill = row_can c.loop-symbol.invariant c.requires.leave.enough c.requires.cells_fit;
  symbol_lt_symbols = c.loop-symbol-test.true;
}

pub returns-in_err-progress : goal.returns-in_err-progress
returns-in_err-progress c =
    let rule = c.args.self.rule in
    rw (handed_on _ _ c.from_residual.ensures.1)
    (row_refused c.loop-symbol.invariant (rw (symbols_of rule.head rule.edges.now) c.loop-symbol-test.true)
    c.in_err-progress.ensures)

pub loop-symbol-preserved : goal.loop-symbol-preserved
loop-symbol-preserved c =
    let rule = c.args.self.rule in
    row_next c.loop-symbol.invariant (rw (symbols_of rule.head rule.edges.now) c.loop-symbol-test.true)
    c.in_ok-progress.ensures
    c.fill_symbol.auto.cells
    c.requires.cells_fit

pub returns : goal.returns
returns c =
    let rule = c.args.self.rule in
    row_end c.loop-symbol.invariant (rw (symbols_of rule.head rule.edges.now) c.loop-symbol-test.false)
