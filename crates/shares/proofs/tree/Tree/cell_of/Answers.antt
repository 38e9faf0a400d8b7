-- `shares::tree::Tree::cell_of` meets its contract: a row has a line of W cells for each symbol.
use Rattle.std.proofs.Common.{refl}
use Rattle.model.proofs.ShapeCells.{CellAsked, place_in}
use Rattle.shares.proofs.tree.Tree.cell_of.Goals as goal

pub bounds-self-at : goal.bounds-self-at
bounds-self-at c =
    let tree = c.args.self.now in
    let asked : CellAsked tree.table.built tree.table.cells.now c.args.row c.args.symbol c.args.interval
    tree.table.built.symbols
    c.width.result =
    record {
      rows_most = tree.sized.rows_most;
      symbols_most = tree.sized.symbols_most;
      cells_long = tree.celled.cells_long;
      row_in = c.requires.0;
      symbol_in = c.requires.1;
      interval_in = c.requires.2;
      symbols_are = refl;
      width_is = c.width.ensures;
    } in
    place_in asked
