-- `inclusion::sides::Side::cell_of` meets its contract: a row has a line of W cells for each symbol.
use Rattle.std.proofs.Common.{refl}
use Rattle.model.proofs.ShapeCells.{CellAsked, place_in}
use Rattle.inclusion.proofs.sides.Side.cell_of.Goals as goal

pub bounds-self-place : goal.bounds-self-place
bounds-self-place c =
    let t = c.args.self.table in
    let at = c.args.at in
    let k = c.args.self.celled in
    let asked : CellAsked t.built t.cells.now at.row c.args.symbol at.age t.built.symbols c.width-w.result = record {
      rows_most = k.sized.rows_most;
      symbols_most = k.sized.symbols_most;
      cells_long = k.cells_long;
      row_in = c.requires.0.row_in;
      symbol_in = c.requires.1;
      interval_in = c.requires.0.age_in;
      symbols_are = refl;
      width_is = c.width-w.ensures;
    } in
    place_in asked
