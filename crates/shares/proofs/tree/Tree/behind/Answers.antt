-- `shares::tree::Tree::behind` meets its contract: no part ends past what is lent.
use Rattle.std.proofs.Common.{◌≤◌, length, rules}
use Rattle.tables.specs.Views.{table_in}
use Rattle.shares.proofs.ShapeLaws.{shape_pool}
use Rattle.shares.proofs.tree.Tree.behind.Goals as goal

pub slice_bounds-result-count-3 : goal.slice_bounds-result-count-3
slice_bounds-result-count-3 c = shape_pool (table_in c.args.self.table) c.args.self.shape

pub slice_bounds-result-start-3 : goal.slice_bounds-result-start-3
slice_bounds-result-start-3 c =
    let inside : c.args.self.table.built.total ≤ length c.args.self.table.pool.now =
    shape_pool (table_in c.args.self.table) c.args.self.shape in
    search rules
