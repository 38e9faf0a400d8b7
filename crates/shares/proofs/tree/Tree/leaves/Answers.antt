-- `shares::tree::Tree::leaves` meets its contract: the walk of a node with one count, all of it held back.
use Rattle.std.proofs.Common.{arith}
use Rattle.tables.specs.Views.{table_in}
use Rattle.shares.proofs.TreeCounts.{EventRead, walk_start, stamp_start, stamp_end}
use Rattle.shares.proofs.TreeCounts.{here_most, symbol_last}
use Rattle.shares.proofs.TreeLeaves.{leaves_roomy, leaves_end}
use Rattle.shares.proofs.tree.Tree.leaves.Goals as goal
use Rattle.shares.proofs.tree.Tree.leaves.Goals.{After-stored_at-here}

-- what the walk has read of the event
read :
    (c : After-stored_at-here)
    → EventRead (table_in c.args.self.now.table) c.args.stamps c.args.row c.args.reset c.loop-stamp.stamp
    c.loop-symbol.symbol
    c.interval_at-interval.result
    c.cell_of-cell.result
    c.stored_at-here.result
read c = record {
  symbol_in = omega arith;
  interval_is = c.interval_at-interval.ensures.0;
  cell_read = c.cell_of-cell.ensures;
  verdict_is = c.stored_at-here.ensures.0;
  verdict_most = c.stored_at-here.ensures.1;
}

pub loop-stamp-init : goal.loop-stamp-init
loop-stamp-init c = walk_start _ _ _ _ (leaves_roomy _ _ _ _ _ c.args.self.now.sized c.requires)

pub loop-symbol-init : goal.loop-symbol-init
loop-symbol-init c = stamp_start _ _ _ _ _ c.loop-stamp-test.true c.loop-stamp.invariant

pub overflow_add-here : goal.overflow_add-here
overflow_add-here c =
    let e = read (goal.at.overflow_add-here c).After-stored_at-here in
    record { fits = omega (arith, here_most _ _ _ _ e c.loop-symbol.invariant) }

pub loop-symbol-preserved : goal.loop-symbol-preserved
loop-symbol-preserved c =
    let e = read (goal.at.loop-symbol-preserved c).After-stored_at-here in
    symbol_last _ _ _ _ e c.loop-symbol.invariant (omega arith)

pub loop-stamp-preserved : goal.loop-stamp-preserved
loop-stamp-preserved c =
    stamp_end _ _ _ _ _ c.loop-stamp-test.true c.loop-stamp.invariant (omega arith) c.loop-symbol.invariant

pub returns : goal.returns
returns c = leaves_end _ _ _ _ _ c.loop-stamp-test.false c.loop-stamp.invariant
