-- `shares::tree::Tree::leaves` meets its contract: the walk of a node with one count, all of it held back.
use Rattle.tables.specs.Views.{table_in}
use Rattle.shares.proofs.TreeLaws.{below, left}
use Rattle.shares.proofs.TreeCounts.{Kept}
use Rattle.shares.proofs.TreeLeaves.{empty}
use Rattle.shares.proofs.tree.Tree.leaves.Given as goal

-- at this stamp the symbols from `symbol` on are still to be counted, and the later stamps
abbrev pub invariant-loop-symbol : goal.invariant-loop-symbol
invariant-loop-symbol l =
    Kept empty l.initial.here (left (table_in l.self.table) l.stamps l.row l.reset l.stamp 0) empty l.here
    (left (table_in l.self.table) l.stamps l.row l.reset l.stamp l.symbol)

-- the stamps from `stamp` on
abbrev pub invariant-loop-stamp : goal.invariant-loop-stamp
invariant-loop-stamp l =
    Kept empty 0 (below (table_in l.self.table) l.stamps l.row l.reset l.fn.from) empty l.here
    (below (table_in l.self.table) l.stamps l.row l.reset l.stamp)
