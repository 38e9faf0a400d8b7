-- `shares::tree::Tree::tally` calls itself with one count fewer, down to two; of two the second is raised by the words
-- one event below the child. In both loops what stands in the counts, what is held back for the first of them and what
-- is still to be walked come to one sum, place by place.
use Rattle.std.proofs.Common.{length}
use Rattle.tables.specs.Views.{table_in}
use Rattle.shares.proofs.TreeLaws.{below, left}
use Rattle.shares.proofs.TreeCounts.{Kept}
use Rattle.shares.proofs.tree.Tree.+tally.Given as goal

-- the lengths of words still counted
abbrev pub decreases-tally : goal.decreases-tally
decreases-tally l = length l.counts.now

-- the stamps from `stamp` on are still to be walked
abbrev pub invariant-loop-stamp : goal.invariant-loop-stamp
invariant-loop-stamp l =
    Kept l.initial.counts 0 (below (table_in l.self.table) l.stamps l.row l.reset l.fn.from) l.counts l.here
    (below (table_in l.self.table) l.stamps l.row l.reset l.stamp)

-- at this stamp the symbols from `symbol` on, and the later stamps
abbrev pub invariant-loop-symbol : goal.invariant-loop-symbol
invariant-loop-symbol l =
    Kept l.initial.counts l.initial.here (left (table_in l.self.table) l.stamps l.row l.reset l.stamp 0) l.counts l.here
    (left (table_in l.self.table) l.stamps l.row l.reset l.stamp l.symbol)
