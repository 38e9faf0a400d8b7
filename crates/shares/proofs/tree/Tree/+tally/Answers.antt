-- `shares::tree::Tree::tally` meets its contract: what the walk has read of an event tells what is counted behind it.
use Rattle.std.proofs.Common.{ℕ, ◌/◌, ◌<◌, arith}
use Rattle.tables.specs.Views.{table_in}
use Rattle.shares.specs.Tree.{Node}
use Rattle.shares.proofs.TreeCells.{next_below}
use Rattle.shares.proofs.TreeCounts.{kept_as, EventRead, tail_long, walk_start, stamp_start, stamp_end}
use Rattle.shares.proofs.TreeCounts.{here_most, child_node, child_roomy, symbol_last, symbol_more}
use Rattle.shares.proofs.TreeCounts.{end_tallied}
use Rattle.shares.proofs.TreeLeaves.{raised_most, symbol_two}
use Rattle.shares.proofs.tree.Tree.+tally.Goals as goal
use Rattle.shares.proofs.tree.Tree.+tally.Goals.{After-stored_at-here, After-reset_after-since}
use Rattle.shares.proofs.tree.Tree.+tally.Goals.{then-counts-gt1+then-counts-eq2, then-counts-gt1+else-counts-eq2}
use Rattle.shares.proofs.tree.Tree.+tally.Goals.{else-counts-gt1}

-- what the walk has read of the event
read :
    (t : ℕ) (c : After-stored_at-here t)
    → EventRead (table_in c.args.self.now.table) c.args.stamps c.args.row c.args.reset c.loop-stamp.stamp
    c.loop-symbol.symbol
    c.interval_at-interval.result
    c.cell_of-cell.result
    c.stored_at-here.result
read t c = record {
  symbol_in = omega arith;
  interval_is = c.interval_at-interval.ensures.0;
  cell_read = c.cell_of-cell.ensures;
  verdict_is = c.stored_at-here.ensures.0;
  verdict_most = c.stored_at-here.ensures.1;
}

-- the node behind the event
child :
    (t : ℕ) (c : After-reset_after-since t)
    → Node c.args.self.now.table.built c.args.stamps (c.cell_of-cell.result / 2) c.reset_after-since.result
    c.loop-stamp.stamp
child t c =
    let p = c.requires in
    let symbol_in : c.loop-symbol.symbol < c.args.self.now.table.built.symbols = omega arith in
    child_node _ p.0 (omega arith) (omega arith)
    (next_below c.args.self.now.celled p.0.row_in symbol_in c.interval_at-interval.ensures.1 c.cell_of-cell.ensures)
    c.reset_after-since.ensures

pub loop-stamp-init : goal.loop-stamp-init
loop-stamp-init t c = walk_start _ _ _ _ c.requires.1

pub loop-symbol-init : goal.loop-symbol-init
loop-symbol-init t c = stamp_start _ _ _ _ _ c.loop-stamp-test.true c.loop-stamp.invariant

pub overflow_add-here : goal.overflow_add-here
overflow_add-here t c =
    let e = read t (goal.at.overflow_add-here t c).After-stored_at-here in
    record { fits = omega (arith, here_most _ _ _ _ e c.loop-symbol.invariant) }

pub overflow_add-counts : goal.overflow_add-counts
overflow_add-counts t c =
    let e = read t (goal.at.overflow_add-counts t c).After-stored_at-here in
    record {
      fits =
          omega (
            arith,
            raised_most _ _ _ _ e c.loop-symbol.invariant c.reset_after-since.ensures c.if-counts-eq2.true
                c.leaves.ensures,
          );
    }

pub leaves-requires : goal.leaves-requires
leaves-requires t c = child t (goal.at.leaves-requires t c).After-reset_after-since

pub tally-requires : goal.tally-requires
tally-requires t c =
    let p = c.requires in
    let k = c.loop-symbol.invariant in (
      omega (
        arith,
        tail_long c.loop-symbol.counts,
        k.same_length,
        c.loop-stamp.invariant.same_length,
        c.decreases,
        c.if-counts-gt1.true,
      ),
      (
        child t (goal.at.tally-requires t c).After-reset_after-since,
        child_roomy _ _ _ _ (read t (goal.at.tally-requires t c).After-stored_at-here) k c.reset_after-since.ensures
            c.if-counts-gt1.true,
      ),
    )

pub loop-symbol-preserved : goal.loop-symbol-preserved
loop-symbol-preserved t c =
    let k = c.loop-symbol.invariant in
    let e = read t (goal.at.loop-symbol-preserved t c).After-stored_at-here in
    elim c.if-counts-gt1.branch [
      | then-counts-gt1+then-counts-eq2 w ↦
          kept_as w.counts-is
          (symbol_two _ _ _ _ e k w.reset_after-since.ensures w.if-counts-eq2.true w.leaves.ensures)
      | then-counts-gt1+else-counts-eq2 w ↦
          kept_as w.counts-is
          (symbol_more _ _ _ _ e k w.reset_after-since.ensures w.if-counts-gt1.true w.tally.ensures)
      | else-counts-gt1 w ↦ kept_as w.counts-is (symbol_last _ _ _ _ e k w.if-counts-gt1.false)
    ]

pub loop-stamp-preserved : goal.loop-stamp-preserved
loop-stamp-preserved t c =
    stamp_end _ _ _ _ _ c.loop-stamp-test.true c.loop-stamp.invariant (omega arith) c.loop-symbol.invariant

pub returns : goal.returns
returns t c = end_tallied _ _ _ _ _ _ c.loop-stamp-test.false c.loop-stamp.invariant
