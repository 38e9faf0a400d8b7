-- `Plan::fill_rows` meets its contract: the cells of the rows so far stand from place 0 on, and discovery from here
-- gives the rows of the rule.
use Rattle.std.proofs.Common.{refl, arith}
use Rattle.construct.proofs.AllFilling.{all_start, all_can, all_refused, all_next, all_end}
use Rattle.construct.proofs.Handing.{handed_on}
use Rattle.construct.proofs.Plan.fill_rows.Goals as goal

pub loop-row-init : goal.loop-row-init
loop-row-init c = all_start _ _ _ _ _ _ c.requires

pub fill_row-requires : goal.fill_row-requires
fill_row-requires c =
    all_can (omega arith) c.loop-row.invariant c.requires.enough c.requires.cells_fit c.loop-row-test.true

pub returns-in_err-progress : goal.returns-in_err-progress
returns-in_err-progress c =
    rw (handed_on _ _ c.from_residual.ensures.1)
    (all_refused (omega arith) c.loop-row.invariant c.loop-row-test.true c.in_err-progress.ensures refl)

pub loop-row-smaller : goal.loop-row-smaller
loop-row-smaller c =
    omega (arith, c.loop-row-test.true, c.loop-row.invariant.held.in_room, c.loop-row.invariant.held.room_most)

pub loop-row-preserved : goal.loop-row-preserved
loop-row-preserved c =
    all_next (omega arith) c.loop-row.invariant c.loop-row-test.true c.in_ok-progress.ensures
    c.fill_row.auto.cells
    c.requires.cells_fit

pub returns : goal.returns
returns c = all_end (omega arith) c.loop-row.invariant c.loop-row-test.false refl
