-- `shape::cells_ok` meets its contract: timer resets are looked at where every row is below R.
use Rattle.std.proofs.Common.{◌∙◌, refl}
use Rattle.model.proofs.Flags.{held, failed}
use Rattle.shape.specs.Ranges.{resets_ok}
use Rattle.shape.proofs.Loops.{cells_are}
use Rattle.shape.proofs.cells_ok.Goals as goal

pub returns-then-codes_below : goal.returns-then-codes_below
returns-then-codes_below c cm =
    let a = c.args in
    held c.codes_below.ensures c.if-codes_below.true c.resets_ok.ensures refl
    ∙ cells_are cm a.rows 0 a.cells.now

pub returns-else-codes_below : goal.returns-else-codes_below
returns-else-codes_below c cm =
    let a = c.args in
    failed (resets_ok 0 a.cells.now) c.codes_below.ensures c.if-codes_below.false refl
    ∙ cells_are cm a.rows 0 a.cells.now
