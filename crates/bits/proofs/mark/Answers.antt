-- `bits::mark` meets its contract: a bit more is a code more, and the span takes its number in.
use Rattle.std.proofs.Common.{sym, ◌∙◌, ◌%◌, arith, rules}
use Rattle.bits.proofs.Laying.{shl_one_is}
use Rattle.bits.proofs.Loops.{marked_again, count_fits, mark_does}
use Rattle.bits.proofs.mark.Goals.{then-marks-at-via-then-marks-at, then-marks-at-via-else-marks-at+then-is_marked}
use Rattle.bits.proofs.mark.Goals as goal

pub returns-then-marks-at : goal.returns-then-marks-at
returns-then-marks-at c can =
    elim c.then-marks-at.branch [
      | then-marks-at-via-then-marks-at w ↦ absurd (omega (arith, can.code_below))
      | then-marks-at-via-else-marks-at+then-is_marked w ↦
          marked_again can (sym w.is_marked.ensures ∙ w.if-is_marked.true)
    ]

pub returns : goal.returns
returns c can =
    rw (shl_one_is (c.args.code % 32) (search rules))
    (mark_does can _ _ _ (sym c.is_marked.ensures ∙ c.if-is_marked.false) c.min.ensures c.max.ensures
    (omega (arith, count_fits can, c.saturating_add.ensures)))
