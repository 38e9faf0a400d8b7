-- `shape::verdicts::row_says` meets its contract: what is found so far or among the codes to come is found in all.
use Rattle.std.proofs.Common.{sym, ◌∙◌, arith}
use borrow.Author.Rules.{rules}
use Rattle.shape.proofs.Saying.{said_start, said_no, said_yes, said_end}
use Rattle.shape.proofs.verdicts.row_says.Goals.{then-has_bit, else-has_bit}
use Rattle.shape.proofs.verdicts.row_says.Goals as goal

pub loop-code-init : goal.loop-code-init
loop-code-init c = said_start _ _ _

pub overflow_mul-code : goal.overflow_mul-code
overflow_mul-code c = omega (arith, c.requires c.loop-code.code-index (search rules))

pub loop-code-preserved : goal.loop-code-preserved
loop-code-preserved c =
    let i = c.loop-code.invariant in
    let bit_is = c.has_bit.ensures in
    elim c.if-has_bit.branch [
      | then-has_bit w ↦ rw w.says-is (said_yes i (search rules) (sym bit_is ∙ w.if-has_bit.true))
      | else-has_bit w ↦ rw w.says-is (said_no i (search rules) (sym bit_is ∙ w.if-has_bit.false))
    ]

pub returns : goal.returns
returns c = said_end c.loop-code.invariant (search rules)
