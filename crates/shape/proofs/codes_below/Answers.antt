-- `shape::codes_below` meets its contract: what the flag says and what holds of the codes to come is what holds of all.
use borrow.Author.Rules.{rules}
use Rattle.shape.proofs.Loops.{codes_start, codes_next, code_high, codes_end}
use Rattle.shape.proofs.codes_below.Goals as goal
use Rattle.shape.proofs.codes_below.Goals.{then-limit-code, else-limit-code}

pub loop-code-init : goal.loop-code-init
loop-code-init c = codes_start _ _

pub loop-code-preserved : goal.loop-code-preserved
loop-code-preserved c =
    let i = c.loop-code.invariant in
    elim c.if-limit-code.branch [
      | then-limit-code w ↦ rw w.below-is (code_high i (search rules) w.if-limit-code.true)
      | else-limit-code w ↦ rw w.below-is (codes_next i (search rules) w.if-limit-code.false)
    ]

pub returns : goal.returns
returns c = codes_end c.loop-code.invariant (search rules)
