-- `shares::greatest_of` meets its contract: line after line against the best so far.
use Rattle.shares.proofs.GreatestLaws.{searching_first, better, kept, searched}
use Rattle.shares.proofs.greatest_of.Goals as goal
use Rattle.shares.proofs.greatest_of.Goals.{then-is_smaller, else-is_smaller}

pub loop-i-init : goal.loop-i-init
loop-i-init c = searching_first _ _ c.requires.0

pub loop-i-preserved : goal.loop-i-preserved
loop-i-preserved c =
    let k = c.loop-i.invariant in
    let asked = c.is_smaller.ensures in
    elim c.if-is_smaller.branch [
      | then-is_smaller w ↦ better k c.loop-i-test.true asked w.if-is_smaller.true w.best-is
      | else-is_smaller w ↦ kept k c.loop-i-test.true asked w.if-is_smaller.false w.best-is
    ]

pub returns : goal.returns
returns c = searched c.loop-i.invariant c.loop-i-test.false
