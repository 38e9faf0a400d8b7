-- `inclusion::trail::depth` meets its contract: the count is the level of the place, which rises one at a time.
use Rattle.inclusion.proofs.Levels.{counting_more, counting_same, counting_end, counting_to}
use Rattle.inclusion.proofs.trail.depth.Goals.{then-here-next, else-here-next}
use Rattle.inclusion.proofs.trail.depth.Goals as goal

pub loop-k-preserved : goal.loop-k-preserved
loop-k-preserved c =
    let k = c.loop-k.invariant in
    let h = c.loop-k-test.true in
    let a = c.level_at-here.ensures in
    let b = c.level_at-next.ensures in
    elim c.if-here-next.branch [
      | then-here-next w ↦ counting_to w.n-is (counting_more k h _ _ a b w.if-here-next.true)
      | else-here-next w ↦ counting_to w.n-is (counting_same k h _ _ a b w.if-here-next.false)
    ]

pub returns : goal.returns
returns c = counting_end c.loop-k.invariant c.loop-k-test.false
