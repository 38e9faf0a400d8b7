-- `inclusion::trail::before` meets its contract: none of the places passed leads there.
use Rattle.inclusion.proofs.Sources.{looking_next}
use Rattle.inclusion.proofs.trail.before.Goals as goal

pub loop-k-preserved : goal.loop-k-preserved
loop-k-preserved c =
    looking_next c.loop-k.invariant c.loop-k-test.true _ c.leads.ensures c.if-leads.false
