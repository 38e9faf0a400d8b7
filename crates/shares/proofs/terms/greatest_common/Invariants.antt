-- `shares::terms::greatest_common` meets its contract: what divides the two numbers held is what divides the two given.
use Rattle.model.proofs.LowestTerms.{Turning}
use Rattle.shares.proofs.terms.greatest_common.Given as goal

abbrev pub invariant-loop-y : goal.invariant-loop-y
invariant-loop-y l = Turning l.a l.b l.x l.y

abbrev pub decreases-loop-y : goal.decreases-loop-y
decreases-loop-y l = l.y
