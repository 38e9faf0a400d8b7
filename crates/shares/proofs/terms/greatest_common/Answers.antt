-- `shares::terms::greatest_common` meets its contract: what divides the two numbers held is what divides the two given.
use mathlib.Core.Path.{◌≡◌}
use native.Mathlib.Nat.{mod-lt}
use borrow.Author.Rules.{rules}
use Rattle.model.proofs.LowestTerms.{turning_start, turning_turn, turning_end}
use Rattle.shares.proofs.terms.greatest_common.Goals as goal

pub loop-y-init : goal.loop-y-init
loop-y-init c = turning_start _ _

pub loop-y-smaller : goal.loop-y-smaller
loop-y-smaller c = mod-lt c.loop-y.x (search rules)

pub loop-y-preserved : goal.loop-y-preserved
loop-y-preserved c = turning_turn c.loop-y.invariant

pub returns : goal.returns
returns c =
    let e : c.loop-y.y ≡ 0 = search rules in
    turning_end (rw e at c.loop-y.invariant) c.requires
