-- `lists::raisable` meets its contract: from place i on no event can be raised.
use Rattle.std.proofs.Common.{◌≡◌, refl, ◌∙◌, ◌-◌, suc, arith, rules}
use Rattle.lists.proofs.Places.{six}
use Rattle.lists.proofs.Raised.{stuck_start, stuck_all, by_symbol, by_stamp, stuck_turn}
use Rattle.lists.proofs.raisable.Goals.{then-from-size-via-then-from-size}
use Rattle.lists.proofs.raisable.Goals.{then-from-size-via-else-from-size+then-word-at}
use Rattle.lists.proofs.raisable.Goals as goal

pub loop-at-init : goal.loop-at-init
loop-at-init c = stuck_start _ _ _ (six _ _ c.well_formed.1.0) c.requires _ refl

pub returns-then-from-size : goal.returns-then-from-size
returns-then-from-size c =
    let l = c.loop-at in
    let up : suc (l.at - 1) ≡ l.at = omega arith in
    elim c.then-from-size.branch [
      | then-from-size-via-then-from-size w ↦
          up ∙ by_symbol l.invariant (six _ _ c.well_formed.1.0) c.requires (search rules) (omega arith)
      | then-from-size-via-else-from-size+then-word-at w ↦
          up ∙ by_stamp l.invariant (six _ _ c.well_formed.1.0) c.requires (search rules) (search rules)
    ]

pub loop-at-preserved : goal.loop-at-preserved
loop-at-preserved c =
    stuck_turn c.loop-at.invariant (six _ _ c.well_formed.1.0) c.requires (search rules) (omega arith) (search rules)

pub returns : goal.returns
returns c = stuck_all c.loop-at.invariant (six _ _ c.well_formed.1.0) c.requires (search rules)
