-- `shape::resets_ok` meets its contract: what the flag says and what holds of the cells to come is what holds of all.
use Rattle.std.proofs.Common.{refl}
use Rattle.shape.proofs.Loops.{no_reset, odd_reset, resets_end}
use Rattle.shape.proofs.resets_ok.Goals as goal

pub loop-pair-init : goal.loop-pair-init
loop-pair-init c =
    let cut = c.chunks_exact-pair-items.ensures in
    rw (c.into_iter-pair-iterator.ensures.into_iter_gives, cut.rest, cut.size)
    (record { size_is = refl; rest_is = refl })

pub returns : goal.returns
returns c = resets_end c.loop-pair.invariant c.in-None.ensures.steps.1.0

pub loop-pair-preserved-then-pair-eq1 : goal.loop-pair-preserved-then-pair-eq1
loop-pair-preserved-then-pair-eq1 c =
    let cut = c.in-Some.ensures.steps in
    odd_reset c.loop-pair.invariant _ _ cut.1.0 cut.1.1 cut.0 c.if-pair-eq1.true

pub loop-pair-preserved : goal.loop-pair-preserved
loop-pair-preserved c =
    let cut = c.in-Some.ensures.steps in
    no_reset c.loop-pair.invariant _ _ cut.1.0 cut.1.1 cut.0 c.if-pair-eq1.false
