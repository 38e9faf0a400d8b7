-- `construct::marks::mark_starts` meets its contract: from the highest location down, as the definition puts them in.
use Rattle.std.proofs.Common.{◌∙◌, sym, refl, arith, rules}
use Rattle.construct.proofs.MarkLaws.{starting, starting_can, starting_next, starting_skip}
use Rattle.construct.proofs.marks.mark_starts.Goals as goal

pub loop-location-init : goal.loop-location-init
loop-location-init c = starting _ _ (c.span_of_none-span.ensures c.requires.marks_zero)

pub loop-location-preserved-then-has_bit : goal.loop-location-preserved-then-has_bit
loop-location-preserved-then-has_bit c =
    let inv = c.loop-location.invariant in
    let here = sym c.has_bit.ensures ∙ c.if-has_bit.true in
    starting_next inv _ _ _ (search rules) refl here
    (c.mark-span.ensures (starting_can inv _ c.requires c.loop-location.auto.marks (omega (arith, inv.turns)) here))

pub loop-location-preserved : goal.loop-location-preserved
loop-location-preserved c =
    starting_skip c.loop-location.invariant _ _ _ (search rules) refl (sym c.has_bit.ensures ∙ c.if-has_bit.false)
    refl
    refl
