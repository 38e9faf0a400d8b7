-- `shape::verdicts::verdicts_ok` meets its contract: what holds of the rows to come is what holds of all.
use Rattle.std.proofs.Common.{[], ◌∷◌, ◌∙◌, ap, length-append}
use Rattle.model.specs.Basics.{one_if}
use Rattle.shape.proofs.Rows.{walked_more, walked_start, walked_length, walked_verdict}
use Rattle.shape.proofs.Rows.{walked_next, walked_end}
use Rattle.shape.proofs.Saying.{weight_some, part_fits, part_products, part_said}
use Rattle.shape.proofs.Saying.{flag_number, checked_next, checked_out, checked_end}
use Rattle.shape.proofs.verdicts.verdicts_ok.Goals as goal

pub reciprocal_of-reciprocal-requires : goal.reciprocal_of-reciprocal-requires
reciprocal_of-reciprocal-requires c = rw c.location_weight.ensures (weight_some c.requires)

pub slice_bounds-row_says-end : goal.slice_bounds-row_says-end
slice_bounds-row_says-end c =
    let cut = c.in-Some.ensures.steps.1 in
    let w = c.loop-row.invariant.walked in
    let fits =
    part_fits c.requires (walked_more w _ _ cut.0 cut.1) (walked_start w _ _ cut.0 cut.1)
    (walked_length w _ _ cut.0 cut.1) in
    fits

pub row_says-says-requires : goal.row_says-says-requires
row_says-says-requires c =
    let cut = c.in-Some.ensures.steps.1 in
    let w = c.loop-row.invariant.walked in
    part_products c.requires (walked_more w _ _ cut.0 cut.1) (walked_start w _ _ cut.0 cut.1)
    (walked_length w _ _ cut.0 cut.1) c.reciprocal_of-reciprocal.ensures c.location_weight.ensures

pub returns-then-from-row : goal.returns-then-from-row
returns-then-from-row c =
    let cut = c.in-Some.ensures.steps.1 in
    let w = c.loop-row.invariant.walked in
    let said =
    part_said c.requires (walked_more w _ _ cut.0 cut.1) (walked_start w _ _ cut.0 cut.1)
    (walked_length w _ _ cut.0 cut.1) c.reciprocal_of-reciprocal.ensures c.location_weight.ensures
    c.row_says-says.ensures in
    checked_out c.loop-row.invariant.checked _ _ (walked_more w _ _ cut.0 cut.1)
    (c.from.ensures ∙ (flag_number _ ∙ ap one_if said)) (walked_verdict w _ _ cut.0 cut.1) c.if-from-row.true

pub loop-row-preserved : goal.loop-row-preserved
loop-row-preserved c =
    let cut = c.in-Some.ensures.steps.1 in
    let w = c.loop-row.invariant.walked in
    let said =
    part_said c.requires (walked_more w _ _ cut.0 cut.1) (walked_start w _ _ cut.0 cut.1)
    (walked_length w _ _ cut.0 cut.1) c.reciprocal_of-reciprocal.ensures c.location_weight.ensures
    c.row_says-says.ensures in
    rw (length-append c.loop-row.yielded (c.in-Some.row ∷ [])) (record {
      walked = walked_next w _ _ cut.0 cut.1 c.in-Some.ensures.steps.0;
      checked =
          checked_next c.loop-row.invariant.checked _ _ (walked_more w _ _ cut.0 cut.1)
          (c.from.ensures ∙ (flag_number _ ∙ ap one_if said)) (walked_verdict w _ _ cut.0 cut.1)
          c.if-from-row.false;
    })

pub returns : goal.returns
returns c =
    checked_end c.loop-row.invariant.checked
    (walked_end c.loop-row.invariant.walked c.in-None.ensures.steps.1.0)
