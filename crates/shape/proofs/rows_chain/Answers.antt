-- `shape::rows_chain` meets its contract: what holds of the rows to come is what holds of all.
use Rattle.std.proofs.Common.{◌+◌, ◌*◌, [], ◌∷◌, length, sym, ◌∙◌, arith, length-append}
use Rattle.model.specs.Tables.{row_width}
use Rattle.shape.proofs.Rows.{walked_more, walked_start, walked_length, walked_next, walked_end}
use Rattle.shape.proofs.Loops.{chain_next, chain_broken, chain_end}
use Rattle.shape.proofs.rows_chain.Goals as goal

pub returns-then-row-end : goal.returns-then-row-end
returns-then-row-end c =
    let cut = c.in-Some.ensures.steps.1 in
    let w = c.loop-row.invariant.walked in
    let start = walked_start w _ _ cut.0 cut.1 in
    chain_broken c.loop-row.invariant.chained (walked_more w _ _ cut.0 cut.1)
    (λ e. c.if-row-end.true (start ∙ e))

pub loop-row-preserved : goal.loop-row-preserved
loop-row-preserved c =
    let cut = c.in-Some.ensures.steps in
    let w = c.loop-row.invariant.walked in
    let start = walked_start w _ _ cut.1.0 cut.1.1 in
    let size = walked_length w _ _ cut.1.0 cut.1.1 in
    rw (length-append c.loop-row.yielded (c.in-Some.row ∷ [])) (record {
      walked = walked_next w _ _ cut.1.0 cut.1.1 cut.0;
      chained =
          chain_next c.loop-row.invariant.chained _ (walked_more w _ _ cut.1.0 cut.1.1)
          (sym start ∙ c.if-row-end.false) size
          (omega (arith, size, c.type_inv.rows (row_width * length c.loop-row.yielded + 1)));
    })

pub returns : goal.returns
returns c =
    chain_end c.loop-row.invariant.chained (walked_end c.loop-row.invariant.walked c.in-None.ensures.steps.1.0)
