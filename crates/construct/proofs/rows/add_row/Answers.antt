-- `construct::rows::add_row` meets its contract: 23, 24, or one row more in both tables.
use Rattle.std.proofs.Common.{◌∙◌, refl, ap, List, ℕ, ◌+◌, arith, rules}
use Rattle.model.specs.Basics.{one_if}
use Rattle.bits.specs.Bits.{codes_in}
use Rattle.construct.specs.Rows.{says_by}
use Rattle.construct.proofs.NewRow.{no_room, pool_short, row_added}
use Rattle.construct.proofs.PlacedMarks.{code_set, row_laid}
use Rattle.construct.proofs.rows.add_row.Goals as goal

pub returns-then-p-row : goal.returns-then-p-row
returns-then-p-row c = no_room c.requires.held (codes_in c.args.wanted.marks.now) c.if-p-row.true

pub returns-then-pool-total : goal.returns-then-pool-total
returns-then-pool-total c =
    pool_short c.requires.held (codes_in c.args.wanted.marks.now) c.if-p-row.false
    (omega (arith, c.if-pool-total.true, c.args.wanted.in_span.count_is))

pub overflow_cast-rows-2 : goal.overflow_cast-rows-2
overflow_cast-rows-2 c =
    let codes = code_set c.args.wanted.in_span in
    omega (arith, c.args.wanted.in_span.count_is, codes.few)

pub returns : goal.returns
returns c =
    let a = c.args in
    let size = c.args.wanted.in_span.count_is in
    let codes = code_set c.args.wanted.in_span in
    let lain =
    row_laid c.args.wanted.in_span a.pool.now _ a.p.total _ refl (search rules) c.lay_codes.ensures in
    row_added c.requires.held (codes_in a.wanted.marks.now) _ _ _ _ _ c.if-p-row.false (omega (arith, size)) codes
    c.requires.pool_value
    refl
    size
    (c.row_says.ensures ∙ ap (λ (l : List ℕ). one_if (says_by a.finals l)) lain.1)
    refl
    lain.0
    _
    _
    (ap (λ (k : ℕ). a.p.total + k) size)
