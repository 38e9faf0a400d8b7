-- `Known::find_row` meets its contract: no row passed is equal, and every code passed in a row is marked.
use Rattle.std.proofs.Common.{◌≡◌, ◌<◌, false, refl, sym, ◌∙◌, arith, rules}
use Rattle.model.specs.Basics.{same}
use Rattle.model.specs.Tables.{codes_at}
use Rattle.bits.specs.Bits.{codes_in}
use Rattle.construct.proofs.RowSearch.{search_next, search_found}
use Rattle.construct.proofs.RowSearch.{row_longer, row_as_long, row_ends, row_differs, row_goes_on}
use Rattle.construct.proofs.rows.Known.find_row.Goals as goal
use Rattle.construct.proofs.rows.Known.find_row.Goals.{then-length-wanted+else-j-wanted, else-length-wanted}
use Rattle.construct.proofs.rows.Known.find_row.Goals.{then-codes-test+then-not-is_marked, else-codes-test}

pub codes-preserved : goal.codes-preserved
codes-preserved c =
    let known = c.args.self in
    let wanted = c.args.wanted in
    let below : c.loop-row.row < known.count = omega (arith, c.if-high-row.false, c.requires) in
    let as_long =
    row_as_long wanted.marks.now _ _ known.within below c.start-start.ensures.0
    (sym c.if-length-wanted.true ∙ c.length.ensures.0)
    wanted.in_span.count_is in (
      search rules,
      row_goes_on as_long _ c.codes.invariant.1 _ c.codes-test.true refl
          (sym c.is_marked.ensures ∙ c.if-not-is_marked.false),
    )

pub loop-row-preserved : goal.loop-row-preserved
loop-row-preserved c =
    let known = c.args.self in
    let wanted = c.args.wanted in
    let below : c.loop-row.row < known.count = omega (arith, c.if-high-row.false, c.requires) in
    let other : same (codes_in wanted.marks.now) (codes_at known.rows.now known.pool.now c.loop-row.row) ≡ false =
    elim c.if-length-wanted.branch [
      | then-length-wanted+else-j-wanted v ↦
          elim v.codes-test.branch [
            | else-codes-test u ↦
                absurd (v.if-j-wanted.false (omega (arith, u.codes-test.false, v.codes.invariant.0)))
            | then-codes-test+then-not-is_marked u ↦
                let as_long =
                row_as_long wanted.marks.now _ _ known.within below v.start-start.ensures.0
                (sym v.if-length-wanted.true ∙ c.length.ensures.0)
                wanted.in_span.count_is in
                row_differs as_long v.codes.j v.codes.invariant.1 _ u.codes-test.true refl
                (sym u.is_marked.ensures ∙ u.if-not-is_marked.true)
          ]
      | else-length-wanted v ↦
          row_longer wanted.marks.now _ _ known.within below refl c.length.ensures.0
          (λ e. v.if-length-wanted.false (e ∙ sym wanted.in_span.count_is))
    ] in
    search_next c.loop-row.invariant c.if-high-row.false other

pub returns-then-j-wanted : goal.returns-then-j-wanted
returns-then-j-wanted c =
    let known = c.args.self in
    let wanted = c.args.wanted in
    let below : c.loop-row.row < known.count = omega (arith, c.if-high-row.false, c.requires) in
    let as_long =
    row_as_long wanted.marks.now _ _ known.within below c.start-start.ensures.0
    (sym c.if-length-wanted.true ∙ c.length.ensures.0)
    wanted.in_span.count_is in
    search_found c.loop-row.invariant c.if-high-row.false
    (row_ends as_long _ c.codes.invariant.1 c.if-j-wanted.true)
