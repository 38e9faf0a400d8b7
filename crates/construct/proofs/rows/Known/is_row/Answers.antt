-- `Known::is_row` meets its contract: a row that is as long is the marked one if all its codes are marked.
use Rattle.std.proofs.Common.{sym, ◌∙◌, ap}
use Rattle.bits.specs.Bits.{codes_in, all_marked}
use Rattle.construct.proofs.RowSearch.{at_none, at_longer, at_marked}
use Rattle.construct.proofs.rows.Known.is_row.Goals as goal
use Rattle.construct.proofs.rows.Known.is_row.Goals.{then-self-row-via-then-self-row}
use Rattle.construct.proofs.rows.Known.is_row.Goals.{then-self-row-via-else-self-row+then-length-wanted}

pub returns-then-self-row : goal.returns-then-self-row
returns-then-self-row c =
    let known = c.args.self in
    let wanted = c.args.wanted in
    elim c.then-self-row.branch [
      | then-self-row-via-then-self-row w ↦
          at_none known.count c.args.row known.rows.now known.pool.now (codes_in wanted.marks.now) w.if-self-row.true
      | then-self-row-via-else-self-row+then-length-wanted w ↦
          at_longer wanted.marks.now _ known.within w.if-self-row.false w.length.ensures.0
          (λ e. w.if-length-wanted.true (e ∙ sym wanted.in_span.count_is))
    ]

pub returns : goal.returns
returns c =
    let wanted = c.args.wanted in
    c.all_marked.ensures
    ∙ (ap (all_marked wanted.marks.now) c.codes.ensures
    ∙ at_marked wanted.marks.now _ c.args.self.within c.if-self-row.false c.length.ensures.0
    (c.if-length-wanted.false ∙ wanted.in_span.count_is))
