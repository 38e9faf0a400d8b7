-- `reader::record::Record::split_off` meets its contract: 1, then 2.
use Rattle.std.proofs.Common.{◌∙◌, sym, arith}
use Rattle.std.proofs.lemmas.Result.{err_from_is_err_and}
use Rattle.reader.proofs.Cut.{short_head, short_body, bad_body}
use Rattle.reader.proofs.record.Record.split_off.Goals as goal

pub returns-in_default : goal.returns-in_default
returns-in_default c = short_head c.args.bytes.now c.in_default.ensures.cases

pub returns-in_default-split_at_checked : goal.returns-in_default-split_at_checked
returns-in_default-split_at_checked c =
    short_body c.args.bytes.now _ _ c.in-Some.ensures.cases.0 c.in-Some.ensures.cases.1 _
    (c.from-size.ensures ∙ c.number_at.ensures) c.in_default-split_at_checked.ensures.cases

pub returns-in_err-kind : goal.returns-in_err-kind
returns-in_err-kind c =
    let p = err_from_is_err_and c.from_residual.result c.from_residual.ensures.1 in
    let no_kind = c.in_err-kind.ensures in
    rw (p.1, p.2, no_kind.0)
    (bad_body c.args.bytes.now _ _ c.in-Some.ensures.cases.0 c.in-Some.ensures.cases.1 _
    (c.from-size.ensures ∙ c.number_at.ensures) _ c.number_at-2.ensures (omega (arith, c.in-Some.ensures.cases.2))
    c.in-Some-split_at_checked.ensures.cases.0 (no_kind.1 _))

pub returns-then-not-allows : goal.returns-then-not-allows
returns-then-not-allows c =
    bad_body c.args.bytes.now _ _ c.in-Some.ensures.cases.0 c.in-Some.ensures.cases.1 _
    (c.from-size.ensures ∙ c.number_at.ensures) _ (c.in_ok-kind.ensures ∙ c.number_at-2.ensures)
    (omega (arith, c.in-Some.ensures.cases.2))
    c.in-Some-split_at_checked.ensures.cases.0 (sym c.allows.ensures ∙ c.if-not-allows.true)
