-- `bits::unmark` meets its contract: the first number of the span, then the others.
use Rattle.std.proofs.Common.{◌≡◌, ◌+◌, ◌-◌, rules, replicate}
use Rattle.bits.proofs.Laying.{all_clear}
use Rattle.bits.proofs.unmark.Goals as goal

pub returns : goal.returns
returns c in_span =
    let part : c.fill.new.self ≡ replicate (c.min-past.result - (c.args.span.low + 1)) 0 = search rules in
    rw part (all_clear c.args.span in_span c.min-past.ensures c.if-past-low.false)
