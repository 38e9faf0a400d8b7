-- `exact::run_events` meets its contract: 26 before the first event, or what following the events answers.
use Rattle.std.proofs.Common.{length}
use Rattle.exact.proofs.Running.{full_is, handed_on}
use Rattle.exact.proofs.Outcome.{second_sized, start_full, start_made, answered}
use Rattle.exact.proofs.run_events.Goals as goal

pub returns-in_err-ok_or : goal.returns-in_err-ok_or
returns-in_err-ok_or c =
    let a = c.args in
    let e = c.new-from.ensures in
    full_is a.rule.head a.rule.edges.now a.grain a.events.symbols.now a.events.stamps.now _ _ c.full.result 0
    (handed_on c.from_residual.result c.in_err-ok_or.field-0.0 c.full.result c.from_residual.ensures.1
    (rw c.in_err-ok_or.ensures.ok_part at c.in_err-ok_or.ensures.value))
    c.full.ensures.0
    c.full.ensures.1
    (start_full a.rule.head a.rule.edges.now a.grain a.events.symbols.now a.events.stamps.now a.scratch.now
    c.new-from.result
    (rw c.split_at_mut-front.ensures.front_len at e)
    (rw c.in_err-ok_or.ensures.ok_part at c.start_configs.ensures))

pub follow_events-requires : goal.follow_events-requires
follow_events-requires c =
    let a = c.args in
    let e = c.new-from.ensures in
    let z = c.new-to.ensures in
    let s = c.split_at_mut-front.ensures in
    start_made a.rule.head a.rule.edges.now a.grain a.events.symbols.now a.events.stamps.now a.scratch.now
    c.new-from.result c.new-to.result c.start_configs.new.bank
    (rw s.front_len at e)
    (rw (second_sized (length a.scratch.now) a.rule.head.clocks c.split_at_mut-front.result.1.now s.back_len) at z)
    (rw c.in_ok-ok_or.ensures.ok_part at c.start_configs.ensures)
    c.requires

pub returns : goal.returns
returns c =
    let a = c.args in
    let e = c.new-from.ensures in
    let s = c.split_at_mut-front.ensures in
    let z = c.new-to.ensures in
    answered a.rule.head a.rule.edges.now a.grain a.events.symbols.now a.events.stamps.now a.scratch.now
    c.new-from.result c.new-to.result c.start_configs.new.bank
    (rw s.front_len at e)
    (rw (second_sized (length a.scratch.now) a.rule.head.clocks c.split_at_mut-front.result.1.now s.back_len) at z)
    (rw c.in_ok-ok_or.ensures.ok_part at c.start_configs.ensures)
    _
    c.follow_events.ensures
