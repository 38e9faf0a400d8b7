-- `exact::follow_events` meets its contract: refusal and verdict over the events left are those of the word.
use Rattle.std.proofs.Common.{◌<◌, ◌^◌, rules, inl, inr}
use Rattle.exact.proofs.Running.{running, step_ready, running_full, running_next, running_end, full_is, handed_on}
use Rattle.exact.proofs.follow_events.Goals as goal

pub loop-i-init : goal.loop-i-init
loop-i-init g c =
    let a = c.args in
    let it = c.into_iter-i-iterator.ensures.into_iter_gives in
    let zipped = c.enumerate-i-items.ensures.source in
    running a.rule.head a.rule.edges.now a.grain a.events.symbols.now a.events.stamps.now g.room _ _ _ _ _ c.requires
    a.events.equal (rw it c.enumerate-i-items.ensures.count)
    (rw (it, zipped, c.zip.ensures.first) c.iter.ensures.rest)
    (rw (it, zipped) c.zip.ensures.second.0)

pub by_configs-requires : goal.by_configs-requires
by_configs-requires g c =
    let a = c.args in
    let h = c.in-Some.ensures.steps in
    let small : c.in-Some.stamp.now < 2 ^ 32 = search rules in
    step_ready a.rule.head a.rule.edges.now a.grain a.events.symbols.now a.events.stamps.now g.room c.loop-i.invariant
    c.in-Some.symbol.now c.in-Some.stamp.now _ _ _ h.0.0 h.0.1
    c.since.ensures small

pub returns-in_err-ok_or : goal.returns-in_err-ok_or
returns-in_err-ok_or g c =
    let a = c.args in
    let h = c.in-Some.ensures.steps in
    full_is a.rule.head a.rule.edges.now a.grain a.events.symbols.now a.events.stamps.now g.room _
    c.full.result
    _
    (handed_on c.from_residual.result c.in_err-ok_or.field-0.0 c.full.result c.from_residual.ensures.1
    (rw c.in_err-ok_or.ensures.ok_part at c.in_err-ok_or.ensures.value))
    c.full.ensures.0
    (rw h.1 at c.full.ensures.1)
    (running_full a.rule.head a.rule.edges.now a.grain a.events.symbols.now a.events.stamps.now g.room
    c.loop-i.invariant
    c.in-Some.symbol.now c.in-Some.stamp.now _ _ _ h.0.0 h.0.1
    c.since.ensures
    (rw c.in_err-ok_or.ensures.ok_part at c.by_configs.ensures))

pub loop-i-preserved : goal.loop-i-preserved
loop-i-preserved g c =
    let a = c.args in
    let h = c.in-Some.ensures.steps in
    rw (h.2, c.swap.ensures.x_after, c.swap.ensures.y_after)
    (running_next a.rule.head a.rule.edges.now a.grain a.events.symbols.now a.events.stamps.now g.room
    c.loop-i.invariant
    c.in-Some.symbol.now c.in-Some.stamp.now _ _ _ h.0.0 h.0.1
    c.since.ensures _
    (rw c.in_ok-ok_or.ensures.ok_part at c.by_configs.ensures))

pub returns : goal.returns
returns g c =
    let a = c.args in
    let h = c.in-None.ensures.steps in
    running_end a.rule.head a.rule.edges.now a.grain a.events.symbols.now a.events.stamps.now g.room c.loop-i.invariant
    c.some_at.result (elim h.0 [ inl w ↦ inl w.1.0 | inr w ↦ inr w.1.0 ]) c.some_at.ensures
