-- The room that `exact::run_events` follows the events with.
use Rattle.std.proofs.Common.{◌+◌, ◌/◌, length}
use Rattle.exact.proofs.run_events.Given as goal

abbrev pub ghost-follow_events : goal.ghost-follow_events
ghost-follow_events a = length a.from.now.numbers.now / (a.rule.head.clocks + 1)
