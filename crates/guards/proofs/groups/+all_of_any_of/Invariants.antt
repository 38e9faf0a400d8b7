-- Each function's measure is the length of its text, which falls at a call: a group's text is what is left past its
-- opening mark. The loops' invariant is one for both.
use Rattle.std.proofs.Common.{length, true, false}
use Rattle.model.specs.Guards.{meets}
use Rattle.guards.proofs.Levels.{Passed}
use Rattle.guards.proofs.groups.+all_of_any_of.Given as goal

abbrev pub decreases-all_of : goal.decreases-all_of
decreases-all_of l = length l.text.now

abbrev pub decreases-any_of : goal.decreases-any_of
decreases-any_of l = length l.text.now

abbrev pub invariant-all_of-loop-rest : goal.invariant-all_of-loop-rest
invariant-all_of-loop-rest l = Passed true (meets l.unit l.readings) l.text l.holds l.rest

abbrev pub decreases-all_of-loop-rest : goal.decreases-all_of-loop-rest
decreases-all_of-loop-rest l = length l.rest

abbrev pub invariant-any_of-loop-rest : goal.invariant-any_of-loop-rest
invariant-any_of-loop-rest l = Passed false (meets l.unit l.readings) l.text l.holds l.rest

abbrev pub decreases-any_of-loop-rest : goal.decreases-any_of-loop-rest
decreases-any_of-loop-rest l = length l.rest
