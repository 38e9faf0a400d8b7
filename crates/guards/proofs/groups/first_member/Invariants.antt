-- `guards::groups::first_member` meets its contract: the members passed hold, so the answer is what those to come give.
use Rattle.std.proofs.Common.{length}
use Rattle.model.specs.Texts.{members_in}
use Rattle.model.specs.Guards.{meets}
use Rattle.guards.proofs.Answers.{Holding}
use Rattle.guards.proofs.groups.first_member.Given as goal

abbrev pub invariant-loop-rest : goal.invariant-loop-rest
invariant-loop-rest l = Holding members_in (meets l.unit l.readings) l.text l.rest l.position

abbrev pub decreases-loop-rest : goal.decreases-loop-rest
decreases-loop-rest l = length l.rest
