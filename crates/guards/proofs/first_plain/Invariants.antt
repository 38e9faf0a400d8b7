-- `guards::first_plain` meets its contract: the atoms passed hold, so the answer is what those to come give.
use Rattle.std.proofs.Common.{length}
use Rattle.model.specs.Guards.{meets}
use Rattle.guards.proofs.Answers.{plain_in, Holding}
use Rattle.guards.proofs.first_plain.Given as goal

abbrev pub invariant-loop-rest : goal.invariant-loop-rest
invariant-loop-rest l = Holding plain_in (meets l.unit l.readings) l.text l.rest l.position

abbrev pub decreases-loop-rest : goal.decreases-loop-rest
decreases-loop-rest l = length l.rest
