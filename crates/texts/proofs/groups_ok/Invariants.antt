-- `texts::groups_ok` meets its contract: the numbers passed keep the rules, so what is left decides.
use Rattle.std.proofs.Common.{length}
use Rattle.texts.proofs.GroupRules.{Ruled}
use Rattle.texts.proofs.groups_ok.Given as goal

abbrev pub invariant-loop-rest : goal.invariant-loop-rest
invariant-loop-rest l = Ruled l.text l.rest l.level l.groups l.atoms

abbrev pub decreases-loop-rest : goal.decreases-loop-rest
decreases-loop-rest l = length l.rest
