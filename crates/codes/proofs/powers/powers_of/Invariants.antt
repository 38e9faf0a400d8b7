-- `codes::powers::powers_of` meets its contract: the powers up to k are in, and zero past them.
use Rattle.codes.proofs.PowerLaws.{Raising}
use Rattle.codes.proofs.powers.powers_of.Given as goal

abbrev pub invariant-loop-k : goal.invariant-loop-k
invariant-loop-k l = Raising l.top l.clocks l.k l.power l.powers
