-- `exact::start_configs` meets its contract: the initial locations passed are written, those from l on are left.
use Rattle.std.proofs.Common.{length}
use Rattle.exact.proofs.Starting.{Starting}
use Rattle.exact.proofs.start_configs.Given as goal

abbrev pub invariant-loop-l : goal.invariant-loop-l
invariant-loop-l l = Starting l.head.clocks l.head.starts l.l (length l.fn.bank.numbers.now) l.bank
