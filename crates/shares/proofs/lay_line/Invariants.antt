-- `shares::lay_line` meets its contract: counts and lengths, a share of each, and one in all.
use Rattle.shares.proofs.LineLaws.{Sharing}
use Rattle.shares.proofs.lay_line.Given as goal

abbrev pub invariant-loop-n : goal.invariant-loop-n
invariant-loop-n l = Sharing l.used l.counts l.lengths l.line l.n
