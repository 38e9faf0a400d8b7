-- `construct::marks::mark_starts` meets its contract: from the highest location down, as the definition puts them in.
use Rattle.construct.proofs.MarkLaws.{Starting}
use Rattle.construct.proofs.marks.mark_starts.Given as goal

abbrev pub invariant-loop-location : goal.invariant-loop-location
invariant-loop-location l = Starting l.starts l.weight l.location l.marks l.span
