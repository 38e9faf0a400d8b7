-- `inclusion::scan::search` meets its contract: the states passed have their events found.
use Rattle.std.proofs.Common.{◌-◌, length}
use Rattle.inclusion.specs.Views.{first_of, second_of}
use Rattle.inclusion.proofs.Searching.{Searching}
use Rattle.inclusion.proofs.scan.search.Given as goal

abbrev pub invariant-loop-from : goal.invariant-loop-from
invariant-loop-from l = Searching (first_of l.two) (second_of l.two) l.initial.scratch l.scratch l.tail l.from

abbrev pub decreases-loop-from : goal.decreases-loop-from
decreases-loop-from l = length l.scratch - l.from
