-- `inclusion::scan::extend` meets its contract: waiting is followed until a state that is found.
use Rattle.std.proofs.Common.{◌-◌, length}
use Rattle.inclusion.specs.Views.{first_of, second_of, ApartIn}
use Rattle.inclusion.proofs.Extending.{Following}
use Rattle.inclusion.proofs.scan.extend.Given as goal

abbrev pub invariant-loop-next : goal.invariant-loop-next
invariant-loop-next l = record {
  following :
      Following (first_of l.two).built (second_of l.two).built l.initial.scratch l.last l.mark l.scratch l.at l.x;
  apart : ApartIn l.two l.x l.next;
}

abbrev pub decreases-loop-next : goal.decreases-loop-next
decreases-loop-next l = length l.scratch - l.at
