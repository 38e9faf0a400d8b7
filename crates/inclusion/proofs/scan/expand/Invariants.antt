-- `inclusion::scan::expand` meets its contract: the symbols taken so far lead to states that are found.
use Rattle.inclusion.specs.Views.{first_of, second_of}
use Rattle.inclusion.proofs.Expanding.{Expanding}
use Rattle.inclusion.proofs.scan.expand.Given as goal

abbrev pub invariant-loop-symbol : goal.invariant-loop-symbol
invariant-loop-symbol l =
    Expanding (first_of l.two) (second_of l.two) l.initial.scratch l.scratch l.from l.x l.base l.j l.at l.symbol
