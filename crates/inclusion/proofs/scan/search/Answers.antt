-- `inclusion::scan::search` meets its contract: the states passed have their events found.
use Rattle.std.proofs.Common.{refl}
use Rattle.inclusion.specs.Views.{first_of, second_of}
use Rattle.inclusion.proofs.Views.{paired_of}
use Rattle.inclusion.proofs.Searching.{empty_laid, search_start, search_first}
use Rattle.inclusion.proofs.scan.search.Goals as goal

pub reach-requires-clause-laid : goal.reach-requires-clause-laid
reach-requires-clause-laid c =
    empty_laid _ c.requires.zero (paired_of c.args.two c.requires.long).size_most

pub returns-in_err-tail : goal.returns-in_err-tail
returns-in_err-tail c =
    let two = c.args.two in
    rw c.from_residual.ensures
    (search_first (first_of two) (second_of two) c.args.scratch.now _ _ (paired_of two c.requires.long) c.requires.zero
    (rw c.in_err-tail.was at c.reach.ensures)
    refl)

pub loop-from-init : goal.loop-from-init
loop-from-init c =
    let two = c.args.two in
    search_start (first_of two) (second_of two) c.args.scratch.now _ _ (paired_of two c.requires.long) c.requires.zero
    (rw c.in_ok-tail.was at c.reach.ensures)
    refl
