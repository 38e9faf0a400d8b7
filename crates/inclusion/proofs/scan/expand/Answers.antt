-- `inclusion::scan::expand` meets its contract: the symbols taken so far lead to states that are found.
use Rattle.std.proofs.Common.{refl, ap₂}
use Rattle.inclusion.specs.Numbers.{packed}
use Rattle.inclusion.specs.Views.{first_of, second_of}
use Rattle.inclusion.proofs.Expanding.{expanding_next, expanding_won, expanding_end}
use Rattle.inclusion.proofs.scan.expand.Goals as goal

pub returns-in_err-at : goal.returns-in_err-at
returns-in_err-at c =
    let two = c.args.two in
    let next = c.take_from-next.ensures in
    let took = ap₂ (packed (first_of two).built (second_of two).built) next.first_is next.second_is in
    rw c.from_residual.ensures
    (expanding_won c.loop-symbol.invariant c.loop-symbol-test.true _ took _ _ (rw c.in_err-at.was at c.reach.ensures)
    refl)

pub loop-symbol-preserved : goal.loop-symbol-preserved
loop-symbol-preserved c =
    let two = c.args.two in
    let next = c.take_from-next.ensures in
    let took = ap₂ (packed (first_of two).built (second_of two).built) next.first_is next.second_is in
    expanding_next c.loop-symbol.invariant c.loop-symbol-test.true _ took _ _ (rw c.in_ok-at.was at c.reach.ensures)
    refl

pub returns : goal.returns
returns c = expanding_end c.loop-symbol.invariant c.loop-symbol-test.false
