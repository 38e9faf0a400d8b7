-- `inclusion::settle_in` meets its contract: the rooms are cleared, then the search.
use Rattle.inclusion.proofs.Checking.{searched_as}
use Rattle.inclusion.proofs.settle_in.Goals as goal

pub returns : goal.returns
returns c =
    searched_as c.args.symbols.now c.args.stamps.now
    c.fill-2.ensures.len
    c.fill-3.ensures.len
    c.settle.ensures
