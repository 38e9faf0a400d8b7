-- `shares::tree::Tree::stored_at` meets its contract: a row's third number is the verdict that it stores.
use Rattle.std.proofs.Common.{refl}
use Rattle.shares.proofs.tree.Tree.stored_at.Goals as goal

pub returns : goal.returns
returns c = (refl, c.args.self.now.rowed.stored c.args.row c.requires)
