-- `inclusion::sides::Side::apart` meets its contract: the row counts W.
use Rattle.inclusion.proofs.JointLaws.{apart_is}
use Rattle.inclusion.proofs.sides.Side.apart.Goals as goal

pub returns : goal.returns
returns c = apart_is c.args.self.table.built c.args.q _ c.width-w.ensures c.requires
