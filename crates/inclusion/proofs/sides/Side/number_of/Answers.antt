-- `inclusion::sides::Side::number_of` meets its contract: the row counts W.
use Rattle.inclusion.proofs.JointLaws.{numbered}
use Rattle.inclusion.proofs.sides.Side.number_of.Goals as goal

pub returns : goal.returns
returns c = numbered c.requires _ c.width.ensures
