-- `inclusion::sides::Two::pack` meets its contract: the high digit is the first table's, the low one the second's.
use Rattle.inclusion.proofs.JointLaws.{joined_fits, put_together}
use Rattle.inclusion.proofs.sides.Two.pack.Goals as goal

pub returns : goal.returns
returns c =
    let a = c.args.self.first.table.built in
    let b = c.args.self.second.table.built in
    let m = c.state_count-m.ensures.0 in
    let q = c.number_of-q.ensures in
    let p = c.number_of-p.ensures in
    (put_together b _ _ _ _ _ m q.0 p.0, joined_fits a b _ _ _ m q.1 p.1)
