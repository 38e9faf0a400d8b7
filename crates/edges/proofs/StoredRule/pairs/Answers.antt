-- `edges::StoredRule::pairs`: N as the product of its factors, which fits.
use Rattle.std.proofs.Common.{arith}
use Rattle.edges.proofs.Sizes.{pairs_fit, pairs_known}
use Rattle.edges.proofs.StoredRule.pairs.Goals as goal

pub overflow_mul-result : goal.overflow_mul-result
overflow_mul-result c =
    let h = c.args.self.head in
    let most =
    pairs_fit h.locations c.top-top.result h.clocks _ (omega arith) (omega arith) (omega arith) c.power.ensures in
    omega (arith, most)

pub returns : goal.returns
returns c =
    pairs_known c.args.self.head c.args.self.edges.now c.top-top.result c.power.result (omega arith) (omega arith)
    c.top-top.ensures (omega arith) c.power.ensures
