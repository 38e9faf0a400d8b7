-- `reader::bytes::copy_numbers` meets its contract: the numbers up to i, then what stood there.
use Rattle.std.proofs.Common.{◌∙◌, ap, List, ℕ, arith}
use lib.ListN.{set}
use Rattle.reader.proofs.Stored.{copied_next, copied_end}
use Rattle.reader.proofs.bytes.copy_numbers.Goals as goal

pub loop-i-preserved : goal.loop-i-preserved
loop-i-preserved c =
    let i = c.loop-i.i in
    ap (λ (l : List ℕ). set l i c.number_at.result) c.loop-i.invariant
    ∙ copied_next c.args.bytes.now c.args.out.now i _ c.loop-i-test.true c.number_at.ensures

pub returns : goal.returns
returns c = c.loop-i.invariant ∙ copied_end c.args.bytes.now c.args.out.now c.loop-i.i (omega arith)
