-- `edges::mask_ok` meets its contract: a shift leaves nothing of a mask that has no bit there.
use borrow.Author.Rules.{rules}
use Rattle.edges.proofs.Sizes.{shifted_out, shift_long}
use Rattle.edges.proofs.mask_ok.Goals as goal

pub returns-then-bits-gt63 : goal.returns-then-bits-gt63
returns-then-bits-gt63 c = shift_long c.args.mask c.args.bits (search rules) c.if-bits-gt63.true

pub returns : goal.returns
returns c = shifted_out c.args.mask c.args.bits
