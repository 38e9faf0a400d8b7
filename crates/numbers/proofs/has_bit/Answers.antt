-- `numbers::has_bit` meets its contract: no bit past 64 is set.
use Rattle.std.proofs.Common.{rules}
use Rattle.numbers.proofs.Masks.{bit_past}
use Rattle.numbers.proofs.has_bit.Goals as goal

pub returns-else-place-lt64 : goal.returns-else-place-lt64
returns-else-place-lt64 c =
    let none = bit_past 64 c.args.place c.args.mask (search rules) c.if-place-lt64.false in
    search rules
