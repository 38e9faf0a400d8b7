-- `writer::output::Output::put`: the numbers from one on are still to be put.
use Rattle.std.proofs.Common.{refl, arith, get_or, drop, ◌+◌}
use Rattle.model.specs.Files.{two, numbers}
use Rattle.model.proofs.Bytes.{numbers_length}
use Rattle.writer.proofs.Putting.{putting_start, putting_room, putting_next, putting_end}
use Rattle.writer.proofs.Records.{numbers_rest, numbers_none}
use Rattle.writer.proofs.output.Output.put.Goals as goal

pub loop-number-init : goal.loop-number-init
loop-number-init c = putting_start refl (omega (arith, numbers_length c.args.table.now))

pub put_number-requires : goal.put_number-requires
put_number-requires c =
    let t = c.args.table.now in
    let i = c.loop-number.number-index in
    putting_room c.loop-number.invariant (two (get_or t i 0)) (numbers (drop (i + 1) t))
    (numbers_rest t i c.loop-number-test.true)

pub loop-number-preserved : goal.loop-number-preserved
loop-number-preserved c =
    let t = c.args.table.now in
    let i = c.loop-number.number-index in
    putting_next c.loop-number.invariant (two (get_or t i 0)) (numbers (drop (i + 1) t))
    (numbers_rest t i c.loop-number-test.true) c.put_number.ensures

pub returns : goal.returns
returns c = putting_end c.loop-number.invariant (numbers_none c.args.table.now _ c.loop-number-test.false)
