-- `exact::start_configs` meets its contract: the initial locations passed are written, those from l on are left.
use Rattle.std.proofs.Common.{refl}
use Rattle.exact.proofs.Starting.{starting, starting_other, starting_added, starting_full, started}
use Rattle.exact.proofs.start_configs.Goals as goal
use Rattle.exact.proofs.start_configs.Goals.{then-has_bit+in-Some, else-has_bit}

pub loop-l-init : goal.loop-l-init
loop-l-init c = starting _ _ c.args.bank.now c.requires.0 c.requires.1

pub returns-in_default : goal.returns-in_default
returns-in_default c =
    starting_full c.args.head.clocks c.args.head.starts c.loop-l.invariant c.loop-l-test.true _ c.has_bit.ensures
    c.if-has_bit.true c.start.result c.start.ensures.0 c.start.ensures.1 c.in_default.ensures _
    c.requires.0

pub loop-l-preserved : goal.loop-l-preserved
loop-l-preserved c =
    let head = c.args.head in
    elim c.if-has_bit.branch [
      | then-has_bit+in-Some w ↦
          rw w.bank-is
          (starting_added head.clocks head.starts c.loop-l.invariant c.loop-l-test.true _ c.has_bit.ensures
          w.if-has_bit.true w.start.result w.start.ensures.0 w.start.ensures.1 _ w.in-Some.ensures)
      | else-has_bit w ↦
          rw w.bank-is
          (starting_other head.clocks head.starts c.loop-l.invariant c.loop-l-test.true _ c.has_bit.ensures
          w.if-has_bit.false)
    ]

pub returns : goal.returns
returns c =
    started c.args.head.clocks c.args.head.starts c.args.bank.now c.loop-l.invariant c.loop-l-test.false c.requires.0
    refl
