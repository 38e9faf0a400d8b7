-- `Scale::pack` meets its contract: the code so far, with the bases to come, is the code.
use Rattle.std.proofs.Common.{◌<◌, ◌^◌, ◌∙◌, refl, rules, get_or}
use Rattle.codes.proofs.Loops.{product_most, packing_next, packing_skip, packing_end, pack_is}
use Rattle.codes.proofs.Scale.pack.Goals.{then-k-clocks, else-k-clocks}
use Rattle.codes.proofs.Scale.pack.Goals as goal

pub overflow_add-code-then-k-clocks : goal.overflow_add-code-then-k-clocks
overflow_add-code-then-k-clocks c =
    let digit : c.from-then-k-clocks.result < 2 ^ 16 = search rules in
    let power : get_or c.args.self.powers c.loop-k.k 0 < 2 ^ 32 = search rules in
    let product = product_most _ _ digit power in
    search rules

pub loop-k-preserved : goal.loop-k-preserved
loop-k-preserved c =
    elim c.if-k-clocks.branch [
      | then-k-clocks w ↦
          packing_next c.loop-k.invariant _ _ _ (search rules) w.if-k-clocks.true w.from-then-k-clocks.ensures refl
          (search rules)
          (search rules)
          w.code-is
      | else-k-clocks w ↦ packing_skip c.loop-k.invariant _ (search rules) w.if-k-clocks.false w.code-is
    ]

pub returns : goal.returns
returns c powered =
    packing_end c.loop-k.invariant (search rules)
    ∙ rw (← c.from.ensures) (pack_is powered c.from.result _ _ (search rules) c.from-2.ensures)
