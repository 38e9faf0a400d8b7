-- `exact::bank::store` meets its contract: the front of the numbers is as it must be.
use Rattle.std.proofs.Common.{◌≡◌, ◌-◌, length, rules, sym, ◌∙◌, ap, arith, length-set}
use Rattle.model.specs.Rules.{most_clocks}
use Rattle.model.specs.declared.Age.{Age}
use Rattle.ages.proofs.Laws.{numbers_at, numbers_length, length_mapped}
use Rattle.exact.proofs.Chunks.{storing, storing_next, stored}
use Rattle.exact.proofs.bank.store.Goals as goal

pub loop-k-init : goal.loop-k-init
loop-k-init c = (simp length-set, storing c.args.c c.args.numbers.now c.requires.0)

pub loop-k-preserved : goal.loop-k-preserved
loop-k-preserved c =
    let ages = c.args.c.ages.of in
    let four : length ages ≡ most_clocks = search (rules, length_mapped) in (
      c.loop-k.invariant.0,
      storing_next c.loop-k.invariant.1 _ (omega arith) (omega arith)
          (omega (arith, numbers_length ages, c.requires.1))
          (ap (λ (a : Age). a.0) c.at_or.ensures ∙ sym (numbers_at ages (c.loop-k.k - 1))),
    )

pub returns : goal.returns
returns c = stored c.loop-k.invariant.1 (omega arith) (omega arith)
