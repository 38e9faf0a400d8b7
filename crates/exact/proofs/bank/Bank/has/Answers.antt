-- `exact::bank::Bank::has` meets its contract: the configurations that are left decide.
use Rattle.std.proofs.Common.{◌∙◌, ap, arith}
use Rattle.std.specs.Slice.Iter.{chunks_exact_rest, chunks_exact_size}
use Rattle.ages.specs.Ages.{config_of}
use Rattle.exact.specs.Banks.{configs_of}
use Rattle.exact.proofs.Banks.{passing, pass_found, pass_next, pass_none, has_some}
use Rattle.exact.proofs.bank.Bank.has.Goals as goal

pub loop-numbers-init : goal.loop-numbers-init
loop-numbers-init c =
    let s = c.args.self.now in
    let same = c.into_iter-numbers-iterator.ensures.into_iter_gives in (
      ap chunks_exact_size same ∙ c.chunks-numbers-items.ensures.size,
      passing _ s.clocks s.held s.numbers.now _ _ s.held_fits
          (ap chunks_exact_rest same ∙ c.chunks-numbers-items.ensures.rest)
          (has_some (config_of s.clocks c.args.c) (configs_of s)),
    )

pub returns-then-is_same : goal.returns-then-is_same
returns-then-is_same c =
    let h = c.in-Some.ensures.steps in
    pass_found c.loop-numbers.invariant.1 _ _ h.1.0 (h.1.1 ∙ c.loop-numbers.invariant.0) _ c.is_same.ensures
    c.if-is_same.true

pub loop-numbers-preserved : goal.loop-numbers-preserved
loop-numbers-preserved c =
    let h = c.in-Some.ensures.steps in (
      h.0 ∙ c.loop-numbers.invariant.0,
      pass_next c.loop-numbers.invariant.1 _ _ h.1.0 (h.1.1 ∙ c.loop-numbers.invariant.0) _ c.is_same.ensures
          c.if-is_same.false,
    )

pub returns : goal.returns
returns c =
    let h = c.in-None.ensures.steps in
    pass_none c.loop-numbers.invariant.1 (omega (arith, h.1.0, c.loop-numbers.invariant.0))
