-- `exact::bank::Bank::some_at` meets its contract: the configurations that are left decide.
use Rattle.std.proofs.Common.{ℕ, refl, ◌∙◌, ap, arith}
use Rattle.std.specs.Slice.Iter.{chunks_exact_rest, chunks_exact_size}
use Rattle.model.specs.Basics.{is_in}
use Rattle.model.specs.Layout.{locations_in}
use Rattle.exact.proofs.Chunks.{location_first}
use Rattle.exact.proofs.Banks.{passing, pass_found, pass_next, pass_none}
use Rattle.exact.proofs.bank.Bank.some_at.Goals as goal

pub loop-numbers-init : goal.loop-numbers-init
loop-numbers-init c =
    let s = c.args.self.now in
    let same = c.into_iter-numbers-iterator.ensures.into_iter_gives in (
      ap chunks_exact_size same ∙ c.chunks-numbers-items.ensures.size,
      passing _ s.clocks s.held s.numbers.now _ _ s.held_fits
          (ap chunks_exact_rest same ∙ c.chunks-numbers-items.ensures.rest)
          refl,
    )

pub returns-then-has_location : goal.returns-then-has_location
returns-then-has_location c =
    let h = c.in-Some.ensures.steps in
    pass_found c.loop-numbers.invariant.1 _ _ h.1.0 (h.1.1 ∙ c.loop-numbers.invariant.0) _
    (c.has_location.ensures ∙ ap (λ (l : ℕ). is_in l (locations_in c.args.set))
    (location_first c.in-Some.numbers.now))
    c.if-has_location.true

pub loop-numbers-preserved : goal.loop-numbers-preserved
loop-numbers-preserved c =
    let h = c.in-Some.ensures.steps in (
      h.0 ∙ c.loop-numbers.invariant.0,
      pass_next c.loop-numbers.invariant.1 _ _ h.1.0 (h.1.1 ∙ c.loop-numbers.invariant.0) _
          (c.has_location.ensures ∙ ap (λ (l : ℕ). is_in l (locations_in c.args.set))
          (location_first c.in-Some.numbers.now))
          c.if-has_location.false,
    )

pub returns : goal.returns
returns c =
    let h = c.in-None.ensures.steps in
    pass_none c.loop-numbers.invariant.1 (omega (arith, h.1.0, c.loop-numbers.invariant.0))
