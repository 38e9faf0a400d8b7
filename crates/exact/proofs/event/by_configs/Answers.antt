-- `exact::event::by_configs` meets its contract: the configurations passed are done, those left are still to come.
use Rattle.std.proofs.Common.{refl, sym, ◌∙◌, ap, arith}
use Rattle.std.specs.Slice.Iter.{chunks_exact_rest, chunks_exact_size}
use Rattle.exact.proofs.Moving.{moving, moving_full, moving_next, moved_all}
use Rattle.exact.proofs.event.by_configs.Goals as goal

pub loop-numbers-init : goal.loop-numbers-init
loop-numbers-init c =
    let a = c.args in
    let s = c.args.from.now in
    let same = c.into_iter-numbers-iterator.ensures.into_iter_gives in (
      ap chunks_exact_size same ∙ (rw c.requires.from_clocks at c.chunks-numbers-items.ensures.size),
      rw c.requires.from_clocks at s.clocks_most,
      moving a.rule.head a.rule.edges.now a.grain a.symbol a.delay.0 s _ _ _ c.requires.from_clocks
          c.requires.to_clocks
          refl
          refl
          s.held_fits
          (ap chunks_exact_rest same ∙ c.chunks-numbers-items.ensures.rest)
          c.requires.ages_below,
    )

pub by_edges-requires : goal.by_edges-requires
by_edges-requires c = c.loop-numbers.invariant.2.clocks_are

pub returns-in_err-by_edges : goal.returns-in_err-by_edges
returns-in_err-by_edges c =
    let a = c.args in
    let h = c.in-Some.ensures.steps in
    rw c.from_residual.ensures
    (moving_full a.rule.head a.rule.edges.now a.grain a.symbol a.delay.0 c.loop-numbers.invariant.2 _ _ h.1.0
    (h.1.1 ∙ c.loop-numbers.invariant.0) c.loop-numbers.invariant.1 c.load-before.result c.after_delay-after.result
    c.load-before.ensures c.after_delay-after.ensures
    c.in_err-by_edges.ensures _ c.requires.to_clocks)

pub loop-numbers-preserved : goal.loop-numbers-preserved
loop-numbers-preserved c =
    let a = c.args in
    let h = c.in-Some.ensures.steps in (
      h.0 ∙ c.loop-numbers.invariant.0,
      c.loop-numbers.invariant.1,
      moving_next a.rule.head a.rule.edges.now a.grain a.symbol a.delay.0 c.loop-numbers.invariant.2 _ _ h.1.0
          (h.1.1 ∙ c.loop-numbers.invariant.0) c.loop-numbers.invariant.1 c.load-before.result
          c.after_delay-after.result
          c.load-before.ensures
          c.after_delay-after.ensures
          _
          c.in_ok-by_edges.ensures,
    )

pub returns : goal.returns
returns c =
    let a = c.args in
    let h = c.in-None.ensures.steps in
    let inv = c.loop-numbers.invariant.2 in
    record {
      clocks_are = inv.clocks_are ∙ sym c.requires.to_clocks;
      size_is = inv.size_is;
      configs_are =
          moved_all a.rule.head a.rule.edges.now a.grain a.symbol a.delay.0 inv
          (omega (arith, h.1.0, c.loop-numbers.invariant.0));
    }
