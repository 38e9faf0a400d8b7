-- `inclusion::scan::extend` meets its contract: waiting is followed until a state that is found.
use Rattle.std.proofs.Common.{ℕ, ◌+◌, ◌-◌, ◌*◌, ◌/◌, sym, ◌∙◌, ap, arith}
use Rattle.inclusion.proofs.JointLaws.{packed_apart, waits_packed}
use Rattle.inclusion.specs.Parts.{ways}
use Rattle.inclusion.specs.Views.{first_of, second_of}
use Rattle.inclusion.proofs.Extending.{following_start, laid_next, following_next, following_end}
use Rattle.inclusion.proofs.scan.extend.Goals as goal

pub loop-next-init : goal.loop-next-init
loop-next-init c =
    let a = c.args in
    let w = c.wait_on-next.ensures in
    record {
      following =
          following_start (first_of a.two).built (second_of a.two).built a.scratch.now a.last _ _ _
          c.requires.long
          c.requires.laid
          c.state_at-state.ensures
          (ap (λ (y : ℕ). 1 + ways * ((y - 1) / ways)) c.mark_at.ensures)
          (waits_packed _ _ c.requires.apart w c.pack-x.ensures.0)
          c.pack-x.ensures.1;
      apart = packed_apart w.inside c.pack-x.ensures.0;
    }

pub note-requires : goal.note-requires
note-requires c =
    let unfound = sym c.mark_at-in-loop-next.ensures ∙ c.loop-next-test.true in
    let w = c.loop-next.invariant.following in
    (laid_next w, w.state_below, unfound, w.mark_some, w.mark_most)

pub loop-next-preserved : goal.loop-next-preserved
loop-next-preserved c =
    let unfound = sym c.mark_at-in-loop-next.ensures ∙ c.loop-next-test.true in
    let i = c.loop-next.invariant in
    let w = c.wait_on-next-in-loop-next.ensures in
    record {
      following =
          following_next i.following unfound _ c.note.ensures _
          (waits_packed _ _ i.apart w c.pack-x-in-loop-next.ensures.0) c.pack-x-in-loop-next.ensures.1;
      apart = packed_apart w.inside c.pack-x-in-loop-next.ensures.0;
    }

pub returns : goal.returns
returns c =
    following_end c.loop-next.invariant.following
    (omega (arith, c.mark_at-in-loop-next.ensures, c.loop-next-test.false))
