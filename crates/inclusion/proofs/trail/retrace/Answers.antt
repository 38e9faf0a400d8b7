-- `inclusion::trail::retrace` meets its contract: the pauses and symbols written lead from the place to the last state.
use native.Mathlib.Omega.{arith}
use lib.ListN.{length}
use Rattle.inclusion.specs.Views.{first_of, second_of, graph_in}
use Rattle.inclusion.proofs.Graphs.{graph_symbols}
use Rattle.inclusion.proofs.Levels.{standing_less}
use Rattle.inclusion.proofs.Back.{Read, retracing_start, retracing_end}
use Rattle.inclusion.proofs.Back.{back_wait, symbol_known, event_left, source_read, back_event}
use Rattle.inclusion.proofs.trail.retrace.Goals.{After-mark_at-mark}
use Rattle.inclusion.proofs.trail.retrace.Goals as goal

pub loop-k-init : goal.loop-k-init
loop-k-init c =
    let k = c.requires in
    retracing_start _ _ _ _ _ k.trail k.same_length k.no_pauses k.by_event

-- the state at the place and its mark, as read
read_at :
    (c : After-mark_at-mark)
    → let a = c.args in
    let l = c.loop-k in
    Read (graph_in a.two) a.scratch.now a.last (length a.symbols.now) l.symbols
    l.stamps
    l.k
    l.left
    c.state_at-x.result
    c.mark_at-mark.result
read_at c = record {
  retracing = c.loop-k.invariant;
  some = c.loop-k-test.true;
  state_is = c.state_at-x.ensures;
  mark_is = c.mark_at-mark.ensures;
}

pub loop-k-preserved-then-way-eq0 : goal.loop-k-preserved-then-way-eq0
loop-k-preserved-then-way-eq0 c =
    back_wait (read_at (goal.at.loop-k-preserved-then-way-eq0 c).After-mark_at-mark) c.if-way-eq0.true

pub overflow_sub-left : goal.overflow_sub-left
overflow_sub-left c =
    event_left (read_at (goal.at.overflow_sub-left c).After-mark_at-mark) c.if-way-eq0.false

pub before-k-requires : goal.before-k-requires
before-k-requires c =
    let a = c.args in
    let read = read_at (goal.at.before-k-requires c).After-mark_at-mark in
    let known = symbol_known read c.if-way-eq0.false in
    record {
      long = c.requires.paired.size_is;
      standing = standing_less c.loop-k.invariant.trail.standing (omega (arith, c.loop-k.invariant.place_most));
      known = omega (arith, known, graph_symbols (first_of a.two) (second_of a.two));
      source = source_read read c.if-way-eq0.false;
    }

pub loop-k-preserved : goal.loop-k-preserved
loop-k-preserved c =
    back_event (read_at (goal.at.loop-k-preserved c).After-mark_at-mark) c.if-way-eq0.false _ c.before-k.ensures

pub returns : goal.returns
returns c = retracing_end c.loop-k.invariant (omega (arith, c.loop-k-test.false))
