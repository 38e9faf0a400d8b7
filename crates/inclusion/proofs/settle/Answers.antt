-- `inclusion::settle` meets its contract: all found, or a goal: no room for its word, or the word.
use Rattle.std.proofs.Common.{length, ◌∙◌}
use lib.Seq.{length-take-le}
use Rattle.inclusion.specs.Views.{first_of, second_of}
use Rattle.inclusion.proofs.Views.{paired_of}
use Rattle.inclusion.proofs.Searching.{some_state}
use Rattle.inclusion.proofs.Ending.{GoalAt, ends_included, ends_goal, room_fits, ends_long, show_ready}
use Rattle.inclusion.proofs.Ending.{ends_shown}
use Rattle.inclusion.proofs.settle.Goals.{After-depth-events}
use Rattle.inclusion.proofs.settle.Goals as goal

-- the goal that is found
goal_at :
    (c : After-depth-events)
    → GoalAt (first_of c.args.two) (second_of c.args.two) c.search.new.scratch c.in-Break.last
goal_at c =
    let two = c.args.two in
    ends_goal (first_of two) (second_of two) c.args.scratch.now _ _ (paired_of two c.requires.scratch_long)
    (rw c.in-Break.is at c.search.ensures)

pub returns-in_default : goal.returns-in_default
returns-in_default c =
    let two = c.args.two in
    ends_included (first_of two) (second_of two) c.args.scratch.now _ c.args.symbols.now c.args.stamps.now _
    two.comparable
    (paired_of two c.requires.scratch_long)
    (rw c.in_default.is at c.search.ensures)
    c.requires.symbols_zero
    c.requires.stamps_zero

pub returns-then-word_room-events : goal.returns-then-word_room-events
returns-then-word_room-events c =
    let two = c.args.two in
    let g = goal_at (goal.at.returns-then-word_room-events c).After-depth-events in
    rw c.into.ensures
    (ends_long (first_of two) (second_of two) _ _ c.args.symbols.now c.args.stamps.now g _ _ two.comparable
    (c.depth-events.ensures.1 _ _ g.trail)
    c.word_room.ensures
    c.if-word_room-events.true
    c.requires.symbols_zero
    c.requires.stamps_zero)

pub show-requires : goal.show-requires
show-requires c =
    let two = c.args.two in
    let g = goal_at (goal.at.show-requires c).After-depth-events in
    let fits = room_fits _ _ _ _ c.word_room.ensures c.if-word_room-events.false in
    show_ready (first_of two) (second_of two) _ _ _ g (length c.args.scratch.now)
    (c.depth-events.ensures.1 _ _ g.trail)
    (paired_of two c.requires.scratch_long)
    c.search.ensures.same_length
    c.args.symbols.now
    c.args.stamps.now
    fits.0
    fits.1
    c.requires.stamps_zero

pub returns : goal.returns
returns c =
    let two = c.args.two in
    let fits = room_fits _ _ _ _ c.word_room.ensures c.if-word_room-events.false in
    let g = goal_at (goal.at.returns c).After-depth-events in
    let paired = paired_of two c.requires.scratch_long in
    ends_shown (first_of two) (second_of two) _ _ _ _ g (length c.args.scratch.now) c.args.symbols.now c.args.stamps.now
    _
    _
    two.comparable
    (c.depth-events.ensures.1 _ _ g.trail)
    paired
    (some_state paired)
    c.show.ensures
    (c.show.auto.symbols ∙ length-take-le _ _ fits.0)
    c.word_room.ensures
    c.if-word_room-events.false
    c.requires.symbols_zero
    c.requires.stamps_zero
