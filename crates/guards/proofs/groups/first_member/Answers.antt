-- `guards::groups::first_member` meets its contract: the members passed hold, so the answer is what those to come give.
use borrow.Author.Tests.{not-true, not-false}
use Rattle.guards.proofs.Levels.{atom_member, group_member}
use Rattle.guards.proofs.Answers.{holding_start, member_next, member_fails, holding_end, members_closed, members_over}
use Rattle.guards.proofs.groups.first_member.Goals as goal
use Rattle.guards.proofs.groups.first_member.Goals.{in-IsAtom+else-not-holds, in-OpensAll+else-not-inner}

pub loop-rest-init : goal.loop-rest-init
loop-rest-init c = holding_start _ _ _

pub returns-then-not-holds : goal.returns-then-not-holds
returns-then-not-holds c =
    member_fails c.loop-rest.invariant
    (atom_member _ c.in-len1-up.len_at_least _ _ _ _ _ c.in-IsAtom.ensures c.holds.ensures
    c.first_atom.ensures.atom c.first_atom.ensures.past)
    c.if-not-holds.true

pub returns-then-not-inner : goal.returns-then-not-inner
returns-then-not-inner c =
    member_fails c.loop-rest.invariant
    (group_member _ c.in-len1-up.len_at_least _ _ _ c.in-OpensAll.is c.from.ensures c.any_of-inner.ensures)
    (not-true _ c.if-not-inner.true)

pub returns-in-Closes : goal.returns-in-Closes
returns-in-Closes c =
    holding_end c.loop-rest.invariant
    (members_closed _ c.in-len1-up.len_at_least c.in-Closes.is c.from.ensures)

pub loop-rest-preserved : goal.loop-rest-preserved
loop-rest-preserved c =
    let h = c.in-len1-up.len_at_least in
    elim c.match-from.branch [
      | in-IsAtom+else-not-holds w ↦
          member_next c.loop-rest.invariant w.rest-is
          (atom_member _ h _ _ _ _ _ w.in-IsAtom.ensures w.holds.ensures w.first_atom.ensures.atom
          w.first_atom.ensures.past)
          w.if-not-holds.false
      | in-OpensAll+else-not-inner w ↦
          member_next c.loop-rest.invariant w.rest-is
          (group_member _ h _ _ _ w.in-OpensAll.is c.from.ensures w.any_of-inner.ensures)
          (not-false _ w.if-not-inner.false)
    ]

pub returns : goal.returns
returns c = holding_end c.loop-rest.invariant (members_over _ c.in_default.len_below)
