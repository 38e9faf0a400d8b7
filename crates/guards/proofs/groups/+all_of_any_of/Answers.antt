-- `guards::groups::all_of` and `any_of` meet their contracts: the laws of a level under way are one for both.
use Rattle.guards.proofs.Levels.{atom_member, group_member, passed_start, passed_member, passed_close, passed_end}
use Rattle.guards.proofs.groups.+all_of_any_of.Goals as goal

pub all_of-loop-rest-init : goal.all_of-loop-rest-init
all_of-loop-rest-init t c = passed_start _ _ _

pub all_of-loop-rest-preserved-in-IsAtom : goal.all_of-loop-rest-preserved-in-IsAtom
all_of-loop-rest-preserved-in-IsAtom t c =
    passed_member c.loop-rest.invariant c.in-len1-up.len_at_least
    (atom_member _ c.in-len1-up.len_at_least _ _ _ _ _ c.in-IsAtom.ensures c.holds-met.ensures
    c.first_atom.ensures.atom c.first_atom.ensures.past)

pub all_of-loop-rest-preserved : goal.all_of-loop-rest-preserved
all_of-loop-rest-preserved t c =
    passed_member c.loop-rest.invariant c.in-len1-up.len_at_least
    (group_member _ c.in-len1-up.len_at_least _ _ _ c.in-OpensAll.is c.from.ensures c.any_of-inner.ensures)

pub all_of-returns-in-Closes : goal.all_of-returns-in-Closes
all_of-returns-in-Closes t c =
    passed_close c.loop-rest.invariant c.in-len1-up.len_at_least c.in-Closes.is c.from.ensures

pub all_of-returns : goal.all_of-returns
all_of-returns t c = passed_end c.loop-rest.invariant c.in_default.len_below

pub any_of-loop-rest-init : goal.any_of-loop-rest-init
any_of-loop-rest-init t c = passed_start _ _ _

pub any_of-loop-rest-preserved-in-IsAtom : goal.any_of-loop-rest-preserved-in-IsAtom
any_of-loop-rest-preserved-in-IsAtom t c =
    passed_member c.loop-rest.invariant c.in-len1-up.len_at_least
    (atom_member _ c.in-len1-up.len_at_least _ _ _ _ _ c.in-IsAtom.ensures c.holds-met.ensures
    c.first_atom.ensures.atom c.first_atom.ensures.past)

pub any_of-loop-rest-preserved : goal.any_of-loop-rest-preserved
any_of-loop-rest-preserved t c =
    passed_member c.loop-rest.invariant c.in-len1-up.len_at_least
    (group_member _ c.in-len1-up.len_at_least _ _ _ c.in-OpensAll.is c.from.ensures c.all_of-inner.ensures)

pub any_of-returns-in-Closes : goal.any_of-returns-in-Closes
any_of-returns-in-Closes t c =
    passed_close c.loop-rest.invariant c.in-len1-up.len_at_least c.in-Closes.is c.from.ensures

pub any_of-returns : goal.any_of-returns
any_of-returns t c = passed_end c.loop-rest.invariant c.in_default.len_below
