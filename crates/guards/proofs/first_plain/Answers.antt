-- `guards::first_plain` meets its contract: the atoms passed hold, so the answer is what those to come give.
use Rattle.texts.proofs.Marks.{after_atom}
use Rattle.guards.proofs.Answers.{holding_start, holding_next, failing, holding_end}
use Rattle.guards.proofs.Answers.{atom_shorter, atom_answers, plain_over}
use Rattle.guards.proofs.first_plain.Goals as goal

pub loop-rest-init : goal.loop-rest-init
loop-rest-init c = holding_start _ _ _

pub returns-then-not-holds : goal.returns-then-not-holds
returns-then-not-holds c =
    failing c.loop-rest.invariant (after_atom c.loop-rest.rest.now)
    (atom_answers c.loop-rest.rest.now _ _ _ c.in-len3-up.len_at_least c.holds.ensures)
    c.if-not-holds.true

pub loop-rest-preserved : goal.loop-rest-preserved
loop-rest-preserved c =
    holding_next c.loop-rest.invariant (after_atom c.loop-rest.rest.now)
    (atom_answers c.loop-rest.rest.now _ _ _ c.in-len3-up.len_at_least c.holds.ensures)
    (atom_shorter _ c.in-len3-up.len_at_least) c.if-not-holds.false

pub returns : goal.returns
returns c = holding_end c.loop-rest.invariant (plain_over _ c.in_default.len_below)
