-- `texts::groups_ok` meets its contract: the numbers passed keep the rules, so what is left decides.
use mathlib.Core.Path.{sym}
use denote.Enum.Bare.{differs_true, differs_false}
use Rattle.texts.specs.contracts.Mark.{the_type}
use Rattle.texts.proofs.GroupRules.{ruled_start, no_atoms, cut_atom, ruled_atom, no_level, ruled_close}
use Rattle.texts.proofs.GroupRules.{wrong_mark, too_deep, no_groups, ruled_open, ruled_end}
use Rattle.texts.proofs.groups_ok.Goals as goal
use Rattle.texts.proofs.groups_ok.Goals.{then-ne-via-then-ne}
use Rattle.texts.proofs.groups_ok.Goals.{then-ne-via-else-ne+then-level-ge-MOST_LEVELS}
use Rattle.texts.proofs.groups_ok.Goals.{then-ne-via-else-ne+else-level-ge-MOST_LEVELS+then-groups-lt1}

pub loop-rest-init : goal.loop-rest-init
loop-rest-init c = ruled_start _

pub returns-then-atoms-lt1 : goal.returns-then-atoms-lt1
returns-then-atoms-lt1 c =
    no_atoms c.loop-rest.invariant c.in-len1-up.len_at_least c.in-IsAtom.ensures c.if-atoms-lt1.true

pub returns-then-behind-lt-ATOM_WIDTH : goal.returns-then-behind-lt-ATOM_WIDTH
returns-then-behind-lt-ATOM_WIDTH c =
    cut_atom c.loop-rest.invariant c.in-len1-up.len_at_least c.in-IsAtom.ensures c.if-atoms-lt1.false
    c.if-behind-lt-ATOM_WIDTH.true

pub loop-rest-preserved-in-IsAtom : goal.loop-rest-preserved-in-IsAtom
loop-rest-preserved-in-IsAtom c =
    rw (c.text_from-rest.ensures)
    (ruled_atom c.loop-rest.invariant c.in-len1-up.len_at_least c.in-IsAtom.ensures c.if-atoms-lt1.false
    c.if-behind-lt-ATOM_WIDTH.false)

pub returns-then-level-lt1 : goal.returns-then-level-lt1
returns-then-level-lt1 c =
    no_level c.loop-rest.invariant c.in-len1-up.len_at_least c.in-Closes.ensures c.if-level-lt1.true

pub loop-rest-preserved-in-Closes : goal.loop-rest-preserved-in-Closes
loop-rest-preserved-in-Closes c =
    ruled_close c.loop-rest.invariant c.in-len1-up.len_at_least c.in-Closes.ensures c.if-level-lt1.false

pub returns-then-ne : goal.returns-then-ne
returns-then-ne c =
    let l = c.loop-rest.invariant in
    let h = c.in-len1-up.len_at_least in
    let n = c.in_default-from in
    elim c.then-ne.branch [
      | then-ne-via-then-ne w ↦
          wrong_mark l h c.from.ensures c.open_mark.ensures n.not-IsAtom n.not-Closes
          (differs_true the_type _ _ (sym w.if-ne.ensures))
      | then-ne-via-else-ne+then-level-ge-MOST_LEVELS w ↦
          too_deep l h c.from.ensures c.open_mark.ensures n.not-IsAtom n.not-Closes
          (differs_false the_type tt _ _ (sym w.if-ne.ensures)) w.if-level-ge-MOST_LEVELS.true
      | then-ne-via-else-ne+else-level-ge-MOST_LEVELS+then-groups-lt1 w ↦
          no_groups l h c.from.ensures c.open_mark.ensures n.not-IsAtom n.not-Closes
          (differs_false the_type tt _ _ (sym w.if-ne.ensures)) w.if-level-ge-MOST_LEVELS.false w.if-groups-lt1.true
    ]

pub loop-rest-preserved : goal.loop-rest-preserved
loop-rest-preserved c =
    ruled_open c.loop-rest.invariant c.in-len1-up.len_at_least c.from.ensures c.open_mark.ensures
    c.in_default-from.not-IsAtom c.in_default-from.not-Closes
    (differs_false the_type tt _ _ (sym c.if-ne.ensures))
    c.if-level-ge-MOST_LEVELS.false c.if-groups-lt1.false

pub returns : goal.returns
returns c = ruled_end c.loop-rest.invariant c.in_default.len_below
