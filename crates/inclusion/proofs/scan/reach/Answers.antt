-- `inclusion::scan::reach` meets its contract: found already, or noted: a goal, or its waiting followed.
use Rattle.std.proofs.Common.{ℕ, sym, ◌∙◌, subst, arith}
use Rattle.inclusion.specs.Views.{first_of, second_of, ApartIn}
use Rattle.inclusion.proofs.JointLaws.{packed_apart}
use Rattle.inclusion.proofs.Parts.{Noting, noted_grown, grown_laid}
use Rattle.inclusion.proofs.Reaching.{goal_by, reach_goal, reach_on}
use Rattle.inclusion.proofs.scan.reach.Goals.{After-note}
use Rattle.inclusion.proofs.scan.reach.Goals as goal

-- what is noted
noting_at : (c : After-note) → let a = c.args in Noting a.scratch.now a.tail c.pack-y.result a.mark
noting_at c = record {
  laid = c.requires.laid;
  state_below = omega (arith, c.pack-y.ensures.1, c.requires.long);
  not_found = sym c.mark_at.ensures ∙ c.if-mark_at-ne0.false;
  mark_some = c.requires.mark_some;
  mark_most = c.requires.mark_most;
}

pub returns-then-only_first : goal.returns-then-only_first
returns-then-only_first c =
    let t = first_of c.args.two in
    let u = second_of c.args.two in
    let noting = noting_at (goal.at.returns-then-only_first c).After-note in
    let apart = packed_apart c.requires.inside c.pack-y.ensures.0 in
    rw (← c.pack-y.ensures.0)
    (reach_goal t.built u.built t.rows u.rows noting _ c.note.ensures _
    (goal_by t.rows u.rows _ _ apart c.only_first.ensures)
    c.if-only_first.true)

pub extend-more-requires : goal.extend-more-requires
extend-more-requires c =
    let noting = noting_at (goal.at.extend-more-requires c).After-note in
    let apart = packed_apart c.requires.inside c.pack-y.ensures.0 in
    let g = noted_grown noting _ c.note.ensures in
    record {
      long = g.length_is ∙ c.requires.long;
      laid = grown_laid noting g;
      apart = subst (λ (y : ℕ). ApartIn c.args.two y c.args.j) (sym g.low_new) apart;
    }

pub returns : goal.returns
returns c =
    let t = first_of c.args.two in
    let u = second_of c.args.two in
    let noting = noting_at (goal.at.returns c).After-note in
    let apart = packed_apart c.requires.inside c.pack-y.ensures.0 in
    rw (← c.pack-y.ensures.0)
    (reach_on t.built u.built t.rows u.rows noting _ c.note.ensures _
    (goal_by t.rows u.rows _ _ apart c.only_first.ensures)
    _
    _
    c.extend-more.ensures
    c.if-only_first.false)
