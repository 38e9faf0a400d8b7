-- `inclusion::trail::leads` meets its contract: the level mark, then the state that the symbol leads to.
use Rattle.std.proofs.Common.{◌∙◌, ap₂}
use Rattle.inclusion.specs.Numbers.{packed}
use Rattle.inclusion.specs.Views.{first_of, second_of}
use Rattle.inclusion.proofs.Sources.{leads_is}
use Rattle.inclusion.proofs.trail.leads.Goals as goal

pub returns : goal.returns
returns c =
    let t = first_of c.args.two in
    let u = second_of c.args.two in
    let w = c.take_from-next.ensures in
    leads_is t u c.args.symbol _ _ _ c.args.x _ c.args.level _ _ c.state_at.ensures c.apart-j.ensures
    (c.pack.ensures.0 ∙ ap₂ (packed t.built u.built) w.first_is w.second_is)
    c.level_at.ensures
    c.if-level_at-level.false
