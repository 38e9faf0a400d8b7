-- `Plan::row_resets` meets its contract: none at an odd interval, else what is asked of every pair of the row.
use Rattle.std.proofs.Common.{◌∙◌, ne_eqb, rules}
use Rattle.std.proofs.lemmas.Iterator.Search.{any_from_yields_List}
use Rattle.std.proofs.lemmas.Iterator.{YieldsList-from_slice}
use Rattle.model.specs.Construction.{pair_resets}
use Rattle.construct.specs.Marks.{rule_by}
use Rattle.construct.proofs.EdgeLaws.{row_asked, odd_never}
use Rattle.construct.proofs.Plan.row_resets.Goals as goal

pub returns-then-input-eq0 : goal.returns-then-input-eq0
returns-then-input-eq0 c =
    let r = rule_by c.args.self in
    let at = c.args.input in
    any_from_yields_List (λ x. pair_resets r at.symbol at.interval x r.edges) _ _ _ c.any.ensures.ran
    (YieldsList-from_slice c.args.row.now (cc))
    (λ x b q k. search rules)
    ∙ row_asked r at.symbol at.interval c.args.row.now

pub returns-else-input-eq0 : goal.returns-else-input-eq0
returns-else-input-eq0 c =
    let plan = c.args.self in
    ne_eqb _ _ c.if-input-eq0.false
    ∙ odd_never plan.rule.head plan.rule.edges.now c.args.input.symbol c.args.input.interval c.args.row.now plan.passed
    c.if-input-eq0.false
