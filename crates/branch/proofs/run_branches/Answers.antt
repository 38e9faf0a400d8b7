-- `branch::run_branches` meets its contract: the rule is checked, then the word, then the least run is looked for, and
-- what held the rule back.
use mathlib.Core.Path.{refl}
use Rattle.branch.proofs.Answered.{handed_on, rule_refusal_is, word_refusal_is, begins, run_is_least, none_is_least}
use Rattle.branch.proofs.run_branches.Goals as goal

pub returns-in_err-check_rule : goal.returns-in_err-check_rule
returns-in_err-check_rule c =
    let a = c.args in
    rule_refusal_is a.rule.head a.rule.edges.now a.grain a.symbols.now a.stamps.now c.from_residual.result
    c.in_err-check_rule.field-0.0
    (handed_on c.from_residual.result c.in_err-check_rule.field-0.0 c.in_err-check_rule.field-0.0
    c.from_residual.ensures.1
    refl)
    c.in_err-check_rule.ensures

pub returns-in_err-events : goal.returns-in_err-events
returns-in_err-events c =
    let a = c.args in
    word_refusal_is a.rule.head a.rule.edges.now a.grain a.symbols.now a.stamps.now c.in_ok-check_rule.ensures
    c.from_residual-in_err-events.result c.in_err-events.field-0.0
    (handed_on c.from_residual-in_err-events.result c.in_err-events.field-0.0 c.in_err-events.field-0.0
    c.from_residual-in_err-events.ensures.1
    refl)
    c.in_err-events.ensures.checks

pub least_start-requires : goal.least_start-requires
least_start-requires c =
    let a = c.args in
    let e = c.in_ok-events.ensures in
    begins a.rule.head a.rule.edges.now a.grain a.symbols.now a.stamps.now c.in_ok-check_rule.ensures e.checks _ _
    e.lends.0 e.lends.1

pub returns-in-Some : goal.returns-in-Some
returns-in-Some c =
    let a = c.args in
    let e = c.in_ok-events.ensures in
    run_is_least a.rule.head a.rule.edges.now a.grain a.symbols.now a.stamps.now c.in_ok-check_rule.ensures e.checks _ _
    e.lends.0 e.lends.1 _ c.in-Some.ensures

pub held_back-held-requires-clause-begins : goal.held_back-held-requires-clause-begins
held_back-held-requires-clause-begins c =
    let a = c.args in
    let e = c.in_ok-events.ensures in
    begins a.rule.head a.rule.edges.now a.grain a.symbols.now a.stamps.now c.in_ok-check_rule.ensures e.checks _ _
    e.lends.0 e.lends.1

pub returns : goal.returns
returns c =
    let a = c.args in
    let e = c.in_ok-events.ensures in
    none_is_least a.rule.head a.rule.edges.now a.grain a.symbols.now a.stamps.now c.in_ok-check_rule.ensures
    e.checks _ _ e.lends.0 e.lends.1 _ c.in_default.ensures c.held_back-held.ensures
