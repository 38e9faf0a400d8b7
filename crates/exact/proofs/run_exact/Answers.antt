-- `exact::run_exact` meets its contract: the rule is checked, then the word, then the events are followed.
use Rattle.std.proofs.Common.{◌∙◌, ap, refl}
use Rattle.model.specs.Basics.{one_if}
use Rattle.model.specs.Faults.{answer_in}
use Rattle.exact.proofs.Running.{handed_on}
use Rattle.exact.proofs.Outcome.{rule_refusal_is, word_refusal_is, begins, runs_exact}
use Rattle.exact.proofs.run_exact.Goals as goal

pub returns-in_err-check_rule : goal.returns-in_err-check_rule
returns-in_err-check_rule c =
    let a = c.args in
    rule_refusal_is a.rule.head a.rule.edges.now a.grain a.symbols.now a.stamps.now a.scratch.now
    c.from_residual.result
    c.in_err-check_rule.field-0.0
    (handed_on c.from_residual.result c.in_err-check_rule.field-0.0 c.in_err-check_rule.field-0.0
    c.from_residual.ensures.1
    refl)
    c.in_err-check_rule.ensures

pub returns-in_err-events : goal.returns-in_err-events
returns-in_err-events c =
    let a = c.args in
    word_refusal_is a.rule.head a.rule.edges.now a.grain a.symbols.now a.stamps.now a.scratch.now
    c.in_ok-check_rule.ensures
    c.from_residual-in_err-events.result
    c.in_err-events.field-0.0
    (handed_on c.from_residual-in_err-events.result c.in_err-events.field-0.0 c.in_err-events.field-0.0
    c.from_residual-in_err-events.ensures.1
    refl)
    c.in_err-events.ensures.checks

pub run_events-answer-requires : goal.run_events-answer-requires
run_events-answer-requires c =
    let a = c.args in
    let e = c.in_ok-events.ensures in
    begins a.rule.head a.rule.edges.now a.grain a.symbols.now a.stamps.now a.scratch.now
    c.in_ok-check_rule.ensures e.checks _ _ e.lends.0 e.lends.1

pub returns : goal.returns
returns c =
    let a = c.args in
    let e = c.in_ok-events.ensures in
    runs_exact a.rule.head a.rule.edges.now a.grain a.symbols.now a.stamps.now a.scratch.now
    c.in_ok-check_rule.ensures e.checks _ _ _ c.run_events-answer.new.scratch c.cleared.new.scratch e.lends.0 e.lends.1
    (ap (answer_in one_if) c.cleared.ensures.0 ∙ c.run_events-answer.ensures)
    c.run_events-answer.auto.scratch
    c.cleared.ensures.1
