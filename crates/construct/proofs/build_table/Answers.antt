-- `construct::build_table` meets its contract: 20 and 21 as the rule's check finds them, 22, then the build.
use Rattle.std.proofs.Common.{◌∙◌}
use Rattle.edges.specs.Views.{rule_of}
use Rattle.construct.proofs.Handing.{handed_on}
use Rattle.construct.proofs.Outcome.{need_is, builds_unread, builds_short, rule_passes}
use Rattle.construct.proofs.StartLaws.{pairs_are}
use Rattle.construct.proofs.build_table.Goals as goal

pub returns-in_err-check_rule : goal.returns-in_err-check_rule
returns-in_err-check_rule c =
    let rule = c.args.rule in
    rw (handed_on _ _ c.from_residual.ensures.1)
    (builds_unread rule.head rule.edges.now c.args.scratch.now c.args.cells.now c.args.rows.now c.args.pool.now _
    c.in_err-check_rule.ensures)

pub returns-then-scratch-div_ceil : goal.returns-then-scratch-div_ceil
returns-then-scratch-div_ceil c =
    let h = c.args.rule.head in
    let t = c.args.rule.edges.now in
    let passed = rule_passes h t c.in_ok-check_rule.ensures in
    let pairs = pairs_are h t c.scale_of-scale.result (c.scale_of-scale.ensures passed) in
    rw c.into.ensures
    (builds_short h t c.args.scratch.now c.args.cells.now c.args.rows.now c.args.pool.now passed _
    (c.div_ceil.ensures ∙ need_is (rule_of c.args.rule) _ pairs)
    c.if-scratch-div_ceil.true)

pub build_in-requires : goal.build_in-requires
build_in-requires c =
    let h = c.args.rule.head in
    let t = c.args.rule.edges.now in
    let passed = rule_passes h t c.in_ok-check_rule.ensures in
    let pairs = pairs_are h t c.scale_of-scale.result (c.scale_of-scale.ensures passed) in
    let need = c.div_ceil.ensures ∙ need_is (rule_of c.args.rule) _ pairs in
    rw (← need) c.if-scratch-div_ceil.false
