-- `reader::read_records` meets its contract: what goes on from the cursor is what the file spells.
use Rattle.std.proofs.Common.{◌∙◌, sym, refl, arith, rules}
use Rattle.std.proofs.lemmas.Result.{err_from_is_err_and}
use borrow.Author.Tests.{eqb-true, eqb-false}
use Rattle.reader.proofs.Whole.{reads_start, went_on, reads_next, reads_stops, reads_ends}
use Rattle.reader.proofs.read_records.Goals as goal

pub loop-rest-init : goal.loop-rest-init
loop-rest-init c = reads_start c.args.file.now c.args.edges.now c.requires

pub loop-rest-preserved : goal.loop-rest-preserved
loop-rest-preserved c =
    let inv = c.loop-rest.invariant in
    let step = c.read_record.ensures inv.rule inv.state in
    let some = eqb-false _ 0 (sym c.is_empty.ensures ∙ c.loop-rest-test.true) in
    reads_next inv (omega (arith, some)) (went_on _ _ _ _ c.in_ok-next.ensures.cases step)

pub returns-in_err-next : goal.returns-in_err-next
returns-in_err-next c =
    let inv = c.loop-rest.invariant in
    let step = c.read_record.ensures inv.rule inv.state in
    let some = eqb-false _ 0 (sym c.is_empty.ensures ∙ c.loop-rest-test.true) in
    let p = err_from_is_err_and c.from_residual.result c.from_residual.ensures.1 in
    rw (p.1, p.2)
    (reads_stops inv (omega (arith, some)) _ c.args.edges.now _ refl _
    c.read_record.result c.map_err.result c.map_err.ensures.cases step _ c.in_err-next.was (λ f z e. search rules))

pub returns : goal.returns
returns c =
    let none = eqb-true _ 0 (sym c.is_empty.ensures ∙ c.loop-rest-test.false) in
    reads_ends c.loop-rest.invariant c.args.edges.now refl none c.loop-rest.auto.edges _
    (λ f z e. search rules) _ _
    (c.finish.ensures c.loop-rest.invariant.rule c.loop-rest.invariant.state) c.map_err-2.ensures.cases
