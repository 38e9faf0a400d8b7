-- `reader::cursor::Cursor::next` meets its contract, kind by kind.
use Rattle.std.proofs.Common.{◌∙◌, sym, arith}
use Rattle.std.proofs.lemmas.Result.{err_from_is_err_and}
use borrow.Author.Tests.{ltb-true, ltb-false}
use denote.Enum.Bare.{same_true, same_false}
use Rattle.reader.specs.contracts.record.Kind.{the_type}
use Rattle.reader.proofs.FileOrder.{kind_less}
use Rattle.reader.proofs.Faults.{order_falls, order_again, initial_refused, final_refused, ceiling_again}
use Rattle.reader.proofs.Faults.{ceiling_high, not_ceiling}
use Rattle.reader.proofs.Taken.{initial_taken, final_taken, ceiling_taken}
use Rattle.reader.proofs.cursor.Cursor.next.Goals as goal

pub returns-then-lt : goal.returns-then-lt
returns-then-lt c =
    λ r state. order_falls state.held c.args.record.body.now _
    (ltb-true _ _ (sym (c.lt.ensures ∙ kind_less _ _ _) ∙ c.if-lt.true))

pub returns-in-Sizes : goal.returns-in-Sizes
returns-in-Sizes c = λ r state. order_again state.held c.args.record.body.now c.args.record.kind c.in-Sizes.is

pub returns-in_err-initial-in-Initial : goal.returns-in_err-initial-in-Initial
returns-in_err-initial-in-Initial c =
    let p = err_from_is_err_and c.from_residual.result c.from_residual.ensures.1 in
    let rises = ltb-false _ _ (sym (c.lt.ensures ∙ kind_less _ _ _) ∙ c.if-lt.false) in
    rw (p.1, p.2)
    (λ r state. initial_refused state.held c.args.record.body.now c.from.result
    (c.from.ensures ∙ c.number.ensures) _ c.args.record.kind c.in-Initial.is rises
    c.in_err-initial-in-Initial.ensures)

pub returns-in_err-finals-in-Final : goal.returns-in_err-finals-in-Final
returns-in_err-finals-in-Final c =
    let from = c.from_residual-in_err-finals-in-Final in
    let p = err_from_is_err_and from.result from.ensures.1 in
    let rises = ltb-false _ _ (sym (c.lt.ensures ∙ kind_less _ _ _) ∙ c.if-lt.false) in
    rw (p.1, p.2)
    (λ r state. final_refused state.held c.args.record.body.now c.from-in-Final.result
    (c.from-in-Final.ensures ∙ c.number-in-Final.ensures) _ c.args.record.kind c.in-Final.is rises
    c.in_err-finals-in-Final.ensures)

pub returns-then-eq : goal.returns-then-eq
returns-then-eq c =
    let rises = ltb-false _ _ (sym (c.lt.ensures ∙ kind_less _ _ _) ∙ c.if-lt.false) in
    λ r state. ceiling_again state.held c.args.record.body.now c.args.record.kind c.in-Ceiling.is rises
    (same_true the_type tt _ _ (sym c.eq.ensures ∙ c.if-eq.true))

pub returns-then-from-gt-MOST_CONSTANT : goal.returns-then-from-gt-MOST_CONSTANT
returns-then-from-gt-MOST_CONSTANT c =
    let rises = ltb-false _ _ (sym (c.lt.ensures ∙ kind_less _ _ _) ∙ c.if-lt.false) in
    let once = not_ceiling c.args.self.last (same_false the_type _ _ (sym c.eq.ensures ∙ c.if-eq.false)) in
    λ r state. ceiling_high state.held c.args.record.body.now c.args.record.kind c.in-Ceiling.is rises once
    (omega (arith, c.from-in-Ceiling.ensures ∙ c.number-in-Ceiling.ensures))

pub returns-in_ok-initial-in-Initial : goal.returns-in_ok-initial-in-Initial
returns-in_ok-initial-in-Initial c =
    let a = c.args in
    let rises = ltb-false _ _ (sym (c.lt.ensures ∙ kind_less _ _ _) ∙ c.if-lt.false) in
    λ r state. initial_taken state a.record.body.now a.record.kind c.in-Initial.is a.record.fits _ c.from.result
    (c.from.ensures ∙ c.number.ensures) rises c.in_ok-initial-in-Initial.ensures

pub returns-in_ok-finals-in-Final : goal.returns-in_ok-finals-in-Final
returns-in_ok-finals-in-Final c =
    let a = c.args in
    let rises = ltb-false _ _ (sym (c.lt.ensures ∙ kind_less _ _ _) ∙ c.if-lt.false) in
    λ r state. final_taken state a.record.body.now a.record.kind c.in-Final.is a.record.fits _ c.from-in-Final.result
    (c.from-in-Final.ensures ∙ c.number-in-Final.ensures) rises c.in_ok-finals-in-Final.ensures

pub returns-else-from-gt-MOST_CONSTANT : goal.returns-else-from-gt-MOST_CONSTANT
returns-else-from-gt-MOST_CONSTANT c =
    let a = c.args in
    let rises = ltb-false _ _ (sym (c.lt.ensures ∙ kind_less _ _ _) ∙ c.if-lt.false) in
    let once = not_ceiling a.self.last (same_false the_type _ _ (sym c.eq.ensures ∙ c.if-eq.false)) in
    λ r state. ceiling_taken state a.record.body.now a.record.kind c.in-Ceiling.is a.record.fits rises once
    (omega (arith, c.from-in-Ceiling.ensures ∙ c.number-in-Ceiling.ensures))
