-- `Scale::unpack` meets its contract: the bases from clock k on are out, and what power k leaves is left; once nothing
-- is left, the bases still to come are 0.
use Rattle.std.proofs.Common.{◌≡◌, ◌<◌, ◌-◌, ◌^◌, suc, refl, ◌∙◌, arith, rules}
use native.Mathlib.Nat.{mod-eq_of_lt}
use mathlib.Core.Logic.{⊎_elim}
use Rattle.codes.proofs.PowerLaws.{raised_of, weight_power}
use Rattle.codes.proofs.Loops.{taking_start, taking_off, taking_small, taking_past, taking_end}
use Rattle.codes.proofs.Loops.{taking_nothing, digit_most, last_most, unpack_is}
use Rattle.codes.proofs.Scale.unpack.Goals as goal

pub loop-k-init : goal.loop-k-init
loop-k-init c powered =
    taking_start c.args.code _ _ (raised_of powered) (weight_power powered) c.remainder-rest.ensures

pub returns-then-rest-eq0 : goal.returns-then-rest-eq0
returns-then-rest-eq0 c powered =
    unpack_is c.args.self c.args.code _ _ c.quotient-location.ensures
    (taking_nothing (c.loop-k.invariant powered) c.if-rest-eq0.true)

pub loop-k-preserved-then-power-rest : goal.loop-k-preserved-then-power-rest
loop-k-preserved-then-power-rest c powered =
    let e : c.loop-k.k ≡ suc (c.loop-k.k - 1) = omega arith in
    let inv = c.loop-k.invariant powered in
    let q = c.quotient.ensures in
    let small : c.quotient.result < 2 ^ 16 = rw q (digit_most inv (c.loop-k.k - 1) _ e c.if-k-clocks.true refl) in
    taking_off inv (c.loop-k.k - 1) _ _ _ e (search rules) c.if-k-clocks.true refl
    (c.narrow.ensures ∙ (mod-eq_of_lt small ∙ q))
    c.remainder-rest-then-power-rest.ensures

pub loop-k-preserved : goal.loop-k-preserved
loop-k-preserved c powered =
    let e : c.loop-k.k ≡ suc (c.loop-k.k - 1) = omega arith in
    let inv = c.loop-k.invariant powered in
    ⊎_elim
    (λ w. taking_small inv (c.loop-k.k - 1) _ e (search rules) w.0 refl w.1)
    (λ w. taking_past inv (c.loop-k.k - 1) e (search rules) w)
    c.else-k-clocks.either

pub returns : goal.returns
returns c powered =
    let inv = c.loop-k.invariant powered in
    unpack_is c.args.self c.args.code _ _ c.quotient-location.ensures
    (taking_end inv _ (search rules) (c.narrow-2.ensures ∙ mod-eq_of_lt (last_most inv (search rules))))
