-- `bits::lay_number` meets its contract: the codes written, with those still in the rest, are the number's.
use Rattle.std.proofs.Common.{refl, arith, rules}
use lib.Count.{count_trailing_zeros}
use Rattle.bits.proofs.Bitwise.{Lowest, lowest}
use Rattle.bits.proofs.Laying.{writing_start, writing_next, writing_end, shl_one_is}
use Rattle.bits.proofs.lay_number.Goals as goal

pub overflow_sub-rest : goal.overflow_sub-rest
overflow_sub-rest c =
    let low : let l = c.loop-rest in Lowest 32 c.args.first l.rest (count_trailing_zeros 32 l.rest) =
    lowest 32 _ _ c.loop-rest.invariant.0 (search rules) in
    rw (shl_one_is _ low.below) low.inside

pub loop-rest-preserved : goal.loop-rest-preserved
loop-rest-preserved c =
    let l = c.loop-rest in
    let low : Lowest 32 c.args.first l.rest (count_trailing_zeros 32 l.rest) =
    lowest 32 _ _ l.invariant.0 (search rules) in (
      rw (shl_one_is _ low.below) (omega (arith, l.invariant.0)),
      search rules,
      search rules,
      λ w. (_, writing_next (l.invariant.3 w).1 low _ _ _ refl (rw (shl_one_is _ low.below)) (search rules)),
    )

pub returns : goal.returns
returns c room =
    writing_end (c.loop-rest.invariant.3 (writing_start _ _ _ _ (search rules) room)).1 (search rules)
