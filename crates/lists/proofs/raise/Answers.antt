-- `lists::raise` meets its contract: the symbol is raised, or the stamp.
use Rattle.std.proofs.Common.{◌∙◌, arith}
use Rattle.lists.proofs.Raised.{raisable_at, symbol_raised, stamp_raised}
use Rattle.lists.proofs.Places.{six}
use Rattle.lists.proofs.raise.Goals as goal

pub bounds-word-i : goal.bounds-word-i
bounds-word-i c =
    let k = raisable_at (six _ _ c.well_formed.1.0) c.requires in
    omega (arith, k.place_of, k.most_count)

pub bounds-word-i-2 : goal.bounds-word-i-2
bounds-word-i-2 c =
    let k = raisable_at (six _ _ c.well_formed.1.0) c.requires in
    omega (arith, k.place_of, k.most_count)

pub place-requires : goal.place-requires
place-requires c =
    let k = raisable_at (six _ _ c.well_formed.1.0) c.requires in
    (k.most_count, k.place_of)

pub returns-then-from-size : goal.returns-then-from-size
returns-then-from-size c =
    let k = raisable_at (six _ _ c.well_formed.1.0) c.requires in
    c.place.ensures
    ∙ symbol_raised _ _ _ (six _ _ c.well_formed.1.0) k.most_count k.rest_zero k.place_of (omega arith)

pub overflow_add-stamp : goal.overflow_add-stamp
overflow_add-stamp c =
    let k = raisable_at (six _ _ c.well_formed.1.0) c.requires in
    record { fits = omega (arith, k.most_stamp) }

pub place-requires-2 : goal.place-requires-2
place-requires-2 c =
    let k = raisable_at (six _ _ c.well_formed.1.0) c.requires in
    (k.most_count, k.place_of)

pub returns : goal.returns
returns c =
    let k = raisable_at (six _ _ c.well_formed.1.0) c.requires in
    c.place-2.ensures
    ∙ stamp_raised _ _ _ (six _ _ c.well_formed.1.0) k.most_count k.rest_zero k.place_of (omega arith)
