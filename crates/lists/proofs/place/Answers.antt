-- `lists::place` meets its contract, place by place.
use Rattle.lists.proofs.Raised.{place_is, six_equal}
use Rattle.lists.proofs.Places.{six}
use Rattle.lists.proofs.place.Goals as goal

-- the states after each place's symbol and stamp, from the last back
pub returns : goal.returns
returns c =
    place_is c.args.word c.args.i c.args.symbol c.args.stamp (six _ _ c.well_formed.0) c.requires.0 c.requires.1
    (six_equal c.symbol_at.ensures c.symbol_at-2.ensures c.symbol_at-3.ensures c.symbol_at-4.ensures
    c.symbol_at-5.ensures
    c.symbol_at-6.ensures)
    (six_equal c.stamp_at.ensures c.stamp_at-2.ensures c.stamp_at-3.ensures c.stamp_at-4.ensures
    c.stamp_at-5.ensures
    c.stamp_at-6.ensures)
