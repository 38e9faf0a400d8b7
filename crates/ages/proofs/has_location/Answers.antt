-- `ages::has_location` meets its contract: the locations of a set are its bits.
use Rattle.ages.proofs.Laws.{location_past, location_bit}
use Rattle.ages.proofs.has_location.Goals as goal

pub returns-then-place-lt-MOST_LOCATIONS : goal.returns-then-place-lt-MOST_LOCATIONS
returns-then-place-lt-MOST_LOCATIONS c =
    location_bit c.args.set c.args.location _ c.if-place-lt-MOST_LOCATIONS.true c.has_bit.ensures

pub returns-else-place-lt-MOST_LOCATIONS : goal.returns-else-place-lt-MOST_LOCATIONS
returns-else-place-lt-MOST_LOCATIONS c = location_past c.args.set c.args.location c.if-place-lt-MOST_LOCATIONS.false
