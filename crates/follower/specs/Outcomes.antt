-- The records that cross a follower's calls, by the outcome.
use Rattle.std.specs.Prelude.{Bool, false, Result, Ok, Err}
use Rattle.model.specs.declared.Refused.{Refused}
use Rattle.model.specs.declared.Follower.{Follower}
use Rattle.model.specs.declared.Followed.{Followed}
use Rattle.model.specs.declared.Moved.{Moved}
use Rattle.model.specs.Faults.{fault_number}

-- a refused event leaves the follower as it was
abbrev pub followed_in : Follower → Result (Follower × Bool) Refused → Followed
followed_in was (Ok (next, said)) = record { number = 0; place = 0; yes = said; follower = next }
followed_in was (Err r) = record { number = fault_number r.fault; place = r.place; yes = false; follower = was }

-- in place: the answer alone
abbrev pub moved_in : Result Bool Refused → Moved
moved_in (Ok said) = record { number = 0; place = 0; yes = said }
moved_in (Err r) = record { number = fault_number r.fault; place = r.place; yes = false }
