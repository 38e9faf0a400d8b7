-- `shares::lengths::is_long` meets its contract: the part used holds the lengths, and their sum is over 1,000,000 where
-- that of the words is.
use Rattle.std.proofs.Common.{ℕ, suc, ◌+◌, ◌≤◌, List, length, ltb, ap, ◌∙◌, arith}
use Rattle.std.specs.Prelude.{sum}
use lib.Seq.{length-take-le}
use Rattle.model.specs.Basics.{zeros}
use Rattle.model.specs.Lists.{most_listed_events}
use Rattle.model.specs.Shares.{most_words}
use Rattle.shares.proofs.LengthLaws.{all_long, front_back}
use Rattle.shares.proofs.lengths.is_long.Goals as goal

-- the array as it is made
abbrev places : List ℕ
places = zeros (suc most_listed_events)

pub returns : goal.returns
returns c =
    let u : ℕ = c.args.events + 1 in
    let fit : u ≤ length places = omega arith in
    let l = c.list_lengths in
    ap (ltb most_words)
    (c.sum_of.ensures ∙ ap sum (front_back u places l.new.lengths fit l.ensures.same_length))
    ∙ all_long l.ensures c.args.events (omega (arith, length-take-le u places fit))
