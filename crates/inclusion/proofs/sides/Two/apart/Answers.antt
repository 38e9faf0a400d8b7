-- `inclusion::sides::Two::apart` meets its contract: the high digit is the first table's, the low one the second's.
use Rattle.std.proofs.Common.{ℕ, ◌/◌, ◌%◌, ◌∙◌, ap}
use Rattle.inclusion.specs.Numbers.{state_of}
use Rattle.inclusion.proofs.JointLaws.{first_below, second_below}
use Rattle.inclusion.proofs.sides.Two.apart.Goals as goal

pub apart-first-requires : goal.apart-first-requires
apart-first-requires c =
    let two = c.args.self in
    first_below two.first.table.built two.second.table.built c.args.x _ two.second.celled.sized
    c.state_count-m.ensures.0
    c.requires

pub apart-second-requires : goal.apart-second-requires
apart-second-requires c =
    let two = c.args.self in
    second_below two.second.table.built c.args.x _ two.second.celled.sized c.state_count-m.ensures.0

pub returns : goal.returns
returns c =
    let two = c.args.self in
    let x = c.args.x in
    let m = c.state_count-m.ensures.0 in
    record {
      first_is = c.apart-first.ensures.is ∙ ap (λ (n : ℕ). state_of two.first.table.built (x / n)) m;
      second_is = c.apart-second.ensures.is ∙ ap (λ (n : ℕ). state_of two.second.table.built (x % n)) m;
      inside = record {
        first_in_lem = c.apart-first.ensures.inside;
        second_in_lem = c.apart-second.ensures.inside;
      };
    }
