-- `Known::find_from` meets its contract: no two rows are equal, so the search may begin at any of them.
use Rattle.std.proofs.Common.{◌≤◌, rules}
use Rattle.bits.specs.Bits.{codes_in}
use Rattle.construct.proofs.RowSearch.{found_after, found_before}
use Rattle.construct.proofs.rows.Known.find_from.Goals as goal

pub returns-in_default : goal.returns-in_default
returns-in_default c =
    let known = c.args.self in
    let inside : c.min-middle.result ≤ known.count = search rules in
    found_before known.rows.now known.pool.now (codes_in c.args.wanted.marks.now) known.count c.requires _ inside _
    c.find_row-found.ensures
    c.in_default.is
    _
    c.find_row.ensures

pub returns : goal.returns
returns c =
    let known = c.args.self in
    let inside : c.min-middle.result ≤ known.count = search rules in
    found_after known.rows.now known.pool.now (codes_in c.args.wanted.marks.now) known.count c.requires _ inside _
    c.find_row-found.ensures
    _
    c.in-At.is
