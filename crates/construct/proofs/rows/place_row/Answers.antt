-- `construct::rows::place_row` meets its contract: the row placed last where it is right, else the number of an equal
-- row, else the next.
use Rattle.bits.specs.Bits.{codes_in}
use Rattle.construct.proofs.NewRow.{placed_last, placed_found, placed_new, number_new}
use Rattle.construct.proofs.RowTables.{row_within}
use Rattle.construct.proofs.rows.place_row.Goals as goal

pub invariant_of-known : goal.invariant_of-known
invariant_of-known c = record { within = row_within c.requires }

pub returns-then-is_row : goal.returns-then-is_row
returns-then-is_row c = placed_last c.requires (codes_in c.args.wanted.marks.now) _ c.is_row.ensures c.if-is_row.true

pub add_row-requires-clause-pool_value : goal.add_row-requires-clause-pool_value
add_row-requires-clause-pool_value c =
    number_new c.requires (codes_in c.args.wanted.marks.now) _ c.find_from-found.ensures c.in_default.is

pub returns-in_default : goal.returns-in_default
returns-in_default c =
    placed_new c.requires (codes_in c.args.wanted.marks.now) _ c.find_from-found.ensures c.in_default.is _ _ _
    c.add_row.ensures

pub returns : goal.returns
returns c = placed_found c.requires (codes_in c.args.wanted.marks.now) _ _ c.find_from-found.ensures c.in-At.is
