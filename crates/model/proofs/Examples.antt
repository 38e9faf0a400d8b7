-- P1 to P9 of document 01 as one list with one claim, and the whole tables of the worked case and of a second rule that
-- tells apart what the first does not, by equalities and from both sides. All by computation from the definitions.
use mathlib.Core.Path.{◌≡◌, refl}
use mathlib.Core.Bool.{Bool, true, false}
use mathlib.Core.List.{List, [], ◌∷◌, ◌++◌}
use Prim.Native.Nat.{ℕ}
use Rattle.model.specs.Basics.{mask_of, fine}
use Rattle.model.specs.Rules.{Edge, Rule, rule, cm, pair_count}
use Rattle.model.specs.Words.{events_of}
use Rattle.model.specs.Runs.{accepts_from, accepts_from_some, accepts}
use Rattle.model.specs.Files.{record_refusal, with_record, at_end, read_from, read_rule, numbers, ceiling_record}
use Rattle.model.specs.Files.{edge_records, file_with, rule_bytes, ceiling_bytes, less_past, less_ceiling, kinds_past}
use Rattle.model.specs.Files.{has_ceiling}
use Rattle.model.specs.Construction.{code_of, location_of, bases_of, start_row, allows, row_resets, target_of}
use Rattle.model.specs.Construction.{next_row, by_intervals, by_symbols, rows_from, rows_of, cell_of, holds_final}
use Rattle.model.specs.Tables.{Tables, tables, tables_by, tables_of}
use Rattle.model.specs.Walks.{verdict}

-- the 58 bytes, a list for each record
unfoldable pub worked_file : List ℕ
worked_file =
    (6 ∷ 0 ∷ 1 ∷ 0 ∷ 2 ∷ 0 ∷ 2 ∷ 0 ∷ 1 ∷ 0 ∷ [])
    ++ ((2 ∷ 0 ∷ 2 ∷ 0 ∷ 0 ∷ 0 ∷ [])
    ++ ((2 ∷ 0 ∷ 3 ∷ 0 ∷ 0 ∷ 0 ∷ [])
    ++ ((14 ∷ 0 ∷ 5 ∷ 0 ∷ 0 ∷ 0 ∷ 1 ∷ 0 ∷ 0 ∷ 0 ∷ 1 ∷ 0 ∷ 0 ∷ 0 ∷ 2 ∷ 0 ∷ 1 ∷ 0 ∷ [])
    ++ (14 ∷ 0 ∷ 5 ∷ 0 ∷ 1 ∷ 0 ∷ 0 ∷ 0 ∷ 1 ∷ 0 ∷ 0 ∷ 0 ∷ 0 ∷ 0 ∷ 3 ∷ 0 ∷ 1 ∷ 0 ∷ []))))

unfoldable pub worked : Rule
worked = (read_rule worked_file).rule_is

-- P9's rule: edges 0 to 0 and 0 to 1, both on symbol 0 at age 1, the second alone resetting
pub at_age_one : List ℕ
at_age_one = 0 ∷ 2 ∷ 1 ∷ []

pub edge_to : ℕ → ℕ → Edge
edge_to target resets = record {
  kind = 5;
  source = 0;
  target = target;
  symbol = 0;
  resets = resets;
  text = at_age_one;
}

pub ninth : Rule
ninth = rule 2 2 1 (0 ∷ []) (0 ∷ []) (edge_to 0 0 ∷ edge_to 1 1 ∷ [])

-- an example: a word over the worked case with its answer, or a row with where it leads
pub data Example : Type 0 where
  word : (d : ℕ) (symbols stamps : List ℕ) (answer : Bool) → Example
  row : (r : Rule) (symbol interval : ℕ) (from to : List ℕ) (timer : Bool) → Example

pub Holds : Example → Type 0
Holds (word d symbols stamps answer) = accepts worked d (events_of symbols stamps) ≡ answer
Holds (row r symbol interval from to timer) =
    (next_row r symbol interval from ≡ to) × (row_resets r symbol interval from ≡ timer)

pub AllHold : List Example → Type 0
AllHold [] = Unit {0}
AllHold (x ∷ xs) = Holds x × AllHold xs

pub nine : List Example
nine =
    word 2 [] [] true
    ∷ word 2 (0 ∷ []) (2 ∷ []) false
    ∷ word 2 (0 ∷ 1 ∷ []) (2 ∷ 4 ∷ []) true
    ∷ word 2 (0 ∷ 1 ∷ []) (2 ∷ 3 ∷ []) false
    ∷ word 2 (0 ∷ []) (1 ∷ []) false
    ∷ word 2 (0 ∷ 1 ∷ 0 ∷ []) (2 ∷ 4 ∷ 4 ∷ []) false
    ∷ word 2 (0 ∷ 1 ∷ 0 ∷ 1 ∷ []) (2 ∷ 4 ∷ 4 ∷ 6 ∷ []) true
    ∷ word 3 (0 ∷ 1 ∷ []) (3 ∷ 7 ∷ []) true
    ∷ row ninth 0 2 (0 ∷ []) (1 ∷ 3 ∷ []) true
    ∷ []

pub nine_hold : AllHold nine
unfolding mask_of cm pair_count accepts_from accepts_from_some accepts record_refusal with_record at_end read_from
    read_rule
    code_of location_of bases_of allows row_resets target_of next_row worked_file worked at_age_one edge_to ninth Holds
    AllHold nine
nine_hold = (refl, (refl, (refl, (refl, (refl, (refl, (refl, (refl, ((refl, refl), tt)))))))))

-- The whole table of the worked case, in room that it fills: 3 rows, 2 codes.
unfoldable pub worked_tables : Tables
worked_tables =
    tables (record { locations = 2; symbols = 2; clocks = 1; top = 1; ends = 1; rows = 3; total = 2 })
    ((2 ∷ 2 ∷ 5 ∷ 2 ∷ [])
    ++ ((2 ∷ 2 ∷ 2 ∷ 2 ∷ [])
    ++ ((2 ∷ 2 ∷ 2 ∷ 2 ∷ [])
    ++ ((2 ∷ 2 ∷ 2 ∷ 2 ∷ [])
    ++ ((2 ∷ 2 ∷ 2 ∷ 2 ∷ [])
    ++ (2 ∷ 2 ∷ 0 ∷ 0 ∷ []))))))
    (0 ∷ 1 ∷ 1 ∷ 1 ∷ 0 ∷ 0 ∷ 1 ∷ 1 ∷ 0 ∷ [])
    (0 ∷ 3 ∷ [])

pub worked_table_is : tables_of worked 24 9 2 ≡ worked_tables
unfolding mask_of cm pair_count record_refusal with_record at_end read_from read_rule
    code_of location_of bases_of start_row allows row_resets target_of next_row by_intervals by_symbols rows_from
    rows_of cell_of
    holds_final tables_by tables_of worked_file worked worked_tables
worked_table_is = refl

-- The second rule: two clocks, resets of either clock, several atoms, strict and weak relations, so that a swapped
-- field, relation, digit, mask bit or order of discovery changes its table. Its last edge can never be taken: x0 < 0
-- does not hold; it is there for its constant, 2, which makes cm. Its file has a ceiling of 3, which does not count.
unfoldable pub second_locations : List ℕ
second_locations =
    (6 ∷ 0 ∷ 1 ∷ 0 ∷ 3 ∷ 0 ∷ 2 ∷ 0 ∷ 2 ∷ 0 ∷ [])
    ++ ((2 ∷ 0 ∷ 2 ∷ 0 ∷ 0 ∷ 0 ∷ []) ++ ((2 ∷ 0 ∷ 2 ∷ 0 ∷ 1 ∷ 0 ∷ []) ++ (2 ∷ 0 ∷ 3 ∷ 0 ∷ 2 ∷ 0 ∷ [])))

unfoldable pub second_records : List ℕ
second_records =
    (20 ∷ 0 ∷ 5 ∷ 0 ∷ 0 ∷ 0 ∷ 1 ∷ 0 ∷ 1 ∷ 0 ∷ 2 ∷ 0 ∷ 0 ∷ 0 ∷ 2 ∷ 0 ∷ 1 ∷ 0 ∷ 1 ∷ 0 ∷ 1 ∷ 0 ∷ 1 ∷ 0 ∷ [])
    ++ ((20 ∷ 0 ∷ 5 ∷ 0 ∷ 1 ∷ 0 ∷ 2 ∷ 0 ∷ 0 ∷ 0 ∷ 0 ∷ 0 ∷ 1 ∷ 0 ∷ 0 ∷ 0 ∷ 1 ∷ 0 ∷ 0 ∷ 0 ∷ 3 ∷ 0 ∷ 1 ∷ 0 ∷ [])
    ++ ((14 ∷ 0 ∷ 5 ∷ 0 ∷ 1 ∷ 0 ∷ 0 ∷ 0 ∷ 0 ∷ 0 ∷ 1 ∷ 0 ∷ 0 ∷ 0 ∷ 2 ∷ 0 ∷ 1 ∷ 0 ∷ [])
    ++ ((20 ∷ 0 ∷ 5 ∷ 0 ∷ 2 ∷ 0 ∷ 2 ∷ 0 ∷ 1 ∷ 0 ∷ 0 ∷ 0 ∷ 1 ∷ 0 ∷ 4 ∷ 0 ∷ 1 ∷ 0 ∷ 0 ∷ 0 ∷ 4 ∷ 0 ∷ 0 ∷ 0 ∷ [])
    ++ (20 ∷ 0 ∷ 5 ∷ 0 ∷ 2 ∷ 0 ∷ 0 ∷ 0 ∷ 0 ∷ 0 ∷ 0 ∷ 0 ∷ 0 ∷ 0 ∷ 0 ∷ 0 ∷ 0 ∷ 0 ∷ 0 ∷ 0 ∷ 1 ∷ 0 ∷ 2 ∷ 0 ∷ []))))

unfoldable pub second_file : List ℕ
second_file = second_locations ++ ((2 ∷ 0 ∷ 4 ∷ 0 ∷ 3 ∷ 0 ∷ []) ++ second_records)

-- the same file less its ceiling
unfoldable pub second_less : List ℕ
second_less = second_locations ++ second_records

unfoldable pub second : Rule
second = (read_rule second_file).rule_is

unfoldable pub second_tables : Tables
second_tables =
    tables (record { locations = 3; symbols = 2; clocks = 2; top = 2; ends = 4; rows = 6; total = 7 })
    ((2 ∷ 2 ∷ 5 ∷ 2 ∷ 2 ∷ 2 ∷ [])
    ++ ((2 ∷ 2 ∷ 7 ∷ 2 ∷ 2 ∷ 2 ∷ [])
    ++ ((2 ∷ 2 ∷ 2 ∷ 2 ∷ 2 ∷ 2 ∷ [])
    ++ ((2 ∷ 2 ∷ 2 ∷ 2 ∷ 2 ∷ 2 ∷ [])
    ++ ((2 ∷ 2 ∷ 2 ∷ 2 ∷ 2 ∷ 2 ∷ [])
    ++ ((2 ∷ 2 ∷ 2 ∷ 2 ∷ 2 ∷ 2 ∷ [])
    ++ ((9 ∷ 10 ∷ 2 ∷ 2 ∷ 2 ∷ 2 ∷ [])
    ++ ((2 ∷ 2 ∷ 2 ∷ 2 ∷ 2 ∷ 2 ∷ [])
    ++ ((2 ∷ 2 ∷ 2 ∷ 2 ∷ 2 ∷ 2 ∷ [])
    ++ ((2 ∷ 2 ∷ 7 ∷ 10 ∷ 10 ∷ 10 ∷ [])
    ++ ((2 ∷ 2 ∷ 2 ∷ 2 ∷ 2 ∷ 2 ∷ [])
    ++ (2 ∷ 2 ∷ 2 ∷ 10 ∷ 10 ∷ 10 ∷ []))))))))))))
    (0 ∷ 2 ∷ 0 ∷ 2 ∷ 0 ∷ 0 ∷ 2 ∷ 1 ∷ 0 ∷ 3 ∷ 1 ∷ 0 ∷ 4 ∷ 2 ∷ 1 ∷ 6 ∷ 1 ∷ 1 ∷ [])
    (0 ∷ 16 ∷ 4 ∷ 17 ∷ 0 ∷ 33 ∷ 33 ∷ [])

pub second_table_is : tables_of second 72 18 7 ≡ second_tables
unfolding mask_of cm pair_count record_refusal with_record at_end read_from read_rule
    code_of location_of bases_of start_row allows row_resets target_of next_row by_intervals by_symbols rows_from
    rows_of cell_of
    holds_final tables_by tables_of second_locations second_records second_file second second_tables
second_table_is = refl

-- The same rule pinned from both sides (2.4): in the place of each equality an at-least and an at-most, once apart and
-- in the other order. The same table.
unfoldable pub sided_file : List ℕ
sided_file =
    second_locations
    ++ numbers
    ((26 ∷ 5 ∷ 0 ∷ 1 ∷ 1 ∷ 2 ∷ 0 ∷ 1 ∷ 1 ∷ 1 ∷ 1 ∷ 1 ∷ 0 ∷ 3 ∷ 1 ∷ [])
    ++ ((20 ∷ 5 ∷ 1 ∷ 2 ∷ 0 ∷ 0 ∷ 1 ∷ 0 ∷ 1 ∷ 0 ∷ 3 ∷ 1 ∷ [])
    ++ ((20 ∷ 5 ∷ 1 ∷ 0 ∷ 0 ∷ 1 ∷ 0 ∷ 3 ∷ 1 ∷ 0 ∷ 1 ∷ 1 ∷ [])
    ++ ((20 ∷ 5 ∷ 2 ∷ 2 ∷ 1 ∷ 0 ∷ 1 ∷ 4 ∷ 1 ∷ 0 ∷ 4 ∷ 0 ∷ [])
    ++ (20 ∷ 5 ∷ 2 ∷ 0 ∷ 0 ∷ 0 ∷ 0 ∷ 0 ∷ 0 ∷ 0 ∷ 1 ∷ 2 ∷ [])))))

unfoldable pub sided : Rule
sided = (read_rule sided_file).rule_is

pub sided_table_is : tables_of sided 72 18 7 ≡ second_tables
unfolding mask_of cm pair_count record_refusal with_record at_end read_from read_rule
    code_of location_of bases_of start_row allows row_resets target_of next_row by_intervals by_symbols rows_from
    rows_of cell_of
    holds_final tables_by tables_of second_locations sided_file sided second_tables
sided_table_is = refl

-- cm: the largest constant in any atom of any edge; 0 where there is none, and where 0 is the largest
abbrev pub timeless : List ℕ → Edge
timeless text = record { kind = 5; source = 0; target = 0; symbol = 0; resets = 0; text = text }

pub tops_are :
    (cm worked ≡ 1) × (cm second ≡ 2) × (cm ninth ≡ 1) × (cm (rule 1 1 1 [] [] []) ≡ 0)
    × (cm (rule 1 1 1 [] [] (timeless [] ∷ [])) ≡ 0)
    × (cm (rule 1 1 1 [] [] (timeless (0 ∷ 3 ∷ 0 ∷ []) ∷ [])) ≡ 0)
unfolding cm pair_count record_refusal with_record at_end read_from read_rule worked_file worked second_locations
    second_records second_file second ninth edge_to at_age_one
tops_are = (refl, refl, refl, refl, refl, refl)

-- rows that store a yes: 4 and 5
pub second_verdicts :
    (verdict second_tables 0 ≡ false) × (verdict second_tables 1 ≡ false) × (verdict second_tables 2 ≡ false)
    × (verdict second_tables 3 ≡ false) × (verdict second_tables 4 ≡ true) × (verdict second_tables 5 ≡ true)
unfolding verdict second_tables
second_verdicts = (refl, refl, refl, refl, refl, refl)

-- a stored number is read as yes if it is 1, and no other; past the table there is a no
pub stored_verdicts :
    (verdict (tables worked_tables.built [] (9 ∷ 9 ∷ 0 ∷ 9 ∷ 9 ∷ 1 ∷ 1 ∷ 1 ∷ 2 ∷ []) []) 0 ≡ false)
    × (verdict (tables worked_tables.built [] (9 ∷ 9 ∷ 0 ∷ 9 ∷ 9 ∷ 1 ∷ 1 ∷ 1 ∷ 2 ∷ []) []) 1 ≡ true)
    × (verdict (tables worked_tables.built [] (9 ∷ 9 ∷ 0 ∷ 9 ∷ 9 ∷ 1 ∷ 1 ∷ 1 ∷ 2 ∷ []) []) 2 ≡ false)
    × (verdict (tables worked_tables.built [] (9 ∷ 9 ∷ 0 ∷ 9 ∷ 9 ∷ 1 ∷ 1 ∷ 1 ∷ 2 ∷ []) []) 3 ≡ false)
unfolding verdict worked_tables
stored_verdicts = (refl, refl, refl, refl)

-- both files are accepted; written again the first has the same bytes, the second those less its ceiling
pub files_again :
    ((read_rule worked_file).refused ≡ fine) × ((read_rule second_file).refused ≡ fine)
    × (rule_bytes worked ≡ worked_file) × (rule_bytes second ≡ second_less)
unfolding mask_of cm pair_count record_refusal with_record at_end read_from read_rule edge_records file_with rule_bytes
    worked_file worked second_locations second_records second_file second_less second
files_again = (refl, refl, refl, refl)

-- what has a ceiling, and a file less its ceiling. An edge of this rule has the bytes of a ceiling record for an atom,
-- x2 > 9, and is kept; so is the rest of a file that ends in the middle of a record.
unfoldable pub seeming : List ℕ
seeming = numbers (14 ∷ 5 ∷ 0 ∷ 0 ∷ 0 ∷ 0 ∷ 2 ∷ 4 ∷ 9 ∷ [])

pub ceilings_are :
    (has_ceiling worked_file ≡ false) × (has_ceiling second_file ≡ true) × (has_ceiling second_less ≡ false)
    × (has_ceiling seeming ≡ false) × (has_ceiling (ceiling_record 0 ++ seeming) ≡ true)
    × (has_ceiling (seeming ++ ceiling_record 0) ≡ true)
    × (less_ceiling worked_file ≡ worked_file) × (less_ceiling second_file ≡ second_less)
    × (less_ceiling second_less ≡ second_less) × (less_ceiling (ceiling_record 0 ++ seeming) ≡ seeming)
    × (less_ceiling (seeming ++ ceiling_record 0) ≡ seeming) × (ceiling_bytes 3 second ≡ second_file)
unfolding mask_of cm pair_count record_refusal with_record at_end read_from read_rule edge_records file_with
    ceiling_bytes
    less_past kinds_past worked_file second_locations second_records second_file second_less second seeming
ceilings_are = (refl, refl, refl, refl, refl, refl, refl, refl, refl, refl, refl, refl)
