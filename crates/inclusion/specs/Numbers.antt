-- A joint state of two tables as one number: the first table's state as the high digit, the second's as the low one.
use Rattle.std.specs.Prelude.{◌≡◌, Bool, List, [], ℕ, ◌+◌, ◌*◌, ◌/◌, ◌%◌, ◌≤◌, ◌<◌, eqb, length, get_or}
use Rattle.model.specs.declared.Built.{Built}
use Rattle.model.specs.Rules.{most_symbols, most_constant}
use Rattle.model.specs.Construction.{most_rows}
use Rattle.model.specs.Tables.{Tables, tables, row_verdict}
use Rattle.model.specs.Walks.{built_width, cell_need, cell_place}
use Rattle.model.specs.Inclusion.{state_count}
use Rattle.model.specs.JointStates.{State, state}
use Rattle.inclusion.specs.declared.sides.RowAge.{RowAge}
use Rattle.inclusion.specs.declared.sides.Joint.{Joint}

-- one table's state as a number below R · W, and back
abbrev pub state_number : Built → State → ℕ
state_number b x = x.row * built_width b + x.age

abbrev pub state_of : Built → ℕ → State
state_of b q = state (q / built_width b) (q % built_width b)

-- both as one number below R · W · R' · W', and back
abbrev pub packed : Built → Built → State → State → ℕ
packed a b x y = state_number a x * state_count b + state_number b y

abbrev pub first_state : Built → Built → ℕ → State
first_state a b n = state_of a (n / state_count b)

abbrev pub second_state : Built → Built → ℕ → State
second_state a b n = state_of b (n % state_count b)

-- a row's verdict, as the rows store it
abbrev pub says_row : List ℕ → ℕ → Bool
says_row rows n = eqb (row_verdict rows n) 1

-- sizes as 25 leaves them
pub record Sized (b : Built) : Type 0 where
  pub rows_some : 1 ≤ b.rows
  pub rows_most : b.rows ≤ most_rows
  pub symbols_most : b.symbols ≤ most_symbols
  pub top_most : b.top ≤ most_constant

-- a table of cells that holds every row's, each leading to a row
pub record Celled (b : Built) (cells : List ℕ) : Type 0 where
  pub sized : Sized b
  pub cells_long : cell_need b ≤ length cells
  pub row_below :
      (n s i : ℕ) → n < b.rows → s < b.symbols → i < built_width b → get_or cells (cell_place b n s i) 0 / 2 < b.rows

pub record Inside (b : Built) (row age : ℕ) : Type 0 where
  pub row_in : row < b.rows
  pub age_in : age < built_width b

abbrev pub bare : Built → List ℕ → Tables
bare b cells = tables b cells [] []

-- a row and an age as a state; that it stands for a state of a table
abbrev pub in_state : RowAge → State
in_state r = state r.row r.age

pub record Is (b : Built) (r : RowAge) (x : State) : Type 0 where
  pub is : in_state r ≡ x
  pub inside : Inside b r.row r.age

-- the two states of a joint state; both inside their tables, and which they are
abbrev pub first_in : Joint → State
first_in j = in_state j.first

abbrev pub second_in : Joint → State
second_in j = in_state j.second

pub record InBoth (a b : Built) (j : Joint) : Type 0 where
  pub first_in_lem : Inside a j.first.row j.first.age
  pub second_in_lem : Inside b j.second.row j.second.age

pub record Stands (a b : Built) (j : Joint) (x y : State) : Type 0 where
  pub first_is : first_in j ≡ x
  pub second_is : second_in j ≡ y
  pub inside : InBoth a b j

-- a number taken apart
abbrev pub Apart : Built → Built → ℕ → Joint → Type 0
Apart a b n j = Stands a b j (first_state a b n) (second_state a b n)
