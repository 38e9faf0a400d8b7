-- Two tables as a search takes them, and the joint states that it passes through.
use Rattle.std.specs.Prelude.{ℕ}
use Rattle.model.specs.Tables.{Tables}
use Rattle.model.specs.Inclusion.{joint_count}
use Rattle.model.specs.JointStates.{State}
use Rattle.tables.specs.Views.{table_in}
use Rattle.inclusion.specs.declared.sides.Joint.{Joint}
use Rattle.inclusion.specs.declared.sides.Side.{Side}
use Rattle.inclusion.specs.declared.sides.Two.{Two}
use Rattle.inclusion.specs.Numbers.{packed, first_in, second_in, InBoth, Stands, Apart}
use Rattle.inclusion.specs.Graphs.{Graph, graph_of}

abbrev pub side_of : Side → Tables
side_of s = table_in s.table

abbrev pub first_of : Two → Tables
first_of p = side_of p.first

abbrev pub second_of : Two → Tables
second_of p = side_of p.second

abbrev pub graph_in : Two → Graph
graph_in p = graph_of (first_of p) (second_of p)

abbrev pub joint_states : Two → ℕ
joint_states p = joint_count (first_of p).built (second_of p).built

-- a joint state of both: its number, that it lies inside, which it is
abbrev pub number_in : Two → Joint → ℕ
number_in p j = packed (first_of p).built (second_of p).built (first_in j) (second_in j)

abbrev pub Inward : Two → Joint → Type 0
Inward p j = InBoth (first_of p).built (second_of p).built j

abbrev pub StandsIn : Two → Joint → State → State → Type 0
StandsIn p j x y = Stands (first_of p).built (second_of p).built j x y

abbrev pub ApartIn : Two → ℕ → Joint → Type 0
ApartIn p n j = Apart (first_of p).built (second_of p).built n j
