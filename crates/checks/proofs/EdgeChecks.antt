-- The number that refuses an edge, by the rule that the edge is of.
use mathlib.Core.Path.{◌≡◌}
use mathlib.Core.List.{List}
use Prim.Native.Nat.{ℕ}
use Rattle.model.specs.declared.Head.{Head}
use Rattle.model.specs.Basics.{pick}
use Rattle.model.specs.Rules.{Rule, edge_ok, integer_reset}
use Rattle.model.specs.Layout.{edge_in}
use Rattle.checks.specs.Checks.{edge_fault}

-- the number that refuses an edge of a rule whose sizes are the head record's
pub fault_of_rule :
    (h : Head) (r : Rule) (t : List ℕ) → h.locations ≡ r.locations → h.symbols ≡ r.symbols
    → h.clocks ≡ r.clocks
    → edge_fault h t ≡ pick (edge_ok r (edge_in t)) (pick (integer_reset (edge_in t)) 0 7) 6
unfolding edge_fault
fault_of_rule h r t a b c = rw (a, b, c)
