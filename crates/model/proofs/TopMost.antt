-- cm of a rule whose numbers are in range is at most 30, before N is known to be.
use mathlib.Core.Path.{◌≡◌}
use mathlib.Core.Bool.{true}
use mathlib.Core.List.{List}
use Prim.Native.Nat.{◌≤◌}
use Rattle.model.specs.Rules.{Edge, Rule, atoms_of, largest_of, cm, edges_ok}
use Rattle.model.proofs.Valid.{Parts, edges_of, atoms_largest, edges_largest}

pub edges_top : (r : Rule) (es : List Edge) → edges_ok r es ≡ true → largest_of es ≤ 30
edges_top r es q =
    edges_largest es 30
    (λ e i. atoms_largest (atoms_of e) 30 (λ a j. ((edges_of r es q e i).atoms_in a j).constant_most))

pub parts_top : (r : Rule) → Parts r → cm r ≤ 30
unfolding cm
parts_top r p = edges_top r r.edges p.edges_ok
