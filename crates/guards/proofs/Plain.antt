-- The text of an edge of kind 5, where it stands in the table.
use mathlib.Core.Path.{◌≡◌, sym, ◌∙◌}
use mathlib.Core.List.{List}
use Prim.Native.Nat.{ℕ, ◌+◌, ◌-◌, ◌*◌}
use native.Mathlib.Omega.{arith}
use lib.ListN.{get_or, take, drop}
use lib.Seq.{drop-drop, get_or-drop}
use borrow.Author.Tests.{eq-eqb}
use Rattle.model.specs.Rules.{plain_edge}
use Rattle.model.specs.Layout.{edge_width, edge_at}

module _
    (t : List ℕ) (e kind count : ℕ) (k : kind ≡ get_or t (edge_width * e + 0) 0) (five : kind ≡ plain_edge)
    (n : count ≡ get_or t (edge_width * e + 5) 0)
  where
    pub kind_is : (edge_at e t).kind ≡ plain_edge
    kind_is = get_or-drop (edge_width * e) t 0 0 ∙ (sym k ∙ five)

    pub text_is :
        take (edge_width * e + 6 + 3 * count - (edge_width * e + 6)) (drop (edge_width * e + 6) t) ≡ (edge_at e t).text
    text_is =
        let size : edge_width * e + 6 + 3 * count - (edge_width * e + 6) ≡ 3 * count = omega arith in
        let c : count ≡ get_or (drop (edge_width * e) t) 5 0 = n ∙ sym (get_or-drop (edge_width * e) t 5 0) in
        rw (eq-eqb (get_or (drop (edge_width * e) t) 0 0) plain_edge kind_is, size, c, drop-drop 6 (edge_width * e) t)
