-- Powers as a loop makes them, that they fit, and the largest constant as it is found, atom by atom of a text and edge
-- by edge of the table.
use mathlib.Core.Path.{◌≡◌, sym, ◌∙◌, ap}
use mathlib.Core.List.{List}
use Prim.Native.Nat.{ℕ, suc, ◌+◌, ◌-◌, ◌*◌, ◌^◌, ◌≤◌, ◌<◌}
use native.Mathlib.Omega.{arith}
use native.Mathlib.Nat.{pow-suc, pow-le-pow_left, pow-le-pow_right, le_trans}
use native.Mathlib.Numerals.{add-one}
use lib.ListN.{drop}
use borrow.Author.Tests.{le-leb}
use Rattle.model.specs.declared.Head.{Head}
use Rattle.model.specs.Basics.{larger}
use Rattle.model.specs.Rules.{atoms_of, largest_constant, largest_of, cm}
use Rattle.model.specs.Rules.{most_clocks, most_pairs}
use Rattle.model.specs.Layout.{edge_width, edge_at, edges_in, rule_in}
use Rattle.model.proofs.Logic.{larger_three, larger_none}
use Rattle.model.proofs.EdgeTable.{edges_rest}

pub power_fits : (base k : ℕ) → base < most_pairs → k < most_clocks → base ^ k * base ≤ 65535 ^ most_clocks
power_fits base k h g =
    let a : base ^ k * base ≡ base ^ suc k = sym (pow-suc base k) in
    let most : base ≤ 65535 = omega arith in
    rw a
    (le_trans (pow-le-pow_left most (suc k)) (pow-le-pow_right {n = 65535} (omega arith) {i = suc k} {j = most_clocks}
    (omega arith)))

pub power_next : (base k : ℕ) → base ^ k * base ≡ base ^ (k + 1)
power_next base k = rw (add-one k) (sym (pow-suc base k))

-- The largest constant so far with the edges still to come is what it is in all.
pub record LargestEdge (least count e most : ℕ) (t : List ℕ) : Type 0 where
  pub turns : e ≤ count
  pub rest_is :
      larger most (largest_of (edges_in (count - e) (drop (edge_width * e) t)))
      ≡ larger least (largest_of (edges_in count t))

pub edges_start : (least count : ℕ) (t : List ℕ) → LargestEdge least count 0 least t
edges_start least count t = let z : count - 0 ≡ count = omega arith in record { turns = omega arith; rest_is = rw z }

module _ {least count e most : ℕ} {t : List ℕ} (inv : LargestEdge least count e most t) where
  pub edges_next :
      (next : ℕ) → e < count → next ≡ larger most (largest_constant (atoms_of (edge_at e t)))
      → LargestEdge least count (e + 1) next t
  edges_next next h q = record {
    turns = omega arith;
    rest_is =
        ap (λ (m : ℕ). larger m (largest_of (edges_in (count - (e + 1)) (drop (edge_width * (e + 1)) t)))) q
        ∙ (larger_three most (largest_constant (atoms_of (edge_at e t)))
        (largest_of (edges_in (count - (e + 1)) (drop (edge_width * (e + 1)) t)))
        ∙ (rw (← ap largest_of (edges_rest count e t h)) inv.rest_is));
  }

  pub edges_end : count ≤ e → most ≡ larger least (largest_of (edges_in count t))
  edges_end h = let z : count - e ≡ 0 = omega arith in sym (larger_none most) ∙ (rw z at inv.rest_is)

-- cm from all edges
pub cm_found :
    (h : Head) (t : List ℕ) (most : ℕ) → most ≡ larger 0 (largest_of (edges_in h.count t)) → most ≡ cm (rule_in h t)
unfolding cm rule_in
cm_found h t most e = e ∙ rw (le-leb 0 (largest_of (edges_in h.count t)) (omega arith))
