-- The search down the queue for the place that a symbol leads from.
use mathlib.Core.Path.{◌≡◌, sym, ◌∙◌, ap, ap₂}
use mathlib.Core.Bool.{Bool, true, false, ◌&&◌}
use mathlib.Core.List.{List}
use Prim.Native.Nat.{ℕ, ◌-◌, ◌≤◌, ◌<◌}
use native.Mathlib.Omega.{arith}
use lib.Dec.{eqb}
use borrow.Author.Tests.{eqb-true, eq-eqb, ne_eqb}
use Rattle.model.specs.Tables.{Tables}
use Rattle.model.specs.JointStates.{State, takes}
use Rattle.model.proofs.Logic.{and_left, and_right, and_both, no_way, Two, less, least, two}
use Rattle.inclusion.specs.declared.sides.Joint.{Joint}
use Rattle.inclusion.specs.Numbers.{packed, first_in, second_in, Apart}
use Rattle.inclusion.specs.Graphs.{Graph, graph_of}
use Rattle.inclusion.specs.Parts.{low, level_mark}
use Rattle.inclusion.specs.Trails.{Source, Nearest}

-- another level; the level asked for
pub leads_not : (m level : ℕ) (rest : Bool) (l : ℕ) → l ≡ m → (l ≡ level → ⊥) → false ≡ (eqb m level && rest)
leads_not m level rest l e h = rw (ne_eqb m level (λ q. h (e ∙ q)))

pub leads_is :
    (t u : Tables) (symbol v z y x m level l : ℕ) (j : Joint) → z ≡ v → Apart t.built u.built z j
    → y ≡ packed t.built u.built (takes t symbol (first_in j)) (takes u symbol (second_in j))
    → l ≡ m
    → l ≡ level
    → eqb y x ≡ (eqb m level && eqb ((graph_of t u).takes_to symbol v) x)
unfolding graph_of
leads_is t u symbol v z y x m level l j e k f g h =
    let q : y ≡ (graph_of t u).takes_to symbol v =
    f
    ∙ ap₂ (λ (c d : State). packed t.built u.built (takes t symbol c) (takes u symbol d)) k.first_is k.second_is
    ∙ ap ((graph_of t u).takes_to symbol) e in
    let r : eqb m level ≡ true = eq-eqb m level (sym g ∙ h) in
    rw r (ap (λ (w : ℕ). eqb w x) q)

-- nothing from k on
pub record Looking (g : Graph) (s : List ℕ) (place x symbol level k : ℕ) : Type 0 where
  pub place_most : k ≤ place
  pub none :
      (p : ℕ) → k ≤ p → p < place → level_mark s (low s p) ≡ level → g.takes_to symbol (low s p) ≡ x → ⊥

pub looking_start : (g : Graph) (s : List ℕ) (place x symbol level : ℕ) → Looking g s place x symbol level place
looking_start g s place x symbol level = record {
  place_most = omega arith;
  none = λ p a b c d. absurd (omega (arith, a, b));
}

-- the place before k, as it was asked
module _
    {g : Graph} {s : List ℕ} {place x symbol level k : ℕ} (w : Looking g s place x symbol level k) (h : 0 < k)
    (r : Bool)
    (e : r ≡ (eqb (level_mark s (low s (k - 1))) level && eqb (g.takes_to symbol (low s (k - 1))) x))
  where
    -- its level mark, and where the symbol leads from it
    abbrev mark : ℕ
    mark = level_mark s (low s (k - 1))

    abbrev to : ℕ
    to = g.takes_to symbol (low s (k - 1))

    pub looking_next : r ≡ false → Looking g s place x symbol level (k - 1)
    looking_next o = record {
      place_most = omega (arith, w.place_most);
      none = λ p a b c d. by_two p a b c d (two p k);
    }
      where
        by_two :
            (p : ℕ) → k - 1 ≤ p → p < place → level_mark s (low s p) ≡ level → g.takes_to symbol (low s p) ≡ x
            → Two p k
            → ⊥
        by_two p a b c d (less q) =
            let i : p ≡ k - 1 = omega (arith, a, q, h) in
            let u : mark ≡ level = ap (λ (v : ℕ). level_mark s (low s v)) (sym i) ∙ c in
            let v : to ≡ x = ap (λ (v : ℕ). g.takes_to symbol (low s v)) (sym i) ∙ d in
            no_way (sym o ∙ e ∙ and_both (eqb mark level) (eqb to x) (eq-eqb mark level u) (eq-eqb to x v))
        by_two p a b c d (least q) = w.none p q b c d

    pub looking_found : r ≡ true → Nearest g s place x symbol level (k - 1)
    looking_found o =
        let t = sym e ∙ o in
        record {
          below = omega (arith, w.place_most, h);
          level_is = eqb-true mark level (and_left (eqb mark level) (eqb to x) t);
          takes_is = eqb-true to x (and_right (eqb mark level) (eqb to x) t);
          none_nearer = λ p a b c d. w.none p (omega (arith, a)) b c d;
        }

pub looking_end :
    {g : Graph} {s : List ℕ} {place x symbol level k : ℕ} → Looking g s place x symbol level k → k ≤ 0
    → Source g s place x symbol level
    → Nearest g s place x symbol level 0
looking_end w h r = absurd (w.none r.from (omega (arith, h)) r.below r.level_is r.takes_is)
