-- One state reached: found already, or noted: a goal, or its waiting followed.
use mathlib.Core.Path.{◌≡◌, refl, sym, ◌∙◌, ap, ap₂, subst}
use mathlib.Core.Bool.{Bool, true, false, ◌&&◌, not}
use mathlib.Core.List.{List}
use Prim.Native.Nat.{ℕ, suc, ◌≤◌}
use native.Mathlib.Omega.{arith}
use Rattle.model.specs.declared.Built.{Built}
use Rattle.model.specs.JointStates.{State}
use Rattle.model.proofs.Logic.{no_way}
use Rattle.inclusion.specs.declared.sides.Joint.{Joint}
use Rattle.inclusion.specs.Numbers.{first_state, second_state, says_row, Apart}
use Rattle.inclusion.specs.Parts.{low, high, noted, Laid}
use Rattle.inclusion.specs.Scans.{WaitsAs, Extends, Reaches}
use Rattle.inclusion.proofs.Parts.{Noting, Grown, noted_grown, grown_laid, grown_keeps, keeps_same, keeps_on}
use Rattle.inclusion.proofs.Scanning.{grown_scan, grown_won}

-- a goal, asked of the two rows
pub goal_by :
    {a b : Built} {j : Joint} (rows rows2 : List ℕ) (y : ℕ) (o : Bool) → Apart a b y j
    → o ≡ (says_row rows j.first.row && not (says_row rows2 j.second.row))
    → o ≡ (says_row rows (first_state a b y).row && not (says_row rows2 (second_state a b y).row))
goal_by rows rows2 y o k e =
    e ∙ ap₂ (λ (v w : State). says_row rows v.row && not (says_row rows2 w.row)) k.first_is k.second_is

-- found already
pub reach_found :
    (a b : Built) (rows rows2 : List ℕ) {s : List ℕ} {tail : ℕ} (y mark : ℕ) → Laid s tail → 1 ≤ high s y
    → Reaches a b rows rows2 s tail y mark s (record { tail = tail; goal = false })
reach_found a b rows rows2 {s} {tail} y mark l h = record {
  laid = l;
  keeps = keeps_same s tail;
  later = omega arith;
  scans = λ g from m n k z nx. record { goes = λ u. (z, h); wins = λ u. no_way u };
}

module _
    (a b : Built) (rows rows2 : List ℕ) {s : List ℕ} {tail y mark : ℕ} (n : Noting s tail y mark) (s₁ : List ℕ)
    (e : s₁ ≡ noted s tail y mark)
    (o : Bool)
    (f : o ≡ (says_row rows (first_state a b y).row && not (says_row rows2 (second_state a b y).row)))
  where
    grown : Grown s tail y mark s₁
    grown = noted_grown n s₁ e

    -- noted, and a goal
    pub reach_goal : o ≡ true → Reaches a b rows rows2 s tail y mark s₁ (record { tail = suc tail; goal = true })
    reach_goal u = record {
      laid = grown_laid n grown;
      keeps = grown_keeps n.laid n.not_found grown;
      later = omega arith;
      scans = λ g from m i k z nx. record {
        goes = λ v. no_way (sym v);
        wins = λ v. record {
          last = tail;
          from = from;
          m = m;
          tail_is = refl;
          won = grown_won z s₁ y mark i grown n.state_below n.not_found nx
              (k.goal_is y n.state_below ∙ sym f ∙ u);
        };
      };
    }

    -- noted, no goal, and its waiting followed
    module _ (s' : List ℕ) (more : ℕ) (w : Extends a b s₁ tail s' more) where
      still_marked : 1 ≤ high s' y
      still_marked =
          let i : high s' (low s₁ tail) ≡ high s₁ (low s₁ tail) = w.keeps.high_kept tail (omega arith) in
          let j : high s' y ≡ mark =
          ap (λ (v : ℕ). high s' v) (sym grown.low_new) ∙ i ∙ ap (λ (v : ℕ). high s₁ v) grown.low_new
          ∙ grown.high_new in
          omega (arith, j, n.mark_some)

      pub reach_on : o ≡ false → Reaches a b rows rows2 s tail y mark s' (record { tail = more; goal = false })
      reach_on u = record {
        laid = w.laid;
        keeps = keeps_on (omega arith) (grown_keeps n.laid n.not_found grown) w.keeps;
        later = omega (arith, w.later);
        scans = λ g from m i k z nx. record {
          goes = λ v. (
            w.scans g from m (subst (λ (q : ℕ). WaitsAs a b q g) (sym grown.length_is) k.waits_as)
                z.from_most
                (grown_scan z s₁ y mark i grown n.state_below n.not_found nx)
                (ap g.goal grown.low_new ∙ k.goal_is y n.state_below ∙ sym f ∙ u),
            still_marked,
          );
          wins = λ v. no_way v;
        };
      }
