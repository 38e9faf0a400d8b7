-- For the scale of a rule, codes are the construction's: the location and the bases of a code, and the code of a
-- location and bases.
use mathlib.Core.Path.{◌≡◌, refl, sym, ◌∙◌, ap, ap₂}
use mathlib.Core.List.{List}
use Prim.Native.Nat.{ℕ, ◌+◌, ◌*◌, ◌^◌, ◌≤◌}
use native.Mathlib.Omega.{arith}
use lib.ListN.{take}
use Rattle.model.specs.declared.Head.{Head}
use Rattle.model.specs.Basics.{quotient}
use Rattle.model.specs.Rules.{Rule, cm, base_count, most_clocks, most_constant}
use Rattle.model.specs.Construction.{code_of, location_of, bases_of}
use Rattle.model.specs.Layout.{rule_in, rule_refusal}
use Rattle.model.proofs.Valid.{Valid, valid_of, cm_most}
use Rattle.model.proofs.Readable.{passes_valid}
use Rattle.codes.specs.declared.Scale.{Scale}
use Rattle.codes.specs.Codes.{scale_of, Scaled, packed, bases_from, unpacked}
use Rattle.codes.proofs.PowerLaws.{Raised, raised_of, weight_power, powered_is}
use Rattle.codes.proofs.Codes.{take_filled, bases_length, sum_all, all_bases}

module _ {r : Rule} {z : Scale} (scaled : Scaled r z) where
  raised : Raised (base_count r) z.powers r.clocks
  raised = rw (← scaled.top_is, ← scaled.clocks_are) (raised_of scaled.powered)

  pub weight_is : z.weight ≡ base_count r ^ r.clocks
  weight_is = rw (← scaled.top_is, ← scaled.clocks_are) (weight_power scaled.powered)

  pub location_is : (x : ℕ) → (unpacked z x).location ≡ location_of r x
  unfolding location_of
  location_is x = ap (quotient x) weight_is

  pub bases_are : (x : ℕ) → take r.clocks (unpacked z x).bases ≡ bases_of r x
  unfolding bases_of
  bases_are x =
      let all : List ℕ = bases_from z.powers r.clocks 0 x in
      rw scaled.clocks_are
      (take_filled most_clocks r.clocks all (bases_length z.powers r.clocks 0 x) ∙ all_bases raised x)

  pub code_is : (l : ℕ) (bases : List ℕ) → packed z l bases ≡ code_of r l (take r.clocks bases)
  unfolding code_of
  code_is l bases = rw scaled.clocks_are (ap₂ (λ (w n : ℕ). l * w + n) weight_is (sum_all raised bases))

-- the scale of a rule that passed 20 and 21
pub clocks_of : (h : Head) (t : List ℕ) → (rule_in h t).clocks ≡ h.clocks
unfolding rule_in
clocks_of h t = refl

module _ (h : Head) (t : List ℕ) (passed : (rule_refusal h t).number ≡ 0) where
  valid_is : Valid (rule_in h t)
  valid_is = valid_of (rule_in h t) (passes_valid h t passed)

  pub top_most : (top : ℕ) → top ≡ cm (rule_in h t) → top ≤ most_constant
  top_most top e = omega (arith, e, cm_most (rule_in h t) valid_is)

  pub clocks_most : h.clocks ≤ most_clocks
  clocks_most = omega (arith, clocks_of h t, valid_is.sizes.clocks_most)

  pub scaled_is : (top : ℕ) (z : Scale) → top ≡ cm (rule_in h t) → z ≡ scale_of top h.clocks → Scaled (rule_in h t) z
  scaled_is top z e s = record {
    powered =
        powered_is s (top_most top e) (omega (arith, clocks_of h t, valid_is.sizes.clocks_least)) clocks_most;
    clocks_are = ap (λ (n : Scale). n.clocks) s ∙ sym (clocks_of h t);
    top_is = ap (λ (n : Scale). n.top) s ∙ e;
  }
