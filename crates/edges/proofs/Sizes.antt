-- Masks by a shift, and N from its factors, which fit.
use mathlib.Core.Path.{◌≡◌, sym}
use mathlib.Core.Bool.{true}
use mathlib.Core.List.{List}
use Prim.Native.Nat.{ℕ, ◌+◌, ◌*◌, ◌/◌, ◌^◌, ◌≤◌, ◌<◌}
use native.Mathlib.Omega.{arith}
use native.Mathlib.Nat.{div-eq_of_lt, div-add-mod', mod-lt, le_trans, mul-le-mul, pow-le-pow_left, pow-le-pow_right}
use lib.Dec.{eqb, ltb}
use lib.Pow.{pow_pos, pow_mono}
use borrow.Author.Tests.{lt-ltb, le-leb, eq-eqb, ltb-true, eqb-true}
use Rattle.model.specs.declared.Head.{Head}
use Rattle.model.specs.Rules.{cm, most_clocks, most_constant, most_locations, most_pairs, pair_count}
use Rattle.model.specs.Layout.{rule_in}
use Rattle.model.proofs.Logic.{same_truth}
use Rattle.edges.specs.Powers.{small_power, small_pairs}

-- a shift that leaves nothing
pub shifted_out : (mask bits : ℕ) → eqb (mask / 2 ^ bits) 0 ≡ ltb mask (2 ^ bits)
shifted_out mask bits =
    same_truth (eqb (mask / 2 ^ bits) 0) (ltb mask (2 ^ bits))
    (λ e. lt-ltb mask (2 ^ bits) (below (eqb-true (mask / 2 ^ bits) 0 e)))
    (λ h. eq-eqb (mask / 2 ^ bits) 0 (div-eq_of_lt (ltb-true mask (2 ^ bits) h)))
  where
    below : mask / 2 ^ bits ≡ 0 → mask < 2 ^ bits
    below e = omega (arith, rw e at (div-add-mod' mask (2 ^ bits)), mod-lt mask {m = 2 ^ bits} (pow_pos bits))

pub shift_long : (mask bits : ℕ) → mask < 2 ^ 64 → 63 < bits → true ≡ ltb mask (2 ^ bits)
shift_long mask bits h q = sym (lt-ltb mask (2 ^ bits) (omega (arith, pow_mono {i = 64} {j = bits} q)))

-- N from its factors, which fit
power_known : (bases k : ℕ) → bases ≤ 32 → k ≤ most_clocks → small_power bases k ≡ bases ^ k
power_known bases k p q = rw (lt-ltb bases most_pairs (omega arith), le-leb k most_clocks q)

power_most : (bases k : ℕ) → bases ≤ 32 → k ≤ most_clocks → bases ^ k ≤ 32 ^ 4
power_most bases k p q =
    le_trans (pow-le-pow_left p k) (pow-le-pow_right {n = 32} (omega arith) {i = k} {j = 4} q)

pub pairs_fit :
    (l top k p : ℕ) → l ≤ most_locations → top ≤ most_constant → k ≤ most_clocks → p ≡ small_power (top + 2) k
    → l * p ≤ 32 * 32 ^ 4
pairs_fit l top k p a b c e =
    rw (e, power_known (top + 2) k (omega arith) c) (mul-le-mul a (power_most (top + 2) k (omega arith) c))

-- N, where its factors are in range: top is cm as it was computed
pub pairs_known :
    (h : Head) (t : List ℕ) (top p : ℕ) → h.locations ≤ most_locations → h.clocks ≤ most_clocks
    → top ≡ cm (rule_in h t)
    → top ≤ most_constant
    → p ≡ small_power (top + 2) h.clocks
    → h.locations * p ≡ small_pairs h t
unfolding pair_count rule_in
pairs_known h t top p a b top_is c e =
    rw (
      le-leb h.locations most_locations a,
      le-leb h.clocks most_clocks b,
      le-leb (cm (rule_in h t)) most_constant (omega (arith, top_is)),
      e,
      power_known (top + 2) h.clocks (omega arith) b,
      top_is,
    )
