-- No interval lies past the top.
use mathlib.Core.Bool.{Bool, true, false}
use Prim.Native.Nat.{ℕ, zero, suc, ◌+◌, ◌*◌, ◌/◌, ◌%◌, ◌≤◌}
use native.Mathlib.Nat.{mul_comm, div-le_of_le-mul}
use native.Mathlib.Omega.{arith}
use lib.Dec.{ltb, leb}
use borrow.Author.Tests.{ltb-false}
use Rattle.model.specs.Basics.{one_if, quotient, remainder}
use Rattle.model.specs.Construction.{top_interval, interval_of}
use Rattle.model.proofs.Logic.{by_test}

pub interval_most : (c d a : ℕ) → interval_of c d a ≤ top_interval c
interval_most c d a = by_test (ltb (c * d) a) (λ e. rw e (omega arith)) (λ e. rw e (within d (ltb-false (c * d) a e)))
  where
    one_most : (t : Bool) → one_if t ≤ 1
    one_most true = omega arith
    one_most false = omega arith

    within : (d : ℕ) → a ≤ c * d → 2 * quotient a d + one_if (leb 1 (remainder a d)) ≤ top_interval c
    within zero h = omega arith
    within (suc d) h =
        let q : a / suc d ≤ c = div-le_of_le-mul (suc d) (rw (mul_comm (suc d) c) h) in
        omega (arith, q, one_most (leb 1 (a % suc d)))
