-- In a table in shape a row's stored verdict is what its codes say: so a runner that reads it answers as one that looks
-- through the codes.
use mathlib.Core.Path.{◌≡◌, ◌∙◌, ap}
use mathlib.Core.Bool.{Bool, true, ◌&&◌}
use Prim.Native.Nat.{ℕ, zero, suc, ◌+◌, ◌<◌}
use native.Mathlib.Omega.{arith}
use lib.Dec.{eqb}
use lib.ListN.{take}
use borrow.Author.Tests.{eqb-true, ltb-true}
use Rattle.model.specs.Basics.{one_if, all_below}
use Rattle.model.specs.declared.Built.{Built}
use Rattle.model.specs.Tables.{Tables, row_verdict}
use Rattle.model.specs.Walks.{codes_say, row_codes, verdicts_ok, verdict, in_shape, built_sizes_ok}
use Rattle.model.specs.Walks.{long_enough, rows_chain, built_pairs, cells_ok, built_width, cell_need}
use Rattle.model.specs.Claims.{StoredSays}
use Rattle.model.proofs.Logic.{and_left, and_right}
use Rattle.model.proofs.TablePlaces.{one_if_is}

module _ (t : Tables) where
  said : ℕ → ℕ
  said n = one_if (codes_say t.built (row_codes t n))

  is_said : ℕ → Bool
  is_said n = eqb (row_verdict t.rows n) (said n)

  said_from : ℕ → ℕ → Bool
  said_from n i = verdicts_ok n i t.built t.rows t.pool

  stored_at :
      (n i k : ℕ) → verdicts_ok n i t.built t.rows t.pool ≡ true → k < n
      → row_verdict t.rows (i + k) ≡ one_if (codes_say t.built (row_codes t (i + k)))
  unfolding said is_said said_from
  stored_at zero i k h l = absurd (omega arith)
  stored_at (suc n) i zero h l =
      let e : i + 0 ≡ i = omega arith in
      rw e (eqb-true (row_verdict t.rows i) (said i) (and_left (is_said i) (said_from n (suc i)) h))
  stored_at (suc n) i (suc k) h l =
      let e : i + suc k ≡ suc i + k = omega arith in
      rw e (stored_at n (suc i) k (and_right (is_said i) (said_from n (suc i)) h) (omega arith))

  pub stored_said :
      (n : ℕ) → in_shape t ≡ true → n < t.built.rows
      → row_verdict t.rows n ≡ one_if (codes_say t.built (row_codes t n))
  unfolding in_shape
  stored_said n h l =
      let b : Built = t.built in
      let rest : Bool =
      built_sizes_ok b && long_enough t && rows_chain b.rows 0 t.rows b.total
      && all_below (built_pairs b) (take b.total t.pool)
      && cells_ok 0 (built_width b) b.rows (take (cell_need b) t.cells) in
      let e : 0 + n ≡ n = omega arith in
      let s : row_verdict t.rows (0 + n) ≡ one_if (codes_say b (row_codes t (0 + n))) =
      stored_at b.rows 0 n (and_right rest (verdicts_ok b.rows 0 b t.rows t.pool) h) l in
      rw e at s

  pub stored_is_said :
      (n : ℕ) → in_shape t ≡ true → n < t.built.rows → verdict t n ≡ codes_say t.built (row_codes t n)
  unfolding verdict
  stored_is_said n h l =
      ap (λ (x : ℕ). eqb x 1) (stored_said n h l) ∙ one_if_is (codes_say t.built (row_codes t n))

pub stored_says : StoredSays
stored_says t n h l = stored_is_said t n h (ltb-true n t.built.rows l)
