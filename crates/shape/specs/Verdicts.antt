-- What codes say, their locations by a multiplication; and what is settled before stored verdicts are looked at.
use Rattle.std.specs.Prelude.{◌≡◌, Bool, true, false, ◌||◌, List, [], ◌∷◌, ℕ, ◌+◌, ◌*◌, ◌/◌, ◌^◌, ◌≤◌, ◌<◌}
use Rattle.std.specs.Prelude.{length, get_or, take}
use Rattle.model.specs.declared.Built.{Built}
use Rattle.model.specs.Basics.{bit, all_below}
use Rattle.model.specs.Walks.{built_pairs, built_sizes_ok}
use Rattle.shape.specs.Ranges.{rows_ok}

-- what stands for 1 where a code's location is found by multiplication
abbrev pub whole : ℕ
whole = 2 ^ 33

-- and for 1 over a weight
abbrev pub reciprocal : ℕ → ℕ
reciprocal weight = whole / weight + 1

-- some code stands at a final location, its location by the reciprocal m
abbrev pub final_by : ℕ → ℕ → List ℕ → Bool
final_by m ends [] = false
final_by m ends (x ∷ xs) = bit (x * m / whole) ends || final_by m ends xs

-- no code times m leaves 64 bits
abbrev pub ProductsFit : ℕ → List ℕ → Type 0
ProductsFit m codes = (k : ℕ) → k < length codes → get_or codes k 0 * m < 2 ^ 64

-- sizes in range, rows in a chain, codes below N
pub record Settled (b : Built) (rows pool : List ℕ) : Type 0 where
  pub sizes : built_sizes_ok b ≡ true
  pub chain : rows_ok b.rows rows b.total ≡ true
  pub pool_long : b.total ≤ length pool
  pub codes : all_below (built_pairs b) (take b.total pool) ≡ true
