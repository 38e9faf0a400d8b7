-- A scratch of 32-bit numbers as two tables: the low part of place k is the k-th state found, the high part of place x
-- how state x was found, 0 where it was not: 1 + way + 17 · (level mod 3), the way 0 for waiting, 1 + s for symbol s.
use Rattle.std.specs.Prelude.{◌≡◌, List, [], ◌∷◌, ℕ, zero, suc, ◌+◌, ◌-◌, ◌*◌, ◌/◌, ◌%◌, ◌≤◌, ◌<◌, eqb, length, get_or}
use Rattle.model.specs.Basics.{one_if}
use Rattle.model.specs.Rules.{most_symbols}
use Rattle.model.specs.Inclusion.{most_joint_states}

abbrev pub part : ℕ
part = 1048576

-- ways of finding a state: waiting, or one of the symbols; and levels told apart
abbrev pub ways : ℕ
ways = suc most_symbols

abbrev pub level_marks : ℕ
level_marks = 3

abbrev pub most_mark : ℕ
most_mark = ways * level_marks

abbrev pub low : List ℕ → ℕ → ℕ
low s k = get_or s k 0 % part

abbrev pub high : List ℕ → ℕ → ℕ
high s x = get_or s x 0 / part

-- the level mark and the way of a state found
abbrev pub level_mark : List ℕ → ℕ → ℕ
level_mark s x = (high s x - 1) / ways

abbrev pub way : List ℕ → ℕ → ℕ
way s x = (high s x - 1) % ways

-- the k-th place raised by an amount
abbrev pub raised_at : List ℕ → ℕ → ℕ → List ℕ
raised_at [] k n = []
raised_at (x ∷ xs) zero n = (x + n) ∷ xs
raised_at (x ∷ xs) (suc k) n = x ∷ raised_at xs k n

-- state x noted behind the others
abbrev pub noted : List ℕ → ℕ → ℕ → ℕ → List ℕ
noted s tail x mark = raised_at (raised_at s tail x) x (part * mark)

-- the places not marked
abbrev pub unmarked : List ℕ → ℕ
unmarked [] = 0
unmarked (x ∷ xs) = one_if (eqb (x / part) 0) + unmarked xs

-- so many states stand in a scratch, each marked, and as many places are not marked as are left
pub record Laid (s : List ℕ) (tail : ℕ) : Type 0 where
  pub small : length s ≤ most_joint_states
  pub counted : tail + unmarked s ≡ length s
  pub past : (k : ℕ) → tail ≤ k → low s k ≡ 0
  pub states_below : (k : ℕ) → k < tail → low s k < length s
  pub marked : (k : ℕ) → k < tail → 1 ≤ high s (low s k)
  pub marks_most : (x : ℕ) → high s x ≤ most_mark

-- the states below a place as they were
pub record Keeps (s : List ℕ) (tail : ℕ) (s' : List ℕ) : Type 0 where
  pub same_length : length s' ≡ length s
  pub low_kept : (k : ℕ) → k < tail → low s' k ≡ low s k
  pub high_kept : (k : ℕ) → k < tail → high s' (low s k) ≡ high s (low s k)
