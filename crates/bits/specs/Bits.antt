-- Sets of codes as marks: bits in lent numbers, 32 to a number. Code x is bit x % 32 of number x / 32.
use Rattle.std.specs.Prelude.{◌≡◌, Bool, true, ◌&&◌, List, [], ◌∷◌, ◌++◌, ℕ, zero, suc, ◌+◌, ◌*◌, ◌/◌, ◌%◌, ◌≤◌, ◌<◌}
use Rattle.std.specs.Prelude.{eqb, length, get_or}
use Rattle.model.specs.Basics.{pick, bit}
use Rattle.model.specs.Rules.{most_pairs}
use Rattle.model.specs.Tables.{scratch_bits, most_scratch}
use Rattle.bits.specs.declared.Span.{Span}

-- Is a code marked? A number past the lent ones holds no mark.
abbrev pub marked : List ℕ → ℕ → Bool
marked marks x = bit (x % scratch_bits) (get_or marks (x / scratch_bits) 0)

-- every code of a row is marked
abbrev pub all_marked : List ℕ → List ℕ → Bool
all_marked marks [] = true
all_marked marks (x ∷ xs) = marked marks x && all_marked marks xs

-- the codes of a number's n low bits, ascending; its bit 0 is code `first`
unfoldable pub number_codes : ℕ → ℕ → ℕ → List ℕ
number_codes zero first w = []
number_codes (suc n) first w =
    pick (eqb (w % 2) 1) (first ∷ number_codes n (suc first) (w / 2)) (number_codes n (suc first) (w / 2))

-- the codes that are marked, ascending; bit 0 of the first number is code `first`
unfoldable pub codes_from : ℕ → List ℕ → List ℕ
codes_from first [] = []
codes_from first (w ∷ ws) = number_codes scratch_bits first w ++ codes_from (first + scratch_bits) ws

unfoldable pub codes_in : List ℕ → List ℕ
codes_in marks = codes_from 0 marks

-- no mark stands in a number below `low`, nor from `past` on; so many codes are marked
pub record InSpan (marks : List ℕ) (span : Span) : Type 0 where
  pub none_below : (k : ℕ) → k < span.low → get_or marks k 0 ≡ 0
  pub none_past : (k : ℕ) → span.past ≤ k → get_or marks k 0 ≡ 0
  pub low_most : span.low ≤ length marks
  pub past_most : span.past ≤ length marks
  pub few : span.past ≤ most_scratch
  pub count_is : span.count ≡ length (codes_in marks)

-- a code that can be marked
pub record CanMark (marks : List ℕ) (span : Span) (code : ℕ) : Type 0 where
  pub in_span : InSpan marks span
  pub code_below : code < scratch_bits * length marks
  pub code_most : code < most_pairs

-- the marks are those of a row
pub record MarksAre (row marks : List ℕ) (span : Span) : Type 0 where
  pub codes_are : codes_in marks ≡ row
  pub in_span : InSpan marks span
