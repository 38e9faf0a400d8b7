-- How many words a list has, by length, every number cut just above 1,000,000.
use Rattle.std.specs.Prelude.{◌≡◌, List, ℕ, suc, ◌<◌, ltb, length, get_or}
use Rattle.model.specs.Basics.{pick}
use Rattle.model.specs.Lists.{words_from}
use Rattle.model.specs.Shares.{most_words, out_of}

-- 1,000,001 for more
abbrev pub cut : ℕ → ℕ
cut x = pick (ltb most_words x) (suc most_words) x

-- place n: the words of n events over S symbols with k stamps
pub record LengthsOf (s k : ℕ) (lengths : List ℕ) : Type 0 where
  pub length_is : (n : ℕ) → n < length lengths → get_or lengths n 0 ≡ cut (length (words_from s n k 0))

-- of the list up to H whole seconds
pub record Lengths (s h : ℕ) (lengths lengths' : List ℕ) : Type 0 where
  pub same_length : length lengths' ≡ length lengths
  pub length_is : (n : ℕ) → n < length lengths → get_or lengths' n 0 ≡ cut (out_of s h n)
