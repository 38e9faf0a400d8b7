-- How a reading ends at the end of the file: with the rule, or with 3 or 8.
use mathlib.Core.Path.{◌≡◌}
use Prim.Native.Nat.{ℕ, ◌≤◌, ◌<◌}
use native.Mathlib.Omega.{arith}
use borrow.Author.Tests.{lt-ltb, le-ltb, le-leb, lt-leb}
use Rattle.model.specs.Basics.{refusal, fine}
use Rattle.model.specs.Rules.{Rule, pair_count, most_pairs}
use Rattle.model.specs.Files.{Spelt, unspelt, at_end}

abbrev pub spelt : Rule → Spelt
spelt r = record { refused = fine; rule_is = r }

module _ (p : ℕ) (r : Rule) where
  pub end_unseen : r.locations ≡ 0 → at_end p r ≡ unspelt (refusal 3 p)
  unfolding at_end
  end_unseen h = rw (lt-leb 1 r.locations (omega arith))

  pub end_too_many : 1 ≤ r.locations → most_pairs < pair_count r → at_end p r ≡ unspelt (refusal 8 p)
  unfolding at_end
  end_too_many h q = rw (le-leb 1 r.locations h, lt-ltb most_pairs (pair_count r) q)

  pub end_fine : 1 ≤ r.locations → pair_count r ≤ most_pairs → at_end p r ≡ spelt r
  unfolding at_end
  end_fine h q = rw (le-leb 1 r.locations h, le-ltb most_pairs (pair_count r) q)
