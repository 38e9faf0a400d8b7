-- Numbers cut just above 1,000,000: sums and products of cut numbers are cut where those of the numbers are; the sum of
-- a list, number by number.
use mathlib.Core.Path.{◌≡◌, refl, sym, ◌∙◌, ap}
use mathlib.Core.List.{List}
use Prim.Native.Nat.{ℕ, zero, suc, ◌+◌, ◌*◌, ◌≤◌, ◌<◌}
use native.Mathlib.Numerals.{add-one}
use native.Mathlib.Nat.{zero-mul, one-mul}
use native.Mathlib.Omega.{arith}
use lib.Dec.{ltb}
use lib.ListN.{length, take, get_or}
use borrow.Author.Tests.{ltb-true, ltb-false, lt-ltb, le-ltb}
use Rattle.model.specs.Shares.{most_words}
use Rattle.model.proofs.Logic.{by_test}
use Rattle.shares.specs.Lengths.{cut}
use Rattle.std.specs.Prelude.{sum}
use Rattle.std.proofs.lemmas.List.Sums.{sum_by_more}

pub cut_over : (x : ℕ) → most_words < x → cut x ≡ suc most_words
cut_over x h = rw (lt-ltb most_words x h)

pub cut_under : (x : ℕ) → x ≤ most_words → cut x ≡ x
cut_under x h = rw (le-ltb most_words x h)

-- Two numbers that are the same once cut: the same, or both over 1,000,000.
data SameCut (a b : ℕ) : Type 0 where
  same : a ≡ b → SameCut a b
  both_over : most_words < a → most_words < b → SameCut a b

same_cut : (a b : ℕ) → cut a ≡ cut b → SameCut a b
same_cut a b e =
    by_test (ltb most_words a) (λ p. over (ltb-true most_words a p)) (λ p. under (ltb-false most_words a p))
  where
    over : most_words < a → SameCut a b
    over h =
        by_test (ltb most_words b) (λ q. both_over h (ltb-true most_words b q))
        (λ q. absurd (contrary (ltb-false most_words b q)))
      where
        contrary : b ≤ most_words → ⊥
        contrary k = omega (arith, e, cut_over a h, cut_under b k)

    under : a ≤ most_words → SameCut a b
    under h =
        by_test (ltb most_words b)
        (λ q. same (absurd (omega (arith, e, cut_under a h, cut_over b (ltb-true most_words b q)))))
        (λ q. same (sym (cut_under a h) ∙ e ∙ cut_under b (ltb-false most_words b q)))

-- so are their sums, with a factor
pub cut_together :
    (s a b c d : ℕ) → cut a ≡ cut c → cut b ≡ cut d → cut (a + s * b) ≡ cut (c + s * d)
cut_together s a b c d p q = go (same_cut a c p) (same_cut b d q)
  where
    both : most_words < a + s * b → most_words < c + s * d → cut (a + s * b) ≡ cut (c + s * d)
    both h k = cut_over (a + s * b) h ∙ sym (cut_over (c + s * d) k)

    times : (z : ℕ) → s ≡ z → a ≡ c → most_words < b → most_words < d → cut (a + s * b) ≡ cut (c + s * d)
    times zero e f h k = rw (e, f, zero-mul b, zero-mul d)
    times (suc z) e f h k = both (rw e (omega arith)) (rw e (omega arith))

    go : SameCut a c → SameCut b d → cut (a + s * b) ≡ cut (c + s * d)
    go (same e) (same f) = rw (e, f)
    go (same e) (both_over h k) = times s refl e h k
    go (both_over h k) f = both (omega arith) (omega arith)

pub cut_both : (a b c d : ℕ) → cut a ≡ cut c → cut b ≡ cut d → cut (a + b) ≡ cut (c + d)
cut_both a b c d p q =
    ap (λ (x : ℕ). cut (a + x)) (sym (one-mul b)) ∙ cut_together 1 a b c d p q ∙ ap (λ (x : ℕ). cut (c + x)) (one-mul d)

pub cut_cut : (x : ℕ) → cut (cut x) ≡ cut x
cut_cut x =
    by_test (ltb most_words x) (λ e. rw e) (λ e. ap cut (cut_under x (ltb-false most_words x e)))

-- over 1,000,000 or not is seen of the cut number
pub same_long : (a b : ℕ) → cut a ≡ cut b → ltb most_words a ≡ ltb most_words b
same_long a b e = go (same_cut a b e)
  where
    go : SameCut a b → ltb most_words a ≡ ltb most_words b
    go (same f) = rw f
    go (both_over h k) = lt-ltb most_words a h ∙ sym (lt-ltb most_words b k)

-- The sum of a list, number by number.
pub sum_next : (xs : List ℕ) (n : ℕ) → n < length xs → sum (take (suc n) xs) ≡ sum (take n xs) + get_or xs n 0
sum_next xs n h = rw add-one at (sum_by_more (λ (x : ℕ). x) xs n 0 h)
