-- Shares counted: words that pass a test, by how words are put together, by length and in all; for a table as built,
-- wherever it lies in a batch, those of the runs.
use mathlib.Core.Path.{◌≡◌, refl, ◌∙◌, ap, ap₂}
use mathlib.Core.Bool.{Bool, true, ◌&&◌}
use mathlib.Core.List.{List, [], ◌∷◌, ◌++◌}
use Prim.Native.Nat.{ℕ, zero, suc, ◌+◌, ◌*◌, ◌≤◌}
use native.Mathlib.Omega.{arith}
use native.Mathlib.Nat.{mul-le-mul}
use lib.Dec.{eqb, leb}
use lib.ListN.{length, length-append}
use Rattle.model.specs.declared.Built.{Built}
use Rattle.model.specs.Basics.{one_if, filled}
use Rattle.model.specs.Rules.{Rule}
use Rattle.model.specs.Words.{Event}
use Rattle.model.specs.Tables.{Tables}
use Rattle.model.specs.Lists.{most_listed_events, list_grain, top_stamp, stamp_count, behind, words_from, words_of}
use Rattle.model.specs.Lists.{words_up_to, count_if, fits_from, fits}
use Rattle.model.specs.Inclusion.{keeps_any}
use Rattle.model.specs.Shares.{out_of, accepted_of, out_of_all, accepted_of_all, share_width, share, shares_from}
use Rattle.model.specs.Shares.{line_by}
use Rattle.model.specs.Shares.{table_says, rule_says, line_of, rule_line, SameParts}
use Rattle.model.specs.Claims.{times, AsBuilt}
use Rattle.model.proofs.Logic.{by_test, and_right, is_one, In, here, there}
use Rattle.model.proofs.Lists.{count_both, count_same, grown, words_empty, words_once, list_once, fits_below}
use Rattle.model.proofs.Lists.{fits_ordered}
use Rattle.model.proofs.ListOrder.{same_word_lem}
use Rattle.model.proofs.JointWalk.{keeps_of, of_keeps}
use Rattle.model.proofs.Inclusions.{built_shape, built_symbols, built_accepts}
use Rattle.model.proofs.SameParts.{accepts_same}

-- One law for each way to put words together, beside count-both.
pub count_behind :
    (p : List Event → Bool) (v : Event) (ws : List (List Event))
    → count_if p (behind v ws) ≡ count_if (λ w. p (v ∷ w)) ws
unfolding count_if
count_behind p v [] = refl
count_behind p v (w ∷ ws) = ap (λ (k : ℕ). one_if (p (v ∷ w)) + k) (count_behind p v ws)

-- no more than there are words
pub count_most : (p : List Event → Bool) (ws : List (List Event)) → count_if p ws ≤ length ws
unfolding count_if
count_most p [] = omega arith
count_most p (w ∷ ws) =
    by_test (p w) (λ e. rw e (omega (arith, count_most p ws))) (λ e. rw e (omega (arith, count_most p ws)))

pub at_most_all : (says : List Event → Bool) (s h n : ℕ) → accepted_of says s h n ≤ out_of s h n
unfolding accepted_of
at_most_all says s h n = count_most says (words_of s h n)

pub at_most_in_all : (says : List Event → Bool) (s h m : ℕ) → accepted_of_all says s h m ≤ out_of_all s h m
unfolding accepted_of_all
at_most_in_all says s h m = count_most says (words_up_to s h m)

-- In all is the sum of the lengths.
pub adds_up_0 : (says : List Event → Bool) (s h : ℕ) → accepted_of_all says s h 0 ≡ accepted_of says s h 0
unfolding accepted_of_all accepted_of words_up_to
adds_up_0 says s h = refl

pub adds_up :
    (says : List Event → Bool) (s h m : ℕ)
    → accepted_of_all says s h (suc m) ≡ accepted_of_all says s h m + accepted_of says s h (suc m)
unfolding accepted_of_all accepted_of words_up_to
adds_up says s h m = count_both says (words_up_to s h m) (words_of s h (suc m))

pub words_add_up_0 : (s h : ℕ) → out_of_all s h 0 ≡ out_of s h 0
unfolding words_up_to
words_add_up_0 s h = refl

pub words_add_up : (s h m : ℕ) → out_of_all s h (suc m) ≡ out_of_all s h m + out_of s h (suc m)
unfolding words_up_to
words_add_up s h m = length-append (words_up_to s h m) (words_of s h (suc m))

-- There is always a word: one of each length, and in all the empty one.
some_from : (s n k t : ℕ) → 1 ≤ s → 1 ≤ length (words_from s n (suc k) t)
some_from s zero k t h = omega (arith, words_empty s (suc k) t)
some_from s (suc n) k t h =
    let c : ℕ = length (words_from s n (suc k) t) in
    let more : 1 ≤ s * c = mul-le-mul {n₁ = 1} {m₁ = 1} h (some_from s n k t h) in
    omega (arith, more, grown s n k t c refl)

pub some_words : (s h n : ℕ) → 1 ≤ s → 1 ≤ out_of s h n
some_words s h n = some_from s n (top_stamp h) 0

pub some_in_all : (s h m : ℕ) → 1 ≤ out_of_all s h m
some_in_all s h zero = omega (arith, words_add_up_0 s h, words_empty s (suc (top_stamp h)) 0)
some_in_all s h (suc m) = omega (arith, words_add_up s h m, some_in_all s h m)

-- Listed words keep the word rules.
in_times : (w : List Event) (ws : List (List Event)) → In w ws → 1 ≤ times w ws
unfolding count_if
in_times w [] x' = elim x' [ ]
in_times w (v ∷ ws) (here h) = rw (← h, same_word_lem w) (omega arith)
in_times w (v ∷ ws) (there i) = omega (arith, in_times w ws i)

fits_keeps : (s top : ℕ) (w : List Event) → fits_from s top 0 w ≡ true → keeps_any s list_grain w ≡ true
fits_keeps s top w f =
    of_keeps s list_grain w
    (record {
      least = omega arith;
      most = omega arith;
      below = fits_below s top 0 w f;
      ordered = fits_ordered s top 0 w f;
    })

words_keep : (s h n : ℕ) (w : List Event) → In w (words_of s h n) → keeps_any s list_grain w ≡ true
words_keep s h n w i =
    let fit : Bool = fits_from s (top_stamp h) 0 w in
    let k : 1 ≤ one_if (eqb (length w) n && fit) =
    omega (arith, in_times w (words_of s h n) i, words_once s (top_stamp h) n (stamp_count h) 0 w (omega arith)) in
    fits_keeps s (top_stamp h) w (and_right (eqb (length w) n) fit (is_one (eqb (length w) n && fit) k))

listed_keep : (s h m : ℕ) (w : List Event) → In w (words_up_to s h m) → keeps_any s list_grain w ≡ true
listed_keep s h m w i =
    let k : 1 ≤ one_if (fits s h m w) = omega (arith, in_times w (words_up_to s h m) i, list_once s h m w) in
    fits_keeps s (top_stamp h) w
    (and_right (leb (length w) m) (fits_from s (top_stamp h) 0 w) (is_one (fits s h m w) k))

-- Two tests that say the same of words that keep the rules have one line.
module _ (p q : List Event → Bool) (s : ℕ) (agree : (w : List Event) → keeps_any s list_grain w ≡ true
    → p w ≡ q w) where
  pub accepted_same : (h n : ℕ) → accepted_of p s h n ≡ accepted_of q s h n
  unfolding accepted_of
  accepted_same h n = count_same p q (words_of s h n) (λ w i. agree w (words_keep s h n w i))

  pub accepted_all_same : (h m : ℕ) → accepted_of_all p s h m ≡ accepted_of_all q s h m
  unfolding accepted_of_all
  accepted_all_same h m = count_same p q (words_up_to s h m) (λ w i. agree w (listed_keep s h m w i))

  shares_same : (k n h : ℕ) → shares_from k n p s h ≡ shares_from k n q s h
  shares_same zero n h = refl
  shares_same (suc k) n h =
      ap₂ (λ (a : ℕ) (xs : List ℕ). share a (out_of s h n) ++ xs) (accepted_same h n) (shares_same k (suc n) h)

  line_same : (m h : ℕ) → line_by p s m h ≡ line_by q s m h
  unfolding line_by
  line_same m h =
      ap₂ (λ (xs : List ℕ) (a : ℕ). filled (share_width * suc most_listed_events) xs ++ share a (out_of_all s h m))
      (shares_same (suc m) 0 h)
      (accepted_all_same h m)

-- A table with the parts of one as built.
pub of_runs :
    (r : Rule) (t u : Tables) (m h : ℕ) → AsBuilt r u → SameParts t u → line_of t m h ≡ rule_line r m h
of_runs r t u m h b same =
    let symbols_are : t.built.symbols ≡ r.symbols =
    ap (λ (x : Built). x.symbols) same.built_is ∙ built_symbols r u b in
    let agree : (w : List Event) → keeps_any r.symbols list_grain w ≡ true → table_says t w ≡ rule_says r w =
    λ w k.
    accepts_same t u same (built_shape r u b) list_grain w (omega arith)
    (rw (built_symbols r u b) (keeps_of r.symbols list_grain w k).below)
    ∙ built_accepts r u b list_grain w k in
    ap (λ (s : ℕ). line_by (table_says t) s m h) symbols_are
    ∙ line_same (table_says t) (rule_says r) r.symbols agree m h
