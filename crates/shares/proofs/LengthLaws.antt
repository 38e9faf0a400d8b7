-- The lengths of a list, stamp by stamp and place by place: with one stamp more, and from none on.
use mathlib.Core.Path.{◌≡◌, refl, sym, ◌∙◌, ap}
use mathlib.Core.List.{List, ◌++◌}
use Prim.Native.Nat.{ℕ, zero, suc, ◌+◌, ◌-◌, ◌*◌, ◌≤◌, ◌<◌}
use native.Mathlib.Nat.{zero-add}
use native.Mathlib.Numerals.{add-one}
use native.Mathlib.Omega.{arith}
use lib.Dec.{ltb}
use lib.ListN.{length, take, drop, get_or, set, length-set, length-replicate}
use lib.Seq.{get_or-set_same, get_or-set_other, take_all, take_at, length-take-le}
use Rattle.model.specs.Basics.{zeros}
use Rattle.model.specs.Lists.{words_from, stamp_count}
use Rattle.model.specs.Shares.{most_words, out_of, out_of_all}
use Rattle.model.proofs.Logic.{Cmp, cmp, is_lt, is_eq, is_gt, zeros_at}
use Rattle.model.proofs.Lists.{grown, words_empty, words_counted}
use Rattle.model.proofs.ShareCounts.{words_add_up_0, words_add_up}
use Rattle.shares.specs.Lengths.{cut, LengthsOf, Lengths}
use Rattle.std.specs.Prelude.{sum}
use Rattle.shares.proofs.CutNumbers.{cut_cut, cut_together, cut_both, same_long, sum_next}

-- The first stamp does not tell on the number of words.
any_first : (s n k t u : ℕ) → length (words_from s n k t) ≡ length (words_from s n k u)
unfolding words_from
any_first s zero k t u = refl
any_first s (suc n) zero t u = refl
any_first s (suc n) (suc k) t u = words_counted s (suc n) k t ∙ sym (words_counted s (suc n) k u)

-- One stamp more: the words of before, and behind each symbol those that are one event shorter.
stamp_more :
    (s n k : ℕ)
    → length (words_from s (suc n) k 0) + s * length (words_from s n (suc k) 0)
    ≡ length (words_from s (suc n) (suc k) 0)
stamp_more s n k =
    omega (arith, grown s n k 0 (length (words_from s n (suc k) 0)) refl, any_first s (suc n) k 0 1)

-- places below n with one stamp more, the others as they were
pub record Stamping (s : ℕ) (l₀ l : List ℕ) (n : ℕ) : Type 0 where
  pub place_least : 1 ≤ n
  pub same_length : length l ≡ length l₀
  pub passed :
      (k j : ℕ) → LengthsOf s k l₀ → j < length l₀ → j < n → get_or l j 0 ≡ cut (length (words_from s j (suc k) 0))
  pub rest : (j : ℕ) → n ≤ j → get_or l j 0 ≡ get_or l₀ j 0

pub stamping_start : (s : ℕ) (l : List ℕ) → Stamping s l l 1
stamping_start s l = record { place_least = omega arith; same_length = refl; passed = first; rest = λ j h. refl }
  where
    first : (k j : ℕ) → LengthsOf s k l → j < length l → j < 1 → get_or l j 0 ≡ cut (length (words_from s j (suc k) 0))
    first k zero w h i = w.length_is 0 h ∙ ap cut (words_empty s k 0 ∙ sym (words_empty s (suc k) 0))
    first k (suc j) w h i = absurd (omega arith)

pub stamping_turn :
    {s : ℕ} {l₀ l : List ℕ} {n a t b v : ℕ} → Stamping s l₀ l n → n < length l → a ≡ get_or l n 0 → t ≡ s
    → b ≡ get_or l (n - 1) 0 → v ≡ cut (a + t * b) → Stamping s l₀ (set l n v) (n + 1)
stamping_turn {s} {l₀} {l} {n} {a} {t} {b} {v} w h p q r u =
    record {
      place_least = omega arith;
      same_length = length-set l n v ∙ w.same_length;
      passed = more;
      rest = λ j i. get_or-set_other l n j v 0 (λ f. omega (arith, f)) ∙ w.rest j (omega arith);
    }
  where
    e : v ≡ cut (get_or l n 0 + s * get_or l (n - 1) 0)
    e = u ∙ rw (p, q, r)

    -- the place itself, one behind p
    here :
        (k p : ℕ) → n ≡ suc p → LengthsOf s k l₀ → n < length l₀
        → cut (get_or l n 0 + s * get_or l (n - 1) 0) ≡ cut (length (words_from s n (suc k) 0))
    here k p f o i =
        let g : n - 1 ≡ p = omega arith in
        let a : get_or l n 0 ≡ cut (length (words_from s n k 0)) = w.rest n (omega arith) ∙ o.length_is n i in
        let b : get_or l p 0 ≡ cut (length (words_from s p (suc k) 0)) = w.passed k p o (omega arith) (omega arith) in
        let t : cut (cut (length (words_from s (suc p) k 0)) + s * cut (length (words_from s p (suc k) 0)))
        ≡ cut (length (words_from s (suc p) (suc k) 0)) =
        cut_together s (cut (length (words_from s (suc p) k 0))) (cut (length (words_from s p (suc k) 0)))
        (length (words_from s (suc p) k 0)) (length (words_from s p (suc k) 0))
        (cut_cut (length (words_from s (suc p) k 0))) (cut_cut (length (words_from s p (suc k) 0)))
        ∙ ap cut (stamp_more s p k) in
        rw (g, a, b, f) t

    at :
        (k p : ℕ) → p ≡ n → LengthsOf s k l₀ → n < length l₀
        → get_or (set l n v) n 0 ≡ cut (length (words_from s n (suc k) 0))
    at k zero f o i = absurd (omega (arith, w.place_least))
    at k (suc p) f o i = get_or-set_same l n v 0 h ∙ e ∙ here k p (sym f) o i

    more :
        (k j : ℕ) → LengthsOf s k l₀ → j < length l₀ → j < n + 1
        → get_or (set l n v) j 0 ≡ cut (length (words_from s j (suc k) 0))
    more k j o i u = go (cmp j n)
      where
        go : Cmp j n → get_or (set l n v) j 0 ≡ cut (length (words_from s j (suc k) 0))
        go (is_lt x) = get_or-set_other l n j v 0 (λ f. omega (arith, f)) ∙ w.passed k j o i x
        go (is_eq x) = rw x (at k n refl o (omega (arith, x, i)))
        go (is_gt x) = absurd (omega arith)

pub stamping_end :
    {s : ℕ} {l₀ l : List ℕ} {n : ℕ} → Stamping s l₀ l n → length l ≤ n
    → (k : ℕ) → LengthsOf s k l₀ → LengthsOf s (suc k) l
stamping_end {s} {l₀} {l} {n} w h k o =
    record { length_is = λ j i. w.passed k j o (omega (arith, w.same_length)) (omega arith) }

-- the lengths with the stamps so far
pub record Listing (s stamps : ℕ) (l₀ l : List ℕ) (stamp : ℕ) : Type 0 where
  pub stamp_most : stamp ≤ stamps
  pub same_length : length l ≡ length l₀
  pub lengths_are : LengthsOf s stamp l

-- with none there is the empty word alone
module _ (l₀ : List ℕ) {l : List ℕ} (e : l ≡ zeros (length l₀)) where
  pub listing_long : length (set l 0 1) ≡ length l₀
  listing_long = length-set l 0 1 ∙ ap length e ∙ length-replicate (length l₀) 0

  pub listing_start : (s stamps : ℕ) → 1 ≤ length l₀ → Listing s stamps (set l 0 1) (set l 0 1) 0
  unfolding words_from
  listing_start s stamps h =
      record { stamp_most = omega arith; same_length = refl; lengths_are = record { length_is = first } }
    where
      first : (n : ℕ) → n < length (set l 0 1) → get_or (set l 0 1) n 0 ≡ cut (length (words_from s n 0 0))
      first zero i =
          get_or-set_same l 0 1 0 (omega (arith, listing_long, length-set l 0 1))
      first (suc n) i =
          get_or-set_other l 0 (suc n) 1 0 (λ f. omega (arith, f)) ∙ ap (λ (x : List ℕ). get_or x (suc n) 0) e
          ∙ zeros_at (length l₀) (suc n)

pub listing_turn :
    {s stamps : ℕ} {l₀ l l' : List ℕ} {stamp : ℕ} → Listing s stamps l₀ l stamp → stamp < stamps
    → length l' ≡ length l → ((k : ℕ) → LengthsOf s k l → LengthsOf s (suc k) l')
    → Listing s stamps l₀ l' (stamp + 1)
listing_turn {s} {stamps} {l₀} {l} {l'} {stamp} w h e f =
    record {
      stamp_most = omega arith;
      same_length = e ∙ w.same_length;
      lengths_are = rw (add-one stamp) (f stamp w.lengths_are);
    }

pub listing_end :
    {s h stamps : ℕ} {l₀ l₁ l : List ℕ} {stamp : ℕ} → Listing s stamps l₁ l stamp → length l₁ ≡ length l₀
    → stamps ≡ stamp_count h → stamps ≤ stamp → Lengths s h l₀ l
listing_end {s} {h} {stamps} {l₀} {l₁} {l} {stamp} w g e i =
    record {
      same_length = w.same_length ∙ g;
      length_is = λ n j. last.length_is n (omega (arith, w.same_length, g));
    }
  where
    last : LengthsOf s (stamp_count h) l
    last = let f : stamp ≡ stamp_count h = omega (arith, w.stamp_most, e) in rw f at w.lengths_are

-- All together: the numbers cut and the numbers themselves are over 1,000,000 alike.
module _ {s h : ℕ} {l₀ l : List ℕ} (w : Lengths s h l₀ l) where
  place_cut : (n : ℕ) → n < length l₀ → cut (get_or l n 0) ≡ cut (out_of s h n)
  place_cut n i = ap cut (w.length_is n i) ∙ cut_cut (out_of s h n)

  cut_sum : (m : ℕ) → m < length l₀ → cut (sum (take (suc m) l)) ≡ cut (out_of_all s h m)
  cut_sum zero i =
      ap cut (sum_next l 0 (omega (arith, w.same_length)))
      ∙ cut_both 0 (get_or l 0 0) 0 (out_of s h 0) refl (place_cut 0 i)
      ∙ ap cut (zero-add (out_of s h 0) ∙ sym (words_add_up_0 s h))
  cut_sum (suc m) i =
      ap cut (sum_next l (suc m) (omega (arith, w.same_length)))
      ∙ cut_both (sum (take (suc m) l)) (get_or l (suc m) 0) (out_of_all s h m) (out_of s h (suc m))
      (cut_sum m (omega arith)) (place_cut (suc m) i)
      ∙ ap cut (sym (words_add_up s h m))

  pub all_long : (m : ℕ) → length l₀ ≡ suc m → ltb most_words (sum l) ≡ ltb most_words (out_of_all s h m)
  all_long m e =
      same_long (sum l) (out_of_all s h m)
      (ap (λ (x : List ℕ). cut (sum x)) (sym (take_all (suc m) l (omega (arith, w.same_length))))
      ∙ cut_sum m (omega arith))

-- The front of a table, lent and given back.
pub front_back :
    (u : ℕ) (z l : List ℕ) → u ≤ length z → length l ≡ length (take u z) → take u (l ++ drop u z) ≡ l
front_back u z l h e = take_at l (drop u z) u (e ∙ length-take-le u z h)
