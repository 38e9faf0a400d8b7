-- A table's line: shares laid into zeros one behind another, each of a count and a length; and what they sum to in all.
use mathlib.Core.Path.{◌≡◌, refl, sym, ◌∙◌, ap, ap₂}
use mathlib.Core.Bool.{Bool}
use mathlib.Core.List.{List, [], ◌++◌, append_assoc, append-nil}
use Prim.Native.Nat.{ℕ, zero, suc, ◌+◌, ◌-◌, ◌*◌, ◌≤◌, ◌<◌}
use native.Mathlib.Omega.{arith}
use native.Mathlib.Nat.{zero-add}
use native.Mathlib.Numerals.{add-one}
use lib.ListN.{length, get_or, take, drop, length-append, length-drop, length-replicate, replicate-append-replicate}
use lib.ListN.{get_or-append, drop_of_length-le}
use lib.Seq.{take_at, drop_at, length-take-le, length_front, drop-drop}
use borrow.Rule.Slice.PartMut.{put_mid}
use Rattle.model.specs.Basics.{zeros, filled}
use Rattle.model.specs.Words.{Event}
use Rattle.model.specs.Tables.{Tables}
use Rattle.model.specs.Lists.{most_listed_events, most_seconds}
use Rattle.model.specs.Shares.{most_words, out_of, accepted_of, out_of_all, accepted_of_all}
use Rattle.model.specs.Shares.{share_width, share, line_width}
use Rattle.model.specs.Shares.{shares_from, line_by, table_says, words_for}
use Rattle.model.proofs.Logic.{less, least, two, zeros_at}
use Rattle.model.proofs.ShareCounts.{adds_up_0, adds_up, words_add_up_0, words_add_up, some_words}
use Rattle.numbers.proofs.Parts.{part_rest}
use Rattle.shares.specs.Tree.{Countable, Counted}
use Rattle.shares.specs.Lengths.{Lengths}
use Rattle.std.specs.Prelude.{sum}
use Rattle.shares.proofs.CutNumbers.{cut_under, sum_next}

-- Zeros with something done at their front: the next part is zeros, and is replaced.
module _ (w at n : ℕ) (done : List ℕ) (e : length done ≡ at) (fits : at + n ≤ w) where
  split : filled w done ≡ done ++ (zeros n ++ zeros (w - (at + n)))
  split =
      let sizes : w - length done ≡ n + (w - (at + n)) = omega arith in
      rw (sizes, ← replicate-append-replicate {A = ℕ} n (w - (at + n)) 0)

  pub part_zero : take (at + n - at) (drop at (filled w done)) ≡ zeros n
  part_zero =
      let m : at + n - at ≡ n = omega arith in
      rw (split, drop_at done (zeros n ++ zeros (w - (at + n))) at e, m)
      (take_at (zeros n) (zeros (w - (at + n))) n (length-replicate n 0))

  pub part_laid :
      (mid : List ℕ) → length mid ≡ n → put_mid at (at + n - at) (filled w done) mid ≡ filled w (done ++ mid)
  part_laid mid f =
      let m : at + n - at ≡ n = omega arith in
      let left : w - length (done ++ mid) ≡ w - (at + n) = omega (arith, length-append done mid) in
      rw (
        split,
        take_at done (zeros n ++ zeros (w - (at + n))) at e,
        drop_at done (zeros n ++ zeros (w - (at + n))) at e,
        m,
        drop_at (zeros n) (zeros (w - (at + n))) n (length-replicate n 0),
        left,
        append_assoc,
      )

-- the front of zeros that are longer
front_filled : (w v : ℕ) (done : List ℕ) → length done ≤ w → take w (filled (w + v) done) ≡ filled w done
front_filled w v done h =
    let sizes : w + v - length done ≡ (w - length done) + v = omega arith in
    let long : length (done ++ zeros (w - length done)) ≡ w =
    length-append done (zeros (w - length done)) ∙ omega (arith, length-replicate {A = ℕ} (w - length done) 0) in
    rw (sizes, ← replicate-append-replicate {A = ℕ} (w - length done) v 0, ← append_assoc)
    (take_at (done ++ zeros (w - length done)) (zeros v) w long)

pub filled_length : (w : ℕ) (done : List ℕ) → length done ≤ w → length (filled w done) ≡ w
filled_length w done h =
    length-append done (zeros (w - length done)) ∙ omega (arith, length-replicate {A = ℕ} (w - length done) 0)

-- the shares of the first n counts and lengths
abbrev pub shares_in : ℕ → List ℕ → List ℕ → List ℕ
shares_in zero counts lengths = []
shares_in (suc n) counts lengths = shares_in n counts lengths ++ share (get_or counts n 0) (get_or lengths n 0)

shares_long : (n : ℕ) (counts lengths : List ℕ) → length (shares_in n counts lengths) ≡ share_width * n
shares_long zero counts lengths = refl
shares_long (suc n) counts lengths =
    length-append (shares_in n counts lengths) (share (get_or counts n 0) (get_or lengths n 0))
    ∙ omega (arith, shares_long n counts lengths)

-- n shares are laid
pub record Sharing (used : ℕ) (counts lengths line : List ℕ) (n : ℕ) : Type 0 where
  pub used_most : used ≤ suc most_listed_events
  pub most : n ≤ used
  pub line_long : length line ≡ line_width
  pub line_is : line ≡ filled line_width (shares_in n counts lengths)

pub sharing_first :
    (used : ℕ) (counts lengths : List ℕ) {line : List ℕ} → used ≤ suc most_listed_events → line ≡ zeros line_width
    → Sharing used counts lengths line 0
sharing_first used counts lengths h e = record {
  used_most = h;
  most = omega arith;
  line_long = ap length e;
  line_is = e;
}

module _ {used : ℕ} {counts lengths line : List ℕ} {n : ℕ} (k : Sharing used counts lengths line n) (l : n < used) where
  abbrev at : ℕ
  at = share_width * n

  place_fits : at + share_width ≤ line_width
  place_fits = omega (arith, k.used_most)

  pub share_place : length (take (at + share_width - at) (drop at line)) ≡ share_width
  share_place =
      rw k.line_is
      (ap length
      (part_zero line_width at share_width (shares_in n counts lengths) (shares_long n counts lengths) place_fits))

  pub sharing_next :
      {mid : List ℕ} → mid ≡ share (get_or counts n 0) (get_or lengths n 0)
      → Sharing used counts lengths (put_mid at (at + share_width - at) line mid) (n + 1)
  sharing_next {mid} e =
      let next : put_mid at (at + share_width - at) line mid ≡ filled line_width (shares_in (suc n) counts lengths) =
      rw (e, k.line_is)
      (part_laid line_width at share_width (shares_in n counts lengths) (shares_long n counts lengths) place_fits
      (share (get_or counts n 0) (get_or lengths n 0)) refl) in
      rw add-one
      (record {
        used_most = k.used_most;
        most = omega arith;
        line_long =
            ap length next
            ∙ filled_length line_width (shares_in (suc n) counts lengths)
            (omega (arith, shares_long (suc n) counts lengths, place_fits));
        line_is = next;
      })

-- the place of the share in all
pub last_place :
    {used : ℕ} {counts lengths line : List ℕ} {n : ℕ} → Sharing used counts lengths line n
    → length (take (length line - 28) (drop 28 line)) ≡ share_width
last_place {line = line} k = ap length (part_rest 28 line) ∙ (length-drop 28 line ∙ omega (arith, k.line_long))

-- What the counts and lengths are: of n events, for each n below `used`, and as many as all together at most.
pub record Known (says : List Event → Bool) (s h used : ℕ) (counts lengths : List ℕ) : Type 0 where
  pub symbols_some : 1 ≤ s
  pub counts_long : used ≤ length counts
  pub lengths_long : used ≤ length lengths
  pub count_is : (n : ℕ) → n < used → get_or counts n 0 ≡ accepted_of says s h n
  pub length_is : (n : ℕ) → n < used → get_or lengths n 0 ≡ out_of s h n

-- one share more at the end
shares_next :
    (says : List Event → Bool) (s h k n : ℕ)
    → shares_from (suc k) n says s h
    ≡ shares_from k n says s h ++ share (accepted_of says s h (n + k)) (out_of s h (n + k))
shares_next says s h zero n = let e : n + 0 ≡ n = omega arith in rw e
shares_next says s h (suc k) n =
    let e : n + suc k ≡ suc n + k = omega arith in
    rw e (ap (λ (xs : List ℕ). share (accepted_of says s h n) (out_of s h n) ++ xs) (shares_next says s h k (suc n)))

shares_from_long :
    (says : List Event → Bool) (s h k n : ℕ) → length (shares_from k n says s h) ≡ share_width * k
shares_from_long says s h zero n = refl
shares_from_long says s h (suc k) n = omega (arith, shares_from_long says s h k (suc n))

-- a line has its width, and its last share is that in all
module _ (says : List Event → Bool) (s m h : ℕ) (few : m ≤ most_listed_events) where
  abbrev front : List ℕ
  front = filled 28 (shares_from (suc m) 0 says s h)

  pub front_long : length (filled 28 (shares_from (suc m) 0 says s h)) ≡ 28
  front_long = filled_length 28 (shares_from (suc m) 0 says s h) (omega (arith, shares_from_long says s h (suc m) 0))

  pub line_long : length (line_by says s m h) ≡ line_width
  unfolding line_by
  line_long =
      length-append front (share (accepted_of_all says s h m) (out_of_all s h m)) ∙ omega (arith, front_long)

-- of one length there are no more than in all
out_most : (s h m n : ℕ) → n ≤ m → out_of s h n ≤ out_of_all s h m
out_most s h zero n l = let e : n ≡ 0 = omega arith in rw (e, words_add_up_0 s h) (omega arith)
out_most s h (suc m) n l =
    elim (two n (suc m)) [
      | less q ↦ omega (arith, words_add_up s h m, out_most s h m n (omega arith))
      | least q ↦ let e : n ≡ suc m = omega arith in rw e (omega (arith, words_add_up s h m))
    ]

module _ {says : List Event → Bool} {s h used : ℕ} {counts lengths : List ℕ}
    (k : Known says s h used counts lengths) where
  shares_are : (n : ℕ) → n ≤ used → shares_in n counts lengths ≡ shares_from n 0 says s h
  shares_are zero l = refl
  shares_are (suc n) l =
      let z : 0 + n ≡ n = omega arith in
      ap₂ (λ (xs : List ℕ) (y : List ℕ). xs ++ y) (shares_are n (omega arith))
      (ap₂ share (k.count_is n l) (k.length_is n l))
      ∙ sym (rw (shares_next says s h n 0, z))

  pub words_some : (n : ℕ) → n < used → 1 ≤ get_or lengths n 0
  words_some n l = rw (k.length_is n l) (some_words s h n k.symbols_some)

  -- the sums of those up to m are what there is in all
  pub accepted_sum : (m : ℕ) → m < used → sum (take (suc m) counts) ≡ accepted_of_all says s h m
  accepted_sum zero l =
      sum_next counts 0 (omega (arith, k.counts_long))
      ∙ (zero-add (get_or counts 0 0) ∙ (k.count_is 0 l ∙ sym (adds_up_0 says s h)))
  accepted_sum (suc m) l =
      sum_next counts (suc m) (omega (arith, k.counts_long))
      ∙ (ap₂ ◌+◌ (accepted_sum m (omega arith)) (k.count_is (suc m) l) ∙ sym (adds_up says s h m))

  pub words_sum : (m : ℕ) → m < used → sum (take (suc m) lengths) ≡ out_of_all s h m
  words_sum zero l =
      sum_next lengths 0 (omega (arith, k.lengths_long))
      ∙ (zero-add (get_or lengths 0 0) ∙ (k.length_is 0 l ∙ sym (words_add_up_0 s h)))
  words_sum (suc m) l =
      sum_next lengths (suc m) (omega (arith, k.lengths_long))
      ∙ (ap₂ ◌+◌ (words_sum m (omega arith)) (k.length_is (suc m) l) ∙ sym (words_add_up s h m))

  -- all shares laid, and the one in all behind them
  pub line_done :
      {line : List ℕ} {n m : ℕ} {mid : List ℕ} → Sharing used counts lengths line n → used ≤ n → used ≡ suc m
      → mid ≡ share (accepted_of_all says s h m) (out_of_all s h m)
      → put_mid 28 (length line - 28) line mid ≡ line_by says s m h
  unfolding line_by
  line_done {line} {n} {m} {mid} q l u e =
      let n_is : n ≡ suc m = omega (arith, q.most) in
      let shares : shares_in n counts lengths ≡ shares_from (suc m) 0 says s h =
      shares_are n q.most ∙ ap (λ (x : ℕ). shares_from x 0 says s h) n_is in
      let front : take 28 line ≡ filled 28 (shares_from (suc m) 0 says s h) =
      ap (take 28) q.line_is
      ∙ front_filled 28 4 (shares_in n counts lengths)
      (omega (arith, shares_long n counts lengths, q.most, q.used_most))
      ∙ ap (filled 28) shares in
      let short : length line ≤ 28 + (length line - 28) = omega arith in
      let none : drop (length line - 28) (drop 28 line) ≡ [] =
      drop-drop (length line - 28) 28 line ∙ drop_of_length-le line short in
      rw (front, none, e, append-nil)

-- The counts and lengths stand at the front of seven places each, zero at first: one for each length up to m.
abbrev pub places : List ℕ
places = zeros (suc most_listed_events)

module _ (t : Tables) (m h : ℕ) (u : ℕ) (few : m ≤ most_listed_events) (u_is : u ≡ suc m) where
  abbrev s : ℕ
  s = t.built.symbols

  pub used_fit : u ≤ length places
  used_fit = omega arith

  used_long : length (take u places) ≡ u
  used_long = length-take-le u places used_fit

  used_zero : take u places ≡ zeros u
  used_zero =
      let sizes : suc most_listed_events ≡ u + (suc most_listed_events - u) = omega arith in
      ap (λ (n : ℕ). take u (zeros n)) sizes
      ∙ (ap (take u) (sym (replicate-append-replicate {A = ℕ} u (suc most_listed_events - u) 0))
      ∙ take_at (zeros u) (zeros (suc most_listed_events - u)) u (length-replicate u 0))

  module _ (listed : words_for t h m ≤ most_words) where
    length_most : (n : ℕ) → n < u → out_of t.built.symbols h n ≤ most_words
    length_most n l = omega (arith, out_most s h m n (omega arith), listed)

    pub countable : h ≤ most_seconds → Countable t.built.symbols h (take u places)
    countable short = record {
      seconds_most = short;
      some = omega (arith, used_long);
      zero = λ n. ap (λ (xs : List ℕ). get_or xs n 0) used_zero ∙ zeros_at u n;
      room = λ n l. length_most n (omega (arith, used_long));
    }

    pub known :
        {counts lengths : List ℕ} → 1 ≤ t.built.symbols → Counted t h (take u places) counts
        → Lengths t.built.symbols h (take u places) lengths
        → Known (table_says t) t.built.symbols h u (counts ++ drop u places) (lengths ++ drop u places)
    known {counts} {lengths} some c l = record {
      symbols_some = some;
      counts_long = omega (arith, length_front places counts u c.same_length, used_fit);
      lengths_long = omega (arith, length_front places lengths u l.same_length, used_fit);
      count_is = λ n j.
          get_or-append counts (drop u places) 0 n (omega (arith, c.same_length, used_long))
          ∙ c.counted n (omega (arith, used_long));
      length_is = λ n j.
          get_or-append lengths (drop u places) 0 n (omega (arith, l.same_length, used_long))
          ∙ (l.length_is n (omega (arith, used_long)) ∙ cut_under (out_of s h n) (length_most n j));
    }
