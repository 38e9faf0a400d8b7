-- The list is in order: what stands later comes after; and the word after another is the one next to it.
use mathlib.Core.Path.{◌≡◌, refl, sym, ◌∙◌, ap, ap₂}
use mathlib.Core.Bool.{Bool, true, false, ◌&&◌}
use mathlib.Core.List.{List, [], ◌∷◌, ◌++◌}
use Prim.Native.Nat.{ℕ, zero, suc, ◌+◌, ◌≤◌, ◌<◌}
use native.Mathlib.Omega.{arith}
use lib.Dec.{eqb, ltb, leb}
use lib.ListN.{length}
use borrow.Author.Tests.{leb-true, eqb-true, lt-ltb, eq-eqb}
use Rattle.model.specs.Basics.{pick}
use Rattle.model.specs.Words.{Event}
use Rattle.model.specs.Lists.{behind, by_symbols, words_from, words_of, words_up_to, same_event, same_word, fits_from}
use Rattle.model.specs.Lists.{fits, count_if}
use Rattle.model.specs.Lists.{event_of, top_stamp, stamp_count, word_after}
use Rattle.model.specs.Claims.{times, event_before, by_event, before}
use Rattle.model.proofs.Logic.{is_one, most_one, and_left, and_right, and_both, or_left, or_right, Two, two}
use Rattle.model.proofs.Logic.{less, least}
use Rattle.model.proofs.Lists.{count_both, none_empty, none_symbols, times_behind, times_symbols, among_symbols}
use Rattle.model.proofs.Lists.{words_once, list_once, fits_of}
use Rattle.model.proofs.NextWord.{same_event_lem, nothing, first_or, word_after_or, after_is, not_first}

-- what a count of at least one tells
is_picked : (b : Bool) (k : ℕ) → 1 ≤ pick b k 0 → (b ≡ true) × (1 ≤ k)
is_picked true k h = (refl, h)
is_picked false k h = absurd (omega arith)

pub event_is : (v w : Event) → same_event v w ≡ true → v ≡ w
event_is v w h =
    ap₂ event_of
    (eqb-true v.symbol w.symbol (and_right (eqb v.stamp w.stamp) (eqb v.symbol w.symbol) h))
    (eqb-true v.stamp w.stamp (and_left (eqb v.stamp w.stamp) (eqb v.symbol w.symbol) h))

pub same_word_lem : (w : List Event) → same_word w w ≡ true
same_word_lem [] = refl
same_word_lem (v ∷ vs) = and_both (same_event v v) (same_word vs vs) (same_event_lem v) (same_word_lem vs)

pub stands_first : (w : List Event) (ws : List (List Event)) → times w (w ∷ ws) ≡ 1 + times w ws
unfolding count_if
stands_first w ws = rw (same_word_lem w)

pub stands_later : (v w : List Event) (ws : List (List Event)) → 1 ≤ times v ws → 1 ≤ times v (w ∷ ws)
unfolding count_if
stands_later v w ws h = omega arith

pub times_none : (w : List Event) → times w [] ≡ 0
unfolding count_if
times_none w = refl

-- a list in which all that stands behind a word comes after it, by an order p
abbrev pub Rising : (List Event → List Event → Bool) → List (List Event) → Type 0
Rising p [] = Unit {0}
Rising p (w ∷ ws) = ((v : List Event) → 1 ≤ times v ws → p w v ≡ true) × Rising p ws

rising_both :
    (p : List Event → List Event → Bool) (xs ys : List (List Event)) → Rising p xs → Rising p ys
    → ((x y : List Event) → 1 ≤ times x xs → 1 ≤ times y ys → p x y ≡ true)
    → Rising p (xs ++ ys)
rising_both p [] ys a b c = b
rising_both p (x ∷ xs) ys a b c =
    (now, rising_both p xs ys a.1 b (λ u v m n. c u v (stands_later u x xs m) n))
  where
    now : (v : List Event) → 1 ≤ times v (xs ++ ys) → p x v ≡ true
    now v m = go (two 0 (times v xs))
      where
        go : Two 0 (times v xs) → p x v ≡ true
        go (less l) = a.0 v l
        go (least l) =
            c x v (omega (arith, stands_first x xs)) (omega (arith, m, count_both (same_word v) xs ys))

rising_rest :
    (p : List Event → List Event → Bool) (xs ys : List (List Event)) → Rising p (xs ++ ys) → Rising p ys
rising_rest p [] ys h = h
rising_rest p (x ∷ xs) ys h = rising_rest p xs ys h.1

-- one event decides: by its stamp, by its symbol, or by what stands behind it
stamp_first : (u v : Event) (a b : List Event) → u.stamp < v.stamp → by_event (u ∷ a) (v ∷ b) ≡ true
stamp_first u v a b h = rw (lt-ltb u.stamp v.stamp h)

symbol_first :
    (u v : Event) (a b : List Event) → u.stamp ≡ v.stamp → u.symbol < v.symbol → by_event (u ∷ a) (v ∷ b) ≡ true
symbol_first u v a b e h =
    or_left (event_before u v) (same_event u v && by_event a b)
    (or_right (ltb u.stamp v.stamp) (eqb u.stamp v.stamp && ltb u.symbol v.symbol)
    (and_both (eqb u.stamp v.stamp) (ltb u.symbol v.symbol) (eq-eqb u.stamp v.stamp e)
    (lt-ltb u.symbol v.symbol h)))

rest_first :
    (u v : Event) (a b : List Event) → same_event v u ≡ true → by_event a b ≡ true → by_event (u ∷ a) (v ∷ b) ≡ true
rest_first u v a b e h =
    or_right (event_before u v) (same_event u v && by_event a b)
    (and_both (same_event u v) (by_event a b) (ap (λ (x : Event). same_event u x) (event_is v u e) ∙ same_event_lem u)
    h)

-- behind one event
in_behind :
    (u v : Event) (w : List Event) (ws : List (List Event)) → 1 ≤ times (u ∷ w) (behind v ws)
    → (same_event u v ≡ true) × (1 ≤ times w ws)
in_behind u v w ws h = is_picked (same_event u v) (times w ws) (rw (times_behind u v w ws) at h)

rising_behind : (v : Event) (ws : List (List Event)) → Rising by_event ws → Rising by_event (behind v ws)
rising_behind v [] a = tt
rising_behind v (w ∷ ws) a = (now, rising_behind v ws a.1)
  where
    now : (u : List Event) → 1 ≤ times u (behind v ws) → by_event (v ∷ w) u ≡ true
    now [] m = absurd (omega (arith, m, none_empty v ws))
    now (x ∷ u) m =
        let k = in_behind x v u ws m in
        rest_first v x w u k.0 (a.0 u k.1)

-- among the symbols at one stamp
in_symbols :
    (n i t : ℕ) (u : Event) (w : List Event) (ws : List (List Event)) → 1 ≤ times (u ∷ w) (by_symbols n i t ws)
    → (u.stamp ≡ t) × (i ≤ u.symbol)
in_symbols n i t u w ws h =
    let k = (is_picked (among_symbols n i t u) (times w ws) (rw (times_symbols n i t u w ws) at h)).0 in
    let at = eqb u.stamp t in
    let from = leb i u.symbol in
    let below = ltb u.symbol (i + n) in (
      eqb-true u.stamp t (and_left at (from && below) k),
      leb-true i u.symbol (and_left from below (and_right at (from && below) k)),
    )

rising_symbols :
    (n i t : ℕ) (ws : List (List Event)) → Rising by_event ws → Rising by_event (by_symbols n i t ws)
rising_symbols zero i t ws a = tt
rising_symbols (suc n) i t ws a =
    rising_both by_event (behind (event_of i t) ws) (by_symbols n (suc i) t ws) (rising_behind (event_of i t) ws a)
    (rising_symbols n (suc i) t ws a)
    across
  where
    across :
        (x y : List Event) → 1 ≤ times x (behind (event_of i t) ws) → 1 ≤ times y (by_symbols n (suc i) t ws)
        → by_event x y ≡ true
    across [] y m l = absurd (omega (arith, m, none_empty (event_of i t) ws))
    across (u ∷ x) [] m l = absurd (omega (arith, l, none_symbols n (suc i) t ws))
    across (u ∷ x) (v ∷ y) m l =
        let is : u ≡ event_of i t = event_is u (event_of i t) (in_behind u (event_of i t) x ws m).0 in
        let later = in_symbols n (suc i) t v y ws l in
        symbol_first u v x y (ap (λ (z : Event). z.stamp) is ∙ sym later.0)
        (omega (arith, ap (λ (z : Event). z.symbol) is, later.1))

-- the words of one length
in_words :
    (s top n k t : ℕ) (w : List Event) → t + k ≡ suc top → 1 ≤ times w (words_from s n k t)
    → (length w ≡ n) × (fits_from s top t w ≡ true)
in_words s top n k t w e h =
    let b = is_one (eqb (length w) n && fits_from s top t w) (rw (words_once s top n k t w e) at h) in (
      eqb-true (length w) n (and_left (eqb (length w) n) (fits_from s top t w) b),
      and_right (eqb (length w) n) (fits_from s top t w) b,
    )

rising_words : (s top n k t : ℕ) → t + k ≡ suc top → Rising by_event (words_from s n k t)
unfolding words_from
rising_words s top zero k t e = ((λ v m. absurd (omega (arith, m, times_none v))), tt)
rising_words s top (suc n) zero t e = tt
rising_words s top (suc n) (suc k) t e =
    rising_both by_event (by_symbols s 0 t (words_from s n (suc k) t)) (words_from s (suc n) k (suc t))
    (rising_symbols s 0 t (words_from s n (suc k) t) (rising_words s top n (suc k) t e))
    (rising_words s top (suc n) k (suc t) (omega arith))
    across
  where
    across :
        (x y : List Event) → 1 ≤ times x (by_symbols s 0 t (words_from s n (suc k) t))
        → 1 ≤ times y (words_from s (suc n) k (suc t))
        → by_event x y ≡ true
    across [] y m l = absurd (omega (arith, m, none_symbols s 0 t (words_from s n (suc k) t)))
    across (u ∷ x) [] m l = absurd (omega (arith, (in_words s top (suc n) k (suc t) [] (omega arith) l).0))
    across (u ∷ x) (v ∷ y) m l =
        let now = (in_symbols s 0 t u x (words_from s n (suc k) t) m).0 in
        let later = fits_of s top (suc t) v y (in_words s top (suc n) k (suc t) (v ∷ y) (omega arith) l).1 in
        stamp_first u v x y (omega (arith, now, later.not_before))

-- the whole list: shorter words first
of_length : (n : ℕ) (ws : List (List Event)) → ((w : List Event) → 1 ≤ times w ws → length w ≡ n) → Rising by_event ws
    → Rising before ws
of_length n [] h a = tt
of_length n (w ∷ ws) h a = (now, of_length n ws (λ v m. h v (stands_later v w ws m)) a.1)
  where
    now : (v : List Event) → 1 ≤ times v ws → before w v ≡ true
    now v m =
        let here : length w ≡ n = h w (omega (arith, stands_first w ws)) in
        let there_is : length v ≡ n = h v (stands_later v w ws m) in
        or_right (ltb (length w) (length v)) (eqb (length w) (length v) && by_event w v)
        (and_both (eqb (length w) (length v)) (by_event w v) (eq-eqb (length w) (length v) (here ∙ sym there_is))
        (a.0 v m))

words_rise : (s h n : ℕ) → Rising before (words_of s h n)
words_rise s h n =
    of_length n (words_of s h n)
    (λ w m. (in_words s (top_stamp h) n (stamp_count h) 0 w (omega arith) m).0)
    (rising_words s (top_stamp h) n (stamp_count h) 0 (omega arith))

pub list_rises : (s h m : ℕ) → Rising before (words_up_to s h m)
unfolding words_up_to
list_rises s h zero = words_rise s h 0
list_rises s h (suc m) =
    rising_both before (words_up_to s h m) (words_of s h (suc m)) (list_rises s h m) (words_rise s h (suc m)) across
  where
    across : (x y : List Event) → 1 ≤ times x (words_up_to s h m) → 1 ≤ times y (words_of s h (suc m))
        → before x y ≡ true
    across x y a b =
        let short_is = is_one (fits s h m x) (rw (list_once s h m x) at a) in
        let short = leb-true (length x) m (and_left (leb (length x) m) (fits_from s (top_stamp h) 0 x) short_is) in
        let long = (in_words s (top_stamp h) (suc m) (stamp_count h) 0 y (omega arith) b).0 in
        or_left (ltb (length x) (length y)) (eqb (length x) (length y) && by_event x y)
        (lt-ltb (length x) (length y) (omega (arith, short, long)))

pub in_order :
    (s h m : ℕ) (xs ys : List (List Event)) (v w : List Event) → words_up_to s h m ≡ xs ++ (v ∷ ys) → 1 ≤ times w ys
    → before v w ≡ true
in_order s h m xs ys v w e n = (rising_rest before xs (v ∷ ys) (rw e at (list_rises s h m))).0 w n

-- the word after another: a listed word stands nowhere before its place
none_before :
    (s h m : ℕ) (xs ys : List (List Event)) (v : List Event) → words_up_to s h m ≡ xs ++ (v ∷ ys) → times v xs ≡ 0
none_before s h m xs ys v e =
    omega (
      arith,
      sym (list_once s h m v) ∙ ap (times v) e ∙ count_both (same_word v) xs (v ∷ ys),
      stands_first v ys,
      most_one (fits s h m v),
    )

pub stands :
    (s h m : ℕ) (xs ys : List (List Event)) (v : List Event) → words_up_to s h m ≡ xs ++ (v ∷ ys)
    → word_after v (words_up_to s h m) ≡ first_or ys nothing
stands s h m xs ys v e =
    after_is v (words_up_to s h m)
    ∙ ap (λ (ws : List (List Event)). word_after_or v ws nothing) e
    ∙ not_first v xs (v ∷ ys) nothing (none_before s h m xs ys v e)
    ∙ rw (same_word_lem v, word_after_or)
