-- The word after another in the list, as an odometer finds it: the last event that can be raised is raised, those after
-- it fall to the least that may follow; where none can be raised the first word of the next length comes.
use mathlib.Core.Path.{◌≡◌, refl, sym, ◌∙◌, ap, ap₂}
use mathlib.Core.Bool.{Bool, true, false, ◌&&◌}
use mathlib.Core.List.{List, [], ◌∷◌, ◌++◌}
use Prim.Native.Nat.{ℕ, zero, suc, ◌+◌, ◌≤◌, ◌<◌}
use native.Mathlib.Omega.{arith}
use lib.Dec.{ltb, leb}
use lib.ListN.{length}
use borrow.Author.Tests.{leb-true, lt-ltb, le-ltb, le-leb, lt-leb, eq-eqb, ne_eqb}
use Rattle.model.specs.Basics.{pick, one_if}
use Rattle.model.specs.Words.{Event}
use Rattle.model.specs.Lists.{behind, by_symbols, words_from, words_of, words_up_to, same_event, same_word, fits_from}
use Rattle.model.specs.Lists.{fits, count_if}
use Rattle.model.specs.Lists.{event_of, top_stamp, stamp_count, After, first_of, word_after}
use Rattle.model.specs.Claims.{times}
use Rattle.model.proofs.Logic.{by_test, no_way, and_left, and_right, and_both, Cmp, cmp, is_lt, is_eq, is_gt}
use Rattle.model.proofs.Logic.{Two, two, less, least}
use Rattle.model.proofs.Lists.{words_once, list_once, times_behind, times_symbols, Fits, fits_of}

abbrev pub nothing : After
nothing = record { some = false; word = [] }

abbrev pub found : List Event → After
found w = record { some = true; word = w }

abbrev or_else : After → After → After
or_else x y = pick x.some x y

-- the least n events from stamp t on
abbrev pub floor : ℕ → ℕ → List Event
floor zero t = []
floor (suc n) t = event_of 0 t ∷ floor n t

-- one event raised, n events after it
abbrev pub raised : ℕ → ℕ → Event → ℕ → After
raised s top v n =
    pick (ltb (suc v.symbol) s) (found (event_of (suc v.symbol) v.stamp ∷ floor n v.stamp))
    (pick (ltb v.stamp top) (found (event_of 0 (suc v.stamp) ∷ floor n (suc v.stamp))) nothing)

abbrev onto : Event → After → After → After
onto v x y = pick x.some (found (v ∷ x.word)) y

abbrev pub bump : ℕ → ℕ → List Event → After
bump s top [] = nothing
bump s top (v ∷ vs) = onto v (bump s top vs) (raised s top v (length vs))

-- what follows a word in a list that goes on with r
abbrev pub first_or : List (List Event) → After → After
first_or [] r = r
first_or (w ∷ ws) r = found w

abbrev pub word_after_or : List Event → List (List Event) → After → After
word_after_or w [] r = nothing
word_after_or w (v ∷ ws) r = elim (same_word w v) [ true ↦ first_or ws r | false ↦ word_after_or w ws r ]

pub after_is : (w : List Event) (ws : List (List Event)) → word_after w ws ≡ word_after_or w ws nothing
after_is w [] = refl
after_is w (v ∷ ws) = go (same_word w v) refl (after_is w ws)
  where
    first : (xs : List (List Event)) → first_of xs ≡ first_or xs nothing
    first [] = refl
    first (x ∷ xs) = refl

    go :
        (b : Bool) → same_word w v ≡ b → word_after w ws ≡ word_after_or w ws nothing
        → word_after w (v ∷ ws) ≡ word_after_or w (v ∷ ws) nothing
    go true e h = rw (e, word_after, word_after_or) (first ws)
    go false e h = rw (e, word_after, word_after_or) h

first_both : (xs ys : List (List Event)) (r : After) → first_or (xs ++ ys) r ≡ first_or xs (first_or ys r)
first_both [] ys r = refl
first_both (x ∷ xs) ys r = refl

in_first :
    (w : List Event) (xs ys : List (List Event)) (r : After) → 1 ≤ times w xs
    → word_after_or w (xs ++ ys) r ≡ word_after_or w xs (first_or ys r)
unfolding count_if
in_first w [] ys r h = absurd (omega arith)
in_first w (x ∷ xs) ys r h = go (same_word w x) refl (in_first w xs ys r)
  where
    go :
        (b : Bool) → same_word w x ≡ b
        → (1 ≤ times w xs → word_after_or w (xs ++ ys) r ≡ word_after_or w xs (first_or ys r))
        → word_after_or w (x ∷ xs ++ ys) r ≡ word_after_or w (x ∷ xs) (first_or ys r)
    go true e k = rw (e, word_after_or) (first_both xs ys r)
    go false e k =
        let n : 1 ≤ 0 + times w xs = rw e at h in
        rw (e, word_after_or) (k (omega arith))

pub not_first :
    (w : List Event) (xs ys : List (List Event)) (r : After) → times w xs ≡ 0
    → word_after_or w (xs ++ ys) r ≡ word_after_or w ys r
unfolding count_if
not_first w [] ys r h = refl
not_first w (x ∷ xs) ys r h = go (same_word w x) refl (not_first w xs ys r)
  where
    go :
        (b : Bool) → same_word w x ≡ b → (times w xs ≡ 0 → word_after_or w (xs ++ ys) r ≡ word_after_or w ys r)
        → word_after_or w (x ∷ xs ++ ys) r ≡ word_after_or w ys r
    go true e k = let n : 1 + times w xs ≡ 0 = rw e at h in absurd (omega arith)
    go false e k =
        let n : 0 + times w xs ≡ 0 = rw e at h in
        rw (e, word_after_or) (k (omega arith))

-- behind one event
pub same_event_lem : (v : Event) → same_event v v ≡ true
same_event_lem v = rw (eq-eqb v.stamp v.stamp refl, eq-eqb v.symbol v.symbol refl)

first_behind :
    (v : Event) (ws : List (List Event)) (r : After) → first_or (behind v ws) r ≡ onto v (first_or ws nothing) r
first_behind v [] r = refl
first_behind v (w ∷ ws) r = refl

next_behind :
    (v : Event) (w : List Event) (ws : List (List Event)) (r : After) → 1 ≤ times w ws
    → word_after_or (v ∷ w) (behind v ws) r ≡ onto v (word_after_or w ws nothing) r
unfolding count_if
next_behind v w [] r h = absurd (omega arith)
next_behind v w (x ∷ xs) r h = go (same_word w x) refl (next_behind v w xs r)
  where
    go :
        (b : Bool) → same_word w x ≡ b
        → (1 ≤ times w xs → word_after_or (v ∷ w) (behind v xs) r ≡ onto v (word_after_or w xs nothing) r)
        → word_after_or (v ∷ w) ((v ∷ x) ∷ behind v xs) r ≡ onto v (word_after_or w (x ∷ xs) nothing) r
    go true e k =
        let both : (same_event v v && same_word w x) ≡ true = and_both (same_event v v) (same_word w x)
        (same_event_lem v) e in
        rw (both, e, word_after_or) (first_behind v xs r)
    go false e k =
        let n : 1 ≤ 0 + times w xs = rw e at h in
        let both : (same_event v v && same_word w x) ≡ false = rw (same_event_lem v, e) in
        rw (both, e, word_after_or) (k (omega arith))

-- the first word of one length
first_words : (s n k t : ℕ) (r : After) → 1 ≤ s → first_or (words_from s n (suc k) t) r ≡ found (floor n t)
unfolding words_from
first_words s zero k t r h = refl
first_words zero (suc n) k t r h = absurd (omega arith)
first_words (suc s) (suc n) k t r h =
    first_both (behind (event_of 0 t) ws ++ by_symbols s 1 t ws) (words_from (suc s) (suc n) k (suc t)) r
    ∙ first_both (behind (event_of 0 t) ws) (by_symbols s 1 t ws) (first_or (words_from (suc s) (suc n) k (suc t)) r)
    ∙ first_behind (event_of 0 t) ws (first_or (by_symbols s 1 t ws) (first_or (words_from (suc s) (suc n) k (suc t))
    r))
    ∙ ap
    (λ (x : After).
    onto (event_of 0 t) x (first_or (by_symbols s 1 t ws) (first_or (words_from (suc s) (suc n) k (suc t)) r)))
    (first_words (suc s) n k t nothing h)
  where
    ws : List (List Event)
    ws = words_from (suc s) n (suc k) t

-- among the symbols at one stamp
first_symbols :
    (m i t : ℕ) (ws : List (List Event)) (f : List Event) (r : After) → first_or ws nothing ≡ found f
    → first_or (by_symbols m i t ws) r ≡ pick (ltb 0 m) (found (event_of i t ∷ f)) r
first_symbols zero i t ws f r h = refl
first_symbols (suc m) i t ws f r h =
    first_both (behind (event_of i t) ws) (by_symbols m (suc i) t ws) r
    ∙ first_behind (event_of i t) ws (first_or (by_symbols m (suc i) t ws) r)
    ∙ rw (h, lt-ltb 0 (suc m) (omega arith))

next_symbols :
    (m i t : ℕ) (u : Event) (w f : List Event) (ws : List (List Event)) (r : After) → u.stamp ≡ t
    → i ≤ u.symbol
    → u.symbol < i + m
    → 1 ≤ times w ws
    → first_or ws nothing ≡ found f
    → word_after_or (u ∷ w) (by_symbols m i t ws) r
    ≡ onto u (word_after_or w ws nothing)
    (pick (ltb (suc u.symbol) (i + m)) (found (event_of (suc u.symbol) t ∷ f)) r)
next_symbols zero i t u w f ws r e a b h g = absurd (omega arith)
next_symbols (suc m) i t u w f ws r e a b h g = go (two i u.symbol) (next_symbols m (suc i) t u w f ws r e)
  where
    sum : suc i + m ≡ i + suc m
    sum = omega arith

    goal : Type 0
    goal =
        word_after_or (u ∷ w) (behind (event_of i t) ws ++ by_symbols m (suc i) t ws) r
        ≡ onto u (word_after_or w ws nothing)
        (pick (ltb (suc u.symbol) (i + suc m)) (found (event_of (suc u.symbol) t ∷ f)) r)

    go :
        Two i u.symbol
        → (suc i ≤ u.symbol → u.symbol < suc i + m → 1 ≤ times w ws → first_or ws nothing ≡ found f
        → word_after_or (u ∷ w) (by_symbols m (suc i) t ws) r
        ≡ onto u (word_after_or w ws nothing)
        (pick (ltb (suc u.symbol) (suc i + m)) (found (event_of (suc u.symbol) t ∷ f)) r))
        → goal
    go (less l) k =
        not_first (u ∷ w) (behind (event_of i t) ws) (by_symbols m (suc i) t ws) r
        (times_behind u (event_of i t) w ws
        ∙ rw (e, eq-eqb t t refl, ne_eqb u.symbol i (omega arith)))
        ∙ k l (omega arith) h g
        ∙ rw sum
    go (least l) k =
        let same_symbol : u.symbol ≡ i = omega arith in
        let event_is : u ≡ event_of i t = ap₂ event_of same_symbol e in
        let there_is : 1 ≤ times (u ∷ w) (behind (event_of i t) ws) =
        rw (times_behind u (event_of i t) w ws, e, same_symbol, eq-eqb t t refl, eq-eqb i i refl) h in
        in_first (u ∷ w) (behind (event_of i t) ws) (by_symbols m (suc i) t ws) r there_is
        ∙ ap (λ (v : Event). word_after_or (v ∷ w) (behind (event_of i t) ws)
        (first_or (by_symbols m (suc i) t ws) r)) event_is
        ∙ next_behind (event_of i t) w ws (first_or (by_symbols m (suc i) t ws) r) h
        ∙ ap (λ (x : After). onto (event_of i t) (word_after_or w ws nothing) x)
        (first_symbols m (suc i) t ws f r g
        ∙ ap (λ (b : Bool). pick b (found (event_of (suc i) t ∷ f)) r) (more_symbols m))
        ∙ rw (event_is)
      where
        more_symbols : (m : ℕ) → ltb 0 m ≡ ltb (suc i) (i + suc m)
        more_symbols zero = sym (le-ltb (suc i) (i + 1) (omega arith))
        more_symbols (suc m) = lt-ltb 0 (suc m) (omega arith) ∙ sym (lt-ltb (suc i) (i + suc (suc m)) (omega arith))

fits_later :
    (s top last from : ℕ) (v : Event) (vs : List Event) → Fits s top last v vs → from ≤ v.stamp
    → fits_from s top from (v ∷ vs) ≡ true
fits_later s top last from v vs f h =
    rw (lt-ltb v.symbol s f.symbol_below, le-leb from v.stamp h, le-leb v.stamp top f.not_above)
    f.rest

no_words : (s n t : ℕ) → words_from s (suc n) 0 t ≡ []
unfolding words_from
no_words s n t = refl

raise_last :
    (s top k n t i : ℕ) (r : After) → 1 ≤ s → t + suc k ≡ suc top
    → pick (ltb (suc i) (0 + s)) (found (event_of (suc i) t ∷ floor n t)) (first_or (words_from s (suc n) k (suc t)) r)
    ≡ or_else (raised s top (event_of i t) n) r
raise_last s top k n t i r hs e = go (ltb (suc i) s) refl
  where
    z : 0 + s ≡ s
    z = omega arith

    rest : (k : ℕ) → t + suc k ≡ suc top
        → first_or (words_from s (suc n) k (suc t)) r
        ≡ or_else (pick (ltb t top) (found (event_of 0 (suc t) ∷ floor n (suc t))) nothing) r
    rest zero e = rw (no_words s n (suc t), le-ltb t top (omega arith))
    rest (suc k) e = rw (first_words s (suc n) k (suc t) r hs, lt-ltb t top (omega arith))

    go :
        (b : Bool) → ltb (suc i) s ≡ b
        → pick (ltb (suc i) (0 + s)) (found (event_of (suc i) t ∷ floor n t))
        (first_or (words_from s (suc n) k (suc t)) r)
        ≡ or_else (raised s top (event_of i t) n) r
    go true f = rw (z, f)
    go false f = rw (z, f) (rest k e)

onto_else :
    (v : Event) (x y r : After) → onto v x (or_else y r) ≡ or_else (onto v x y) r
onto_else v x y r = by_test x.some (λ e. rw e) (λ e. rw e)

or_nothing : (x : After) → (x.some ≡ false → x ≡ nothing) → or_else x nothing ≡ x
or_nothing x h = by_test x.some (λ e. if_true x.some x nothing e)
    (λ e. if_false x.some x nothing e ∙ sym (h e))
  where
    if_true : (b : Bool) (x y : After) → b ≡ true → pick b x y ≡ x
    if_true b x y e = rw e

    if_false : (b : Bool) (x y : After) → b ≡ false → pick b x y ≡ y
    if_false b x y e = rw e

raised_settled : (s top n : ℕ) (v : Event) → (raised s top v n).some ≡ false → raised s top v n ≡ nothing
raised_settled s top n v = go (ltb (suc v.symbol) s) (ltb v.stamp top) refl refl
  where
    go : (a b : Bool) → ltb (suc v.symbol) s ≡ a → ltb v.stamp top ≡ b → (raised s top v n).some ≡ false
        → raised s top v n ≡ nothing
    go true b e f h = no_way (sym (rw e at h))
    go false true e f h = no_way (sym (rw (e, f) at h))
    go false false e f h = rw (e, f)

bump_settled : (s top : ℕ) (vs : List Event) → (bump s top vs).some ≡ false → bump s top vs ≡ nothing
bump_settled s top [] h = refl
bump_settled s top (v ∷ vs) h = go (bump s top vs).some refl
  where
    go : (b : Bool) → (bump s top vs).some ≡ b → bump s top (v ∷ vs) ≡ nothing
    go true e = no_way (sym (rw e at h))
    go false e = rw e (raised_settled s top (length vs) v (rw e at h))

next_words :
    (s top n k t : ℕ) (w : List Event) (r : After) → 1 ≤ s → t + k ≡ suc top → length w ≡ n
    → fits_from s top t w ≡ true
    → word_after_or w (words_from s n k t) r ≡ or_else (bump s top w) r
unfolding words_from
next_words s top zero k t [] r hs e l f = refl
next_words s top zero k t (u ∷ w) r hs e l f = absurd (omega arith)
next_words s top (suc n) zero t [] r hs e l f = absurd (omega arith)
next_words s top (suc n) zero t (u ∷ w) r hs e l f =
    let g = fits_of s top t u w f in
    absurd (omega (arith, g.not_before, g.not_above))
next_words s top (suc n) (suc k) t [] r hs e l f = absurd (omega arith)
next_words s top (suc n) (suc k) t (u ∷ w) r hs e l f =
    go (two t u.stamp) (next_words s top (suc n) k (suc t) (u ∷ w) r hs (omega arith) l)
    (next_words s top n (suc k) t w nothing hs e (omega arith))
  where
    g : Fits s top t u w
    g = fits_of s top t u w f

    ws : List (List Event)
    ws = words_from s n (suc k) t

    go :
        Two t u.stamp
        → (fits_from s top (suc t) (u ∷ w) ≡ true
        → word_after_or (u ∷ w) (words_from s (suc n) k (suc t)) r ≡ or_else (bump s top (u ∷ w)) r)
        → (fits_from s top t w ≡ true → word_after_or w (words_from s n (suc k) t) nothing ≡ or_else (bump s top w)
        nothing)
        → word_after_or (u ∷ w) (by_symbols s 0 t (words_from s n (suc k) t) ++ words_from s (suc n) k (suc t)) r
        ≡ or_else (bump s top (u ∷ w)) r
    go (less m) later within =
        not_first (u ∷ w) (by_symbols s 0 t (words_from s n (suc k) t)) (words_from s (suc n) k (suc t)) r
        (times_symbols s 0 t u w (words_from s n (suc k) t) ∙ rw (ne_eqb u.stamp t (omega arith)))
        ∙ later (fits_later s top t (suc t) u w g m)
    go (least m) later within =
        let at : u.stamp ≡ t = omega (arith, g.not_before) in
        let fit : fits_from s top t w ≡ true = rw at at g.rest in
        let len : length w ≡ n = omega arith in
        let once : times w (words_from s n (suc k) t) ≡ 1 =
        words_once s top n (suc k) t w e ∙ rw (len, eq-eqb n n refl, fit) in
        let here_is : 1 ≤ times (u ∷ w) (by_symbols s 0 t (words_from s n (suc k) t)) =
        rw (
          times_symbols s 0 t u w (words_from s n (suc k) t),
          at,
          eq-eqb t t refl,
          le-leb 0 u.symbol (omega arith),
          lt-ltb u.symbol (0 + s) (omega (arith, g.symbol_below)),
          once,
        ) (omega arith) in
        in_first (u ∷ w) (by_symbols s 0 t (words_from s n (suc k) t)) (words_from s (suc n) k (suc t)) r here_is
        ∙ next_symbols s 0 t u w (floor n t) (words_from s n (suc k) t) (first_or (words_from s (suc n) k (suc t)) r) at
        (omega arith)
        (omega (arith, g.symbol_below))
        (omega (arith, once))
        (first_words s n k t nothing hs)
        ∙ ap₂ (λ (x y : After). onto u x y)
        (within fit ∙ or_nothing (bump s top w) (bump_settled s top w))
        (raise_last s top k n t u.symbol r hs e
        ∙ ap (λ (x : Event). or_else (raised s top x n) r) (ap (event_of u.symbol) (sym at))
        ∙ ap (λ (x : ℕ). or_else (raised s top u x) r) (sym len))
        ∙ onto_else u (bump s top w) (raised s top u (length w)) r

-- The whole list: the odometer, then the first word of the next length, then none.
abbrev pub next_or_longer : ℕ → ℕ → ℕ → List Event → After
next_or_longer s h m w =
    or_else (bump s (top_stamp h) w) (pick (ltb (length w) m) (found (floor (suc (length w)) 0)) nothing)

next_or :
    (s h m : ℕ) (w : List Event) (r : After) → 1 ≤ s → fits s h m w ≡ true
    → word_after_or w (words_up_to s h m) r
    ≡ or_else (bump s (top_stamp h) w) (pick (ltb (length w) m) (found (floor (suc (length w)) 0)) r)
unfolding words_up_to
next_or s h zero w r hs f =
    let n : length w ≡ 0 =
    omega (arith, leb-true (length w) 0 (and_left (leb (length w) 0) (fits_from s (top_stamp h) 0 w) f)) in
    next_words s (top_stamp h) 0 (stamp_count h) 0 w r hs (omega arith) n
    (and_right (leb (length w) 0) (fits_from s (top_stamp h) 0 w) f)
    ∙ rw (le-ltb (length w) 0 (omega (arith, n)))
next_or s h (suc m) w r hs f = go (two m (length w)) (next_or s h m w)
  where
    fit : fits_from s (top_stamp h) 0 w ≡ true
    fit = and_right (leb (length w) (suc m)) (fits_from s (top_stamp h) 0 w) f

    most : length w ≤ suc m
    most = leb-true (length w) (suc m) (and_left (leb (length w) (suc m)) (fits_from s (top_stamp h) 0 w) f)

    goal : Type 0
    goal =
        word_after_or w (words_up_to s h m ++ words_of s h (suc m)) r
        ≡ or_else (bump s (top_stamp h) w) (pick (ltb (length w) (suc m)) (found (floor (suc (length w)) 0)) r)

    go :
        Two m (length w)
        → ((r : After) → 1 ≤ s → fits s h m w ≡ true
        → word_after_or w (words_up_to s h m) r
        ≡ or_else (bump s (top_stamp h) w) (pick (ltb (length w) m) (found (floor (suc (length w)) 0)) r))
        → goal
    go (less l) shorter =
        let n : length w ≡ suc m = omega (arith, most) in
        not_first w (words_up_to s h m) (words_of s h (suc m)) r
        (list_once s h m w ∙ rw (lt-leb (length w) m (omega arith)))
        ∙ next_words s (top_stamp h) (suc m) (stamp_count h) 0 w r hs (omega arith) n fit
        ∙ rw (le-ltb (length w) (suc m) (omega arith))
    go (least l) shorter =
        let in_m : fits s h m w ≡ true = rw (le-leb (length w) m l) fit in
        in_first w (words_up_to s h m) (words_of s h (suc m)) r (omega (arith, list_once s h m w ∙ ap one_if in_m))
        ∙ shorter (first_or (words_of s h (suc m)) r) hs in_m
        ∙ ap (λ (x : After). or_else (bump s (top_stamp h) w)
        (pick (ltb (length w) m) (found (floor (suc (length w)) 0)) x))
        (first_words s (suc m) (top_stamp h) 0 r hs)
        ∙ rw (lt-ltb (length w) (suc m) (omega arith)) (last_length (cmp (length w) m))
      where
        last_length :
            Cmp (length w) m
            → or_else (bump s (top_stamp h) w)
            (pick (ltb (length w) m) (found (floor (suc (length w)) 0)) (found (floor (suc m) 0)))
            ≡ or_else (bump s (top_stamp h) w) (found (floor (suc (length w)) 0))
        last_length (is_lt k) = rw (lt-ltb (length w) m k)
        last_length (is_eq k) = rw (k, le-ltb m m (omega arith))
        last_length (is_gt k) = absurd (omega arith)

pub next_is :
    (s h m : ℕ) (w : List Event) → 1 ≤ s → fits s h m w ≡ true
    → word_after w (words_up_to s h m) ≡ next_or_longer s h m w
next_is s h m w hs f = after_is w (words_up_to s h m) ∙ next_or s h m w nothing hs f
