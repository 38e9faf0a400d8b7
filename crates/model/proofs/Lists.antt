-- The list of words: how many there are, that each comes once, and that each keeps the word rules.
use mathlib.Core.Path.{◌≡◌, refl, sym, ◌∙◌, ap, ap₂}
use mathlib.Core.Bool.{Bool, true, false, ◌&&◌}
use mathlib.Core.List.{List, [], ◌∷◌, ◌++◌}
use Prim.Native.Nat.{ℕ, zero, suc, ◌+◌, ◌*◌, ◌^◌, ◌≤◌, ◌<◌}
use native.Mathlib.Omega.{arith}
use native.Mathlib.Nat.{pow-zero, pow-succ', mul-add, mul_assoc}
use lib.Dec.{eqb, ltb, leb}
use lib.ListN.{length, length-append}
use borrow.Author.Tests.{ltb-true, leb-true, lt-ltb, le-ltb, le-leb, lt-leb, eq-eqb, ne_eqb}
use Rattle.model.specs.Basics.{pick, one_if, fine}
use Rattle.model.specs.Words.{Event, events_of, word_refusal}
use Rattle.model.specs.Lists.{behind, by_symbols, words_from, words_of, words_up_to, same_event, same_word, fits_from}
use Rattle.model.specs.Lists.{fits, count_if}
use Rattle.model.specs.Lists.{event_of, top_stamp, stamp_count, list_grain, symbols_of, stamps_of}
use Rattle.model.specs.Claims.{times, binomial}
use Rattle.model.proofs.Logic.{by_test, and_left, and_right, eqb_suc, Cmp, cmp, is_lt, is_eq, is_gt, In, here}
use Rattle.model.proofs.Logic.{there}
use Rattle.model.proofs.Words.{Ordered, Below, keeps_fine}

-- How many: one law for each way to put words together.
length_behind : (v : Event) (ws : List (List Event)) → length (behind v ws) ≡ length ws
length_behind v [] = refl
length_behind v (w ∷ ws) = ap suc (length_behind v ws)

length_symbols : (n i t : ℕ) (ws : List (List Event)) → length (by_symbols n i t ws) ≡ n * length ws
length_symbols zero i t ws = omega arith
length_symbols (suc n) i t ws =
    length-append (behind (event_of i t) ws) (by_symbols n (suc i) t ws)
    ∙ ap₂ ◌+◌ (length_behind (event_of i t) ws) (length_symbols n (suc i) t ws)
    ∙ omega arith

binomial_none : (n : ℕ) (k : ℕ) → n < k → binomial n k ≡ 0
unfolding binomial
binomial_none n zero h = absurd (omega arith)
binomial_none zero (suc k) h = refl
binomial_none (suc n) (suc k) h = ap₂ ◌+◌ (binomial_none n k (omega arith)) (binomial_none n (suc k) (omega arith))

binomial_zero : (n : ℕ) → binomial n 0 ≡ 1
unfolding binomial
binomial_zero n = refl

pascal : (n k : ℕ) → binomial (suc n) (suc k) ≡ binomial n k + binomial n (suc k)
unfolding binomial
pascal n k = refl

regroup : (s p a b : ℕ) → s * (p * a) + s * p * b ≡ s * p * (a + b)
regroup s p a b = rw (mul-add (s * p) a b, mul_assoc s p a)

pub grown : (s n k t c : ℕ) → length (words_from s n (suc k) t) ≡ c
    → length (words_from s (suc n) (suc k) t) ≡ s * c + length (words_from s (suc n) k (suc t))
unfolding words_from
grown s n k t c h =
    length-append (by_symbols s 0 t (words_from s n (suc k) t)) (words_from s (suc n) k (suc t))
    ∙ ap (λ (x : ℕ). x + length (words_from s (suc n) k (suc t)))
    (length_symbols s 0 t (words_from s n (suc k) t) ∙ ap (λ (x : ℕ). s * x) h)

words_none : (s n t : ℕ) → length (words_from s (suc n) 0 t) ≡ 0
unfolding words_from
words_none s n t = refl

pub words_empty : (s k t : ℕ) → length (words_from s 0 k t) ≡ 1
unfolding words_from
words_empty s k t = refl

-- one more stamp and one more event: Pascal's rule with a factor S for the event
pub words_counted : (s n k t : ℕ) → length (words_from s n (suc k) t) ≡ s ^ n * binomial (k + n) n
words_counted s zero k t = words_empty s (suc k) t ∙ rw (binomial_zero, pow-zero) (omega arith)
words_counted s (suc n) zero t =
    let e : 0 + suc n ≡ suc (0 + n) = omega arith in
    grown s n zero t (s ^ n * binomial (0 + n) n) (words_counted s n zero t)
    ∙ rw (
      words_none s n (suc t),
      e,
      pascal (0 + n) n,
      pow-succ' s n,
      binomial_none (0 + n) (suc n) (omega arith),
      ← regroup s (s ^ n) (binomial (0 + n) n) 0,
    ) (omega arith)
words_counted s (suc n) (suc k) t =
    let e : suc k + suc n ≡ suc (suc k + n) = omega arith in
    let f : k + suc n ≡ suc k + n = omega arith in
    grown s n (suc k) t (s ^ n * binomial (suc k + n) n) (words_counted s n (suc k) t)
    ∙ ap (λ (x : ℕ). s * (s ^ n * binomial (suc k + n) n) + x) (words_counted s (suc n) k (suc t))
    ∙ rw (
      e,
      pascal (suc k + n) n,
      pow-succ' s n,
      f,
      regroup s (s ^ n) (binomial (suc k + n) n) (binomial (suc k + n) (suc n)),
    )

-- How often a word stands in a list: one law for each way to put words together.
pub count_both :
    (p : List Event → Bool) (xs ys : List (List Event)) → count_if p (xs ++ ys) ≡ count_if p xs + count_if p ys
unfolding count_if
count_both p [] ys = omega arith
count_both p (x ∷ xs) ys = ap (λ (k : ℕ). one_if (p x) + k) (count_both p xs ys) ∙ omega arith

-- tests that agree on the words of a list
pub count_same :
    (p q : List Event → Bool) (ws : List (List Event)) → ((w : List Event) → In w ws → p w ≡ q w)
    → count_if p ws ≡ count_if q ws
unfolding count_if
count_same p q [] h = refl
count_same p q (w ∷ ws) h =
    ap₂ (λ (b : Bool) (k : ℕ). one_if b + k) (h w (here refl)) (count_same p q ws (λ v i. h v (there i)))

pub none_empty : (v : Event) (ws : List (List Event)) → times [] (behind v ws) ≡ 0
unfolding count_if
none_empty v [] = refl
none_empty v (w ∷ ws) = omega (arith, none_empty v ws)

pub times_behind :
    (u v : Event) (w : List Event) (ws : List (List Event))
    → times (u ∷ w) (behind v ws) ≡ pick (same_event u v) (times w ws) 0
unfolding count_if
times_behind u v w [] = by_test (same_event u v) (λ e. rw e) (λ e. rw e)
times_behind u v w (x ∷ ws) =
    ap (λ (k : ℕ). one_if (same_event u v && same_word w x) + k) (times_behind u v w ws)
    ∙ by_test (same_event u v) (λ e. rw e) (λ e. rw e)

pub none_symbols : (n i t : ℕ) (ws : List (List Event)) → times [] (by_symbols n i t ws) ≡ 0
unfolding count_if
none_symbols zero i t ws = refl
none_symbols (suc n) i t ws =
    count_both (same_word []) (behind (event_of i t) ws) (by_symbols n (suc i) t ws)
    ∙ ap₂ ◌+◌ (none_empty (event_of i t) ws) (none_symbols n (suc i) t ws)

-- among n symbols from i on
abbrev pub among_symbols : ℕ → ℕ → ℕ → Event → Bool
among_symbols n i t u = eqb u.stamp t && (leb i u.symbol && ltb u.symbol (i + n))

one_more :
    (n i t k : ℕ) (u : Event)
    → pick (same_event u (event_of i t)) k 0 + pick (among_symbols n (suc i) t u) k 0
    ≡ pick (among_symbols (suc n) i t u) k 0
one_more n i t k u = go (eqb u.stamp t) refl (cmp u.symbol i)
  where
    x : ℕ
    x = u.symbol

    go :
        (b : Bool) → eqb u.stamp t ≡ b → Cmp x i
        → pick (same_event u (event_of i t)) k 0 + pick (among_symbols n (suc i) t u) k 0
        ≡ pick (among_symbols (suc n) i t u) k 0
    go false e c = rw e
    go true e (is_lt l) = rw (e, ne_eqb x i (omega arith), lt-leb (suc i) x (omega arith), lt-leb i x l)
    go true e (is_eq l) =
        rw (
          e,
          l,
          eq-eqb i i refl,
          lt-leb (suc i) i (omega arith),
          le-leb i i (omega arith),
          lt-ltb i (i + suc n) (omega arith),
        ) (omega arith)
    go true e (is_gt l) =
        let f : suc i + n ≡ i + suc n = omega arith in
        rw (e, ne_eqb x i (omega arith), le-leb (suc i) x l, le-leb i x (omega arith), f) (omega arith)

none_among : (i t k : ℕ) (u : Event) → pick (among_symbols 0 i t u) k 0 ≡ 0
none_among i t k u = go (eqb u.stamp t) (leb i u.symbol) refl refl
  where
    go : (a b : Bool) → eqb u.stamp t ≡ a → leb i u.symbol ≡ b → pick (among_symbols 0 i t u) k 0 ≡ 0
    go false b e f = rw e
    go true false e f = rw (e, f)
    go true true e f = rw (e, f, le-ltb u.symbol (i + 0) (omega (arith, leb-true i u.symbol f)))

pub times_symbols :
    (n i t : ℕ) (u : Event) (w : List Event) (ws : List (List Event))
    → times (u ∷ w) (by_symbols n i t ws) ≡ pick (among_symbols n i t u) (times w ws) 0
unfolding count_if
times_symbols zero i t u w ws = sym (none_among i t (times w ws) u)
times_symbols (suc n) i t u w ws =
    count_both (same_word (u ∷ w)) (behind (event_of i t) ws) (by_symbols n (suc i) t ws)
    ∙ ap₂ ◌+◌ (times_behind u (event_of i t) w ws) (times_symbols n (suc i) t u w ws)
    ∙ one_more n i t (times w ws) u

-- A word stands once in the words of its length if it fits, and never if not.
short_none : (s n t : ℕ) (w : List Event) → times w (words_from s (suc n) 0 t) ≡ 0
unfolding words_from count_if
short_none s n t w = refl

empty_once : (s k t : ℕ) → times [] (words_from s 0 k t) ≡ 1
unfolding words_from count_if
empty_once s k t = refl

long_none : (s k t : ℕ) (u : Event) (w : List Event) → times (u ∷ w) (words_from s 0 k t) ≡ 0
unfolding words_from count_if
long_none s k t u w = refl

times_grown :
    (s n k t : ℕ) (u : Event) (w : List Event)
    → times (u ∷ w) (words_from s (suc n) (suc k) t)
    ≡ pick (among_symbols s 0 t u) (times w (words_from s n (suc k) t)) 0 + times (u ∷ w)
    (words_from s (suc n) k (suc t))
unfolding words_from
times_grown s n k t u w =
    count_both (same_word (u ∷ w)) (by_symbols s 0 t (words_from s n (suc k) t)) (words_from s (suc n) k (suc t))
    ∙ ap (λ (x : ℕ). x + times (u ∷ w) (words_from s (suc n) k (suc t)))
    (times_symbols s 0 t u w (words_from s n (suc k) t))

empty_grown :
    (s n k t : ℕ) → times [] (words_from s (suc n) (suc k) t) ≡ times [] (words_from s (suc n) k (suc t))
unfolding words_from
empty_grown s n k t =
    count_both (same_word []) (by_symbols s 0 t (words_from s n (suc k) t)) (words_from s (suc n) k (suc t))
    ∙ ap (λ (x : ℕ). x + times [] (words_from s (suc n) k (suc t)))
    (none_symbols s 0 t (words_from s n (suc k) t))
    ∙ omega arith

-- what an event asks: its length, its symbol, its stamp against the least and the last, and the rest
abbrev asks : Bool → Bool → Bool → Bool → Bool → ℕ
asks len sym_in least most rest = one_if (len && (sym_in && (least && (most && rest))))

asks_not_least : (a b d e : Bool) → asks a b false d e ≡ 0
asks_not_least true true d e = refl
asks_not_least true false d e = refl
asks_not_least false b d e = refl

asks_not_most : (a b c e : Bool) → asks a b c false e ≡ 0
asks_not_most true true true e = refl
asks_not_most true true false e = refl
asks_not_most true false c e = refl
asks_not_most false b c e = refl

both_ways : (a b e : Bool) → pick b (one_if (a && e)) 0 + 0 ≡ asks a b true true e
both_ways true true e = omega arith
both_ways false true e = refl
both_ways true false e = refl
both_ways false false e = refl

-- by the first event's stamp: it is t, or it comes later, or it comes before
by_stamp :
    (s top t n : ℕ) (u : Event) (w : List Event) → t ≤ top
    → pick (among_symbols s 0 t u) (one_if (eqb (length w) n && fits_from s top t w)) 0
    + one_if (eqb (suc (length w)) (suc n) && fits_from s top (suc t) (u ∷ w))
    ≡ one_if (eqb (suc (length w)) (suc n) && fits_from s top t (u ∷ w))
by_stamp s top t n u w h = rw (eqb_suc (length w) n) (go (cmp x t))
  where
    x : ℕ
    x = u.stamp

    goal : Type 0
    goal =
        pick (among_symbols s 0 t u) (one_if (eqb (length w) n && fits_from s top t w)) 0
        + asks (eqb (length w) n) (ltb u.symbol s) (leb (suc t) u.stamp) (leb u.stamp top)
        (fits_from s top u.stamp w)
        ≡ asks (eqb (length w) n) (ltb u.symbol s) (leb t u.stamp) (leb u.stamp top)
        (fits_from s top u.stamp w)

    go : Cmp x t → goal
    go (is_lt l) =
        rw (
          ne_eqb u.stamp t (omega arith),
          lt-leb (suc t) u.stamp (omega arith),
          lt-leb t u.stamp l,
          asks_not_least (eqb (length w) n) (ltb u.symbol s) (leb u.stamp top) (fits_from s top u.stamp w),
        )
    go (is_eq l) =
        let f : 0 + s ≡ s = omega arith in
        rw (
          l,
          eq-eqb t t refl,
          le-leb 0 u.symbol (omega arith),
          f,
          lt-leb (suc t) t (omega arith),
          le-leb t t (omega arith),
          le-leb t top h,
          asks_not_least (eqb (length w) n) (ltb u.symbol s) true (fits_from s top t w),
        )
        (both_ways (eqb (length w) n) (ltb u.symbol s) (fits_from s top t w))
    go (is_gt l) =
        rw (ne_eqb u.stamp t (omega arith), le-leb (suc t) u.stamp l, le-leb t u.stamp (omega arith))
        (omega arith)

beyond_none :
    (s top t n : ℕ) (u : Event) (w : List Event) → top < t
    → one_if (eqb (suc (length w)) (suc n) && fits_from s top t (u ∷ w)) ≡ 0
beyond_none s top t n u w h =
    by_test (leb t u.stamp)
    (λ e.
    rw (lt-leb u.stamp top (omega (arith, leb-true t u.stamp e)))
    (asks_not_most (eqb (suc (length w)) (suc n)) (ltb u.symbol s) (leb t u.stamp) (fits_from s top u.stamp w)))
    (λ e.
    rw e
    (asks_not_least (eqb (suc (length w)) (suc n)) (ltb u.symbol s) (leb u.stamp top)
    (fits_from s top u.stamp w)))

no_length : (a : ℕ) (b : Bool) → one_if (eqb (suc a) 0 && b) ≡ 0
no_length a b = rw (ne_eqb (suc a) 0 (omega arith))

no_suc : (a : ℕ) (b : Bool) → one_if (eqb 0 (suc a) && b) ≡ 0
no_suc a b = rw (ne_eqb 0 (suc a) (omega arith))

pub words_once :
    (s top n k t : ℕ) (w : List Event) → t + k ≡ suc top
    → times w (words_from s n k t) ≡ one_if (eqb (length w) n && fits_from s top t w)
words_once s top zero k t [] e = empty_once s k t
words_once s top zero k t (u ∷ w) e = long_none s k t u w ∙ sym (no_length (length w) (fits_from s top t (u ∷ w)))
words_once s top (suc n) zero t [] e = short_none s n t [] ∙ sym (no_suc n true)
words_once s top (suc n) zero t (u ∷ w) e =
    short_none s n t (u ∷ w) ∙ sym (beyond_none s top t n u w (omega arith))
words_once s top (suc n) (suc k) t [] e =
    empty_grown s n k t ∙ words_once s top (suc n) k (suc t) [] (omega arith)
words_once s top (suc n) (suc k) t (u ∷ w) e =
    times_grown s n k t u w
    ∙ ap₂ (λ (x y : ℕ). pick (among_symbols s 0 t u) x 0 + y) (words_once s top n (suc k) t w e)
    (words_once s top (suc n) k (suc t) (u ∷ w) (omega arith))
    ∙ by_stamp s top t n u w (omega arith)

-- The whole list.
leb_more : (a m : ℕ) (b : Bool) → one_if (leb a m && b) + one_if (eqb a (suc m) && b) ≡ one_if (leb a (suc m) && b)
leb_more a m b = go (cmp a (suc m))
  where
    go : Cmp a (suc m) → one_if (leb a m && b) + one_if (eqb a (suc m) && b) ≡ one_if (leb a (suc m) && b)
    go (is_lt l) =
        rw (le-leb a m (omega arith), le-leb a (suc m) (omega arith), ne_eqb a (suc m) (omega arith)) (omega arith)
    go (is_eq l) =
        rw (l, lt-leb (suc m) m (omega arith), le-leb (suc m) (suc m) (omega arith), eq-eqb (suc m) (suc m) refl)
        (omega arith)
    go (is_gt l) = rw (lt-leb a m (omega arith), lt-leb a (suc m) l, ne_eqb a (suc m) (omega arith))

leb_none : (a : ℕ) → leb a 0 ≡ eqb a 0
leb_none zero = refl
leb_none (suc a) = rw (lt-leb (suc a) 0 (omega arith), ne_eqb (suc a) 0 (omega arith))

pub list_once : (s h m : ℕ) (w : List Event) → times w (words_up_to s h m) ≡ one_if (fits s h m w)
unfolding words_up_to
list_once s h zero w =
    words_once s (top_stamp h) 0 (stamp_count h) 0 w (omega arith)
    ∙ ap (λ (b : Bool). one_if (b && fits_from s (top_stamp h) 0 w)) (sym (leb_none (length w)))
list_once s h (suc m) w =
    count_both (same_word w) (words_up_to s h m) (words_of s h (suc m))
    ∙ ap₂ ◌+◌ (list_once s h m w) (words_once s (top_stamp h) (suc m) (stamp_count h) 0 w (omega arith))
    ∙ leb_more (length w) m (fits_from s (top_stamp h) 0 w)

-- A listed word keeps the word rules.
-- what it keeps, event by event
pub record Fits (s top last : ℕ) (v : Event) (vs : List Event) : Type 0 where
  pub symbol_below : v.symbol < s
  pub not_before : last ≤ v.stamp
  pub not_above : v.stamp ≤ top
  pub rest : fits_from s top v.stamp vs ≡ true

pub fits_of : (s top last : ℕ) (v : Event) (vs : List Event) → fits_from s top last (v ∷ vs) ≡ true
    → Fits s top last v vs
fits_of s top last v vs h =
    let rest_is : Bool = fits_from s top v.stamp vs in
    let a = and_right (ltb v.symbol s) (leb last v.stamp && (leb v.stamp top && rest_is)) h in
    let b = and_right (leb last v.stamp) (leb v.stamp top && rest_is) a in
    record {
      symbol_below =
          ltb-true v.symbol s
          (and_left (ltb v.symbol s) (leb last v.stamp && (leb v.stamp top && rest_is)) h);
      not_before = leb-true last v.stamp (and_left (leb last v.stamp) (leb v.stamp top && rest_is) a);
      not_above = leb-true v.stamp top (and_left (leb v.stamp top) rest_is b);
      rest = and_right (leb v.stamp top) rest_is b;
    }

pub fits_below : (s top last : ℕ) (vs : List Event) → fits_from s top last vs ≡ true → Below s vs
fits_below s top last [] h = tt
fits_below s top last (v ∷ vs) h =
    let f : Fits s top last v vs = fits_of s top last v vs h in
    (f.symbol_below, fits_below s top v.stamp vs f.rest)

pub fits_ordered : (s top last : ℕ) (vs : List Event) → fits_from s top last vs ≡ true → Ordered last vs
fits_ordered s top last [] h = tt
fits_ordered s top last (v ∷ vs) h =
    let f : Fits s top last v vs = fits_of s top last v vs h in
    (f.not_before, fits_ordered s top v.stamp vs f.rest)

pub events_back : (vs : List Event) → events_of (symbols_of vs) (stamps_of vs) ≡ vs
events_back [] = refl
events_back (v ∷ vs) = ap (λ (ws : List Event). v ∷ ws) (events_back vs)

pub symbols_length : (vs : List Event) → length (symbols_of vs) ≡ length vs
symbols_length [] = refl
symbols_length (v ∷ vs) = ap suc (symbols_length vs)

pub stamps_length : (vs : List Event) → length (stamps_of vs) ≡ length vs
stamps_length [] = refl
stamps_length (v ∷ vs) = ap suc (stamps_length vs)

-- two lists of one length, and their events' symbols and stamps
pub symbols_back : (xs ts : List ℕ) → length xs ≡ length ts → symbols_of (events_of xs ts) ≡ xs
symbols_back [] ts e = refl
symbols_back (x ∷ xs) [] e = absurd (omega arith)
symbols_back (x ∷ xs) (t ∷ ts) e = ap (λ (l : List ℕ). x ∷ l) (symbols_back xs ts (omega arith))

pub stamps_back : (xs ts : List ℕ) → length xs ≡ length ts → stamps_of (events_of xs ts) ≡ ts
stamps_back [] [] e = refl
stamps_back [] (t ∷ ts) e = absurd (omega arith)
stamps_back (x ∷ xs) [] e = absurd (omega arith)
stamps_back (x ∷ xs) (t ∷ ts) e = ap (λ (l : List ℕ). t ∷ l) (stamps_back xs ts (omega arith))

pub listed_legal :
    (s h m : ℕ) (w : List Event) → fits s h m w ≡ true → word_refusal s list_grain m (symbols_of w) (stamps_of w) ≡ fine
listed_legal s h m w f =
    let n : length w ≤ m = leb-true (length w) m (and_left (leb (length w) m) (fits_from s (top_stamp h) 0 w) f) in
    let g : fits_from s (top_stamp h) 0 w ≡ true = and_right (leb (length w) m) (fits_from s (top_stamp h) 0 w) f in
    keeps_fine s list_grain m (symbols_of w) (stamps_of w)
    (record {
      grain_least = omega arith;
      grain_most = omega arith;
      lengths_equal = symbols_length w ∙ sym (stamps_length w);
      events_most = omega (arith, symbols_length w);
      symbols_below = rw (events_back w) (fits_below s (top_stamp h) 0 w g);
      stamps_ordered = rw (events_back w) (fits_ordered s (top_stamp h) 0 w g);
    })
