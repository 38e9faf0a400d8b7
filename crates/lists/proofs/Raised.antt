-- Which event is raised, and the word that comes of it.
use mathlib.Core.Path.{◌≡◌, refl, sym, ◌∙◌, ap, ap₂}
use mathlib.Core.Bool.{Bool, true, false}
use mathlib.Core.List.{List, [], ◌∷◌, ◌++◌, append_assoc}
use Prim.Native.Nat.{ℕ, zero, suc, ◌+◌, ◌-◌, ◌≤◌, ◌<◌}
use native.Mathlib.Omega.{arith}
use lib.Dec.{eqb, ltb, leb}
use lib.ListN.{length, get_or, take, drop, replicate, length-append, length-drop, length-replicate, drop_of_length-le}
use lib.Seq.{ext_get_or, length-take-le, take-take}
use borrow.Author.Tests.{lt-ltb, le-ltb, ne_eqb}
use Rattle.model.specs.declared.Size.{Size}
use Rattle.model.specs.declared.Listed.{Listed}
use Rattle.model.specs.Basics.{pick, one_if, zeros, filled}
use Rattle.model.specs.Words.{Event}
use Rattle.model.specs.Rules.{most_symbols}
use Rattle.model.specs.Lists.{most_listed_events, most_seconds, event_of, fits_from, symbols_of, stamps_of, events_in}
use Rattle.model.specs.Lists.{listed_of}
use Rattle.model.specs.Lists.{top_stamp}
use Rattle.model.proofs.Logic.{by_test, ltb_suc, zeros_at, or_left, or_right, neither_left, neither_right, and_right}
use Rattle.model.proofs.Events.{event_at}
use Rattle.model.proofs.Lists.{symbols_length, stamps_length, fits_of}
use Rattle.model.proofs.NextWord.{nothing, found, bump, floor, raised}
use Rattle.numbers.specs.Lent.{all_zero}
use Rattle.numbers.proofs.Zeros.{zeros_are}
use Rattle.lists.specs.Odometer.{Six, rest_zero, can_raise, raised_event, up_to_raised, least_from, raised_at}
use Rattle.lists.specs.Odometer.{symbol_at}
use Rattle.lists.specs.Odometer.{stamp_at, placed, Raising}
use Rattle.lists.proofs.Fitting.{in_range, member}
use Rattle.lists.proofs.Places.{events_count, symbols_are, stamps_are, event_at_lem}

-- Looking from the end: from event i on none can be raised.
pub record Stuck (s top : ℕ) (w : Listed) (i : ℕ) : Type 0 where
  pub within : i ≤ w.count
  pub none_there : up_to_raised s top (drop i (events_in w)) ≡ 0

module _ (s top : ℕ) where
  -- what stands before a raised event counts
  raised_later :
      (i : ℕ) (vs : List Event) → i ≤ length vs → 0 < up_to_raised s top (drop i vs)
      → up_to_raised s top vs ≡ i + up_to_raised s top (drop i vs)
  raised_later zero vs h g = omega arith
  raised_later (suc i) [] h g = absurd (omega arith)
  raised_later (suc i) (v ∷ vs) h g =
      let k : up_to_raised s top vs ≡ i + up_to_raised s top (drop i vs) = raised_later i vs (omega arith) g in
      rw (ne_eqb (up_to_raised s top vs) 0 (λ (e : up_to_raised s top vs ≡ 0). omega (arith, e, k))) (omega (arith, k))

  pub up_to_most : (vs : List Event) → up_to_raised s top vs ≤ length vs
  up_to_most [] = omega arith
  up_to_most (v ∷ vs) =
      by_test (eqb (up_to_raised s top vs) 0) (λ e. rw e (one (can_raise s top v)))
      (λ e. rw e (omega (arith, up_to_most vs)))
    where
      one : (b : Bool) → one_if b ≤ suc (length vs)
      one true = omega arith
      one false = omega arith

  pub stuck_start : (w : Listed) → Six w → w.count ≤ most_listed_events → (i : ℕ) → i ≡ w.count → Stuck s top w i
  stuck_start w f h i e = record {
    within = omega arith;
    none_there = ap (up_to_raised s top) (drop_of_length-le (events_in w) {i = i} (omega (arith, events_count w f h)));
  }

module _ {s top i : ℕ} {w : Listed} (inv : Stuck s top w i) (f : Six w) (h : w.count ≤ most_listed_events) where
  pub stuck_all : i ≤ 0 → 0 ≡ up_to_raised s top (events_in w)
  stuck_all g =
      let z : i ≡ 0 = omega arith in
      sym inv.none_there ∙ ap (λ (k : ℕ). up_to_raised s top (drop k (events_in w))) z

  -- the event before place i
  module _ (g : 0 < i) where
    now_is :
        up_to_raised s top (drop (i - 1) (events_in w))
        ≡ one_if (can_raise s top (event_at w.symbols w.stamps (i - 1)))
    now_is =
        let back : i - 1 + 1 ≡ i = omega arith in
        let rest : up_to_raised s top (drop (i - 1 + 1) (events_in w)) ≡ 0 = rw back inv.none_there in
        ap (up_to_raised s top) (event_at_lem w f h (i - 1) (omega (arith, inv.within))) ∙ rw rest

    can_raise_lem :
        can_raise s top (event_at w.symbols w.stamps (i - 1)) ≡ true → i ≡ up_to_raised s top (events_in w)
    can_raise_lem e =
        let one : up_to_raised s top (drop (i - 1) (events_in w)) ≡ 1 = now_is ∙ ap one_if e in
        let up : up_to_raised s top (events_in w) ≡ i - 1 + up_to_raised s top (drop (i - 1) (events_in w)) =
        raised_later s top (i - 1) (events_in w) (omega (arith, events_count w f h, inv.within)) (omega (arith, one)) in
        omega (arith, one, up)

    pub by_symbol : get_or w.symbols (i - 1) 0 + 1 < s → i ≡ up_to_raised s top (events_in w)
    by_symbol p =
        can_raise_lem
        (or_left (ltb (suc (get_or w.symbols (i - 1) 0)) s) (ltb (get_or w.stamps (i - 1) 0) top)
        (lt-ltb (suc (get_or w.symbols (i - 1) 0)) s (omega arith)))

    pub by_stamp : get_or w.stamps (i - 1) 0 < top → i ≡ up_to_raised s top (events_in w)
    by_stamp p =
        can_raise_lem
        (or_right (ltb (suc (get_or w.symbols (i - 1) 0)) s) (ltb (get_or w.stamps (i - 1) 0) top)
        (lt-ltb (get_or w.stamps (i - 1) 0) top p))

    pub stuck_turn : s ≤ get_or w.symbols (i - 1) 0 + 1 → top ≤ get_or w.stamps (i - 1) 0 → Stuck s top w (i - 1)
    stuck_turn p q = record {
      within = omega (arith, inv.within);
      none_there =
          now_is
          ∙ rw (le-ltb (suc (get_or w.symbols (i - 1) 0)) s (omega arith), le-ltb (get_or w.stamps (i - 1) 0) top q);
    }

-- Six places, place by place.
symbols_at :
    (k i j : ℕ) (xs : List ℕ) (symbol : ℕ) → i ≤ length xs
    → get_or (take i xs ++ (symbol ∷ zeros k)) j 0 ≡ symbol_at j i (get_or xs j 0) symbol
symbols_at k zero zero xs symbol h = refl
symbols_at k zero (suc j) xs symbol h =
    rw (le-ltb (suc j) 0 (omega arith), lt-ltb 0 (suc j) (omega arith)) (zeros_at k j)
symbols_at k (suc i) j [] symbol h = absurd (omega arith)
symbols_at k (suc i) zero (x ∷ xs) symbol h = rw (lt-ltb 0 (suc i) (omega arith))
symbols_at k (suc i) (suc j) (x ∷ xs) symbol h =
    rw (ltb_suc j i, ltb_suc i j) (symbols_at k i j xs symbol (omega arith))

run_at :
    (n j : ℕ) (xs : List ℕ) (v : ℕ) → n ≤ length xs
    → get_or (replicate n v ++ drop n xs) j 0 ≡ pick (ltb j n) v (get_or xs j 0)
run_at zero j xs v h = rw (le-ltb j 0 (omega arith))
run_at (suc n) j [] v h = absurd (omega arith)
run_at (suc n) zero (x ∷ xs) v h = rw (lt-ltb 0 (suc n) (omega arith))
run_at (suc n) (suc j) (x ∷ xs) v h = rw (ltb_suc j n) (run_at n j xs v (omega arith))

stamps_at :
    (i n j : ℕ) (xs : List ℕ) (v : ℕ) → i ≤ n → n ≤ length xs
    → get_or (take i xs ++ (replicate (n - i) v ++ drop n xs)) j 0 ≡ stamp_at j i n (get_or xs j 0) v
stamps_at zero n j xs v g h =
    let all : n - 0 ≡ n = omega arith in
    rw (all, le-ltb j 0 (omega arith)) (run_at n j xs v h)
stamps_at (suc i) zero j xs v g h = absurd (omega arith)
stamps_at (suc i) (suc n) j [] v g h = absurd (omega arith)
stamps_at (suc i) (suc n) zero (x ∷ xs) v g h = rw (lt-ltb 0 (suc i) (omega arith))
stamps_at (suc i) (suc n) (suc j) (x ∷ xs) v g h =
    let less_one : suc n - suc i ≡ n - i = omega arith in
    rw (less_one, ltb_suc j i, ltb_suc j n) (stamps_at i n j xs v (omega arith) (omega arith))

abbrev six_of : (ℕ → ℕ) → List ℕ
six_of f = f 0 ∷ f 1 ∷ f 2 ∷ f 3 ∷ f 4 ∷ f 5 ∷ []

six_are : (f : ℕ → ℕ) (l : List ℕ) → length l ≡ most_listed_events → ((j : ℕ) → get_or l j 0 ≡ f j) → six_of f ≡ l
six_are f l e h = ext_get_or 0 (six_of f) l (sym e) (λ j g. at j g ∙ sym (h j))
  where
    at : (j : ℕ) → j < most_listed_events → get_or (six_of f) j 0 ≡ f j
    at zero g = refl
    at (suc zero) g = refl
    at (suc (suc zero)) g = refl
    at (suc (suc (suc zero))) g = refl
    at (suc (suc (suc (suc zero)))) g = refl
    at (suc (suc (suc (suc (suc zero))))) g = refl
    at (suc (suc (suc (suc (suc (suc j)))))) g = absurd (omega arith)

module _ (w : Listed) (i symbol stamp : ℕ) (f : Six w) (h : w.count ≤ most_listed_events) (g : i < w.count) where
  placed_symbols : six_of (λ j. symbol_at j i (get_or w.symbols j 0) symbol) ≡ (placed w i symbol stamp).symbols
  placed_symbols =
      six_are (λ j. symbol_at j i (get_or w.symbols j 0) symbol)
      (take i w.symbols ++ (symbol ∷ zeros (most_listed_events - suc i)))
      (length-append (take i w.symbols) (symbol ∷ zeros (most_listed_events - suc i))
      ∙ omega (
        arith,
        length-take-le i w.symbols (omega (arith, f.symbols_six)),
        length-replicate {A = ℕ} (most_listed_events - suc i) 0,
      ))
      (λ j. symbols_at (most_listed_events - suc i) i j w.symbols symbol (omega (arith, f.symbols_six)))

  placed_stamps : six_of (λ j. stamp_at j i w.count (get_or w.stamps j 0) stamp) ≡ (placed w i symbol stamp).stamps
  placed_stamps =
      let run : List ℕ = replicate (w.count - i) stamp in
      six_are (λ j. stamp_at j i w.count (get_or w.stamps j 0) stamp)
      (take i w.stamps ++ (run ++ drop w.count w.stamps))
      (length-append (take i w.stamps) (run ++ drop w.count w.stamps)
      ∙ omega (
        arith,
        length-append run (drop w.count w.stamps),
        length-take-le i w.stamps (omega (arith, f.stamps_six)),
        length-replicate (w.count - i) stamp,
        length-drop w.count w.stamps,
        f.stamps_six,
      ))
      (λ j. stamps_at i w.count j w.stamps stamp (omega arith) (omega (arith, f.stamps_six)))

  pub place_is :
      {xs ts : List ℕ} → xs ≡ six_of (λ j. symbol_at j i (get_or w.symbols j 0) symbol)
      → ts ≡ six_of (λ j. stamp_at j i w.count (get_or w.stamps j 0) stamp)
      → ◌≡◌ {A = Listed} (record { count = w.count; symbols = xs; stamps = ts }) (placed w i symbol stamp)
  place_is p q =
      ap₂ (λ (a b : List ℕ). record { count = w.count; symbols = a; stamps = b }) (p ∙ placed_symbols)
      (q ∙ placed_stamps)

-- six numbers, each with its equation
pub six_equal :
    {a b c d e f a' b' c' d' e' f' : ℕ} → a ≡ a' → b ≡ b' → c ≡ c' → d ≡ d' → e ≡ e' → f ≡ f'
    → (a ∷ b ∷ c ∷ d ∷ e ∷ f ∷ []) ≡ (a' ∷ b' ∷ c' ∷ d' ∷ e' ∷ f' ∷ [])
six_equal p q r s t u = cc

-- The events after one was raised.
never_event : (v : Event) (rest : List Event) → ◌≡◌ {A = List Event} [] (v ∷ rest) → ⊥
never_event v rest e = omega (arith, ap length e)

pub least_length : (n t : ℕ) → length (least_from n t) ≡ n
least_length zero t = refl
least_length (suc n) t = ap suc (least_length n t)

pub least_symbols : (n t : ℕ) → symbols_of (least_from n t) ≡ zeros n
least_symbols zero t = refl
least_symbols (suc n) t = ap (λ (xs : List ℕ). 0 ∷ xs) (least_symbols n t)

pub least_stamps : (n t : ℕ) → stamps_of (least_from n t) ≡ replicate n t
least_stamps zero t = refl
least_stamps (suc n) t = ap (λ (xs : List ℕ). t ∷ xs) (least_stamps n t)

module _ (s : ℕ) where
  raised_length : (i : ℕ) (vs : List Event) → length (raised_at s i vs) ≡ length vs
  raised_length i [] = refl
  raised_length zero (v ∷ vs) = ap suc (least_length (length vs) (raised_event s v).stamp)
  raised_length (suc i) (v ∷ vs) = ap suc (raised_length i vs)

  raised_symbols :
      (i : ℕ) (vs rest : List Event) (v : Event) → drop i vs ≡ v ∷ rest
      → symbols_of (raised_at s i vs) ≡ take i (symbols_of vs)
      ++ ((raised_event s v).symbol ∷ zeros (length vs - suc i))
  raised_symbols zero [] rest v e = absurd (never_event v rest e)
  raised_symbols (suc i) [] rest v e = absurd (never_event v rest e)
  raised_symbols zero (u ∷ vs) rest v e =
      let first : u ≡ v = cc in
      let k : suc (length vs) - 1 ≡ length vs = omega arith in
      rw (first, k)
      (ap (λ (xs : List ℕ). (raised_event s v).symbol ∷ xs) (least_symbols (length vs) (raised_event s v).stamp))
  raised_symbols (suc i) (u ∷ vs) rest v e =
      let k : suc (length vs) - suc (suc i) ≡ length vs - suc i = omega arith in
      rw k (ap (λ (xs : List ℕ). u.symbol ∷ xs) (raised_symbols i vs rest v e))

  raised_stamps :
      (i : ℕ) (vs rest : List Event) (v : Event) → drop i vs ≡ v ∷ rest
      → stamps_of (raised_at s i vs) ≡ take i (stamps_of vs) ++ replicate (length vs - i) (raised_event s v).stamp
  raised_stamps zero [] rest v e = absurd (never_event v rest e)
  raised_stamps (suc i) [] rest v e = absurd (never_event v rest e)
  raised_stamps zero (u ∷ vs) rest v e =
      let first : u ≡ v = cc in
      let k : suc (length vs) - 0 ≡ suc (length vs) = omega arith in
      rw (first, k)
      (ap (λ (xs : List ℕ). (raised_event s v).stamp ∷ xs) (least_stamps (length vs) (raised_event s v).stamp))
  raised_stamps (suc i) (u ∷ vs) rest v e =
      let k : suc (length vs) - suc i ≡ length vs - i = omega arith in
      rw k (ap (λ (xs : List ℕ). u.stamp ∷ xs) (raised_stamps i vs rest v e))

pub zeros_both : (a b : ℕ) → zeros a ++ zeros b ≡ zeros (a + b)
zeros_both zero b = let e : 0 + b ≡ b = omega arith in rw e
zeros_both (suc a) b =
    let e : suc a + b ≡ suc (a + b) = omega arith in rw e (ap (λ (xs : List ℕ). 0 ∷ xs) (zeros_both a b))

-- raise: the word placed is the word with event i raised
filled_up :
    (k n : ℕ) (xs ys zs : List ℕ) → length xs ≡ k → n ≤ k → all_zero (drop n xs) ≡ true → length (ys ++ zs) ≡ n
    → filled k (ys ++ zs) ≡ ys ++ (zs ++ drop n xs)
filled_up k n xs ys zs e h z l =
    let left : k - length (ys ++ zs) ≡ length (drop n xs) = omega (arith, l, length-drop n xs) in
    ap (λ (m : ℕ). (ys ++ zs) ++ zeros m) left
    ∙ ap (λ (r : List ℕ). (ys ++ zs) ++ r) (sym (zeros_are (drop n xs) z))
    ∙ append_assoc ys zs (drop n xs)

module _
    (s i : ℕ) (w : Listed) (f : Six w) (h : w.count ≤ most_listed_events) (z : rest_zero w ≡ true) (g : i < w.count)
  where
    abbrev after : List Event
    after = raised_at s i (events_in w)

    abbrev up : Event
    up = raised_event s (event_at w.symbols w.stamps i)

    after_count : length after ≡ w.count
    after_count = raised_length s i (events_in w) ∙ events_count w f h

    after_symbols : symbols_of after ≡ take i w.symbols ++ (up.symbol ∷ zeros (w.count - suc i))
    after_symbols =
        raised_symbols s i (events_in w) (drop (i + 1) (events_in w)) (event_at w.symbols w.stamps i)
        (event_at_lem w f h i g)
        ∙ ap₂ (λ (a : List ℕ) (b : ℕ). take i a ++ (up.symbol ∷ zeros (b - suc i))) (symbols_are w f h)
        (events_count w f h)
        ∙ ap (λ (a : List ℕ). a ++ (up.symbol ∷ zeros (w.count - suc i)))
        (take-take i w.count w.symbols (omega arith))

    after_stamps : stamps_of after ≡ take i w.stamps ++ replicate (w.count - i) up.stamp
    after_stamps =
        raised_stamps s i (events_in w) (drop (i + 1) (events_in w)) (event_at w.symbols w.stamps i)
        (event_at_lem w f h i g)
        ∙ ap₂ (λ (a : List ℕ) (b : ℕ). take i a ++ replicate (b - i) up.stamp) (stamps_are w f h) (events_count w f h)
        ∙ ap (λ (a : List ℕ). a ++ replicate (w.count - i) up.stamp)
        (take-take i w.count w.stamps (omega arith))

    filled_symbols :
        filled most_listed_events (symbols_of after)
        ≡ take i w.symbols ++ (up.symbol ∷ zeros (most_listed_events - suc i))
    filled_symbols =
        let left : most_listed_events - length (symbols_of after) ≡ most_listed_events - w.count =
        omega (arith, symbols_length after, after_count) in
        let all : w.count - suc i + (most_listed_events - w.count) ≡ most_listed_events - suc i = omega arith in
        ap₂ (λ (a : List ℕ) (b : ℕ). a ++ zeros b) after_symbols left
        ∙ append_assoc (take i w.symbols) (up.symbol ∷ zeros (w.count - suc i)) (zeros (most_listed_events - w.count))
        ∙ ap (λ (a : List ℕ). take i w.symbols ++ (up.symbol ∷ a))
        (zeros_both (w.count - suc i) (most_listed_events - w.count) ∙ ap zeros all)

    filled_stamps :
        filled most_listed_events (stamps_of after)
        ≡ take i w.stamps ++ (replicate (w.count - i) up.stamp ++ drop w.count w.stamps)
    filled_stamps =
        ap (filled most_listed_events) after_stamps
        ∙ filled_up most_listed_events w.count w.stamps (take i w.stamps) (replicate (w.count - i) up.stamp)
        f.stamps_six h
        (and_right (all_zero (drop w.count w.symbols)) (all_zero (drop w.count w.stamps)) z)
        (sym (ap length after_stamps) ∙ stamps_length after ∙ after_count)

    raised_is : listed_of after ≡ placed w i up.symbol up.stamp
    raised_is =
        ap (λ (n : ℕ). record { count = n; symbols = (listed_of after).symbols; stamps = (listed_of after).stamps })
        after_count
        ∙ ap₂ (λ (a b : List ℕ). record { count = w.count; symbols = a; stamps = b }) filled_symbols filled_stamps

    abbrev symbol : ℕ
    symbol = get_or w.symbols i 0

    abbrev stamp : ℕ
    stamp = get_or w.stamps i 0

    abbrev either : Bool → Event
    either b = pick b (event_of (suc symbol) stamp) (event_of 0 (suc stamp))

    -- its symbol is raised
    pub symbol_raised : symbol + 1 < s → placed w i (symbol + 1) stamp ≡ listed_of after
    symbol_raised p =
        let one : symbol + 1 ≡ suc symbol = omega arith in
        sym
        (raised_is
        ∙ ap (λ (v : Event). placed w i v.symbol v.stamp) (ap either (lt-ltb (suc symbol) s (omega arith)))
        ∙ ap (λ (x : ℕ). placed w i x stamp) (sym one))

    -- its stamp is
    pub stamp_raised : s ≤ symbol + 1 → placed w i 0 (stamp + 1) ≡ listed_of after
    stamp_raised p =
        let one : stamp + 1 ≡ suc stamp = omega arith in
        sym
        (raised_is
        ∙ ap (λ (v : Event). placed w i v.symbol v.stamp) (ap either (le-ltb (suc symbol) s (omega arith)))
        ∙ ap (λ (x : ℕ). placed w i 0 x) (sym one))

-- a stamp of a word that fits ends in time
stamp_most :
    (s top last i : ℕ) (vs rest : List Event) (v : Event) → fits_from s top last vs ≡ true → drop i vs ≡ v ∷ rest
    → v.stamp ≤ top
stamp_most s top last zero [] rest v h e = absurd (never_event v rest e)
stamp_most s top last (suc i) [] rest v h e = absurd (never_event v rest e)
stamp_most s top last zero (u ∷ vs) rest v h e =
    let first : u ≡ v = cc in
    rw (← first) (fits_of s top last u vs h).not_above
stamp_most s top last (suc i) (u ∷ vs) rest v h e =
    stamp_most s top u.stamp i vs rest v (fits_of s top last u vs h).rest e

-- what raise may count on
pub record RaiseFacts (z : Size) (w : Listed) (i : ℕ) : Type 0 where
  pub place_of : i < w.count
  pub most_count : w.count ≤ most_listed_events
  pub most_symbols : z.symbols ≤ most_symbols
  pub most_stamp : get_or w.stamps i 0 ≤ top_stamp most_seconds
  pub rest_zero : rest_zero w ≡ true

pub raisable_at : {z : Size} {w : Listed} {i : ℕ} → Six w → Raising z w i → RaiseFacts z w i
raisable_at {z} {w} {i} f r =
    let k = in_range z r.size_ok in
    let m = member z w f r.in_list in
    let fit =
    and_right (leb (length (events_in w)) z.events) (fits_from z.symbols (top_stamp z.seconds) 0 (events_in w))
    m.all_fit in
    record {
      place_of = r.below;
      most_count = m.most_count;
      most_symbols = k.most_symbols;
      most_stamp =
          omega (
            arith,
            k.most_seconds,
            stamp_most z.symbols (top_stamp z.seconds) 0 i (events_in w) (drop (i + 1) (events_in w))
                (event_at w.symbols w.stamps i)
                fit
                (event_at_lem w f m.most_count i r.below),
          );
      rest_zero = m.rest_zero;
    }

-- the odometer of the list
pub floor_is : (n t : ℕ) → floor n t ≡ least_from n t
floor_is zero t = refl
floor_is (suc n) t = ap (λ (vs : List Event). event_of 0 t ∷ vs) (floor_is n t)

module _ (s top : ℕ) where
  not_raised : (v : Event) (n : ℕ) → can_raise s top v ≡ false → raised s top v n ≡ nothing
  not_raised v n h =
      rw (
        neither_left (ltb (suc v.symbol) s) (ltb v.stamp top) h,
        neither_right (ltb (suc v.symbol) s) (ltb v.stamp top) h,
      )

  is_raised :
      (v : Event) (n : ℕ) → can_raise s top v ≡ true
      → raised s top v n ≡ found (raised_event s v ∷ least_from n (raised_event s v).stamp)
  is_raised v n h = go (ltb (suc v.symbol) s) refl
    where
      go :
          (b : Bool) → ltb (suc v.symbol) s ≡ b
          → raised s top v n ≡ found (raised_event s v ∷ least_from n (raised_event s v).stamp)
      go true e = rw (e, floor_is n v.stamp)
      go false e =
          let g : ltb v.stamp top ≡ true = rw e at h in
          rw (e, g, floor_is n (suc v.stamp))

  more : (k : ℕ) → eqb (suc k) 0 ≡ false
  more k = ne_eqb (suc k) 0 (λ (e : suc k ≡ 0). omega (arith, e))

  pub bump_none : (vs : List Event) → up_to_raised s top vs ≡ 0 → bump s top vs ≡ nothing
  bump_none [] h = refl
  bump_none (v ∷ vs) h = go (up_to_raised s top vs) (can_raise s top v) refl refl (bump_none vs)
    where
      go :
          (k : ℕ) (b : Bool) → up_to_raised s top vs ≡ k → can_raise s top v ≡ b
          → (up_to_raised s top vs ≡ 0 → bump s top vs ≡ nothing)
          → bump s top (v ∷ vs) ≡ nothing
      go zero false e g later = rw (later e) (not_raised v (length vs) g)
      go zero true e g later = let n : ◌≡◌ {A = ℕ} 1 0 = rw (e, g) at h in absurd (omega arith)
      go (suc k) b e g later = let n : suc (suc k) ≡ 0 = rw (e, more k) at h in absurd (omega arith)

  pub bump_raised : (i : ℕ) (vs : List Event) → up_to_raised s top vs ≡ suc i → bump s top vs ≡ found (raised_at s i vs)
  bump_raised i [] h = absurd (omega arith)
  bump_raised zero (v ∷ vs) h = go (up_to_raised s top vs) (can_raise s top v) refl refl
    where
      go :
          (k : ℕ) (b : Bool) → up_to_raised s top vs ≡ k → can_raise s top v ≡ b
          → bump s top (v ∷ vs) ≡ found (raised_at s 0 (v ∷ vs))
      go zero true e g = rw (bump_none vs e) (is_raised v (length vs) g)
      go zero false e g = let n : ◌≡◌ {A = ℕ} 0 1 = rw (e, g) at h in absurd (omega arith)
      go (suc k) b e g = let n : suc (suc k) ≡ 1 = rw (e, more k) at h in absurd (omega arith)
  bump_raised (suc i) (v ∷ vs) h = go (up_to_raised s top vs) (can_raise s top v) refl refl (bump_raised i vs)
    where
      go :
          (k : ℕ) (b : Bool) → up_to_raised s top vs ≡ k → can_raise s top v ≡ b
          → (up_to_raised s top vs ≡ suc i → bump s top vs ≡ found (raised_at s i vs))
          → bump s top (v ∷ vs) ≡ found (raised_at s (suc i) (v ∷ vs))
      go zero true e g later = let n : 1 ≡ suc (suc i) = rw (e, g) at h in absurd (omega arith)
      go zero false e g later = let n : 0 ≡ suc (suc i) = rw (e, g) at h in absurd (omega arith)
      go (suc k) b e g later =
          let n : suc (suc k) ≡ suc (suc i) = rw (e, more k) at h in
          rw (later (e ∙ omega arith))
