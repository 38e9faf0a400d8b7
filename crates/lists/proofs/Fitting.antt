-- A word is in the list: its events fit, its unused places are zero.
use mathlib.Core.Path.{◌≡◌, refl, sym, ◌∙◌, ap, ap₂}
use mathlib.Core.Bool.{Bool, true, false, ◌&&◌}
use mathlib.Core.List.{List, [], ◌∷◌, ◌++◌}
use Prim.Native.Nat.{ℕ, min, ◌+◌, ◌-◌, ◌≤◌, ◌<◌}
use native.Mathlib.Omega.{arith}
use lib.Dec.{eqb, leb}
use Rattle.std.specs.List.{list_all}
use lib.ListN.{length, get_or, take, drop, take-append-drop, length-take, length-drop, drop_of_length-le}
use lib.Seq.{length-take-le, get_or-take, take-length}
use borrow.Author.Tests.{leb-true, eqb-true, lt-ltb, le-ltb, le-leb, lt-leb, eq-eqb, ne_eqb}
use Rattle.model.specs.declared.Size.{Size}
use Rattle.model.specs.declared.Listed.{Listed}
use Rattle.model.specs.Basics.{within, same, zeros, filled}
use Rattle.model.specs.Words.{events_of}
use Rattle.model.specs.Rules.{most_symbols}
use Rattle.model.specs.Lists.{most_listed_events, most_seconds, size_ok, top_stamp, fits_from, fits}
use Rattle.model.specs.Lists.{listed_of}
use Rattle.model.specs.Lists.{events_in, same_listed, in_list}
use Rattle.model.proofs.Logic.{and_left, and_right, within_least, within_most}
use Rattle.numbers.specs.Lent.{all_zero}
use Rattle.numbers.proofs.Zeros.{same_zeros}
use Rattle.lists.specs.Odometer.{Six, rest_zero}
use Rattle.lists.proofs.Places.{events_count, symbols_are, stamps_are, event_at_lem}

and_no : (a : Bool) → (a && false) ≡ false
and_no true = refl
and_no false = refl

-- the event that a turn of the loop sees
pub record Seen (w : Listed) (i x t : ℕ) : Type 0 where
  pub below : i < w.count
  pub symbol_is : x ≡ get_or w.symbols i 0
  pub stamp_is : t ≡ get_or w.stamps i 0

pub seen :
    (w : Listed) → Six w → w.count ≤ most_listed_events → {i x t : ℕ}
    → (i < length (take w.count w.symbols)) × (i < length (take w.count w.stamps))
    × ((d : ℕ) → x ≡ get_or (take w.count w.symbols) i d) × ((d : ℕ) → t ≡ get_or (take w.count w.stamps) i d)
    → Seen w i x t
seen w f h {i} (p, q, x_is, t_is) =
    let below : i < w.count = omega (arith, p, length-take-le w.count w.symbols (omega (arith, f.symbols_six))) in
    record {
      below = below;
      symbol_is = x_is 0 ∙ get_or-take w.count w.symbols i 0 below;
      stamp_is = t_is 0 ∙ get_or-take w.count w.stamps i 0 below;
    }

-- all of them were seen
pub seen_all :
    (w : Listed) → Six w → w.count ≤ most_listed_events → {i : ℕ}
    → i ≡ min (length (take w.count w.symbols)) (length (take w.count w.stamps)) → w.count ≤ i
seen_all w f h e =
    omega (
      arith,
      e,
      length-take-le w.count w.symbols (omega (arith, f.symbols_six)),
      length-take-le w.count w.stamps (omega (arith, f.stamps_six)),
    )

-- the loop over the events: what is left fits from the last stamp on exactly if all of them fit
pub record Fit (s top : ℕ) (w : Listed) (last i : ℕ) : Type 0 where
  pub turns : i ≤ w.count
  pub rest_is : fits_from s top last (drop i (events_in w)) ≡ fits_from s top 0 (events_in w)

pub fit_start : (s top : ℕ) (w : Listed) → Fit s top w 0 0
fit_start s top w = record { turns = omega arith; rest_is = refl }

module _ {s top last i : ℕ} {w : Listed} (inv : Fit s top w last i) (f : Six w) (h : w.count ≤ most_listed_events) where
  pub fit_end : w.count ≤ i → true ≡ fits_from s top 0 (events_in w)
  fit_end g =
      sym (ap (fits_from s top last) (drop_of_length-le (events_in w) {i = i} (omega (arith, events_count w f h))))
      ∙ inv.rest_is

  module _ {x t : ℕ} (e : Seen w i x t) where
    now_is :
        fits_from s top last (record { symbol = x; stamp = t } ∷ drop (i + 1) (events_in w))
        ≡ fits_from s top 0 (events_in w)
    now_is =
        ap₂ (λ (a b : ℕ). fits_from s top last (record { symbol = a; stamp = b } ∷ drop (i + 1) (events_in w)))
        e.symbol_is e.stamp_is
        ∙ ap (fits_from s top last) (sym (event_at_lem w f h i e.below)) ∙ inv.rest_is

    pub fit_symbol : s ≤ x → false ≡ fits_from s top 0 (events_in w)
    fit_symbol p = rw (← now_is, le-ltb x s p)

    module _ (p : x < s) where
      pub fit_falls : t < last → false ≡ fits_from s top 0 (events_in w)
      fit_falls q = rw (← now_is, lt-ltb x s p, lt-leb last t q)

      module _ (q : last ≤ t) where
        pub fit_late : top < t → false ≡ fits_from s top 0 (events_in w)
        fit_late r = rw (← now_is, lt-ltb x s p, le-leb last t q, lt-leb t top r)

        pub fit_turn : {j : ℕ} → j ≡ i + 1 → t ≤ top → Fit s top w t j
        fit_turn j r = record {
          turns = omega (arith, e.below);
          rest_is = rw (j, ← now_is, lt-ltb x s p, le-leb last t q, le-leb t top r);
        }

-- unused places, each asked for
abbrev pub is_zero : ℕ → Bool
is_zero x = eqb x 0

pub rest_whole : (n : ℕ) (xs : List ℕ) → take (length xs - n) (drop n xs) ≡ drop n xs
rest_whole n xs = let e : length xs - n ≡ length (drop n xs) = sym (length-drop n xs) in rw e (take-length (drop n xs))

pub each_zero : (xs : List ℕ) → list_all is_zero xs ≡ all_zero xs
each_zero [] = refl
each_zero (x ∷ xs) = ap (λ t. is_zero x && t) (each_zero xs)

-- unused places against the word filled up
same_front : (ys zs xs : List ℕ) → same (ys ++ zs) (ys ++ xs) ≡ same zs xs
same_front [] zs xs = refl
same_front (y ∷ ys) zs xs = rw (eq-eqb y y refl) (same_front ys zs xs)

same_filled : (n k : ℕ) (xs : List ℕ) → length xs ≡ k → n ≤ k → same (filled k (take n xs)) xs ≡ all_zero (drop n xs)
same_filled n k xs e h =
    let left : k - length (take n xs) ≡ length (drop n xs) =
    omega (arith, length-take-le n xs (omega arith), length-drop n xs) in
    ap (λ (m : ℕ). same (take n xs ++ zeros m) xs) left
    ∙ ap (same (take n xs ++ zeros (length (drop n xs)))) (sym (take-append-drop n xs))
    ∙ same_front (take n xs) (zeros (length (drop n xs))) (drop n xs)
    ∙ same_zeros (drop n xs)

same_listed_lem : (w : Listed) → Six w → w.count ≤ most_listed_events
    → same_listed (listed_of (events_in w)) w ≡ rest_zero w
same_listed_lem w f h =
    rw (
      eq-eqb (length (events_in w)) w.count (events_count w f h),
      symbols_are w f h,
      stamps_are w f h,
      same_filled w.count most_listed_events w.symbols f.symbols_six h,
      same_filled w.count most_listed_events w.stamps f.stamps_six h,
    )

-- in_list
most_length : (w : Listed) → Six w → length (events_in w) ≤ most_listed_events
most_length w f =
    omega (
      arith,
      events_most (take w.count w.symbols) (take w.count w.stamps),
      length-take w.count w.symbols,
      f.symbols_six,
    )
  where
    events_most : (xs ts : List ℕ) → length (events_of xs ts) ≤ length xs
    events_most [] ts = omega arith
    events_most (x ∷ xs) [] = omega arith
    events_most (x ∷ xs) (t ∷ ts) = omega (arith, events_most xs ts)

module _ (z : Size) (w : Listed) (f : Six w) where
  pub over_six : most_listed_events < w.count → false ≡ in_list z w
  unfolding in_list
  over_six h =
      let other : length (events_in w) ≡ w.count → ⊥ = λ e. omega (arith, e, most_length w f) in
      rw (ne_eqb (length (events_in w)) w.count other)
      (sym (and_no (fits z.symbols z.seconds z.events (events_in w))))

  module _ (h : w.count ≤ most_listed_events) where
    pub too_long : z.events < w.count → false ≡ in_list z w
    unfolding in_list
    too_long g = rw (lt-leb (length (events_in w)) z.events (omega (arith, events_count w f h)))

    module _ (g : w.count ≤ z.events) where
      pub not_zero : rest_zero w ≡ false → false ≡ in_list z w
      unfolding in_list
      not_zero e = rw (same_listed_lem w f h, e) (sym (and_no (fits z.symbols z.seconds z.events (events_in w))))

      pub events_decide :
          rest_zero w ≡ true → (r : Bool) → r ≡ fits_from z.symbols (top_stamp z.seconds) 0 (events_in w)
          → r ≡ in_list z w
      unfolding in_list
      events_decide e r k = k ∙ go (fits_from z.symbols (top_stamp z.seconds) 0 (events_in w))
        where
          go : (b : Bool) → b ≡ ((leb (length (events_in w)) z.events && b) && same_listed (listed_of (events_in w)) w)
          go true =
              rw (le-leb (length (events_in w)) z.events (omega (arith, events_count w f h)), same_listed_lem w f h, e)
          go false = rw (le-leb (length (events_in w)) z.events (omega (arith, events_count w f h)))

-- a size in its ranges, and a word of the list
pub record InRange (z : Size) : Type 0 where
  pub some_symbols : 1 ≤ z.symbols
  pub most_symbols : z.symbols ≤ most_symbols
  pub most_events : z.events ≤ most_listed_events
  pub most_seconds : z.seconds ≤ most_seconds

pub in_range : (z : Size) → size_ok z ≡ true → InRange z
in_range z h =
    let a = within 1 most_symbols z.symbols in
    let b = leb z.events most_listed_events in
    let c = leb z.seconds most_seconds in
    let front = and_left (a && b) c h in
    record {
      some_symbols = within_least 1 most_symbols z.symbols (and_left a b front);
      most_symbols = within_most 1 most_symbols z.symbols (and_left a b front);
      most_events = leb-true z.events most_listed_events (and_right a b front);
      most_seconds = leb-true z.seconds most_seconds (and_right (a && b) c h);
    }

pub record Member (z : Size) (w : Listed) : Type 0 where
  pub most_count : w.count ≤ most_listed_events
  pub count_within : w.count ≤ z.events
  pub rest_zero : rest_zero w ≡ true
  pub all_fit : fits z.symbols z.seconds z.events (events_in w) ≡ true

pub member : (z : Size) (w : Listed) → Six w → in_list z w ≡ true → Member z w
unfolding in_list
member z w f h =
    let a = fits z.symbols z.seconds z.events (events_in w) in
    let b = same_listed (listed_of (events_in w)) w in
    let fit : a ≡ true = and_left a b h in
    let same_is : b ≡ true = and_right a b h in
    let counts : length (events_in w) ≡ w.count =
    eqb-true (length (events_in w)) w.count
    (and_left (eqb (length (events_in w)) w.count)
    (same (listed_of (events_in w)).symbols w.symbols && same (listed_of (events_in w)).stamps w.stamps)
    same_is) in
    let most : w.count ≤ most_listed_events = omega (arith, counts, most_length w f) in
    record {
      most_count = most;
      count_within =
          omega (
            arith,
            counts,
            leb-true (length (events_in w)) z.events
                (and_left (leb (length (events_in w)) z.events)
                (fits_from z.symbols (top_stamp z.seconds) 0 (events_in w))
                fit),
          );
      rest_zero = sym (same_listed_lem w f most) ∙ same_is;
      all_fit = fit;
    }
