-- A word that keeps the rules, as plain facts: D from 1 to 1,000, as many stamps as symbols, not too many events,
-- symbols below S, stamps in order. It is not refused exactly if it keeps them.
use mathlib.Core.Path.{◌≡◌, refl, sym, ◌∙◌, ap}
use mathlib.Core.Bool.{Bool, true, false, ◌||◌, not}
use mathlib.Core.List.{List, [], ◌∷◌}
use Prim.Native.Nat.{ℕ, suc, ◌≤◌, ◌<◌}
use native.Mathlib.Omega.{arith}
use lib.Dec.{eqb, ltb, leb}
use lib.ListN.{length}
use borrow.Author.Tests.{ltb-false, leb-false, eqb-true, eq-eqb, le-ltb, lt-leb, not-false}
use Rattle.model.specs.Basics.{Refusal, fine, refuse, passes, ◌⨾◌}
use Rattle.model.specs.Words.{Event, events_of, grain_ok, event_refusal, events_refusal, word_refusal}
use Rattle.model.proofs.Logic.{by_test, within_least, within_most, in_within, neither_left, neither_right}
use Rattle.model.proofs.Refusals.{fine_number, refused_false, refuse_fine, first_passes, then_passes}
use Rattle.model.proofs.Refusals.{both_fine, Settled, refuse_settled, then_settled}

-- no stamp below the one before
abbrev pub Ordered : ℕ → List Event → Type 0
Ordered last [] = Unit {0}
Ordered last (v ∷ vs) = (last ≤ v.stamp) × Ordered v.stamp vs

-- symbols below S
abbrev pub Below : ℕ → List Event → Type 0
Below s [] = Unit {0}
Below s (v ∷ vs) = (v.symbol < s) × Below s vs

pub record Keeps (s d most : ℕ) (xs ts : List ℕ) : Type 0 where
  pub grain_least : 1 ≤ d
  pub grain_most : d ≤ 1000
  pub lengths_equal : length xs ≡ length ts
  pub events_most : length xs ≤ most
  pub symbols_below : Below s (events_of xs ts)
  pub stamps_ordered : Ordered 0 (events_of xs ts)

-- One event: 32, then 33.
module _ (s i last : ℕ) (v : Event) where
  abbrev bad_symbol : Refusal
  bad_symbol = refuse (leb s v.symbol) 32 i

  abbrev bad_stamp : Refusal
  bad_stamp = refuse (ltb v.stamp last) 33 i

  event_settled : Settled (event_refusal s i last v)
  event_settled =
      then_settled bad_symbol bad_stamp (refuse_settled (leb s v.symbol) 31 i)
      (refuse_settled (ltb v.stamp last) 32 i)

  event_keeps : (event_refusal s i last v).number ≡ 0 → (v.symbol < s) × (last ≤ v.stamp)
  event_keeps h = (
    leb-false s v.symbol (refused_false (leb s v.symbol) 31 i (first_passes bad_symbol bad_stamp h)),
    ltb-false v.stamp last (refused_false (ltb v.stamp last) 32 i (then_passes bad_symbol bad_stamp h)),
  )

  event_fine : v.symbol < s → last ≤ v.stamp → event_refusal s i last v ≡ fine
  event_fine b o =
      both_fine bad_symbol bad_stamp
      (fine_number (refuse_fine (leb s v.symbol) 32 i (lt-leb s v.symbol b)))
      (refuse_fine (ltb v.stamp last) 33 i (le-ltb v.stamp last o))

-- The events: the first event's refusal comes before the others'.
events_step :
    (s i last : ℕ) (v : Event) (vs : List Event)
    → events_refusal s i last (v ∷ vs) ≡ (event_refusal s i last v ⨾ events_refusal s (suc i) v.stamp vs)
events_step s i last v vs =
    by_test (passes (event_refusal s i last v)) (λ e. rw (e, events_refusal)) (λ e. rw (e, events_refusal))

events_settled : (s i last : ℕ) (vs : List Event) → Settled (events_refusal s i last vs)
events_settled s i last [] = λ h. refl
events_settled s i last (v ∷ vs) =
    rw (events_step s i last v vs)
    (then_settled (event_refusal s i last v) (events_refusal s (suc i) v.stamp vs) (event_settled s i last v)
    (events_settled s (suc i) v.stamp vs))

pub events_keep :
    (s i last : ℕ) (vs : List Event) → (events_refusal s i last vs).number ≡ 0 → Below s vs × Ordered last vs
events_keep s i last [] h = (tt, tt)
events_keep s i last (v ∷ vs) h =
    let f : Refusal = event_refusal s i last v in
    let g : Refusal = events_refusal s (suc i) v.stamp vs in
    let both : (f ⨾ g).number ≡ 0 = sym (ap (λ (x : Refusal). x.number) (events_step s i last v vs)) ∙ h in
    let now_keeps = event_keeps s i last v (first_passes f g both) in
    let later_keep = events_keep s (suc i) v.stamp vs (then_passes f g both) in
    ((now_keeps.0, later_keep.0), (now_keeps.1, later_keep.1))

pub events_fine : (s i last : ℕ) (vs : List Event) → Below s vs → Ordered last vs → events_refusal s i last vs ≡ fine
events_fine s i last [] b o = refl
events_fine s i last (v ∷ vs) b o =
    events_step s i last v vs
    ∙ both_fine (event_refusal s i last v) (events_refusal s (suc i) v.stamp vs)
    (fine_number (event_fine s i last v b.0 o.0))
    (events_fine s (suc i) v.stamp vs b.1 o.1)

-- The whole word: 30, then 31, then 32 and 33.
module _ (s d most : ℕ) (xs ts : List ℕ) where
  abbrev counts_bad : Bool
  counts_bad = not (eqb (length xs) (length ts)) || ltb most (length xs)

  abbrev bad_grain : Refusal
  bad_grain = refuse (not (grain_ok d)) 30 0

  abbrev bad_count : Refusal
  bad_count = refuse counts_bad 31 0

  abbrev bad_event : Refusal
  bad_event = events_refusal s 1 0 (events_of xs ts)

  -- number 0 is no refusal at all
  pub word_settled : Settled (word_refusal s d most xs ts)
  unfolding word_refusal
  word_settled =
      then_settled bad_grain (bad_count ⨾ bad_event) (refuse_settled (not (grain_ok d)) 29 0)
      (then_settled bad_count bad_event (refuse_settled counts_bad 30 0) (events_settled s 1 0 (events_of xs ts)))

  parts_keep : grain_ok d ≡ true → counts_bad ≡ false → bad_event.number ≡ 0 → Keeps s d most xs ts
  parts_keep grain count event =
      let differ : Bool = not (eqb (length xs) (length ts)) in
      let too_many : Bool = ltb most (length xs) in
      let events = events_keep s 1 0 (events_of xs ts) event in
      record {
        grain_least = within_least 1 1000 d grain;
        grain_most = within_most 1 1000 d grain;
        lengths_equal =
            eqb-true (length xs) (length ts)
            (not-false (eqb (length xs) (length ts)) (neither_left differ too_many count));
        events_most = ltb-false most (length xs) (neither_right differ too_many count);
        symbols_below = events.0;
        stamps_ordered = events.1;
      }

  pub word_keeps : (word_refusal s d most xs ts).number ≡ 0 → Keeps s d most xs ts
  unfolding word_refusal
  word_keeps h =
      let no_grain = refused_false (not (grain_ok d)) 29 0 (first_passes bad_grain (bad_count ⨾ bad_event) h) in
      let rest = then_passes bad_grain (bad_count ⨾ bad_event) h in
      parts_keep (not-false (grain_ok d) no_grain)
      (refused_false counts_bad 30 0 (first_passes bad_count bad_event rest))
      (then_passes bad_count bad_event rest)

  pub fine_keeps : word_refusal s d most xs ts ≡ fine → Keeps s d most xs ts
  fine_keeps h = word_keeps (fine_number h)

  count_fine : length xs ≡ length ts → length xs ≤ most → bad_count ≡ fine
  count_fine e m = rw (eq-eqb (length xs) (length ts) e, le-ltb most (length xs) m)

  pub keeps_fine : Keeps s d most xs ts → word_refusal s d most xs ts ≡ fine
  unfolding word_refusal
  keeps_fine k =
      let grain : bad_grain ≡ fine = rw (in_within 1 1000 d k.grain_least k.grain_most) in
      both_fine bad_grain (bad_count ⨾ bad_event) (fine_number grain)
      (both_fine bad_count bad_event (fine_number (count_fine k.lengths_equal k.events_most))
      (events_fine s 1 0 (events_of xs ts) k.symbols_below k.stamps_ordered))

-- as many events as symbols
pub events_length : (xs ts : List ℕ) → length xs ≡ length ts → length (events_of xs ts) ≡ length xs
events_length [] ts h = refl
events_length (x ∷ xs) [] h = absurd (omega arith)
events_length (x ∷ xs) (t ∷ ts) h = ap suc (events_length xs ts (omega arith))
