-- The events of two lent lists by place, as a loop over them meets them; a word with no refusal.
use mathlib.Core.Path.{◌≡◌, refl}
use mathlib.Core.Bool.{Bool, true, false, not, ◌||◌}
use mathlib.Core.List.{List, [], ◌∷◌}
use Prim.Native.Nat.{ℕ, suc, ◌+◌, ◌≤◌, ◌<◌}
use native.Mathlib.Numerals.{add-one}
use lib.Dec.{eqb, ltb, leb}
use lib.ListN.{length, get_or, drop, drop_of_length-le}
use lib.Seq.{drop-cons}
use borrow.Author.Tests.{eqb-true, not-false}
use Rattle.model.specs.Basics.{refuse, passes, ◌⨾◌}
use Rattle.model.specs.Words.{Event, events_of, grain_ok, event_refusal, events_refusal, word_refusal}
use Rattle.model.proofs.Logic.{neither_left}
use Rattle.model.proofs.Refusals.{Settled, refuse_settled, then_settled}
use Rattle.model.proofs.Refusals.{refused_false, first_passes, then_passes}

abbrev pub event_at : List ℕ → List ℕ → ℕ → Event
event_at xs ts i = record { symbol = get_or xs i 0; stamp = get_or ts i 0 }

-- the events from place i on are event i and those from i + 1 on
pub events_rest :
    (xs ts : List ℕ) (i : ℕ) → i < length xs → i < length ts
    → events_of (drop i xs) (drop i ts) ≡ event_at xs ts i ∷ events_of (drop (i + 1) xs) (drop (i + 1) ts)
events_rest xs ts i h g = rw (add-one i, drop-cons xs i 0 h, drop-cons ts i 0 g)

pub events_end : (xs ts : List ℕ) (i : ℕ) → length xs ≤ i → events_of (drop i xs) (drop i ts) ≡ []
events_end xs ts i h = rw (drop_of_length-le xs h)

-- a word with no refusal has as many stamps as symbols
pub counts_equal :
    (s d most : ℕ) (xs ts : List ℕ) → (word_refusal s d most xs ts).number ≡ 0 → length xs ≡ length ts
unfolding word_refusal
counts_equal s d most xs ts h =
    let count = not (eqb (length xs) (length ts)) || ltb most (length xs) in
    let events = events_refusal s 1 0 (events_of xs ts) in
    let rest = then_passes (refuse (not (grain_ok d)) 30 0) (refuse count 31 0 ⨾ events) h in
    let passed : count ≡ false = refused_false count 30 0 (first_passes (refuse count 31 0) events rest) in
    eqb-true _ _ (not-false _ (neither_left (not (eqb (length xs) (length ts))) (ltb most (length xs)) passed))

-- a word's refusal with no number is none
pub event_settled : (s i last : ℕ) (v : Event) → Settled (event_refusal s i last v)
event_settled s i last v =
    then_settled (refuse (leb s v.symbol) 32 i) (refuse (ltb v.stamp last) 33 i)
    (refuse_settled (leb s v.symbol) 31 i)
    (refuse_settled (ltb v.stamp last) 32 i)

pub events_settled : (s i last : ℕ) (vs : List Event) → Settled (events_refusal s i last vs)
events_settled s i last [] = λ h. refl
events_settled s i last (v ∷ vs) = go (passes (event_refusal s i last v)) refl (events_settled s (suc i) v.stamp vs)
  where
    go :
        (t : Bool) → passes (event_refusal s i last v) ≡ t → Settled (events_refusal s (suc i) v.stamp vs)
        → Settled (events_refusal s i last (v ∷ vs))
    go true e k = rw (e, events_refusal) k
    go false e k = rw (e, events_refusal) (event_settled s i last v)

pub word_settled : (s d most : ℕ) (xs ts : List ℕ) → Settled (word_refusal s d most xs ts)
unfolding word_refusal
word_settled s d most xs ts =
    let count = not (eqb (length xs) (length ts)) || ltb most (length xs) in
    let events = events_refusal s 1 0 (events_of xs ts) in
    then_settled (refuse (not (grain_ok d)) 30 0) (refuse count 31 0 ⨾ events) (refuse_settled (not (grain_ok d)) 29 0)
    (then_settled (refuse count 31 0) events (refuse_settled count 30 0) (events_settled s 1 0 (events_of xs ts)))
