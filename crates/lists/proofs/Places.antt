-- A word by value: it has six places for symbols and six for stamps, and its events stand there in order.
use mathlib.Core.Path.{◌≡◌, refl, sym, ◌∙◌, ap₂}
use mathlib.Core.List.{List, [], ◌∷◌}
use Prim.Native.Nat.{ℕ, zero, suc, ◌+◌, ◌≤◌, ◌<◌}
use native.Mathlib.Omega.{arith}
use lib.ListN.{length, take, drop}
use lib.Seq.{length-take-le, get_or-take}
use mir.Val.{Val}
use denote.Laws.{Is}
use denote.Struct.Declared.{row}
use Rattle.model.specs.contracts.Listed.{the_type}
use Rattle.model.specs.declared.Listed.{Listed}
use Rattle.model.specs.Words.{Event, events_of}
use Rattle.model.specs.Lists.{most_listed_events, events_in, symbols_of, stamps_of}
use Rattle.lists.specs.Odometer.{Six}
use Rattle.model.proofs.Words.{events_length}
use Rattle.model.proofs.Events.{event_at, events_rest}
use Rattle.model.proofs.Lists.{symbols_back, stamps_back}

-- what owning a word tells
pub six : (w : Listed) (vs : List Val) → Is (row the_type) w vs → Six w
six w vs is = record {
  symbols_six = is.1.1.1.0.1.0.1;
  stamps_six = is.1.1.1.1.0.1.0.1;
}

drop_events :
    (i : ℕ) (xs ts : List ℕ) → length xs ≡ length ts → drop i (events_of xs ts) ≡ events_of (drop i xs) (drop i ts)
drop_events zero xs ts h = refl
drop_events (suc i) [] ts h = refl
drop_events (suc i) (x ∷ xs) [] h = absurd (omega arith)
drop_events (suc i) (x ∷ xs) (t ∷ ts) h = drop_events i xs ts (omega arith)

-- the events of a word with at most six
module _ (w : Listed) (f : Six w) (h : w.count ≤ most_listed_events) where
  symbols_taken : length (take w.count w.symbols) ≡ w.count
  symbols_taken = length-take-le w.count w.symbols (omega (arith, f.symbols_six))

  stamps_taken : length (take w.count w.stamps) ≡ w.count
  stamps_taken = length-take-le w.count w.stamps (omega (arith, f.stamps_six))

  taken_both : length (take w.count w.symbols) ≡ length (take w.count w.stamps)
  taken_both = symbols_taken ∙ sym stamps_taken

  pub events_count : length (events_in w) ≡ w.count
  events_count = events_length (take w.count w.symbols) (take w.count w.stamps) taken_both ∙ symbols_taken

  pub symbols_are : symbols_of (events_in w) ≡ take w.count w.symbols
  symbols_are = symbols_back (take w.count w.symbols) (take w.count w.stamps) taken_both

  pub stamps_are : stamps_of (events_in w) ≡ take w.count w.stamps
  stamps_are = stamps_back (take w.count w.symbols) (take w.count w.stamps) taken_both

  -- the events from place i on are event i and those from i + 1 on
  pub event_at_lem :
      (i : ℕ) → i < w.count
      → drop i (events_in w) ≡ event_at w.symbols w.stamps i ∷ drop (i + 1) (events_in w)
  event_at_lem i g =
      let xs : List ℕ = take w.count w.symbols in
      let ts : List ℕ = take w.count w.stamps in
      drop_events i xs ts taken_both
      ∙ events_rest xs ts i (omega (arith, symbols_taken)) (omega (arith, stamps_taken))
      ∙ ap₂ (λ (v : Event) (vs : List Event). v ∷ vs)
      (ap₂ (λ (x t : ℕ). record { symbol = x; stamp = t }) (get_or-take w.count w.symbols i 0 g)
      (get_or-take w.count w.stamps i 0 g))
      (sym (drop_events (i + 1) xs ts taken_both))
