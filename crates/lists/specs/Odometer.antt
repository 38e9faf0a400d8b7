-- The next word of a list as an odometer finds it: which event is raised, and the word that comes of it.
use Rattle.std.specs.Prelude.{◌≡◌, Bool, true, false, ◌&&◌, ◌||◌, List, [], ◌∷◌, ◌++◌, ℕ, zero, suc, ◌-◌, ◌<◌, eqb}
use Rattle.std.specs.Prelude.{ltb, Option, Some, None, Result, Ok, Err}
use Rattle.std.specs.Prelude.{length, take, drop, replicate}
use Rattle.model.specs.declared.Size.{Size}
use Rattle.model.specs.declared.Listed.{Listed}
use Rattle.model.specs.declared.Next.{Next}
use Rattle.model.specs.declared.Refused.{Refused}
use Rattle.model.specs.Faults.{fault_number}
use Rattle.model.specs.Basics.{pick, one_if, zeros}
use Rattle.model.specs.Words.{Event}
use Rattle.numbers.specs.Lent.{all_zero}
use Rattle.model.specs.Lists.{most_listed_events, event_of, size_ok, in_list}

-- six places of each kind: what a word by value has
pub record Six (w : Listed) : Type 0 where
  pub symbols_six : length w.symbols ≡ most_listed_events
  pub stamps_six : length w.stamps ≡ most_listed_events

-- unused places are zero
abbrev pub rest_zero : Listed → Bool
rest_zero w = all_zero (drop w.count w.symbols) && all_zero (drop w.count w.stamps)

-- Can an event be raised, S symbols and stamps up to `top`? Its symbol is, while there is one more, else its stamp.
abbrev pub can_raise : ℕ → ℕ → Event → Bool
can_raise s top v = ltb (suc v.symbol) s || ltb v.stamp top

abbrev pub raised_event : ℕ → Event → Event
raised_event s v = pick (ltb (suc v.symbol) s) (event_of (suc v.symbol) v.stamp) (event_of 0 (suc v.stamp))

-- the events up to and with the last that can be raised; 0 for none
abbrev pub up_to_raised : ℕ → ℕ → List Event → ℕ
up_to_raised s top [] = 0
up_to_raised s top (v ∷ vs) =
    pick (eqb (up_to_raised s top vs) 0) (one_if (can_raise s top v)) (suc (up_to_raised s top vs))

-- those up to and with an event that was found
abbrev pub up_to : Option ℕ → ℕ
up_to None = 0
up_to (Some i) = suc i

-- n events at their least from stamp t on
abbrev pub least_from : ℕ → ℕ → List Event
least_from zero t = []
least_from (suc n) t = event_of 0 t ∷ least_from n t

-- event i raised, and those after it at their least
abbrev pub raised_at : ℕ → ℕ → List Event → List Event
raised_at s i [] = []
raised_at s zero (v ∷ vs) = raised_event s v ∷ least_from (length vs) (raised_event s v).stamp
raised_at s (suc i) (v ∷ vs) = v ∷ raised_at s i vs

-- What stands at place j once event i has a new symbol and a new stamp: the events after it take symbol 0 and that
-- stamp.
abbrev pub symbol_at : ℕ → ℕ → ℕ → ℕ → ℕ
symbol_at j i was symbol = pick (ltb j i) was (pick (ltb i j) 0 symbol)

abbrev pub stamp_at : ℕ → ℕ → ℕ → ℕ → ℕ → ℕ
stamp_at j i n was stamp = pick (ltb j i) was (pick (ltb j n) stamp was)

-- the word so
abbrev pub placed : Listed → ℕ → ℕ → ℕ → Listed
placed w i symbol stamp = record {
  count = w.count;
  symbols = take i w.symbols ++ (symbol ∷ zeros (most_listed_events - suc i));
  stamps = take i w.stamps ++ (replicate (w.count - i) stamp ++ drop w.count w.stamps);
}

-- A word of the list, and an event of it.
pub record Raising (size : Size) (word : Listed) (i : ℕ) : Type 0 where
  pub size_ok : size_ok size ≡ true
  pub in_list : in_list size word ≡ true
  pub below : i < word.count

-- the record that crosses the call, by the outcome; the word given stands in it where no other does
abbrev pub next_in : Listed → Result (Option Listed) Refused → Next
next_in word (Ok (Some next)) = record { number = 0; place = 0; last = false; word = next }
next_in word (Ok None) = record { number = 0; place = 0; last = true; word = word }
next_in word (Err r) = record { number = fault_number r.fault; place = r.place; last = false; word = word }
