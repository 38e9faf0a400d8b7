-- All words up to a size, in order, D being 2: their stamps are half seconds (2.6).
use Rattle.std.specs.Prelude.{Bool, true, false, ◌&&◌, not, List, [], ◌∷◌, ◌++◌, ℕ, zero, suc, ◌+◌, ◌*◌, eqb, ltb, leb}
use Rattle.std.specs.Prelude.{length, take}
use Rattle.model.specs.declared.Size.{Size}
use Rattle.model.specs.declared.Listed.{Listed}
use Rattle.model.specs.Basics.{one_if, within, same, filled, Refusal, refuse, ◌⨾◌}
use Rattle.model.specs.Rules.{most_symbols}
use Rattle.model.specs.Words.{Event, events_of}

-- The size: S symbols, 1 to 16; at most m events, m 0 to 6; stamps up to H whole seconds, H 0 to 30.
abbrev pub most_listed_events : ℕ
most_listed_events = 6

abbrev pub most_seconds : ℕ
most_seconds = 30

abbrev pub span_ok : ℕ → ℕ → Bool
span_ok m h = leb m most_listed_events && leb h most_seconds

abbrev pub size_ok : Size → Bool
size_ok z = within 1 most_symbols z.symbols && leb z.events most_listed_events && leb z.seconds most_seconds

-- D of a listed word, and of a word shown (2.10)
abbrev pub list_grain : ℕ
list_grain = 2

-- The last stamp, H whole seconds itself, and how many stamps there are from 0 on.
abbrev pub top_stamp : ℕ → ℕ
top_stamp h = list_grain * h

abbrev pub stamp_count : ℕ → ℕ
stamp_count h = suc (top_stamp h)

abbrev pub event_of : ℕ → ℕ → Event
event_of s t = record { symbol = s; stamp = t }

-- The words of one length, in order by event, stamp before symbol. First every word of a list behind one event, then
-- that for each of n symbols from i on.
abbrev pub behind : Event → List (List Event) → List (List Event)
behind v [] = []
behind v (w ∷ ws) = (v ∷ w) ∷ behind v ws

abbrev pub by_symbols : ℕ → ℕ → ℕ → List (List Event) → List (List Event)
by_symbols zero i t ws = []
by_symbols (suc n) i t ws = behind (event_of i t) ws ++ by_symbols n (suc i) t ws

-- the words of n events over S symbols, their stamps among the k from t on
unfoldable pub words_from : ℕ → ℕ → ℕ → ℕ → List (List Event)
words_from s zero k t = [] ∷ []
words_from s (suc n) zero t = []
words_from s (suc n) (suc k) t = by_symbols s 0 t (words_from s n (suc k) t) ++ words_from s (suc n) k (suc t)

abbrev pub words_of : ℕ → ℕ → ℕ → List (List Event)
words_of s h n = words_from s n (stamp_count h) 0

-- The list: shorter words first.
unfoldable pub words_up_to : ℕ → ℕ → ℕ → List (List Event)
words_up_to s h zero = words_of s h 0
words_up_to s h (suc m) = words_up_to s h m ++ words_of s h (suc m)

-- how many words of a list pass a test
unfoldable pub count_if : (List Event → Bool) → List (List Event) → ℕ
count_if p [] = 0
count_if p (w ∷ ws) = one_if (p w) + count_if p ws

abbrev pub list_of : Size → List (List Event)
list_of z = words_up_to z.symbols z.seconds z.events

abbrev pub same_event : Event → Event → Bool
same_event v w = eqb v.stamp w.stamp && eqb v.symbol w.symbol

abbrev pub same_word : List Event → List Event → Bool
same_word [] [] = true
same_word [] (w ∷ ws) = false
same_word (v ∷ vs) [] = false
same_word (v ∷ vs) (w ∷ ws) = same_event v w && same_word vs ws

-- The word after another in a list, if there is one.
pub record After : Type 0 where
  pub some : Bool
  pub word : List Event

abbrev pub first_of : List (List Event) → After
first_of [] = record { some = false; word = [] }
first_of (w ∷ ws) = record { some = true; word = w }

abbrev pub word_after : List Event → List (List Event) → After
word_after w [] = first_of []
word_after w (v ∷ ws) = elim (same_word w v) [ true ↦ first_of ws | false ↦ word_after w ws ]

-- Which words the list has: symbols below S, stamps from `last` to `top` that never fall.
abbrev pub fits_from : ℕ → ℕ → ℕ → List Event → Bool
fits_from s top last [] = true
fits_from s top last (v ∷ vs) =
    ltb v.symbol s && (leb last v.stamp && (leb v.stamp top && fits_from s top v.stamp vs))

abbrev pub fits : ℕ → ℕ → ℕ → List Event → Bool
fits s h m vs = leb (length vs) m && fits_from s (top_stamp h) 0 vs

-- A word by value: its number of events and six places, unused ones zero.
abbrev pub symbols_of : List Event → List ℕ
symbols_of [] = []
symbols_of (v ∷ vs) = v.symbol ∷ symbols_of vs

abbrev pub stamps_of : List Event → List ℕ
stamps_of [] = []
stamps_of (v ∷ vs) = v.stamp ∷ stamps_of vs

abbrev pub listed_of : List Event → Listed
listed_of vs = record {
  count = length vs;
  symbols = filled most_listed_events (symbols_of vs);
  stamps = filled most_listed_events (stamps_of vs);
}

abbrev pub events_in : Listed → List Event
events_in w = events_of (take w.count w.symbols) (take w.count w.stamps)

abbrev pub same_listed : Listed → Listed → Bool
same_listed v w = eqb v.count w.count && (same v.symbols w.symbols && same v.stamps w.stamps)

-- in the list: its events fit, and it is their word by value
unfoldable pub in_list : Size → Listed → Bool
in_list z w =
    fits z.symbols z.seconds z.events (events_in w) && same_listed (listed_of (events_in w)) w

-- 38: m, H or S out of range. 39: a word not in the list.
abbrev pub size_refusal : Size → Refusal
size_refusal z = refuse (not (size_ok z)) 38 0

unfoldable pub list_refusal : Size → Listed → Refusal
list_refusal z w = size_refusal z ⨾ refuse (not (in_list z w)) 39 0
