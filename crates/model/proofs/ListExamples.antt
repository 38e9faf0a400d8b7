-- Short lists in full, words alike, binomials, and whole answers of next_word with 38 and 39 at their edges: computed
-- from the definitions.
use mathlib.Core.Path.{◌≡◌, refl}
use mathlib.Core.Bool.{true, false}
use mathlib.Core.List.{List, [], ◌∷◌}
use Prim.Native.Nat.{ℕ, ◌*◌, ◌^◌}
use lib.Dec.{leb}
use lib.ListN.{length}
use Rattle.model.specs.declared.Size.{Size}
use Rattle.model.specs.declared.Listed.{Listed}
use Rattle.model.specs.declared.Next.{Next}
use Rattle.model.specs.Basics.{zeros, fine}
use Rattle.model.specs.Words.{Event}
use Rattle.model.specs.Alike.{alike, half_seconds, in_halves}
use Rattle.model.specs.Lists.{event_of, words_from, words_of, words_up_to, in_list}
use Rattle.model.specs.Lists.{list_refusal, count_if}
use Rattle.model.specs.Promises.{next_given}
use Rattle.model.specs.Claims.{times, before, up_to, binomial}

-- one symbol, stamps 0 to 2 half seconds, at most 2 events: 1 + 3 + 6 words
ten : List (List Event)
ten =
    [] ∷ (event_of 0 0 ∷ []) ∷ (event_of 0 1 ∷ []) ∷ (event_of 0 2 ∷ []) ∷ (event_of 0 0 ∷ event_of 0 0 ∷ [])
    ∷ (event_of 0 0 ∷ event_of 0 1 ∷ [])
    ∷ (event_of 0 0 ∷ event_of 0 2 ∷ [])
    ∷ (event_of 0 1 ∷ event_of 0 1 ∷ [])
    ∷ (event_of 0 1 ∷ event_of 0 2 ∷ [])
    ∷ (event_of 0 2 ∷ event_of 0 2 ∷ [])
    ∷ []

ten_are : words_up_to 1 1 2 ≡ ten
unfolding words_up_to words_from ten
ten_are = refl

-- two symbols: stamp before symbol
seven : List (List Event)
seven =
    [] ∷ (event_of 0 0 ∷ []) ∷ (event_of 1 0 ∷ []) ∷ (event_of 0 1 ∷ []) ∷ (event_of 1 1 ∷ []) ∷ (event_of 0 2 ∷ [])
    ∷ (event_of 1 2 ∷ [])
    ∷ []

seven_are : words_up_to 2 1 1 ≡ seven
unfolding words_up_to words_from seven
seven_are = refl

-- binomials at their ends and inside, and the count of three events over two symbols up to one second: 2^3 times 10
binomials :
    (binomial 10 4 ≡ 210) × (binomial 10 10 ≡ 1) × (binomial 10 11 ≡ 0) × (binomial 0 0 ≡ 1) × (binomial 62 2 ≡ 1891)
    × (length (words_of 2 1 3) ≡ 80)
    × (2 ^ 3 * binomial 5 3 ≡ 80)
unfolding binomial words_from
binomials = (refl, refl, refl, refl, refl, refl, refl)

-- half seconds: even on a whole second, odd between two, whatever D is
halves_are :
    (half_seconds 100 0 ≡ 0) × (half_seconds 100 1 ≡ 1) × (half_seconds 100 99 ≡ 1) × (half_seconds 100 100 ≡ 2)
    × (half_seconds 1 7 ≡ 14)
    × (half_seconds 2 7 ≡ 7)
    × (half_seconds 1000 30999 ≡ 61)
    × (in_halves 10 (event_of 0 19 ∷ event_of 1 20 ∷ []) ≡ (event_of 0 3 ∷ event_of 1 4 ∷ []))
halves_are = (refl, refl, refl, refl, refl, refl, refl, refl)

-- words alike: a part of a second is a part of a second, whatever its size; whole seconds, symbols and lengths count
alike_are :
    (alike 100 (event_of 0 123 ∷ []) 1000 (event_of 0 1999 ∷ []) ≡ true)
    × (alike 100 (event_of 0 100 ∷ []) 1000 (event_of 0 1001 ∷ []) ≡ false)
    × (alike 100 (event_of 0 123 ∷ []) 1000 (event_of 0 2230 ∷ []) ≡ false)
    × (alike 10 (event_of 0 19 ∷ event_of 1 20 ∷ []) 2 (event_of 0 3 ∷ event_of 1 4 ∷ []) ≡ true)
    × (alike 10 (event_of 0 19 ∷ event_of 1 20 ∷ []) 2 (event_of 0 3 ∷ event_of 1 5 ∷ []) ≡ false)
    × (alike 10 (event_of 0 5 ∷ []) 2 (event_of 0 2 ∷ []) ≡ false)
    × (alike 10 (event_of 0 19 ∷ []) 2 (event_of 1 3 ∷ []) ≡ false)
    × (alike 10 (event_of 0 19 ∷ []) 2 [] ≡ false)
    × (alike 10 [] 2 (event_of 0 3 ∷ []) ≡ false)
    × (alike 10 [] 2 [] ≡ true)
alike_are = (refl, refl, refl, refl, refl, refl, refl, refl, refl, refl)

-- counted in the list of ten: words with an event, a word that is there, one that is not; stamps up to an end
counts_are :
    (count_if (λ w. leb 1 (length w)) ten ≡ 9) × (times (event_of 0 1 ∷ []) ten ≡ 1)
    × (times (event_of 0 3 ∷ []) ten ≡ 0)
    × (up_to 2 (event_of 0 1 ∷ event_of 0 2 ∷ []) ≡ true)
    × (up_to 2 (event_of 0 1 ∷ event_of 0 3 ∷ []) ≡ false)
    × (up_to 0 [] ≡ true)
unfolding count_if ten
counts_are = (refl, refl, refl, refl, refl, refl)

-- the order: a shorter word first, whatever its stamps; then the first event that differs, by stamp before symbol
before_are :
    (before (event_of 1 9 ∷ []) (event_of 0 0 ∷ event_of 0 0 ∷ []) ≡ true)
    × (before (event_of 0 0 ∷ event_of 0 0 ∷ []) (event_of 1 9 ∷ []) ≡ false)
    × (before (event_of 1 0 ∷ []) (event_of 0 1 ∷ []) ≡ true)
    × (before (event_of 0 1 ∷ []) (event_of 1 0 ∷ []) ≡ false)
    × (before (event_of 0 1 ∷ []) (event_of 1 1 ∷ []) ≡ true)
    × (before (event_of 0 0 ∷ event_of 1 9 ∷ []) (event_of 1 0 ∷ event_of 0 0 ∷ []) ≡ true)
    × (before (event_of 1 0 ∷ event_of 0 0 ∷ []) (event_of 0 0 ∷ event_of 1 9 ∷ []) ≡ false)
    × (before (event_of 0 0 ∷ event_of 0 1 ∷ []) (event_of 0 0 ∷ event_of 0 2 ∷ []) ≡ true)
    × (before (event_of 1 1 ∷ []) (event_of 1 1 ∷ []) ≡ false)
before_are = (refl, refl, refl, refl, refl, refl, refl, refl, refl)

-- What next_word says, by the definition of its promise: S, m, H, and a word.
abbrev sized : ℕ → ℕ → ℕ → Size
sized s m h = record { symbols = s; events = m; seconds = h }

abbrev next : Listed → Next
next w = record { number = 0; place = 0; last = false; word = w }

abbrev last : Listed → Next
last w = record { number = 0; place = 0; last = true; word = w }

abbrev refused : ℕ → Listed → Next
refused n w = record { number = n; place = 0; last = false; word = w }

-- no event, one, two, as the six places hold them; a count and six places by hand
abbrev none : Listed
none = record { count = 0; symbols = zeros 6; stamps = zeros 6 }

abbrev single : ℕ → ℕ → Listed
single s t = record { count = 1; symbols = s ∷ zeros 5; stamps = t ∷ zeros 5 }

abbrev pair : ℕ → ℕ → ℕ → ℕ → Listed
pair s t s₂ t₂ = record { count = 2; symbols = s ∷ s₂ ∷ zeros 4; stamps = t ∷ t₂ ∷ zeros 4 }

abbrev counting : ℕ → Listed
counting n = record { count = n; symbols = zeros 6; stamps = zeros 6 }

-- S = 2, m = 2, H = 1: from the empty word; a symbol, then a stamp is raised; (0,0)(1,2); an event raised by its stamp,
-- the next one from there on; the last word of a length; the last. With m = 0 the empty word is the last.
next_are :
    (next_given (sized 2 2 1) none ≡ next (single 0 0))
    × (next_given (sized 2 2 1) (single 0 1) ≡ next (single 1 1))
    × (next_given (sized 2 2 1) (single 1 1) ≡ next (single 0 2))
    × (next_given (sized 2 2 1) (pair 1 0 1 0) ≡ next (pair 1 0 0 1))
    × (next_given (sized 2 2 1) (pair 0 0 1 2) ≡ next (pair 1 0 0 0))
    × (next_given (sized 2 2 1) (pair 1 0 1 2) ≡ next (pair 0 1 0 1))
    × (next_given (sized 2 2 1) (single 1 2) ≡ next (pair 0 0 0 0))
    × (next_given (sized 2 2 1) (pair 0 2 1 2) ≡ next (pair 1 2 0 2))
    × (next_given (sized 2 2 1) (pair 1 2 1 2) ≡ last (pair 1 2 1 2))
    × (next_given (sized 2 1 1) (single 1 2) ≡ last (single 1 2))
    × (next_given (sized 1 0 30) none ≡ last none)
unfolding list_refusal in_list words_up_to words_from
next_are = (refl, refl, refl, refl, refl, refl, refl, refl, refl, refl, refl)

-- 38 at its edges, and before 39; the largest S and H are taken, and m = 6 with six events
sizes_are :
    (next_given (sized 0 2 1) none ≡ refused 38 none)
    × (next_given (sized 17 2 1) none ≡ refused 38 none)
    × (next_given (sized 2 7 1) none ≡ refused 38 none)
    × (next_given (sized 2 2 31) none ≡ refused 38 none)
    × (next_given (sized 17 7 31) (single 1 1) ≡ refused 38 (single 1 1))
    × (next_given (sized 2 2 31) (single 2 0) ≡ refused 38 (single 2 0))
    × (next_given (sized 16 1 0) (single 14 0) ≡ next (single 15 0))
    × (next_given (sized 1 1 30) (single 0 59) ≡ next (single 0 60))
    × (next_given (sized 1 6 0) (counting 5) ≡ next (counting 6))
    × (next_given (sized 1 6 0) (counting 6) ≡ last (counting 6))
    × (list_refusal (sized 16 6 30) none ≡ fine)
unfolding list_refusal in_list words_up_to words_from
sizes_are = (refl, refl, refl, refl, refl, refl, refl, refl, refl, refl, refl)

-- 39 at its edges: a symbol of S, a stamp past 2H, a falling stamp, more than m events, more than six, an unused symbol
-- or stamp that is not zero; equal stamps are taken
abbrev unused : ℕ → ℕ → Listed
unused s t = record { count = 1; symbols = 0 ∷ 0 ∷ 0 ∷ 0 ∷ 0 ∷ s ∷ []; stamps = 0 ∷ t ∷ zeros 4 }

words_are :
    (next_given (sized 2 2 1) (single 2 0) ≡ refused 39 (single 2 0))
    × (next_given (sized 2 2 1) (single 0 3) ≡ refused 39 (single 0 3))
    × (next_given (sized 2 2 1) (pair 0 2 0 1) ≡ refused 39 (pair 0 2 0 1))
    × (next_given (sized 2 2 1) (pair 0 1 0 1) ≡ next (pair 0 1 1 1))
    × (next_given (sized 2 1 1) (pair 0 0 0 0) ≡ refused 39 (pair 0 0 0 0))
    × (next_given (sized 2 0 1) (single 0 0) ≡ refused 39 (single 0 0))
    × (next_given (sized 2 6 1) (counting 7) ≡ refused 39 (counting 7))
    × (next_given (sized 2 2 1) (unused 1 0) ≡ refused 39 (unused 1 0))
    × (next_given (sized 2 2 1) (unused 0 1) ≡ refused 39 (unused 0 1))
unfolding list_refusal in_list words_up_to words_from
words_are = (refl, refl, refl, refl, refl, refl, refl, refl, refl)
