-- Words alike (2.6): equal symbols, equal whole seconds, fractions zero together, each word with its own D; and half
-- seconds, which say of a stamp just that.
use Rattle.std.specs.Prelude.{Bool, true, false, ◌&&◌, List, [], ◌∷◌, ℕ, ◌+◌, ◌*◌, eqb, leb}
use Rattle.model.specs.Basics.{one_if, quotient, remainder}
use Rattle.model.specs.Words.{Event}

-- the whole seconds of a stamp or an age, and 1 where a fraction of a second is left
abbrev pub whole_seconds : ℕ → ℕ → ℕ
whole_seconds d t = quotient t d

abbrev pub fraction : ℕ → ℕ → ℕ
fraction d t = one_if (leb 1 (remainder t d))

abbrev pub alike_stamps : ℕ → ℕ → ℕ → ℕ → Bool
alike_stamps d t e u = eqb (whole_seconds d t) (whole_seconds e u) && eqb (fraction d t) (fraction e u)

abbrev pub alike : ℕ → List Event → ℕ → List Event → Bool
alike d [] e [] = true
alike d [] e (w ∷ ws) = false
alike d (v ∷ vs) e [] = false
alike d (v ∷ vs) e (w ∷ ws) =
    eqb v.symbol w.symbol && (alike_stamps d v.stamp e w.stamp && alike d vs e ws)

-- Half seconds: even on a whole second, odd for all of what lies between two.
abbrev pub half_seconds : ℕ → ℕ → ℕ
half_seconds d t = 2 * whole_seconds d t + fraction d t

-- a word with its stamps in half seconds: under D = 2 it is alike
abbrev pub in_halves : ℕ → List Event → List Event
in_halves d [] = []
in_halves d (v ∷ vs) = record { symbol = v.symbol; stamp = half_seconds d v.stamp } ∷ in_halves d vs
