-- The way back from a goal: how many events lead there, which, and after which pauses.
use Rattle.std.specs.Prelude.{◌≡◌, true, List, [], ◌∷◌, ℕ, zero, suc, ◌+◌, ◌%◌, ◌≤◌, ◌<◌, length}
use Rattle.model.specs.Tables.{Tables}
use Rattle.model.specs.Basics.{all_below, zeros}
use Rattle.inclusion.specs.Graphs.{Graph, graph_of, Paired}
use Rattle.inclusion.specs.Parts.{low, high, level_mark, way, level_marks}
use Rattle.inclusion.specs.Scans.{Came}

-- the states below a place
pub record Standing (s : List ℕ) (n : ℕ) : Type 0 where
  pub short : n ≤ length s
  pub states_below : (k : ℕ) → k < n → low s k < length s
  pub marked : (k : ℕ) → k < n → 1 ≤ high s (low s k)

-- the search as far as the way back needs it: the last state is n events away
pub record Trail (g : Graph) (s : List ℕ) (last n : ℕ) : Type 0 where
  pub standing : Standing s (suc last)
  pub level : ℕ → ℕ
  pub level_is : level last ≡ n
  pub rising : (j k : ℕ) → j ≤ k → k < suc last → level j ≤ level k
  pub level_mark_lem : (k : ℕ) → k < suc last → level_mark s (low s k) ≡ level k % level_marks
  pub came : (k : ℕ) → k < suc last → Came g s level k

-- what the way back starts from: the last state found by an event, unless it is the first; a room of as many events as
-- lead there, with no pauses so far
pub record Retraceable
    (t u : Tables) (s : List ℕ) (last : ℕ) (symbols stamps : List ℕ) : Type 0 where
  pub paired : Paired t.built t.cells u.built u.cells (length s)
  pub trail : Trail (graph_of t u) s last (length symbols)
  pub same_length : length stamps ≡ length symbols
  pub no_pauses : stamps ≡ zeros (length stamps)
  pub by_event : 1 ≤ last → 1 ≤ way s (low s last)

-- the place nearest below from which a symbol leads to a state, at a level mark
pub record Source (g : Graph) (s : List ℕ) (place x symbol level : ℕ) : Type 0 where
  pub from : ℕ
  pub below : from < place
  pub level_is : level_mark s (low s from) ≡ level
  pub takes_is : g.takes_to symbol (low s from) ≡ x

pub record Nearest (g : Graph) (s : List ℕ) (place x symbol level from : ℕ) : Type 0 where
  pub below : from < place
  pub level_is : level_mark s (low s from) ≡ level
  pub takes_is : g.takes_to symbol (low s from) ≡ x
  pub none_nearer :
      (k : ℕ) → from < k → k < place → level_mark s (low s k) ≡ level → g.takes_to symbol (low s k) ≡ x → ⊥

-- where waits, and then pauses and events, lead from a state
abbrev pub waits_on : Graph → ℕ → ℕ → ℕ
waits_on g zero x = x
waits_on g (suc n) x = waits_on g n (g.waits_to x)

abbrev pub led_by : Graph → List ℕ → List ℕ → ℕ → ℕ
led_by g [] ps x = x
led_by g (a ∷ xs) [] x = x
led_by g (a ∷ xs) (p ∷ ps) x = led_by g xs ps (g.takes_to a (waits_on g p x))

-- pauses added up: in all, and one after another
abbrev pub sum_of : List ℕ → ℕ
sum_of [] = 0
sum_of (p ∷ ps) = p + sum_of ps

abbrev pub sums : ℕ → List ℕ → List ℕ
sums t [] = []
sums t (p ∷ ps) = (t + p) ∷ sums (t + p) ps

-- the symbols and pauses that lead from the start to the last state
pub record Retraced (g : Graph) (s : List ℕ) (last : ℕ) (symbols stamps : List ℕ) : Type 0 where
  pub path : led_by g symbols stamps 0 ≡ low s last
  pub total : sum_of stamps ≤ last
  pub inside : all_below g.symbols symbols ≡ true
