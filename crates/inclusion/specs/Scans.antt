-- What the search keeps: the states found stand in order of their level, each by how it was found; those below `done`
-- have their waiting found and are no goal, those below `from` have their events found, and so has `from` for the
-- symbols below m.
use Rattle.std.specs.declared.ops.ControlFlow.{ControlFlow}
use Rattle.std.specs.declared.ops.ControlFlow.TheVariants.{Break, Continue}
use Rattle.std.specs.Prelude.{◌≡◌, Bool, true, false, ◌&&◌, not, List, [], ℕ, suc, ◌+◌, ◌*◌, ◌%◌, ◌≤◌, ◌<◌, length}
use Rattle.model.specs.declared.Built.{Built}
use Rattle.model.specs.Rules.{most_symbols}
use Rattle.model.specs.JointStates.{waits}
use Rattle.inclusion.specs.Numbers.{packed, first_state, second_state, says_row, bare}
use Rattle.inclusion.specs.Graphs.{Graph}
use Rattle.inclusion.specs.Parts.{low, high, ways, level_marks, level_mark, way, Laid, Keeps}

-- a state that stands below a place
pub record Place (s : List ℕ) (tail x : ℕ) : Type 0 where
  pub place : ℕ
  pub below : place < tail
  pub state_is : low s place ≡ x

-- the same, at a level of at most n
pub record Placed (s : List ℕ) (tail : ℕ) (level : ℕ → ℕ) (x n : ℕ) : Type 0 where
  pub place : ℕ
  pub below : place < tail
  pub state_is : low s place ≡ x
  pub level_most : level place ≤ n

-- how the state at place k was found
pub data Came (g : Graph) (s : List ℕ) (level : ℕ → ℕ) (k : ℕ) : Type 0 where
  began : k ≡ 0 → low s k ≡ 0 → level k ≡ 0 → Came g s level k
  waited :
      (j : ℕ) → k ≡ suc j → low s k ≡ g.waits_to (low s j) → level k ≡ level j → way s (low s k) ≡ 0
      → Came g s level k
  taken :
      (a p : ℕ) → p < k → a < g.symbols → low s k ≡ g.takes_to a (low s p) → level k ≡ suc (level p)
      → way s (low s k) ≡ suc a
      → Came g s level k

pub record Scan (g : Graph) (s : List ℕ) (tail done from m : ℕ) : Type 0 where
  pub laid : Laid s tail
  pub level : ℕ → ℕ
  pub done_most : done ≤ tail
  pub from_most : from ≤ tail
  pub now_below : 1 ≤ m → from < tail
  pub found : (x : ℕ) → 1 ≤ high s x → Place s tail x
  pub rising : (j k : ℕ) → j ≤ k → k < tail → level j ≤ level k
  pub most : (k : ℕ) → k < tail → from < tail → level k ≤ suc (level from)
  pub level_mark_lem : (k : ℕ) → k < tail → level_mark s (low s k) ≡ level k % level_marks
  pub came : (k : ℕ) → k < tail → Came g s level k
  pub waits_found : (k : ℕ) → k < done → Placed s tail level (g.waits_to (low s k)) (level k)
  pub no_goal : (k : ℕ) → k < done → g.goal (low s k) ≡ false
  pub takes_found :
      (k a : ℕ) → k < from → a < g.symbols → Placed s tail level (g.takes_to a (low s k)) (suc (level k))
  pub takes_now : (a : ℕ) → a < m → Placed s tail level (g.takes_to a (low s from)) (suc (level from))

-- what may be noted next, at which level and with which mark
pub data Next (g : Graph) (s : List ℕ) (level : ℕ → ℕ) (tail from x mark n : ℕ) : Type 0 where
  first : tail ≡ 0 → from ≡ 0 → x ≡ 0 → n ≡ 0 → mark ≡ 1 → Next g s level tail from x mark n
  event :
      (a : ℕ) → from < tail → a < g.symbols → a < most_symbols → x ≡ g.takes_to a (low s from) → n ≡ suc (level from)
      → mark ≡ 2 + a + ways * (n % level_marks)
      → Next g s level tail from x mark n
  waiting :
      (j : ℕ) → tail ≡ suc j → from < tail → x ≡ g.waits_to (low s j) → n ≡ level j
      → mark ≡ 1 + ways * (n % level_marks)
      → Next g s level tail from x mark n

-- the search ends at a goal: the last state found is the only one
pub record Won (g : Graph) (s : List ℕ) (tail from m : ℕ) : Type 0 where
  pub scan : Scan g s (suc tail) tail from m
  pub wins : g.goal (low s tail) ≡ true
  pub ahead : (k : ℕ) → k < suc tail → suc (scan.level k) < scan.level tail → k < from

-- what waiting and the goal are in a graph, for the functions that see only the built records or the rows
pub record WaitsAs (a b : Built) (n : ℕ) (g : Graph) : Type 0 where
  pub waits_is :
      (x : ℕ) → x < n
      → g.waits_to x ≡ packed a b (waits (bare a []) (first_state a b x)) (waits (bare b []) (second_state a b x))
  pub waits_goal : (x : ℕ) → x < n → g.goal (g.waits_to x) ≡ g.goal x

pub record WinsAs (a b : Built) (rows rows2 : List ℕ) (n : ℕ) (g : Graph) : Type 0 where
  pub waits_as : WaitsAs a b n g
  pub goal_is :
      (x : ℕ) → x < n
      → g.goal x ≡ (says_row rows (first_state a b x).row && not (says_row rows2 (second_state a b x).row))

-- waiting followed from the last state found
pub record Extends (a b : Built) (s : List ℕ) (last : ℕ) (s' : List ℕ) (tail : ℕ) : Type 0 where
  pub laid : Laid s' tail
  pub keeps : Keeps s (suc last) s'
  pub later : last < tail
  pub scans :
      (g : Graph) (from m : ℕ) → WaitsAs a b (length s) g → from ≤ last → Scan g s (suc last) last from m
      → g.goal (low s last) ≡ false
      → Scan g s' tail tail from m

-- a search that ended at a goal
pub record Wins (g : Graph) (s : List ℕ) (tail : ℕ) : Type 0 where
  pub last : ℕ
  pub from : ℕ
  pub m : ℕ
  pub tail_is : tail ≡ suc last
  pub won : Won g s last from m

-- how far a search is: so many states are found; whether the last of them is a goal
pub record Progress : Type 0 where
  pub tail : ℕ
  pub goal : Bool

abbrev pub progress_in : ControlFlow ℕ ℕ → Progress
progress_in (Continue tail) = record { tail = tail; goal = false }
progress_in (Break last) = record { tail = suc last; goal = true }

-- reaching a state: it is found now, and with it all that waiting leads to; or it is a goal, and the last
pub record ReachedBy (g : Graph) (s : List ℕ) (from m y : ℕ) (p : Progress) : Type 0 where
  pub goes : p.goal ≡ false → Scan g s p.tail p.tail from m × (1 ≤ high s y)
  pub wins : p.goal ≡ true → Wins g s p.tail

pub record Reaches
    (a b : Built) (rows rows2 s : List ℕ) (tail y mark : ℕ) (s' : List ℕ) (p : Progress) : Type 0 where
  pub laid : Laid s' p.tail
  pub keeps : Keeps s tail s'
  pub later : tail ≤ p.tail
  pub scans :
      (g : Graph) (from m n : ℕ) → WinsAs a b rows rows2 (length s) g → (z : Scan g s tail tail from m)
      → Next g s z.level tail from y mark n
      → ReachedBy g s' from m y p

-- all events of one state: found, or a goal
pub record Expands (g : Graph) (s : List ℕ) (from : ℕ) (s' : List ℕ) (p : Progress) : Type 0 where
  pub same_length : length s' ≡ length s
  pub goes : p.goal ≡ false → Scan g s' p.tail p.tail (suc from) 0
  pub wins : p.goal ≡ true → Wins g s' p.tail

-- the whole search: all that is reached is found, and none of it is a goal; or a goal
pub record Searches (g : Graph) (s s' : List ℕ) (p : Progress) : Type 0 where
  pub same_length : length s' ≡ length s
  pub some : 1 ≤ p.tail
  pub goes : p.goal ≡ false → Scan g s' p.tail p.tail p.tail 0
  pub wins : p.goal ≡ true → Wins g s' p.tail
