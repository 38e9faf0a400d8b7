-- A run from some event on, the whole run, and what must hold before a search.
use Rattle.std.specs.Prelude.{Option, Some, None}
use Rattle.std.specs.Prelude.{◌≡◌, List, ◌++◌, ℕ, ◌-◌, ◌≤◌, length, drop}
use Rattle.model.specs.declared.Head.{Head}
use Rattle.model.specs.Basics.{pick, zeros, filled}
use Rattle.model.specs.Rules.{most_clocks, most_edges}
use Rattle.model.specs.Words.{most_branch_events, events_of}
use Rattle.model.specs.Runs.{Path, least_from, least_run}
use Rattle.model.specs.Layout.{rule_in}
use Rattle.model.proofs.Words.{Ordered}
use Rattle.model.proofs.Ages.{AtMost}
use Rattle.ages.specs.declared.Configuration.{Configuration}
use Rattle.ages.specs.Ages.{ages_of}
use Rattle.branch.specs.declared.Run.{Run}

-- the edges of the run p, from place `depth` on; none where p accepts nothing
abbrev pub placed : ℕ → Path → Option (List ℕ)
placed depth p = pick p.found (Some (zeros depth ++ filled (most_branch_events - depth) p.taken)) None

-- the least accepting run from a configuration, over the events from `depth` on, after the stamp `last`
abbrev pub least_at : Head → List ℕ → ℕ → List ℕ → List ℕ → ℕ → ℕ → Configuration → Path
least_at head edges d symbols stamps depth last from =
    least_from (rule_in head edges) d (events_of (drop depth symbols) (drop depth stamps)) last from.location
    (ages_of head.clocks from.ages)

-- the whole run: a start location and the edges from place 0 on
abbrev pub begun : Path → Option Run
begun p = pick p.found (Some (record { start = p.start; edges = filled most_branch_events p.taken })) None

-- the least accepting run over the whole word
abbrev pub least_of : Head → List ℕ → ℕ → List ℕ → List ℕ → Path
least_of head edges d symbols stamps = least_run (rule_in head edges) d (events_of symbols stamps)

-- no more events than are followed, their stamps in order, ages of no more than the stamp before
pub record Ready (head : Head) (symbols stamps : List ℕ) (depth last : ℕ) (from : Configuration) : Type 0 where
  pub depth_in : depth ≤ length symbols
  pub counts_equal : length symbols ≡ length stamps
  pub events_most : length symbols ≤ most_branch_events
  pub edges_most : head.count ≤ most_edges
  pub stamps_ordered : Ordered last (events_of (drop depth symbols) (drop depth stamps))
  pub ages_most : AtMost last (ages_of head.clocks from.ages)

-- the same before the first event, with no more clocks than a rule may have
pub record Begins (head : Head) (symbols stamps : List ℕ) : Type 0 where
  pub clocks_most : head.clocks ≤ most_clocks
  pub edges_most : head.count ≤ most_edges
  pub counts_equal : length symbols ≡ length stamps
  pub events_most : length symbols ≤ most_branch_events
  pub stamps_ordered : Ordered 0 (events_of symbols stamps)
