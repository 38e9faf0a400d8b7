-- Which edges a pair allows, and where they lead, by the numbers that the code holds. For the scale of a rule they are
-- the construction's own (proofs/Agreement.antt).
use Rattle.std.specs.Prelude.{Bool, ◌&&◌, List, ℕ, suc, ◌+◌, ◌/◌, eqb, ltb, leb}
use Rattle.model.specs.Basics.{pick, bit}
use Rattle.model.specs.Rules.{Edge, guard_of}
use Rattle.model.specs.Runs.{zeroed}
use Rattle.model.specs.Construction.{regions_hold, advanced}
use Rattle.codes.specs.declared.Scale.{Scale}
use Rattle.codes.specs.declared.Pair.{Pair}
use Rattle.codes.specs.Codes.{packed}
use Rattle.pairs.specs.declared.Input.{Input}

-- a base after interval [c] has passed, cut at "above cm"
abbrev pub advanced_base : ℕ → ℕ → ℕ → ℕ
advanced_base c i b = pick (ltb c (b + i / 2)) (suc c) (b + i / 2)

-- the base of clock k at an edge's target
abbrev pub moved_base : ℕ → ℕ → Bool → ℕ → ℕ → ℕ → ℕ
moved_base mask k timer c i b = pick (bit k mask) 0 (pick timer (advanced_base c i b) b)

abbrev pub moved_bases : ℕ → Bool → ℕ → ℕ → List ℕ → List ℕ
moved_bases mask timer c i bases = zeroed mask (pick timer (advanced c i bases) bases)

-- an edge that a pair allows, and its target
abbrev pub pair_allows : ℕ → Input → Pair → Edge → Bool
pair_allows c at p e =
    eqb e.source p.location && eqb e.symbol at.symbol && regions_hold c at.interval p.bases (guard_of e)

abbrev pub pair_target : Scale → ℕ → Bool → Pair → Edge → ℕ
pair_target z i timer p e = packed z e.target (moved_bases e.resets timer z.top i p.bases)

-- an allowed edge that resets a clock
abbrev pub pair_resets_on : ℕ → Input → Pair → Edge → Bool
pair_resets_on c at p e = leb 1 e.resets && pair_allows c at p e
