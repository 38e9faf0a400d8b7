-- an edge that leaves a location on a symbol
use Rattle.std.specs.Prelude.{Bool, ◌&&◌, ℕ, eqb}
use Rattle.model.specs.Rules.{Edge}

abbrev pub leaves_on : ℕ → ℕ → Edge → Bool
leaves_on l s e = eqb e.source l && eqb e.symbol s
