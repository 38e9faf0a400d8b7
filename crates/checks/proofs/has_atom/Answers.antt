-- `checks::has_atom`: some atom that is left is the one.
use Rattle.std.proofs.Common.{rules, tests, refl, ◌∙◌, drop}
use Rattle.std.proofs.lemmas.Iterator.Consumers.{YieldsList-from_first}
use Rattle.std.proofs.lemmas.Iterator.Search.{any_from_yields_List}
use Rattle.edges.specs.Atoms.{atom_of}
use Rattle.checks.proofs.Walks.{same_atom, any_same}
use Rattle.checks.proofs.has_atom.Goals as goal

pub returns : goal.returns
returns g c =
    let w = c.args.wanted in
    any_from_yields_List (same_atom w.clock w.relation w.constant) c.any.new.self _ _ c.any.ensures.ran
    (YieldsList-from_first atom_of (λ s. g.W.Walk.atoms (drop s.from s.text.now)) _ refl)
    (λ x b q k. search (rules, tests))
    ∙ any_same w.clock w.relation w.constant (g.W.Walk.atoms (drop c.args.atoms.from c.args.atoms.text.now))
