-- `edges::largest`: the largest constant, as a fold over the atoms finds it.
use Rattle.std.proofs.Common.{rules, tests, refl, ◌∙◌, max, drop}
use Rattle.std.proofs.lemmas.Iterator.Consumers.{fold_from_yields_List, YieldsList-from_first}
use Rattle.model.specs.Texts.{Atom}
use Rattle.edges.specs.Atoms.{atom_of}
use Rattle.edges.proofs.EdgeAtoms.{largest_known}
use Rattle.edges.proofs.largest.Goals as goal

pub returns : goal.returns
returns g c =
    fold_from_yields_List _ (λ most (a : Atom). max most a.constant) 0 _ c.fold.ensures.ran
    (YieldsList-from_first atom_of (λ s. g.W.Walk.atoms (drop s.from s.text.now)) _ refl)
    (λ a x b q k. search (rules, tests))
    ∙ largest_known (g.W.Walk.atoms (drop c.args.atoms.from c.args.atoms.text.now))
