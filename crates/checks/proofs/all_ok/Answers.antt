-- `checks::all_ok`: all atoms that are left pass the test.
use Rattle.std.proofs.Common.{rules, tests, refl, ◌∙◌, drop}
use Rattle.std.proofs.lemmas.Iterator.Consumers.{YieldsList-from_first}
use Rattle.std.proofs.lemmas.Iterator.Search.{all_from_yields_List}
use Rattle.model.specs.Rules.{atom_ok}
use Rattle.edges.specs.Atoms.{atom_of}
use Rattle.checks.proofs.Walks.{all_ok}
use Rattle.checks.proofs.all_ok.Goals as goal

pub returns : goal.returns
returns g c =
    all_from_yields_List (atom_ok c.args.clocks) c.all.new.self _ _ c.all.ensures.ran
    (YieldsList-from_first atom_of (λ s. g.W.Walk.atoms (drop s.from s.text.now)) _ refl)
    (λ x b q k. search (rules, tests))
    ∙ all_ok c.args.clocks (g.W.Walk.atoms (drop c.args.atoms.from c.args.atoms.text.now))
