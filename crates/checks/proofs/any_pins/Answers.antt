-- `checks::any_pins`: some atom pins, among all of them.
use Rattle.std.proofs.Common.{rules, tests, refl, ◌∙◌, drop}
use Rattle.std.proofs.lemmas.Iterator.Consumers.{YieldsList-from_first}
use Rattle.std.proofs.lemmas.Iterator.Search.{any_from_yields_List}
use Rattle.model.specs.Rules.{pins}
use Rattle.edges.specs.Atoms.{atom_of}
use Rattle.checks.proofs.Walks.{any_pinned}
use Rattle.checks.proofs.any_pins.Goals as goal

pub returns : goal.returns
returns g c =
    let among = g.W.Walk.atoms (drop c.args.among.from c.args.among.text.now) in
    any_from_yields_List (pins among) c.any.new.self _ _ c.any.ensures.ran
    (YieldsList-from_first atom_of (λ s. g.W.Walk.atoms (drop s.from s.text.now)) _ refl)
    (λ x b q k. search (rules, tests))
    ∙ any_pinned among among
