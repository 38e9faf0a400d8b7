-- `lists::rest_zero` meets its contract: the unused symbols, then the unused stamps.
use Rattle.std.proofs.Common.{◌≡◌, ◌∙◌, drop, rules}
use Rattle.std.proofs.lemmas.Iterator.Search.{all_from_yields_List}
use Rattle.std.proofs.lemmas.Iterator.{YieldsList-from_slice}
use Rattle.numbers.specs.Lent.{all_zero}
use Rattle.lists.proofs.Fitting.{each_zero, is_zero, rest_whole}
use Rattle.lists.proofs.rest_zero.Goals as goal

pub returns-then-all : goal.returns-then-all
returns-then-all c =
    let w = c.args.word in
    let symbols : c.all.result ≡ all_zero (drop w.count w.symbols) =
    all_from_yields_List is_zero _ _ c.all.result c.all.ensures.ran
    (YieldsList-from_slice _ (c.iter.ensures.rest ∙ rest_whole w.count w.symbols)) (λ x b q k. search rules)
    ∙ each_zero (drop w.count w.symbols) in
    let stamps : c.all-then-all.result ≡ all_zero (drop w.count w.stamps) =
    all_from_yields_List is_zero _ _ c.all-then-all.result c.all-then-all.ensures.ran
    (YieldsList-from_slice _ (c.iter-then-all.ensures.rest ∙ rest_whole w.count w.stamps)) (λ x b q k. search rules)
    ∙ each_zero (drop w.count w.stamps) in
    rw (← symbols, c.if-all.true) stamps

pub returns-else-all : goal.returns-else-all
returns-else-all c =
    let w = c.args.word in
    let symbols : c.all.result ≡ all_zero (drop w.count w.symbols) =
    all_from_yields_List is_zero _ _ c.all.result c.all.ensures.ran
    (YieldsList-from_slice _ (c.iter.ensures.rest ∙ rest_whole w.count w.symbols)) (λ x b q k. search rules)
    ∙ each_zero (drop w.count w.symbols) in
    rw (← symbols, c.if-all.false)
