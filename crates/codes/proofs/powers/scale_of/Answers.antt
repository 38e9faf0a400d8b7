-- `codes::powers::scale_of` meets its contract: the scale of the rule's cm and K, which are in their ranges.
use Rattle.std.proofs.Common.{◌≡◌, ◌≤◌, ◌∙◌, ap, ℕ, arith}
use native.Mathlib.Nat.{mod-eq_of_lt}
use Rattle.model.specs.Rules.{most_constant}
use Rattle.codes.specs.Codes.{scale_of}
use Rattle.codes.proofs.PowerLaws.{small_is}
use Rattle.codes.proofs.Agreement.{top_most, clocks_most, scaled_is}
use Rattle.codes.proofs.powers.scale_of.Goals as goal

pub returns : goal.returns
returns c passed =
    let h = c.args.rule.head in
    let t = c.args.rule.edges.now in
    let e = c.top.ensures in
    let top : c.top.result ≤ most_constant = top_most h t passed _ e in
    let kept : c.narrow.result ≡ c.top.result = c.narrow.ensures ∙ mod-eq_of_lt (omega (arith, top)) in
    let small = small_is _ _ (rw kept top) (clocks_most h t passed) in
    scaled_is h t passed _ _ e (c.scale_by.ensures ∙ small ∙ ap (λ (n : ℕ). scale_of n h.clocks) kept)
