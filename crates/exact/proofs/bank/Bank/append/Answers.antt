-- `exact::bank::Bank::append` meets its contract: no room, or written behind the others.
use Rattle.std.proofs.Common.{◌≡◌, ◌+◌, ◌-◌, ◌*◌, ℕ, [], ◌∷◌, ◌++◌, refl, ◌∙◌, ap, arith}
use Rattle.model.specs.Runs.{Config}
use Rattle.ages.specs.Ages.{config_of}
use Rattle.exact.specs.Banks.{configs_of}
use Rattle.exact.proofs.Chunks.{append_full, configs_appended, part_sized, back_sized}
use Rattle.exact.proofs.bank.Bank.append.Goals as goal

pub returns-then-self-at : goal.returns-then-self-at
returns-then-self-at c =
    let s = c.args.self.now in
    append_full s.clocks s.held s.numbers.now (config_of s.clocks c.args.c) c.if-self-at.true

pub returns : goal.returns
returns c =
    let s = c.args.self.now in
    let at = s.held * (s.clocks + 1) in
    let part = part_sized at (s.clocks + 1) s.numbers.now c.if-self-at.false in
    let less : s.clocks + 1 - 1 ≡ s.clocks = omega arith in
    let written = c.store.auto.numbers ∙ part in
    record {
      clocks_are = refl;
      size_is = back_sized at (s.clocks + 1) s.numbers.now c.store.new.numbers s.held_fits c.if-self-at.false written;
      configs_are =
          configs_appended s.clocks s.held s.numbers.now c.store.new.numbers _ s.held_fits written
          ∙ ap (λ (x : Config). configs_of s ++ (x ∷ []))
          (c.store.ensures ∙ ap (λ (n : ℕ). config_of (n - 1) c.args.c) part
          ∙ ap (λ (n : ℕ). config_of n c.args.c) less);
    }
