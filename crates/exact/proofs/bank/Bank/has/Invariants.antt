-- `exact::bank::Bank::has` meets its contract: the configurations that are left decide.
use Rattle.std.proofs.Common.{◌≡◌, ◌+◌}
use Rattle.std.specs.Slice.Iter.{chunks_exact_rest, chunks_exact_size}
use Rattle.model.specs.Runs.{has_config}
use Rattle.ages.specs.Ages.{config_of, same_config}
use Rattle.exact.specs.Banks.{configs_of}
use Rattle.exact.proofs.Banks.{Passing}
use Rattle.exact.proofs.bank.Bank.has.Given as goal

abbrev pub invariant-loop-numbers : goal.invariant-loop-numbers
invariant-loop-numbers l =
    (chunks_exact_size l.numbers-iterator ≡ l.self.clocks + 1)
    × Passing (same_config (config_of l.self.clocks l.c)) l.self.clocks (chunks_exact_rest l.numbers-iterator)
    (has_config (config_of l.self.clocks l.c) (configs_of l.self))
