-- `exact::bank::Bank::some_at` meets its contract: the configurations that are left decide.
use Rattle.std.proofs.Common.{◌≡◌, ◌+◌}
use Rattle.std.specs.Slice.Iter.{chunks_exact_rest, chunks_exact_size}
use Rattle.model.specs.Basics.{is_in}
use Rattle.model.specs.Layout.{locations_in}
use Rattle.exact.specs.Chunks.{any_final}
use Rattle.exact.specs.Banks.{configs_of}
use Rattle.exact.proofs.Banks.{Passing}
use Rattle.exact.proofs.bank.Bank.some_at.Given as goal

abbrev pub invariant-loop-numbers : goal.invariant-loop-numbers
invariant-loop-numbers l =
    (chunks_exact_size l.numbers-iterator ≡ l.self.clocks + 1)
    × Passing (λ c. is_in c.location (locations_in l.set)) l.self.clocks (chunks_exact_rest l.numbers-iterator)
    (any_final l.set (configs_of l.self))
