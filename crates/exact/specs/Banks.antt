-- A bank: what it holds, and what adding to it comes to.
use Rattle.std.specs.Prelude.{◌≡◌, List, ℕ, ◌+◌, ◌*◌, ◌<◌, length, Option, Some, None}
use Rattle.model.specs.Runs.{Config}
use Rattle.exact.specs.declared.bank.Bank.{Bank}
use Rattle.exact.specs.Chunks.{configs_in}

abbrev pub configs_of : Bank → List Config
configs_of bank = configs_in bank.clocks bank.held bank.numbers.now

-- a bank over k clocks with nothing in it, of so many numbers
pub record Empty (k size : ℕ) (bank : Bank) : Type 0 where
  pub clocks_are : bank.clocks ≡ k
  pub size_is : length bank.numbers.now ≡ size
  pub none_held : bank.held ≡ 0

-- a bank over the same clocks and of the same size as it was, with these configurations
pub record Filled (was : Bank) (cs : List Config) (bank : Bank) : Type 0 where
  pub clocks_are : bank.clocks ≡ was.clocks
  pub size_is : length bank.numbers.now ≡ length was.numbers.now
  pub configs_are : configs_of bank ≡ cs

-- What adding answers: the configurations are there, or they are more than there is room for.
abbrev pub Holds : Bank → List Config → Bank → Option (Unit {0}) → Type 0
Holds was cs bank (Some done) = Filled was cs bank
Holds was cs bank None = length was.numbers.now < length cs * (was.clocks + 1)
