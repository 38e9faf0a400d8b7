-- What an event leads to, and what must hold where it goes from one bank to the other.
use Rattle.std.specs.Prelude.{◌≡◌, List, [], ℕ, ◌+◌, ◌≤◌}
use Rattle.model.specs.declared.Head.{Head}
use Rattle.model.specs.Runs.{Config, by_edges, by_configs}
use Rattle.model.specs.Layout.{edges_in, rule_in}
use Rattle.model.proofs.Configs.{Aged}
use Rattle.ages.specs.declared.Configuration.{Configuration}
use Rattle.ages.specs.Ages.{ages_of, most_age, with_symbol}
use Rattle.exact.specs.declared.bank.Bank.{Bank}
use Rattle.exact.specs.Banks.{configs_of}

-- the configurations that the first edges lead to from one, over k clocks, added to cs
abbrev pub by_edges_of : ℕ → ℕ → List ℕ → ℕ → ℕ → Configuration → List Config → List Config
by_edges_of k count edges d symbol from cs =
    by_edges d (with_symbol symbol) from.location (ages_of k from.ages) (edges_in count edges) cs

-- the configurations that an event leads to
abbrev pub by_configs_of : Head → List ℕ → ℕ → ℕ → ℕ → List Config → List Config
by_configs_of head edges d symbol delay cs = by_configs (rule_in head edges) d (with_symbol symbol) delay cs []

-- no age of these configurations passes the cap by the delay
abbrev pub Below : ℕ → List Config → Type 0
Below delay cs = (most : ℕ) × Aged most cs × (most + delay ≤ most_age)

-- an event may be taken: both banks are over the rule's clocks, and its delay keeps all ages below the cap
pub record Stepping (k delay : ℕ) (from to : Bank) : Type 0 where
  pub from_clocks : from.clocks ≡ k
  pub to_clocks : to.clocks ≡ k
  pub ages_below : Below delay (configs_of from)
