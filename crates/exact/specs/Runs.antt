-- What the exact runner finds: the configurations at the start, and its answer.
use Rattle.std.specs.Prelude.{◌≡◌, List, [], ◌∷◌, ℕ, ◌+◌, ◌*◌, ◌≤◌, length}
use Rattle.model.specs.declared.Head.{Head}
use Rattle.model.specs.declared.Answer.{Answer}
use Rattle.model.specs.Basics.{one_if, zeros}
use Rattle.model.specs.Rules.{most_clocks}
use Rattle.model.specs.Words.{events_of}
use Rattle.model.specs.Runs.{Config, config, accepts, room_refusal}
use Rattle.model.specs.Layout.{locations_in, rule_in}
use Rattle.model.specs.Promises.{answer_of, config_room}
use Rattle.model.proofs.Words.{Ordered}
use Rattle.exact.specs.declared.bank.Bank.{Bank}
use Rattle.exact.specs.Banks.{configs_of}

-- locations with all ages 0, over k clocks
abbrev pub starts_at : ℕ → List ℕ → List Config
starts_at k [] = []
starts_at k (l ∷ ls) = config l (zeros k) ∷ starts_at k ls

abbrev pub starts_over : ℕ → ℕ → List Config
starts_over k mask = starts_at k (locations_in mask)

-- the answer of a call that passes the checks, with room for so many configurations, and in this scratch
abbrev pub answer_with : Head → List ℕ → ℕ → List ℕ → List ℕ → ℕ → Answer
answer_with head edges d symbols stamps room =
    answer_of (room_refusal (rule_in head edges) d room (events_of symbols stamps))
    (one_if (accepts (rule_in head edges) d (events_of symbols stamps)))

abbrev pub answer_over : Head → List ℕ → ℕ → List ℕ → List ℕ → List ℕ → Answer
answer_over head edges d symbols stamps scratch =
    answer_with head edges d symbols stamps (config_room (rule_in head edges) scratch)

-- a call that passes the checks
pub record Begins (head : Head) (symbols stamps : List ℕ) : Type 0 where
  pub clocks_most : head.clocks ≤ most_clocks
  pub stamps_ordered : Ordered 0 (events_of symbols stamps)

-- before the first event: two banks with room for as many configurations, the first with those at the start
pub record Started (head : Head) (symbols stamps : List ℕ) (room : ℕ) (from to : Bank) : Type 0 where
  pub begins : Begins head symbols stamps
  pub from_clocks : from.clocks ≡ head.clocks
  pub to_clocks : to.clocks ≡ head.clocks
  pub from_size : length from.numbers.now ≡ room * (head.clocks + 1)
  pub to_size : length to.numbers.now ≡ room * (head.clocks + 1)
  pub starts_there : configs_of from ≡ starts_over head.clocks head.starts
