-- One event: what the configurations passed lead to, with those still to come, is what all of them lead to.
use Rattle.std.proofs.Common.{◌≡◌, ◌<◌, ◌≤◌, ◌+◌, ◌-◌, ◌*◌, ℕ, List, [], ◌∷◌, ◌++◌, length, take, sym, ◌∙◌, ap, ap₂}
use Rattle.std.proofs.Common.{arith}
use Rattle.model.specs.declared.Head.{Head}
use Rattle.model.specs.Runs.{Config, by_configs}
use Rattle.model.specs.Rules.{most_clocks}
use Rattle.model.specs.Layout.{rule_in}
use Rattle.model.proofs.Ages.{AtMost}
use Rattle.model.proofs.Configs.{configs_grow}
use Rattle.ages.specs.declared.Configuration.{Configuration}
use Rattle.ages.specs.Ages.{ages_of, config_of, with_symbol, Waited}
use Rattle.ages.proofs.Moves.{waited_ages}
use Rattle.exact.specs.declared.bank.Bank.{Bank}
use Rattle.exact.specs.Chunks.{config_in, configs_in, Loaded}
use Rattle.exact.specs.Banks.{configs_of, Filled}
use Rattle.exact.specs.Ready.{by_edges_of, by_configs_of, Below}
use Rattle.exact.proofs.Chunks.{next_chunk, no_chunk, part_length, configs_part, loaded_is}
use Rattle.exact.proofs.Spreading.{still_over}

module _ (head : Head) (edges : List ℕ) (d symbol delay : ℕ) where
  -- cs are still to come, new are there
  abbrev move_on : List Config → List Config → List Config
  move_on cs new = by_configs (rule_in head edges) d (with_symbol symbol) delay cs new

  -- rest are the numbers of those still to come; size is the other bank's numbers
  pub record Moving (size : ℕ) (all : List Config) (rest : List ℕ) (to : Bank) : Type 0 where
    pub left : ℕ
    pub long : length rest ≡ left * (head.clocks + 1)
    pub clocks_are : to.clocks ≡ head.clocks
    pub size_is : length to.numbers.now ≡ size
    pub ages_below : Below delay (configs_in head.clocks left rest)
    pub rest_is : move_on (configs_in head.clocks left rest) (configs_of to) ≡ all

  pub moving :
      (from to : Bank) (rest : List ℕ) (size : ℕ) → from.clocks ≡ head.clocks → to.clocks ≡ head.clocks → to.held ≡ 0
      → length to.numbers.now ≡ size
      → from.held * (from.clocks + 1) ≤ length from.numbers.now
      → rest ≡ take (from.held * (from.clocks + 1)) from.numbers.now
      → Below delay (configs_of from)
      → Moving size (by_configs_of head edges d symbol delay (configs_of from)) rest to
  moving from to rest size f t none l h e below =
      let whole : configs_in head.clocks from.held rest ≡ configs_of from =
      ap (λ (k : ℕ). configs_in k from.held rest) (sym f)
      ∙ (ap (configs_in from.clocks from.held) e ∙ configs_part from.clocks from.held from.numbers.now h) in
      let nothing : configs_of to ≡ [] = rw none in
      record {
        left = from.held;
        long = rw f at (ap (λ (s : List ℕ). length s) e ∙ part_length from.clocks from.held from.numbers.now h);
        clocks_are = t;
        size_is = l;
        ages_below = rw whole below;
        rest_is = ap₂ move_on whole nothing;
      }

  module _ {size : ℕ} {all : List Config} {rest : List ℕ} {to : Bank} (inv : Moving size all rest to) where
    -- all have moved
    pub moved_all : length rest < head.clocks + 1 → configs_of to ≡ all
    unfolding by_configs
    moved_all h =
        let z : inv.left ≡ 0 = no_chunk head.clocks inv.left rest inv.long h in
        rw z at inv.rest_is

    module _ (x behind : List ℕ) (e : rest ≡ x ++ behind) (l : length x ≡ head.clocks + 1)
        (most : head.clocks ≤ most_clocks)
        (was now_is : Configuration) (loaded : Loaded x was) (waited : Waited delay was now_is) where
      abbrev others : List Config
      others = configs_in head.clocks (inv.left - 1) behind

      first_and_rest : configs_in head.clocks inv.left rest ≡ config_in x ∷ others
      first_and_rest = (next_chunk head.clocks inv.left rest x behind inv.long e l).configs_are

      config_was : config_of head.clocks was ≡ config_in x
      config_was = loaded_is head.clocks x was loaded l most

      -- the first of those left, after the delay, by the edges
      now_step :
          move_on (configs_in head.clocks inv.left rest) (configs_of to)
          ≡ move_on others
          (by_edges_of head.clocks head.count edges d symbol now_is (configs_of to))
      unfolding by_configs rule_in
      now_step =
          let below = rw first_and_rest at inv.ages_below in
          let at_most : AtMost below.0 (ages_of head.clocks was.ages) =
          rw (ap (λ (c : Config). c.ages) config_was) below.1.0 in
          let aged = waited_ages head.clocks below.0 waited at_most below.2 in
          rw (
            first_and_rest,
            waited.location_is,
            aged,
            ap (λ (c : Config). c.ages) config_was,
            ap (λ (c : Config). c.location) config_was,
          )

      abbrev new : List Config
      new = by_edges_of head.clocks head.count edges d symbol now_is (configs_of to)

      pub moving_full :
          length to.numbers.now < length new * (to.clocks + 1) → (w : ℕ) → w ≡ head.clocks → size < length all * (w + 1)
      moving_full over w same =
          let grows : length new ≤ length (move_on others new) =
          configs_grow (rule_in head edges) d (with_symbol symbol) delay others new in
          let is_all : move_on others new ≡ all = sym now_step ∙ inv.rest_is in
          let here : length to.numbers.now < length all * (to.clocks + 1) =
          still_over (length to.numbers.now) (to.clocks + 1) new all over
          (omega (arith, grows, ap (λ (c : List Config). length c) is_all)) in
          rw same (rw (inv.clocks_are, inv.size_is) at here)

      pub moving_next : (to' : Bank) → Filled to new to' → Moving size all behind to'
      moving_next to' there =
          let below = rw first_and_rest at inv.ages_below in
          record {
            left = inv.left - 1;
            long = (next_chunk head.clocks inv.left rest x behind inv.long e l).long;
            clocks_are = there.clocks_are ∙ inv.clocks_are;
            size_is = there.size_is ∙ inv.size_is;
            ages_below = (below.0, below.1.1, below.2);
            rest_is = ap (move_on others) there.configs_are ∙ (sym now_step ∙ inv.rest_is);
          }
