-- The configurations that the edges lead to from one: those added, with the edges still to try, are what all give.
use Rattle.std.proofs.Common.{◌≡◌, ◌<◌, ◌≤◌, ◌+◌, ◌-◌, ◌*◌, ℕ, Bool, true, false, List, length, drop, refl, sym, ◌∙◌}
use Rattle.std.proofs.Common.{ap, ap₂, arith}
use native.Mathlib.Nat.{mul-le-mul_right}
use Rattle.model.specs.Basics.{pick}
use Rattle.model.specs.Rules.{Edge}
use Rattle.model.specs.Runs.{zeroed, Config, config, with_config, by_edges}
use Rattle.model.specs.Layout.{edge_width, edge_at, edges_in}
use Rattle.model.proofs.EdgeTable.{edges_rest}
use Rattle.model.proofs.Configs.{edges_grow}
use Rattle.edges.specs.declared.StoredEdge.{StoredEdge}
use Rattle.edges.specs.Views.{edge_of}
use Rattle.ages.specs.declared.Configuration.{Configuration}
use Rattle.ages.specs.Ages.{ages_of, config_of, takes, with_symbol, Moved}
use Rattle.ages.proofs.Moves.{moved_ages}
use Rattle.exact.specs.declared.bank.Bank.{Bank}
use Rattle.exact.specs.Chunks.{configs_in}
use Rattle.exact.specs.Banks.{configs_of, Filled}
use Rattle.exact.specs.Ready.{by_edges_of}

-- more than there is room for, among as many or more
pub still_over :
    (size w : ℕ) (cs all : List Config) → size < length cs * w → length cs ≤ length all → size < length all * w
still_over size w cs all h g = omega (arith, mul-le-mul_right {m = length cs} {n = length all} w g)

module _ (k count : ℕ) (edges : List ℕ) (d symbol : ℕ) (from : Configuration) where
  -- the edges from number e on are left, cs are there
  abbrev spread_from : ℕ → List Config → List Config
  spread_from e cs =
      by_edges d (with_symbol symbol) from.location (ages_of k from.ages)
      (edges_in (count - e) (drop (edge_width * e) edges))
      cs

  -- what edge e leads to, if it can be taken
  abbrev target : ℕ → Config
  target e = config (edge_at e edges).target (zeroed (edge_at e edges).resets (ages_of k from.ages))

  -- size is the bank's numbers
  pub record Spreading (e size : ℕ) (all : List Config) (bank : Bank) : Type 0 where
    pub clocks_are : bank.clocks ≡ k
    pub size_is : length bank.numbers.now ≡ size
    pub rest_is : spread_from e (configs_of bank) ≡ all

  pub spreading :
      (bank : Bank) → bank.clocks ≡ k
      → Spreading 0 (length bank.numbers.now) (by_edges_of k count edges d symbol from (configs_of bank)) bank
  spreading bank h =
      let z : count - 0 ≡ count = omega arith in
      record { clocks_are = h; size_is = refl; rest_is = rw z }

  spread_step :
      (e : ℕ) (cs : List Config) → e < count
      → spread_from e cs
      ≡ spread_from (e + 1) (pick (takes d k symbol from (edge_at e edges)) (with_config (target e) cs) cs)
  unfolding by_edges
  spread_step e cs h =
      ap (λ (es : List Edge). by_edges d (with_symbol symbol) from.location (ages_of k from.ages) es cs)
      (edges_rest count e edges h)

  module _ {e size : ℕ} {all : List Config} {bank : Bank} (inv : Spreading e size all bank) (h : e < count) (r : Bool)
      (edge : StoredEdge) (at : (edge.table.now ≡ edges) × (edge.number ≡ e))
      (told : r ≡ takes d bank.clocks symbol from (edge_of edge)) where
    test : r ≡ takes d k symbol from (edge_at e edges)
    test = rw (inv.clocks_are, at.0, at.1) at told

    -- an edge that cannot be taken
    pub spreading_other : r ≡ false → Spreading (e + 1) size all bank
    spreading_other f = record {
      clocks_are = inv.clocks_are;
      size_is = inv.size_is;
      rest_is = (rw (sym test ∙ f) at (sym (spread_step e (configs_of bank) h))) ∙ inv.rest_is;
    }

    module _ (yes : r ≡ true) (next : Configuration) (went : Moved (edge_of edge) from next) where
      moved : Moved (edge_at e edges) from next
      moved = rw (at.0, at.1) at went

      next_is : config_of k next ≡ target e
      next_is = ap₂ config moved.location_is (moved_ages k moved)

      -- what is left once the configuration is added
      then_rest : spread_from (e + 1) (with_config (config_of k next) (configs_of bank)) ≡ all
      then_rest =
          rw next_is
          ((rw (sym test ∙ yes) at (sym (spread_step e (configs_of bank) h))) ∙ inv.rest_is)

      pub spreading_added :
          (bank' : Bank) → Filled bank (with_config (config_of bank.clocks next) (configs_of bank)) bank'
          → Spreading (e + 1) size all bank'
      spreading_added bank' there =
          record {
            clocks_are = there.clocks_are ∙ inv.clocks_are;
            size_is = there.size_is ∙ inv.size_is;
            rest_is =
                ap (spread_from (e + 1)) (rw inv.clocks_are at there.configs_are) ∙ (rw inv.clocks_are at then_rest);
          }

      pub spreading_full :
          length bank.numbers.now
          < length (with_config (config_of bank.clocks next) (configs_of bank)) * (bank.clocks + 1)
          → (w : ℕ) → w ≡ k
          → size < length all * (w + 1)
      spreading_full over w same =
          let cs : List Config = with_config (config_of k next) (configs_in k bank.held bank.numbers.now) in
          let grows : length cs ≤ length (spread_from (e + 1) cs) =
          edges_grow d (with_symbol symbol) from.location (ages_of k from.ages)
          (edges_in (count - (e + 1)) (drop (edge_width * (e + 1)) edges))
          cs in
          let rest : spread_from (e + 1) cs ≡ all = rw inv.clocks_are at then_rest in
          rw same
          (still_over size (k + 1) cs all (rw (inv.clocks_are, inv.size_is) at over)
          (omega (arith, grows, ap (λ (x : List Config). length x) rest)))

  pub spread_all :
      {e size : ℕ} {all : List Config} {bank : Bank} (was : Bank) → Spreading e size all bank → count ≤ e
      → was.clocks ≡ k → size ≡ length was.numbers.now
      → Filled was all bank
  unfolding by_edges
  spread_all {e} was inv h g l =
      let z : count - e ≡ 0 = omega arith in
      record { clocks_are = inv.clocks_are ∙ sym g; size_is = inv.size_is ∙ l; configs_are = rw z at inv.rest_is }
