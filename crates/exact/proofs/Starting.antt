-- The configurations at the start, location by location.
use Rattle.std.proofs.Common.{◌≡◌, ◌<◌, ◌≤◌, ◌+◌, ◌-◌, ◌*◌, ℕ, suc, Bool, true, false, List, [], ◌∷◌, ◌++◌, length}
use Rattle.std.proofs.Common.{refl, sym, ◌∙◌, ap, ap₂, arith, add-one, append_assoc, length-append}
use mathlib.Core.List.{append-nil}
use Rattle.model.specs.declared.Head.{Head}
use Rattle.model.specs.Basics.{zeros, bit, bits_from}
use Rattle.model.specs.Rules.{most_locations, most_clocks}
use Rattle.model.specs.Runs.{Config, config, start_configs}
use Rattle.model.specs.Layout.{locations_in, rule_in}
use Rattle.model.proofs.Ages.{bits_more, bits_skip}
use Rattle.ages.specs.declared.Configuration.{Configuration}
use Rattle.ages.specs.Ages.{numbers_of, config_of}
use Rattle.ages.proofs.Moves.{start_ages_lem}
use Rattle.exact.specs.declared.bank.Bank.{Bank}
use Rattle.exact.specs.Banks.{configs_of, Filled}
use Rattle.exact.specs.Runs.{starts_at, starts_over}
use Rattle.exact.proofs.Spreading.{still_over}

-- the rule's initial locations with all ages 0
pub starts_are :
    (head : Head) (edges : List ℕ)
    → start_configs (rule_in head edges) (rule_in head edges).initial ≡ starts_over head.clocks head.starts
unfolding rule_in
starts_are head edges = go (locations_in head.starts)
  where
    go : (ls : List ℕ) → start_configs (rule_in head edges) ls ≡ starts_at head.clocks ls
    go [] = refl
    go (l ∷ ls) = ap (λ (cs : List Config). config l (zeros head.clocks) ∷ cs) (go ls)

module _ (k mask : ℕ) where
  -- those written, with those from location l on, are all; size is the bank's numbers
  pub record Starting (l size : ℕ) (bank : Bank) : Type 0 where
    pub clocks_are : bank.clocks ≡ k
    pub size_is : length bank.numbers.now ≡ size
    pub rest_is : configs_of bank ++ starts_at k (bits_from (most_locations - l) l mask) ≡ starts_over k mask

  pub starting : (bank : Bank) → bank.clocks ≡ k → bank.held ≡ 0 → Starting 0 (length bank.numbers.now) bank
  starting bank h none =
      let nothing : configs_of bank ≡ [] = rw none in record { clocks_are = h; size_is = refl; rest_is = rw nothing }

  module _ {l size : ℕ} {bank : Bank} (inv : Starting l size bank) (h : l < most_locations) (r : Bool)
      (test : r ≡ bit l mask) where
    left : most_locations - l ≡ suc (most_locations - (l + 1))
    left = omega arith

    -- not an initial location
    pub starting_other : r ≡ false → Starting (l + 1) size bank
    starting_other f =
        let unset : bit l mask ≡ false = sym test ∙ f in
        record {
          clocks_are = inv.clocks_are;
          size_is = inv.size_is;
          rest_is = rw (left, bits_skip (most_locations - (l + 1)) l mask unset, ← add-one l) at inv.rest_is;
        }

    module _ (yes : r ≡ true) (c : Configuration) (at : c.location ≡ l)
        (z : numbers_of c.ages.of ≡ zeros most_clocks) where
      config_is : config_of bank.clocks c ≡ config l (zeros k)
      config_is = ap₂ config at (start_ages_lem bank.clocks c.ages z bank.clocks_most ∙ ap zeros inv.clocks_are)

      -- this one written, the others are left
      then_rest :
          (configs_of bank ++ (config_of bank.clocks c ∷ []))
          ++ starts_at k (bits_from (most_locations - (l + 1)) (l + 1) mask)
          ≡ starts_over k mask
      then_rest =
          let set : bit l mask ≡ true = sym test ∙ yes in
          rw (
            config_is,
            append_assoc (configs_of bank) (config l (zeros k) ∷ [])
                (starts_at k (bits_from (most_locations - (l + 1)) (l + 1) mask)),
          )
          (rw (left, bits_more (most_locations - (l + 1)) l mask set, ← add-one l) at inv.rest_is)

      pub starting_added :
          (bank' : Bank) → Filled bank (configs_of bank ++ (config_of bank.clocks c ∷ [])) bank'
          → Starting (l + 1) size bank'
      starting_added bank' there =
          record {
            clocks_are = there.clocks_are ∙ inv.clocks_are;
            size_is = there.size_is ∙ inv.size_is;
            rest_is = rw there.configs_are then_rest;
          }

      pub starting_full :
          length bank.numbers.now < length (configs_of bank ++ (config_of bank.clocks c ∷ [])) * (bank.clocks + 1)
          → (w : ℕ) → w ≡ k
          → size < length (starts_over k mask) * (w + 1)
      starting_full over w same =
          let cs : List Config = configs_of bank ++ (config_of bank.clocks c ∷ []) in
          let here : length bank.numbers.now < length (starts_over k mask) * (bank.clocks + 1) =
          still_over (length bank.numbers.now) (bank.clocks + 1) cs (starts_over k mask) over
          (omega (
            arith,
            length-append cs (starts_at k (bits_from (most_locations - (l + 1)) (l + 1) mask)),
            ap (λ (x : List Config). length x) then_rest,
          )) in
          rw same (rw (inv.clocks_are, inv.size_is) at here)

  pub started :
      {l size : ℕ} {bank : Bank} (was : Bank) → Starting l size bank → most_locations ≤ l → was.clocks ≡ k
      → size ≡ length was.numbers.now
      → Filled was (starts_over k mask) bank
  unfolding bits_from
  started {l = l} {bank = bank} was inv h g s =
      let z : most_locations - l ≡ 0 = omega arith in
      record {
        clocks_are = inv.clocks_are ∙ sym g;
        size_is = inv.size_is ∙ s;
        configs_are = sym (append-nil (configs_of bank)) ∙ (rw z at inv.rest_is);
      }
