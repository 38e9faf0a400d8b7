-- The least run by its start: the initial locations passed led to no accepting run.
use Rattle.std.specs.Prelude.{Option, Some, None}
use mathlib.Core.Path.{◌≡◌, refl, sym, ◌∙◌}
use mathlib.Core.Bool.{Bool, true, false}
use mathlib.Core.List.{List}
use Prim.Native.Nat.{ℕ, suc, ◌+◌, ◌-◌, ◌≤◌, ◌<◌}
use native.Mathlib.Omega.{arith}
use native.Mathlib.Numerals.{add-one}
use lib.ListN.{length}
use Rattle.model.specs.declared.Head.{Head}
use Rattle.model.specs.Basics.{pick, zeros, bit, bits_from}
use Rattle.model.specs.Rules.{most_locations, most_clocks}
use Rattle.model.specs.Words.{events_of}
use Rattle.model.specs.Runs.{Path, path, no_path, least_from, least_start, least_run}
use Rattle.model.specs.Layout.{rule_in}
use Rattle.model.proofs.Ages.{zeros_most, bits_more, bits_skip}
use Rattle.ages.specs.declared.Configuration.{Configuration}
use Rattle.ages.specs.Ages.{numbers_of}
use Rattle.ages.proofs.Moves.{start_ages_lem}
use Rattle.branch.specs.Branches.{placed, least_at, begun, least_of, Ready, Begins}
use Rattle.branch.proofs.Laws.{placed_none, placed_some}

-- with all n events left, the first is at place 0
all_left : (n : ℕ) → n - n ≡ 0
all_left n = omega arith

-- before the first event, all of them left, all ages 0
pub start_ready :
    (head : Head) (symbols stamps : List ℕ) (from : Configuration) → Begins head symbols stamps
    → numbers_of from.ages.of ≡ zeros most_clocks
    → Ready head symbols stamps (length symbols - length symbols) 0 from
start_ready head symbols stamps from b z = record {
  depth_in = omega arith;
  counts_equal = b.counts_equal;
  events_most = b.events_most;
  edges_most = b.edges_most;
  stamps_ordered = rw (all_left (length symbols)) b.stamps_ordered;
  ages_most = rw (start_ages_lem head.clocks from.ages z b.clocks_most) (zeros_most 0 head.clocks);
}

module _ (head : Head) (edges : List ℕ) (d : ℕ) (symbols stamps : List ℕ) where
  abbrev run_from : ℕ → Path
  run_from l = least_from (rule_in head edges) d (events_of symbols stamps) 0 l (zeros head.clocks)

  -- the initial locations from l on are left
  abbrev pub start_from : ℕ → Path
  start_from l =
      least_start (rule_in head edges) d (events_of symbols stamps) (bits_from (most_locations - l) l head.starts)

  pub record Starting (starts l : ℕ) : Type 0 where
    pub turns : l ≤ most_locations
    pub starts_are : starts ≡ head.starts
    pub rest_is : start_from l ≡ least_of head edges d symbols stamps

  pub starting : (starts : ℕ) → starts ≡ head.starts → Starting starts 0
  unfolding least_run rule_in
  starting starts e = record { turns = omega arith; starts_are = e; rest_is = refl }

  module _ {starts l : ℕ} (inv : Starting starts l) (h : l < most_locations) where
    on_to : start_from l ≡ start_from (l + 1) → Starting starts (l + 1)
    on_to e = record { turns = omega arith; starts_are = inv.starts_are; rest_is = sym e ∙ inv.rest_is }

    left : most_locations - l ≡ suc (most_locations - (l + 1))
    left = omega arith

    -- not an initial location
    pub starting_other : (r : Bool) → r ≡ bit l starts → r ≡ false → Starting starts (l + 1)
    starting_other r t f =
        let unset : bit l head.starts ≡ false = rw inv.starts_are at (sym t ∙ f) in
        on_to (rw (left, bits_skip (most_locations - (l + 1)) l head.starts unset, add-one l))

    module _
        (r : Bool) (from : Configuration) (b : Begins head symbols stamps) (t : r ≡ bit l starts)
        (set : r ≡ true) (at : from.location ≡ l) (z : numbers_of from.ages.of ≡ zeros most_clocks)
      where
        is_start : bit l head.starts ≡ true
        is_start = rw inv.starts_are at (sym t ∙ set)

        -- the run over all events
        abbrev whole : Option (List ℕ)
        whole =
            let first = length symbols - length symbols in
            placed first (least_at head edges d symbols stamps first 0 from)

        whole_is : whole ≡ placed 0 (run_from l)
        whole_is = rw (all_left (length symbols), at, start_ages_lem head.clocks from.ages z b.clocks_most)

        start_step : start_from l ≡ pick (run_from l).found (path true l (run_from l).taken) (start_from (l + 1))
        unfolding least_start rule_in
        start_step = rw (left, bits_more (most_locations - (l + 1)) l head.starts is_start, add-one l)

        pub starting_stuck : None ≡ whole → Starting starts (l + 1)
        starting_stuck p = on_to (start_step ∙ rw (placed_none 0 (run_from l) (run_from l).found refl (p ∙ whole_is)))

        pub starting_found :
            (es : List ℕ) → Some es ≡ whole
            → Some (record { start = l; edges = es }) ≡ begun (least_of head edges d symbols stamps)
        starting_found es p =
            let some = placed_some 0 (run_from l) (run_from l).found es refl (p ∙ whole_is) in
            let least : least_of head edges d symbols stamps ≡ path true l (run_from l).taken =
            sym inv.rest_is ∙ (start_step ∙ rw some.0) in
            rw (some.1, least)

  pub starting_none :
      {starts l : ℕ} → Starting starts l → most_locations ≤ l → least_of head edges d symbols stamps ≡ no_path
  unfolding least_start bits_from
  starting_none {l = l} inv h = let z : most_locations - l ≡ 0 = omega arith in sym inv.rest_is ∙ rw z
