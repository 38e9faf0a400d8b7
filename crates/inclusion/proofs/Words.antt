-- The word that a path of pauses and events spells: it leads both tables where the path leads.
use mathlib.Core.Path.{◌≡◌, refl, sym, ◌∙◌, ap}
use mathlib.Core.Bool.{true, not}
use mathlib.Core.List.{List, [], ◌∷◌}
use Prim.Native.Nat.{ℕ, suc, ◌+◌, ◌-◌, ◌<◌}
use native.Mathlib.Omega.{arith}
use lib.Dec.{ltb}
use lib.ListN.{length}
use borrow.Author.Tests.{ltb-true, not-true}
use Rattle.model.specs.Basics.{all_below}
use Rattle.model.specs.Tables.{Tables}
use Rattle.model.specs.Words.{Event, events_of}
use Rattle.model.specs.Walks.{verdict}
use Rattle.model.specs.Inclusion.{OnlyFirst}
use Rattle.model.specs.JointStates.{State, start_state, takes, waits_for, walked}
use Rattle.model.specs.Lists.{list_grain}
use Rattle.model.proofs.Logic.{and_left, and_right}
use Rattle.model.proofs.Words.{Below, Ordered}
use Rattle.model.proofs.JointWalk.{of_keeps, walk_is}
use Rattle.inclusion.specs.Numbers.{first_state, second_state}
use Rattle.inclusion.specs.Graphs.{Graph, graph_of, Paired}
use Rattle.inclusion.proofs.Graphs.{takes_below}
use Rattle.inclusion.specs.Trails.{waits_on, led_by, sums}
use Rattle.inclusion.proofs.SearchLaws.{target}
use Rattle.inclusion.proofs.Steps.{Follows, first_follows, second_follows, pause_is, pause_below}

pub sums_length : (k : ℕ) (ps : List ℕ) → length (sums k ps) ≡ length ps
sums_length k [] = refl
sums_length k (p ∷ ps) = ap suc (sums_length (k + p) ps)

-- the steps of two tables know the first one's symbols
pub steps_known :
    (t u : Tables) (xs : List ℕ) → all_below (graph_of t u).symbols xs ≡ true
    → all_below t.built.symbols xs ≡ true
unfolding graph_of
steps_known t u xs b = b

-- it keeps the rules of a word
below_all : (m : ℕ) (xs ts : List ℕ) → all_below m xs ≡ true → Below m (events_of xs ts)
below_all m [] ts h = tt
below_all m (x ∷ xs) [] h = tt
below_all m (x ∷ xs) (t ∷ ts) h =
    (ltb-true x m (and_left (ltb x m) (all_below m xs) h), below_all m xs ts (and_right (ltb x m) (all_below m xs) h))

in_order : (k : ℕ) (xs ps : List ℕ) → Ordered k (events_of xs (sums k ps))
in_order k [] ps = tt
in_order k (x ∷ xs) [] = tt
in_order k (x ∷ xs) (p ∷ ps) = (omega arith, in_order (k + p) xs ps)

module _ (t u : Tables) {n : ℕ} (c : Paired t.built t.cells u.built u.cells n) where
  abbrev g : Graph
  g = graph_of t u

  abbrev known : ℕ
  known = t.built.symbols

  -- either table walks where the path leads
  walks :
      {v : Tables} {at : ℕ → State} (f : Follows t u n v at) (k : ℕ) (xs ps : List ℕ) (x : ℕ) → x < n
      → all_below known xs ≡ true
      → walked v k (events_of xs (sums k ps)) (at x) ≡ at (led_by g xs ps x)
  unfolding walked graph_of
  walks f k [] ps x h b = refl
  walks f k (a ∷ xs) [] x h b = refl
  walks {v} {at} f k (a ∷ xs) (p ∷ ps) x h b =
      let i : a < known = ltb-true a known (and_left (ltb a known) (all_below known xs) b) in
      let w : waits_on g p x < n = pause_below t u c p x h in
      let d : k + p - k ≡ p = omega arith in
      let e : takes v a (waits_for (k + p - k) v (at x)) ≡ at (g.takes_to a (waits_on g p x)) =
      ap (λ (m : ℕ). takes v a (waits_for m v (at x))) d
      ∙ ap (takes v a) (sym (pause_is t u c f p x h))
      ∙ sym (f.takes_is a (waits_on g p x) i w) in
      ap (walked v (k + p) (events_of xs (sums (k + p) ps))) e
      ∙ walks f (k + p) xs ps (g.takes_to a (waits_on g p x)) (takes_below t u c a (waits_on g p x) i w)
      (and_right (ltb a known) (all_below known xs) b)

  -- a path to a goal spells a word that only the first accepts
  module _ (xs ps : List ℕ) (z : 0 < n) (b : all_below known xs ≡ true) where
    abbrev word : List Event
    word = events_of xs (sums 0 ps)

    abbrev first_end : State
    first_end = first_state t.built u.built (led_by g xs ps 0)

    abbrev second_end : State
    second_end = second_state t.built u.built (led_by g xs ps 0)

    ends : {v : Tables} {at : ℕ → State} (f : Follows t u n v at) → walked v 0 word start_state ≡ at (led_by g xs ps 0)
    ends {v} f = ap (walked v 0 word) (sym f.start_is) ∙ walks f 0 xs ps 0 z b

    pub path_shows : target t u first_end second_end ≡ true → OnlyFirst t u list_grain word
    path_shows o =
        let q : Ordered 0 word = in_order 0 xs ps in
        let said = and_left (verdict t first_end.row) (not (verdict u second_end.row)) o in
        let denied = and_right (verdict t first_end.row) (not (verdict u second_end.row)) o in
        record {
          keeps =
              of_keeps known list_grain word
              (record {
                least = omega arith;
                most = omega arith;
                below = below_all known xs (sums 0 ps) b;
                ordered = q;
              });
          accepted = walk_is t word q ∙ ap (λ (s : State). verdict t s.row) (ends (first_follows t u c)) ∙ said;
          not_accepted =
              walk_is u word q ∙ ap (λ (s : State). verdict u s.row) (ends (second_follows t u c))
              ∙ not-true (verdict u second_end.row) denied;
        }
