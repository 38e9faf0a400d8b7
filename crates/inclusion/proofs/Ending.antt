-- The three ways in which a search ends: all found, no room for the word, the word.
use mathlib.Core.Path.{◌≡◌, refl, sym, ◌∙◌, ap, subst}
use mathlib.Core.Bool.{true, false}
use mathlib.Core.List.{List, ◌++◌}
use Rattle.std.specs.declared.ops.ControlFlow.TheVariants.{Break, Continue}
use Prim.Native.Nat.{ℕ, suc, ◌-◌, ◌≤◌, ◌<◌}
use native.Mathlib.Omega.{arith}
use lib.ListN.{length, take, drop}
use lib.Seq.{length-take-le}
use Rattle.model.specs.Basics.{lesser, zeros, filled, refusal, fine}
use Rattle.model.specs.Words.{Event, events_of, most_events}
use Rattle.model.specs.Tables.{Tables}
use Rattle.model.specs.Lists.{list_grain, symbols_of, stamps_of}
use Rattle.model.specs.Inclusion.{most_joint_states, Comparable, word_room, OnlyFirst, NoneBelow, SomeOnlyFirst}
use Rattle.model.specs.Promises.{inclusion, Searched, holds, shown, too_long}
use Rattle.model.proofs.Logic.{lesser_left, lesser_right}
use Rattle.model.proofs.Ages.{take_zeros}
use Rattle.model.proofs.Words.{events_length}
use Rattle.model.proofs.Lists.{symbols_back, stamps_back}
use Rattle.numbers.proofs.Laid.{drop_zeros}
use Rattle.inclusion.specs.Graphs.{Graph, graph_of, Paired}
use Rattle.inclusion.proofs.Graphs.{paired_as}
use Rattle.inclusion.specs.Parts.{low, way}
use Rattle.inclusion.specs.Scans.{progress_in, Wins, Searches}
use Rattle.inclusion.specs.Trails.{Trail, Retraceable, sums}
use Rattle.inclusion.specs.Judging.{Shows}
use Rattle.inclusion.proofs.Steps.{only_first_at, goal_is}
use Rattle.inclusion.proofs.Findings.{all_included, none_shorter, some_word, won_trail, last_way}
use Rattle.inclusion.proofs.Words.{sums_length, steps_known, path_shows}
use Rattle.inclusion.proofs.Ways.{word_fits}

-- a goal at place `last`
pub record GoalAt (t u : Tables) (s : List ℕ) (last : ℕ) : Type 0 where
  pub events : ℕ
  pub trail : Trail (graph_of t u) s last events
  pub none : Comparable t u → NoneBelow events t u
  pub some : SomeOnlyFirst t u
  pub came : 1 ≤ last → 1 ≤ way s (low s last)
  pub few : last ≤ most_joint_states
  pub wins : only_first_at t u (low s last) ≡ true

goal_at :
    (t u : Tables) {n : ℕ} (p : Paired t.built t.cells u.built u.cells n) (s : List ℕ) (last : ℕ)
    → length s ≡ n
    → Wins (graph_of t u) s (suc last)
    → GoalAt t u s last
goal_at t u p s last e w =
    let i : w.last ≡ last = omega (arith, w.tail_is) in
    subst (λ (k : ℕ). GoalAt t u s k) i
    (record {
      events = w.won.scan.level w.last;
      trail = won_trail t u p w.won;
      none = none_shorter t u p w.won;
      some = some_word t u p w.won e;
      came = last_way t u p w.won e;
      few = omega (arith, w.won.scan.laid.counted, w.won.scan.laid.small);
      wins = sym (goal_is t u (low s w.last)) ∙ w.won.wins;
    })

pub room_fits : (r a b e : ℕ) → r ≡ lesser most_events (lesser a b) → e ≤ r → (e ≤ a) × (e ≤ b)
room_fits r a b e h k = (
  omega (arith, h, k, lesser_right most_events (lesser a b), lesser_left a b),
  omega (arith, h, k, lesser_right most_events (lesser a b), lesser_right a b),
)

module _ (t u : Tables) where
  abbrev steps : Graph
  steps = graph_of t u

  -- the search ended with all found
  pub ends_included :
      (s s' symbols stamps : List ℕ) (tail : ℕ) → Comparable t u
      → Paired t.built t.cells u.built u.cells (length s)
      → Searches (graph_of t u) s s' (progress_in (Continue tail))
      → symbols ≡ zeros (length symbols)
      → stamps ≡ zeros (length stamps)
      → Searched t u symbols symbols stamps stamps (inclusion fine true 0)
  ends_included s s' symbols stamps tail c a r z v =
      holds refl
      (all_included t u a
      (r.goes refl)
      r.some
      c)
      z
      v

  -- the search ended at a goal
  pub ends_goal :
      (s s' : List ℕ) (last : ℕ) → Paired t.built t.cells u.built u.cells (length s)
      → Searches (graph_of t u) s s' (progress_in (Break last))
      → GoalAt t u s' last
  ends_goal s s' last a r = goal_at t u a s' last r.same_length (r.wins refl)

  -- no room for the word
  pub ends_long :
      (s : List ℕ) (last : ℕ) (symbols stamps : List ℕ) (w : GoalAt t u s last) (events room : ℕ) → Comparable t u
      → events ≡ w.events
      → room ≡ word_room symbols stamps
      → room < events
      → symbols ≡ zeros (length symbols)
      → stamps ≡ zeros (length stamps)
      → Searched t u symbols symbols stamps stamps (inclusion (refusal 37 0) false 0)
  ends_long s last symbols stamps w events room c e f h z v =
      too_long refl w.some (λ d vs o. omega (arith, w.none c d vs o, e, f, h)) z v

  -- what the way back needs
  pub show_ready :
      (s : List ℕ) (last events : ℕ) (w : GoalAt t u s last) (n : ℕ) → events ≡ w.events
      → Paired t.built t.cells u.built u.cells n
      → length s ≡ n
      → (xs ts : List ℕ) → events ≤ length xs → events ≤ length ts → ts ≡ zeros (length ts)
      → Retraceable t u s last (take events xs) (take events ts)
  show_ready s last events w n e p l xs ts h k z =
      let a : length (take events xs) ≡ events = length-take-le events xs h in
      let b : length (take events ts) ≡ events = length-take-le events ts k in
      record {
        paired = paired_as l p;
        trail = subst (λ (i : ℕ). Trail steps s last i) (sym (a ∙ e)) w.trail;
        same_length = b ∙ sym a;
        no_pauses = ap (take events) z ∙ take_zeros events (length ts) k ∙ ap zeros (sym b);
        by_event = w.came;
      }

  -- a room that begins with the word and was zero
  filled_as :
      (room xs bs : List ℕ) (events : ℕ) → bs ≡ xs → room ≡ zeros (length room) → length xs ≡ events
      → xs ++ drop events room ≡ filled (length room) bs
  filled_as room xs bs events i j m =
      ap (λ (o : List ℕ). xs ++ drop events o) j
      ∙ ap (λ (o : List ℕ). xs ++ o) (drop_zeros events (length room))
      ∙ ap (λ (o : ℕ). xs ++ zeros (length room - o)) (sym m)
      ∙ ap (λ (o : List ℕ). filled (length room) o) (sym i)

  -- the word shown
  module _ {s : List ℕ} {last : ℕ} {xs ts : List ℕ} (q : Shows steps s last xs ts) where
    abbrev stamps_shown : List ℕ
    stamps_shown = sums 0 q.pauses

    abbrev word : List Event
    word = events_of xs stamps_shown

    as_many : length xs ≡ length stamps_shown
    as_many = sym q.same_length ∙ sym (sums_length 0 q.pauses)

    word_length : length word ≡ length xs
    word_length = events_length xs stamps_shown as_many

    word_shows : {n : ℕ} → Paired t.built t.cells u.built u.cells n → 0 < n
        → GoalAt t u s last → OnlyFirst t u list_grain word
    word_shows p some w =
        path_shows t u p xs q.pauses some (steps_known t u xs q.retraced.inside)
        (ap (only_first_at t u) q.retraced.path ∙ w.wins)

  pub ends_shown :
      (s : List ℕ) (last events room : ℕ) (w : GoalAt t u s last) (n : ℕ) (symbols stamps xs ts : List ℕ)
      → Comparable t u
      → events ≡ w.events
      → Paired t.built t.cells u.built u.cells n
      → 0 < n
      → Shows steps s last xs ts
      → length xs ≡ events
      → room ≡ word_room symbols stamps
      → events ≤ room
      → symbols ≡ zeros (length symbols)
      → stamps ≡ zeros (length stamps)
      → Searched t u symbols (xs ++ drop events symbols) stamps (ts ++ drop events stamps) (inclusion fine false events)
  ends_shown s last events room w n symbols stamps xs ts c e p some q l f h z v =
      let count : length (word q) ≡ events = word_length q ∙ l in
      let y : stamps_of (word q) ≡ ts = stamps_back xs (stamps_shown q) (as_many q) ∙ sym q.stamps_are in
      shown (word q)
      (ap (inclusion fine false) (sym count))
      (omega (arith, count, h, f))
      (word_fits xs q.pauses q.same_length (omega (arith, q.retraced.total, w.few)))
      (word_shows q p some w)
      (subst (λ (i : ℕ). NoneBelow i t u) (sym (count ∙ e)) (w.none c))
      (filled_as symbols xs (symbols_of (word q)) events (symbols_back xs (stamps_shown q) (as_many q)) z l)
      (filled_as stamps ts (stamps_of (word q)) events y v (ap length q.stamps_are ∙ sym (as_many q) ∙ l))
