-- What a search shows: all found and no goal, so included; a goal, so a word, and none shorter.
use mathlib.Core.Path.{◌≡◌, refl, sym, ◌∙◌, ap}
use mathlib.Core.Bool.{true, false}
use mathlib.Core.List.{List}
use Prim.Native.Nat.{ℕ, suc, ◌≤◌, ◌<◌}
use native.Mathlib.Omega.{arith}
use lib.ListN.{length}
use Rattle.model.specs.Basics.{all_below}
use Rattle.model.specs.Words.{events_of}
use Rattle.model.specs.Tables.{Tables}
use Rattle.model.specs.Inclusion.{Comparable, Included, NoneBelow, SomeOnlyFirst}
use Rattle.model.specs.JointStates.{State, start_state, waits, takes, JointReached}
use Rattle.model.proofs.Logic.{no_way, Two, less, least, two}
use Rattle.inclusion.specs.Numbers.{packed, first_state, second_state}
use Rattle.inclusion.specs.Graphs.{Graph, graph_of, Paired}
use Rattle.inclusion.proofs.JointLaws.{InState, start_inside, start_packed}
use Rattle.inclusion.proofs.Graphs.{graph_symbols, waits_inside, takes_inside, waits_goal}
use Rattle.inclusion.specs.Parts.{low, way}
use Rattle.inclusion.specs.Scans.{Placed, Came, began, waited, taken, Scan, Won}
use Rattle.inclusion.specs.Trails.{Trail, led_by, sums}
use Rattle.inclusion.proofs.Levels.{came_first}
use Rattle.inclusion.proofs.SearchLaws.{target, none_below, none_at_all}
use Rattle.inclusion.proofs.Steps.{graph_waits, graph_takes, graph_goal, goal_is}
use Rattle.inclusion.proofs.Words.{steps_known, path_shows}
use Rattle.inclusion.proofs.Ways.{way_to, word_fits, led_below, goal_still}

-- waiting leads to a goal only from one
waits_same :
    (t u : Tables) {n : ℕ} → Paired t.built t.cells u.built u.cells n → (x : ℕ) → x < n
    → (graph_of t u).goal ((graph_of t u).waits_to x) ≡ (graph_of t u).goal x
unfolding graph_of
waits_same t u p x h = waits_goal t u p x h

-- a joint state found at a level
record Seen (t u : Tables) (s : List ℕ) (tail : ℕ) (level : ℕ → ℕ) (k : ℕ) (x y : State) : Type 0 where
  at : Placed s tail level (packed t.built u.built x y) k
  first_in_lem : InState t.built x
  second_in_lem : InState u.built y

module _
    (t u : Tables) {n : ℕ} (p : Paired t.built t.cells u.built u.cells n)
    {s : List ℕ} {tail done from m : ℕ}
    (z : Scan (graph_of t u) s tail done from m)
    (some : 1 ≤ tail)
  where
    abbrev g : Graph
    g = graph_of t u

    abbrev first_at : ℕ → State
    first_at = first_state t.built u.built

    abbrev second_at : ℕ → State
    second_at = second_state t.built u.built

    -- the joint states seen at a level; the state at a place is reached
    abbrev By : ℕ → State → State → Type 0
    By = Seen t u s tail z.level

    abbrev Reached : ℕ → Type 0
    Reached k = JointReached t u (z.level k) (first_at (low s k)) (second_at (low s k))

    seen_start : By 0 start_state start_state
    seen_start =
        let begun = came_first (z.came 0 some) in
        record {
          at = record {
            place = 0;
            below = some;
            state_is = begun.1 ∙ sym (start_packed t.built u.built);
            level_most = omega (arith, begun.0);
          };
          first_in_lem = start_inside p.first.sized;
          second_in_lem = start_inside p.second.sized;
        }

    seen_waits : (k : ℕ) (x y : State) (b : By k x y) → b.at.place < done → By k (waits t x) (waits u y)
    seen_waits k x y b d =
        let w = z.waits_found b.at.place d in
        record {
          at = record {
            place = w.place;
            below = w.below;
            state_is =
                w.state_is ∙ ap g.waits_to b.at.state_is ∙ graph_waits t u p x y b.first_in_lem b.second_in_lem;
            level_most = omega (arith, w.level_most, b.at.level_most);
          };
          first_in_lem = waits_inside t x b.first_in_lem;
          second_in_lem = waits_inside u y b.second_in_lem;
        }

    seen_takes :
        (k : ℕ) (x y : State) (a : ℕ) (b : By k x y) → a < t.built.symbols → b.at.place < from
        → By (suc k) (takes t a x) (takes u a y)
    seen_takes k x y a b h d =
        let w = z.takes_found b.at.place a d (omega (arith, h, graph_symbols t u)) in
        record {
          at = record {
            place = w.place;
            below = w.below;
            state_is =
                w.state_is ∙ ap (g.takes_to a) b.at.state_is
                ∙ graph_takes t u p a x y b.first_in_lem b.second_in_lem;
            level_most = omega (arith, w.level_most, b.at.level_most);
          };
          first_in_lem = takes_inside t a x p.first h b.first_in_lem;
          second_in_lem = takes_inside u a y p.second (omega (arith, h, p.same_symbols)) b.second_in_lem;
        }

    seen_misses : (k : ℕ) (x y : State) (b : By k x y) → b.at.place < done → target t u x y ≡ false
    seen_misses k x y b d =
        sym (graph_goal t u p x y b.first_in_lem b.second_in_lem) ∙ ap g.goal (sym b.at.state_is)
        ∙ z.no_goal b.at.place d

-- all found, no goal
pub all_included :
    (t u : Tables) {n : ℕ} → Paired t.built t.cells u.built u.cells n
    → {s : List ℕ} {tail : ℕ} → Scan (graph_of t u) s tail tail tail 0
    → 1 ≤ tail
    → Comparable t u
    → Included t u
all_included t u p {s} {tail} z some c =
    none_at_all t u (Seen t u s tail z.level)
    (λ k. record {
      start = seen_start t u p z some;
      waiting = λ k x y h b. seen_waits t u p z some k x y b b.at.below;
      taking = λ k x y a h g b. seen_takes t u p z some k x y a b g b.at.below;
    })
    c
    (λ k x y b. seen_misses t u p z some k x y b b.at.below)

module _
    (t u : Tables) {n : ℕ} (p : Paired t.built t.cells u.built u.cells n)
    {s : List ℕ} {last from m : ℕ} (w : Won (graph_of t u) s last from m)
  where
    abbrev z : Scan (graph_of t u) s (suc last) last from m
    z = w.scan

    abbrev some : 1 ≤ suc last
    some = omega arith

    abbrev steps : Graph
    steps = graph_of t u

    -- what is seen below the goal's level stands before the goal
    not_last :
        (k : ℕ) (x y : State) → k < z.level last → (b : Seen t u s (suc last) z.level k x y) → b.at.place < last
    not_last k x y h b = by_two (two b.at.place last)
      where
        by_two : Two b.at.place last → b.at.place < last
        by_two (less d) = d
        by_two (least d) =
            let e : b.at.place ≡ last = omega (arith, b.at.below, d) in
            absurd (omega (arith, h, b.at.level_most, ap z.level e))

    -- no word that only the first accepts has fewer events than the goal's level
    pub none_shorter : Comparable t u → NoneBelow (z.level last) t u
    none_shorter c =
        none_below t u (z.level last) (Seen t u s (suc last) z.level)
        (record {
          start = seen_start t u p z some;
          waiting = λ k x y h b. seen_waits t u p z some k x y b (not_last k x y h b);
          taking = λ k x y a h g b.
              seen_takes t u p z some k x y a b g
              (w.ahead b.at.place b.at.below (omega (arith, h, b.at.level_most)));
        })
        c
        (λ k x y h b. seen_misses t u p z some k x y b (not_last k x y h b))

    -- a word leads to the goal, and its stamps have 32 bits
    pub some_word : length s ≡ n → SomeOnlyFirst t u
    some_word e =
        let v = way_to steps s z.level (suc last) z.came last (omega arith) in
        let here : 0 < n = omega (arith, e, z.laid.counted) in
        let known : all_below t.built.symbols v.symbols ≡ true = steps_known t u v.symbols v.inside in
        let end : ℕ = led_by steps v.symbols v.pauses 0 in
        let wins : (graph_of t u).goal end ≡ true =
        sym (goal_still t u p v.rest end (led_below t u p v.symbols v.pauses 0 here known))
        ∙ ap (graph_of t u).goal v.leads
        ∙ w.wins in
        record {
          word = events_of v.symbols (sums 0 v.pauses);
          fits = word_fits v.symbols v.pauses v.as_many
              (omega (arith, v.total, z.laid.counted, z.laid.small));
          only = path_shows t u p v.symbols v.pauses here known (sym (goal_is t u end) ∙ wins);
        }

    -- the way back
    pub won_trail : Trail (graph_of t u) s last (z.level last)
    won_trail = record {
      standing = record {
        short = omega (arith, z.laid.counted);
        states_below = z.laid.states_below;
        marked = z.laid.marked;
      };
      level = z.level;
      level_is = refl;
      rising = z.rising;
      level_mark_lem = z.level_mark_lem;
      came = z.came;
    }

    -- a goal is not found by waiting
    pub last_way : length s ≡ n → 1 ≤ last → 1 ≤ way s (low s last)
    last_way e h = by_came (z.came last (omega arith))
      where
        by_came : Came (graph_of t u) s z.level last → 1 ≤ way s (low s last)
        by_came (began f g v) = absurd (omega (arith, f, h))
        by_came (waited j f g v i) =
            no_way
            (sym (z.no_goal j (omega (arith, f)))
            ∙ sym (waits_same t u p (low s j) (omega (arith, e, z.laid.states_below j (omega (arith, f)))))
            ∙ ap (graph_of t u).goal (sym g)
            ∙ w.wins)
        by_came (taken a q b d f v i) = omega (arith, i)
