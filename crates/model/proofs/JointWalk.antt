-- Two tables walked together: the timer's age in half seconds, cut at the top interval, is all that a walk at D = 2
-- depends on; by words alike D = 2 is enough; and the joint states reached are those that words lead to.
use mathlib.Core.Path.{◌≡◌, refl, sym, ◌∙◌, ap}
use mathlib.Core.Bool.{Bool, true, false}
use mathlib.Core.List.{List, [], ◌∷◌, ◌++◌}
use Prim.Native.Nat.{ℕ, zero, suc, ◌+◌, ◌-◌, ◌*◌, ◌/◌, ◌%◌, ◌≤◌, ◌<◌}
use native.Mathlib.Omega.{arith}
use lib.Dec.{eqb, ltb}
use lib.ListN.{length}
use borrow.Author.Tests.{eqb-true, ltb-true, ltb-false, le-ltb, lt-ltb}
use Rattle.model.specs.declared.Follower.{Follower}
use Rattle.model.specs.Basics.{pick, passes}
use Rattle.model.specs.Words.{Event, grain_ok, events_refusal}
use Rattle.model.specs.Alike.{half_seconds, in_halves}
use Rattle.model.specs.Construction.{top_interval, interval_of}
use Rattle.model.specs.Tables.{Tables}
use Rattle.model.specs.Walks.{verdict, cell_at, stamp, start_at, step_cell, step, step_all}
use Rattle.model.specs.Walks.{table_accepts}
use Rattle.model.specs.Lists.{list_grain, event_of}
use Rattle.model.specs.Inclusion.{keeps_any}
use Rattle.model.specs.JointStates.{State, state, start_state, waited, waits, takes, waits_for, walked}
use Rattle.model.specs.JointStates.{JointReached, begin, wait, take}
use Rattle.model.specs.Claims.{HalfSecondsSuffice, JointWalkIs}
use Rattle.model.proofs.Logic.{by_test, and_left, and_right, and_both, within_least, within_most, in_within}
use Rattle.model.proofs.Words.{Ordered, Below, events_keep, events_fine}
use Rattle.model.proofs.Seconds.{half_rises, half_zero, cut}
use Rattle.model.proofs.Alike.{half_two, interval_two, length_halves}
use Rattle.model.proofs.AlikeTables.{Alike, none, more, table_alike}

-- half a second more, cut at the top
cut_waited : (c a : ℕ) → waited c (cut c a) ≡ cut c (suc a)
cut_waited c a = by_test (ltb (2 * c) a) over under
  where
    over : ltb (2 * c) a ≡ true → waited c (cut c a) ≡ cut c (suc a)
    over e =
        rw (
          e,
          lt-ltb (2 * c) (suc a) (omega (arith, ltb-true (2 * c) a e)),
          le-ltb (top_interval c) (top_interval c) (omega arith),
        )

    under : ltb (2 * c) a ≡ false → waited c (cut c a) ≡ cut c (suc a)
    under e = rw (e, lt-ltb a (top_interval c) (omega (arith, ltb-false (2 * c) a e)))
        (last_half (ltb (2 * c) (suc a)) refl)
      where
        last_half : (z : Bool) → ltb (2 * c) (suc a) ≡ z → suc a ≡ cut c (suc a)
        last_half true f = rw f (omega (arith, ltb-false (2 * c) a e, ltb-true (2 * c) (suc a) f))
        last_half false f = rw f

module _ (t : Tables) where
  abbrev c : ℕ
  c = t.built.top

  wait_on : (n r a : ℕ) → waits_for n t (state r (cut c a)) ≡ state r (cut c (a + n))
  wait_on zero r a = let e : a + 0 ≡ a = omega arith in rw e
  wait_on (suc n) r a =
      let e : a + suc n ≡ suc a + n = omega arith in
      rw (cut_waited c a, e) (wait_on n r (suc a))

  -- a state stands for a follower with D = 2
  record Stands (last : ℕ) (f : Follower) (x : State) : Type 0 where
    grain_is : f.grain ≡ 2
    before : f.reset.0 ≤ last
    state_is : x ≡ state f.row (cut c (last - f.reset.0))

  after_event :
      (last : ℕ) (f : Follower) (x : State) (v : Event) → last ≤ v.stamp → Stands last f x
      → Stands v.stamp (step t f v) (takes t v.symbol (waits_for (v.stamp - last) t x))
  unfolding step
  after_event last f x v o k =
      let a : ℕ = v.stamp - f.reset.0 in
      let e : last - f.reset.0 + (v.stamp - last) ≡ v.stamp - f.reset.0 = omega (arith, k.before) in
      let now_is : waits_for (v.stamp - last) t x ≡ state f.row (cut c (v.stamp - f.reset.0)) =
      ap (waits_for (v.stamp - last) t) k.state_is ∙ wait_on (v.stamp - last) f.row (last - f.reset.0)
      ∙ ap (λ (z : ℕ). state f.row (cut c z)) e in
      let cell_is : step_cell t f v ≡ cell_at t f.row v.symbol (cut c (v.stamp - f.reset.0)) =
      ap (λ (d : ℕ). cell_at t f.row v.symbol (interval_of c d (v.stamp - f.reset.0))) k.grain_is
      ∙ ap (cell_at t f.row v.symbol) (interval_two c (v.stamp - f.reset.0)) in
      go (step_cell t f v) cell_is (eqb (step_cell t f v % 2) 1) refl now_is
    where
      go :
          (cell : ℕ) → cell ≡ cell_at t f.row v.symbol (cut c (v.stamp - f.reset.0)) → (b : Bool)
          → eqb (cell % 2) 1 ≡ b
          → waits_for (v.stamp - last) t x ≡ state f.row (cut c (v.stamp - f.reset.0))
          → Stands v.stamp
          (record {
            grain = f.grain;
            row = cell / 2;
            reset = pick (eqb (cell % 2) 1) (stamp v.stamp) f.reset;
            last = stamp v.stamp;
            count = suc f.count;
          })
          (takes t v.symbol (waits_for (v.stamp - last) t x))
      go cell i true m n = record {
        grain_is = k.grain_is;
        before = rw m (omega arith);
        state_is = rw (n, ← i, m) (ap (state (cell / 2)) (zero_cut v.stamp));
      }
        where
          zero_cut : (z : ℕ) → 0 ≡ cut c (z - z)
          zero_cut z = let y : z - z ≡ 0 = omega arith in rw (y, le-ltb (2 * c) 0 (omega arith))
      go cell i false m n = record {
        grain_is = k.grain_is;
        before = rw m (omega (arith, k.before));
        state_is = rw (n, ← i, m);
      }

  walk_stands :
      (last : ℕ) (f : Follower) (x : State) (vs : List Event) → Ordered last vs → Stands last f x
      → (walked t last vs x).row ≡ (step_all t f vs).row
  unfolding walked step_all
  walk_stands last f x [] o k = ap (λ (y : State). y.row) k.state_is
  walk_stands last f x (v ∷ vs) o k =
      walk_stands v.stamp (step t f v) (takes t v.symbol (waits_for (v.stamp - last) t x)) vs o.1
      (after_event last f x v o.0 k)

  start_stands : Stands 0 (start_at 2) start_state
  start_stands = record {
    grain_is = refl;
    before = omega arith;
    state_is = rw (le-ltb (2 * c) 0 (omega arith));
  }

  pub walk_is : (vs : List Event) → Ordered 0 vs → table_accepts t 2 vs ≡ verdict t (walked t 0 vs start_state).row
  unfolding table_accepts
  walk_is vs o = ap (verdict t) (sym (walk_stands 0 (start_at 2) start_state vs o start_stands))

-- A word of any number of events that keeps the rules, as plain facts.
pub record KeepsAny (s d : ℕ) (vs : List Event) : Type 0 where
  pub least : 1 ≤ d
  pub most : d ≤ 1000
  pub below : Below s vs
  pub ordered : Ordered 0 vs

pub keeps_of : (s d : ℕ) (vs : List Event) → keeps_any s d vs ≡ true → KeepsAny s d vs
keeps_of s d vs h =
    let g : grain_ok d ≡ true = and_left (grain_ok d) (passes (events_refusal s 1 0 vs)) h in
    let n = eqb-true (events_refusal s 1 0 vs).number 0 (and_right (grain_ok d) (passes (events_refusal s 1 0 vs)) h) in
    let k = events_keep s 1 0 vs n in
    record { least = within_least 1 1000 d g; most = within_most 1 1000 d g; below = k.0; ordered = k.1 }

pub of_keeps : (s d : ℕ) (vs : List Event) → KeepsAny s d vs → keeps_any s d vs ≡ true
of_keeps s d vs k =
    and_both (grain_ok d) (passes (events_refusal s 1 0 vs)) (in_within 1 1000 d k.least k.most)
    (rw (events_fine s 1 0 vs k.below k.ordered))

-- The word of the same length at D = 2.
halves_alike : (d : ℕ) (vs : List Event) → Alike d 2 vs (in_halves d vs)
halves_alike d [] = none
halves_alike d (v ∷ vs) = more refl (sym (half_two (half_seconds d v.stamp))) (halves_alike d vs)

halves_below : (s d : ℕ) (vs : List Event) → Below s vs → Below s (in_halves d vs)
halves_below s d [] b = tt
halves_below s d (v ∷ vs) b = (b.0, halves_below s d vs b.1)

halves_ordered : (d last : ℕ) (vs : List Event) → 1 ≤ d → Ordered last vs
    → Ordered (half_seconds d last) (in_halves d vs)
halves_ordered d last [] hd o = tt
halves_ordered d last (v ∷ vs) hd o = (half_rises d last v.stamp hd o.0, halves_ordered d v.stamp vs hd o.1)

halves_keep : (s d : ℕ) (vs : List Event) → KeepsAny s d vs → KeepsAny s 2 (in_halves d vs)
halves_keep s d vs k = record {
  least = omega arith;
  most = omega arith;
  below = halves_below s d vs k.below;
  ordered = rw (half_zero d k.least) at (halves_ordered d 0 vs k.least k.ordered);
}

-- D = 2 is enough
pub half_seconds_suffice : HalfSecondsSuffice
half_seconds_suffice t u d vs c o =
    let s : ℕ = t.built.symbols in
    let k : KeepsAny s d vs = keeps_of s d vs o.keeps in
    let j : KeepsAny s 2 (in_halves d vs) = halves_keep s d vs k in
    record {
      as_long = length_halves d vs;
      only = record {
        keeps = of_keeps s 2 (in_halves d vs) j;
        accepted =
            sym (table_alike t c.first_shape d 2 k.least (omega arith) (halves_alike d vs) k.below k.ordered
            j.ordered) ∙ o.accepted;
        not_accepted =
            sym (table_alike u c.second_shape d 2 k.least (omega arith) (halves_alike d vs)
            (rw (← c.same_symbols) k.below)
            k.ordered
            j.ordered) ∙ o.not_accepted;
      };
    }

-- A word ends in a state reached.
reach_wait :
    (t u : Tables) (n m : ℕ) (x y : State) → JointReached t u m x y
    → JointReached t u m (waits_for n t x) (waits_for n u y)
reach_wait t u zero m x y r = r
reach_wait t u (suc n) m x y r = reach_wait t u n m (waits t x) (waits u y) (wait r)

reach_on :
    (t u : Tables) (m last : ℕ) (vs : List Event) (x y : State) → Below t.built.symbols vs → JointReached t u m x y
    → JointReached t u (m + length vs) (walked t last vs x) (walked u last vs y)
unfolding walked
reach_on t u m last [] x y b r = let e : m + 0 ≡ m = omega arith in rw e r
reach_on t u m last (v ∷ vs) x y b r =
    let e : m + suc (length vs) ≡ suc m + length vs = omega arith in
    rw e
    (reach_on t u (suc m) v.stamp vs (takes t v.symbol (waits_for (v.stamp - last) t x))
    (takes u v.symbol (waits_for (v.stamp - last) u y))
    b.1
    (take v.symbol b.0 (reach_wait t u (v.stamp - last) m x y r)))

pub reaches :
    (t u : Tables) (vs : List Event) → keeps_any t.built.symbols list_grain vs ≡ true
    → JointReached t u (length vs) (walked t 0 vs start_state) (walked u 0 vs start_state)
reaches t u vs h =
    let e : 0 + length vs ≡ length vs = omega arith in
    rw e at (reach_on t u 0 0 vs start_state start_state (keeps_of t.built.symbols 2 vs h).below begin)

-- A state reached is reached by a word and a pause after it.
abbrev end_of : ℕ → List Event → ℕ
end_of last [] = last
end_of last (v ∷ vs) = end_of v.stamp vs

ordered_more : (last : ℕ) (vs : List Event) (v : Event) → Ordered last vs → end_of last vs ≤ v.stamp
    → Ordered last (vs ++ (v ∷ []))
ordered_more last [] v o h = (h, tt)
ordered_more last (w ∷ vs) v o h = (o.0, ordered_more w.stamp vs v o.1 h)

below_more : (s : ℕ) (vs : List Event) (v : Event) → Below s vs → v.symbol < s → Below s (vs ++ (v ∷ []))
below_more s [] v b h = (h, tt)
below_more s (w ∷ vs) v b h = (b.0, below_more s vs v b.1 h)

length_more : (vs : List Event) (v : Event) → length (vs ++ (v ∷ [])) ≡ suc (length vs)
length_more [] v = refl
length_more (w ∷ vs) v = ap suc (length_more vs v)

walked_more :
    (t : Tables) (last : ℕ) (vs : List Event) (v : Event) (x : State)
    → walked t last (vs ++ (v ∷ [])) x
    ≡ takes t v.symbol (waits_for (v.stamp - end_of last vs) t (walked t last vs x))
unfolding walked
walked_more t last [] v x = refl
walked_more t last (w ∷ vs) v x =
    walked_more t w.stamp vs v (takes t w.symbol (waits_for (w.stamp - last) t x))

waits_last : (n : ℕ) (t : Tables) (x : State) → waits t (waits_for n t x) ≡ waits_for (suc n) t x
waits_last zero t x = refl
waits_last (suc n) t x = waits_last n t (waits t x)

waits_row : (n : ℕ) (t : Tables) (x : State) → (waits_for n t x).row ≡ x.row
waits_row zero t x = refl
waits_row (suc n) t x = waits_row n t (waits t x)

record ReachedBy (t u : Tables) (n : ℕ) (x y : State) : Type 0 where
  word : List Event
  pause : ℕ
  length_is : length word ≡ n
  below : Below t.built.symbols word
  ordered : Ordered 0 word
  first_is : x ≡ waits_for pause t (walked t 0 word start_state)
  second_is : y ≡ waits_for pause u (walked u 0 word start_state)

by_word : (t u : Tables) (n : ℕ) (x y : State) → JointReached t u n x y → ReachedBy t u n x y
unfolding walked
by_word t u n x y begin = record {
  word = [];
  pause = 0;
  length_is = refl;
  below = tt;
  ordered = tt;
  first_is = refl;
  second_is = refl;
}
by_word t u n x y (wait {x = x'} {y = y'} r) =
    let k = by_word t u n x' y' r in
    record {
      word = k.word;
      pause = suc k.pause;
      length_is = k.length_is;
      below = k.below;
      ordered = k.ordered;
      first_is = ap (waits t) k.first_is ∙ waits_last k.pause t (walked t 0 k.word start_state);
      second_is = ap (waits u) k.second_is ∙ waits_last k.pause u (walked u 0 k.word start_state);
    }
by_word t u n x y (take {n = m} {x = x'} {y = y'} s h r) =
    let k = by_word t u m x' y' r in
    let end : ℕ = end_of 0 k.word in
    let v : Event = event_of s (end + k.pause) in
    let e : end + k.pause - end ≡ k.pause = omega arith in
    record {
      word = k.word ++ (v ∷ []);
      pause = 0;
      length_is = length_more k.word v ∙ ap suc k.length_is;
      below = below_more t.built.symbols k.word v k.below h;
      ordered = ordered_more 0 k.word v k.ordered (omega arith);
      first_is =
          ap (takes t s) (k.first_is ∙ ap (λ (z : ℕ). waits_for z t (walked t 0 k.word start_state)) (sym e))
          ∙ sym (walked_more t 0 k.word v start_state);
      second_is =
          ap (takes u s) (k.second_is ∙ ap (λ (z : ℕ). waits_for z u (walked u 0 k.word start_state)) (sym e))
          ∙ sym (walked_more u 0 k.word v start_state);
    }

pub reached_by :
    (t u : Tables) (n : ℕ) (x y : State) → JointReached t u n x y
    → (vs : List Event) × ((length vs ≡ n) × ((keeps_any t.built.symbols list_grain vs ≡ true)
    × (((walked t 0 vs start_state).row ≡ x.row) × ((walked u 0 vs start_state).row ≡ y.row))))
reached_by t u n x y r =
    let k = by_word t u n x y r in (
      k.word,
      (
        k.length_is,
        (
          of_keeps t.built.symbols 2 k.word
              (record { least = omega arith; most = omega arith; below = k.below; ordered = k.ordered }),
          (
            sym (ap (λ (z : State). z.row) k.first_is ∙ waits_row k.pause t (walked t 0 k.word start_state)),
            sym (ap (λ (z : State). z.row) k.second_is ∙ waits_row k.pause u (walked u 0 k.word start_state)),
          ),
        ),
      ),
    )

pub joint_walk_is : JointWalkIs
joint_walk_is = record {
  walk_is = λ t s vs k. walk_is t vs (keeps_of s 2 vs k).ordered;
  reaches = reaches;
  reached_by = reached_by;
}
