-- A follower begun by D on a built table and fed a word that keeps the rules: no event is refused, and its verdict
-- after each event is that of the word so far.
use mathlib.Core.Path.{◌≡◌, refl, sym, ◌∙◌, ap}
use mathlib.Core.Bool.{Bool, true, false, not}
use mathlib.Core.List.{List, [], ◌∷◌}
use Prim.Native.Nat.{ℕ, zero, suc, ◌+◌, ◌-◌, ◌*◌, ◌%◌, min, ◌≤◌, ◌<◌}
use native.Mathlib.Omega.{arith}
use native.Mathlib.Nat.{mul-mod_left}
use lib.Dec.{eqb, ltb, leb}
use lib.ListN.{length, get_or, take, length-take}
use borrow.Author.Tests.{ltb-true, le-ltb, lt-leb, ne_eqb}
use Rattle.model.specs.declared.Follower.{Follower}
use Rattle.model.specs.Basics.{pick, remainder, refuse, fine, ◌⨾◌}
use Rattle.model.specs.Rules.{Rule, cm}
use Rattle.model.specs.Words.{Event, events_of, most_events, grain_ok, word_refusal}
use Rattle.model.specs.Runs.{accepts}
use Rattle.model.specs.Construction.{interval_of, row_resets, row_at, rows_of}
use Rattle.model.specs.Tables.{Tables, tables_by, tables_of}
use Rattle.model.specs.Walks.{in_shape, shape_refusal, verdict, start_at, step, step_all, table_accepts, strayed}
use Rattle.model.specs.Walks.{follow_refusal}
use Rattle.model.specs.Claims.{no_event, FollowerAgrees}
use Rattle.model.proofs.Logic.{remainder_is, in_within}
use Rattle.model.proofs.Valid.{Valid, valid_of}
use Rattle.model.proofs.Discovery.{Closed, discovered}
use Rattle.model.proofs.RowSets.{even_reset}
use Rattle.model.proofs.Regions.{Age, beyond, whole, part, age}
use Rattle.model.proofs.Words.{Ordered, Below, Keeps, fine_keeps, keeps_fine, events_length}
use Rattle.model.proofs.Agreement.{walk_agrees}
use Rattle.model.proofs.TableRoom.{fitted_closed}
use Rattle.model.proofs.TableWalk.{Stepped, steps, table_walks}
use Rattle.model.proofs.Shape.{built_in_shape}

-- what a follower keeps that was fed so many events, the last at this stamp; its timer was reset at a whole second
pub record Kept (rows : List (List ℕ)) (d last count : ℕ) (f : Follower) : Type 0 where
  pub grain_is : f.grain ≡ d
  pub row_below : f.row < length rows
  pub last_is : f.last.0 ≡ last
  pub count_is : f.count ≡ count
  pub reset_before : f.reset.0 ≤ last
  pub seconds : ℕ
  pub reset_whole : f.reset.0 ≡ seconds * d

pub start_kept : (rows : List (List ℕ)) (d : ℕ) → 1 ≤ length rows → Kept rows d 0 0 (start_at d)
start_kept rows d h = record {
  grain_is = refl;
  row_below = h;
  last_is = refl;
  count_is = refl;
  reset_before = omega arith;
  seconds = 0;
  reset_whole = omega arith;
}

-- at an even interval the age is a whole number of seconds
even_whole : (c d a : ℕ) → 1 ≤ d → interval_of c d a % 2 ≡ 0 → (q : ℕ) × (a ≡ q * d)
even_whole c d a hd h = go (age c d a hd)
  where
    go : Age c d a → (q : ℕ) × (a ≡ q * d)
    go (beyond u v) = absurd (omega arith)
    go (whole q u w v) = (q, u)
    go (part q u w y v) = absurd (omega arith)

-- the reset stamp after an event
pub record Reset (d last reset : ℕ) : Type 0 where
  pub before : reset ≤ last
  pub seconds : ℕ
  pub is_whole : reset ≡ seconds * d

reset_after :
    (c d last now reset q : ℕ) (timer : Bool)
    → 1 ≤ d
    → last ≤ now
    → reset ≤ last
    → reset ≡ q * d
    → (timer ≡ true → interval_of c d (now - reset) % 2 ≡ 0)
    → Reset d now (pick timer now reset)
reset_after c d last now reset q false hd h g e even =
    record { before = omega arith; seconds = q; is_whole = e }
reset_after c d last now reset q true hd h g e even =
    let m : (k : ℕ) × (now - reset ≡ k * d) = even_whole c d (now - reset) hd (even refl) in
    record { before = omega arith; seconds = q + m.0; is_whole = omega (arith, m.1) }

-- a follower that was fed so many events, and the next event
pub record Ready (r : Rule) (rows : List (List ℕ)) (d count : ℕ) (f : Follower) (v : Event) : Type 0 where
  pub last : ℕ
  pub kept : Kept rows d last count f
  pub symbol_below : v.symbol < r.symbols
  pub not_before : last ≤ v.stamp

module _
    (r : Rule) (rows : List (List ℕ)) (c n p d : ℕ) (v : Valid r) (closed : Closed r (length rows) rows) (hd : 1 ≤ d)
  where
    step_kept :
        (f : Follower) (e : Event) (last count : ℕ)
        → Kept rows d last count f
        → e.symbol < r.symbols
        → last ≤ e.stamp
        → Kept rows d e.stamp (suc count) (step (tables_by r rows c n p) f e)
    step_kept f e last count k hs ho =
        record {
          grain_is = s.grain_is ∙ k.grain_is;
          row_below = s.row_below;
          last_is = s.last_is;
          count_is = s.count_is ∙ ap suc k.count_is;
          reset_before = rw s.reset_is reset.before;
          seconds = reset.seconds;
          reset_whole = s.reset_is ∙ reset.is_whole;
        }
      where
        i : ℕ
        i = interval_of (cm r) f.grain (e.stamp - f.reset.0)

        s : Stepped r rows f e i (step (tables_by r rows c n p) f e)
        s = steps r rows c n p closed f e (omega (arith, k.grain_is)) k.row_below hs

        timer : Bool
        timer = row_resets r e.symbol i (row_at rows f.row)

        even : timer ≡ true → interval_of (cm r) d (e.stamp - f.reset.0) % 2 ≡ 0
        even t = rw k.grain_is at (even_reset r e.symbol i (row_at rows f.row) v t)

        reset : Reset d e.stamp (pick timer e.stamp f.reset.0)
        reset =
            reset_after (cm r) d last e.stamp f.reset.0 k.seconds timer hd ho k.reset_before
            k.reset_whole even

    pub ready :
        (m : ℕ) (vs : List Event) (last count : ℕ) (f : Follower)
        → m < length vs
        → Below r.symbols vs
        → Ordered last vs
        → Kept rows d last count f
        → Ready r rows d (count + m) (step_all (tables_by r rows c n p) f (take m vs)) (get_or vs m no_event)
    unfolding step_all
    ready m [] last count f h b o k = absurd (omega arith)
    ready zero (e ∷ vs) last count f h b o k =
        let z : count + 0 ≡ count = omega arith in
        record { last = last; kept = rw z k; symbol_below = b.0; not_before = o.0 }
    ready (suc m) (e ∷ vs) last count f h b o k =
        let z : count + suc m ≡ suc count + m = omega arith in
        rw z
        (ready m vs e.stamp (suc count) (step (tables_by r rows c n p) f e) (omega arith) b.1 o.1
        (step_kept f e last count k b.0 o.0))

pub ready_at :
    (r : Rule) (rows : List (List ℕ)) (c n p d m : ℕ) (vs : List Event)
    → Valid r
    → Closed r (length rows) rows
    → 1 ≤ length rows
    → 1 ≤ d
    → m < length vs
    → Below r.symbols vs
    → Ordered 0 vs
    → Ready r rows d m (step_all (tables_by r rows c n p) (start_at d) (take m vs)) (get_or vs m no_event)
ready_at r rows c n p d m vs v closed some hd h b o =
    let z : 0 + m ≡ m = omega arith in
    rw z at (ready r rows c n p d v closed hd m vs 0 0 (start_at d) h b o (start_kept rows d some))

-- then none of 25, 30, 34, 31, 32 and 33 is met
not_strayed :
    (rows : List (List ℕ)) (d last count : ℕ) (f : Follower)
    → 1 ≤ d
    → count < most_events
    → Kept rows d last count f
    → strayed (length rows) f ≡ false
not_strayed rows d last count f hd h k =
    let z : remainder f.reset.0 f.grain ≡ 0 =
    rw (k.grain_is, k.reset_whole) (remainder_is (k.seconds * d) d hd ∙ mul-mod_left k.seconds d) in
    rw (
      lt-leb (length rows) f.row k.row_below,
      le-ltb f.last.0 f.reset.0 (omega (arith, k.last_is, k.reset_before)),
      z,
      le-ltb most_events f.count (omega (arith, k.count_is)),
    )

all_pass :
    (shape grain stray many symbol order : Bool) (i : ℕ)
    → shape ≡ false
    → grain ≡ false
    → stray ≡ false
    → many ≡ false
    → symbol ≡ false
    → order ≡ false
    → (refuse shape 25 0 ⨾ refuse grain 30 0 ⨾ refuse stray 34 0 ⨾ refuse many 31 0 ⨾ refuse symbol 32 i
    ⨾ refuse order 33 i)
    ≡ fine
all_pass shape grain stray many symbol order i a b c d e f = rw (a, b, c, d, e, f)

pub none_refused :
    (r : Rule) (rows : List (List ℕ)) (c n p d count : ℕ) (f : Follower) (v : Event)
    → in_shape (tables_by r rows c n p) ≡ true
    → 1 ≤ d
    → d ≤ 1000
    → count < most_events
    → Ready r rows d count f v
    → follow_refusal (tables_by r rows c n p) f v ≡ fine
unfolding follow_refusal shape_refusal tables_by
none_refused r rows c n p d count f v shape low high h k =
    let was : Kept rows d k.last count f = k.kept in
    all_pass (not (in_shape (tables_by r rows c n p))) (not (grain_ok f.grain)) (strayed (length rows) f)
    (eqb f.count most_events) (leb r.symbols v.symbol) (ltb v.stamp f.last.0) (suc f.count)
    (ap not shape)
    (ap not (ap grain_ok was.grain_is ∙ in_within 1 1000 d low high))
    (not_strayed rows d k.last count f low h was)
    (ne_eqb f.count most_events (omega (arith, was.count_is)))
    (lt-leb r.symbols v.symbol k.symbol_below)
    (le-ltb v.stamp f.last.0 (omega (arith, was.last_is, k.not_before)))

-- The word so far keeps the rules too.
events_take :
    (n : ℕ) (xs ts : List ℕ) → events_of (take n xs) (take n ts) ≡ take n (events_of xs ts)
events_take zero xs ts = refl
events_take (suc n) [] ts = refl
events_take (suc n) (x ∷ xs) [] = refl
events_take (suc n) (x ∷ xs) (t ∷ ts) =
    ap (λ (vs : List Event). record { symbol = x; stamp = t } ∷ vs) (events_take n xs ts)

prefix_below : (s n : ℕ) (vs : List Event) → Below s vs → Below s (take n vs)
prefix_below s zero vs b = tt
prefix_below s (suc n) [] b = tt
prefix_below s (suc n) (v ∷ vs) b = (b.0, prefix_below s n vs b.1)

prefix_ordered : (n last : ℕ) (vs : List Event) → Ordered last vs → Ordered last (take n vs)
prefix_ordered zero last vs o = tt
prefix_ordered (suc n) last [] o = tt
prefix_ordered (suc n) last (v ∷ vs) o = (o.0, prefix_ordered n v.stamp vs o.1)

pub word_so_far :
    (s d most n : ℕ) (xs ts : List ℕ)
    → word_refusal s d most xs ts ≡ fine
    → word_refusal s d most (take n xs) (take n ts) ≡ fine
word_so_far s d most n xs ts h =
    let w : Keeps s d most xs ts = fine_keeps s d most xs ts h in
    keeps_fine s d most (take n xs) (take n ts)
    (record {
      grain_least = w.grain_least;
      grain_most = w.grain_most;
      lengths_equal = length-take n xs ∙ (ap (min n) w.lengths_equal ∙ sym (length-take n ts));
      events_most = omega (arith, length-take n xs, w.events_most);
      symbols_below = rw (events_take n xs ts) (prefix_below s n (events_of xs ts) w.symbols_below);
      stamps_ordered = rw (events_take n xs ts) (prefix_ordered n 0 (events_of xs ts) w.stamps_ordered);
    })

-- The claim, by the agreement of the walk with the runs.
verdict_so_far :
    (r : Rule) (t : Tables) (d n : ℕ) (xs ts : List ℕ)
    → table_accepts t d (events_of (take n xs) (take n ts)) ≡ accepts r d (events_of (take n xs) (take n ts))
    → verdict t (step_all t (start_at d) (take n (events_of xs ts))).row ≡ accepts r d (take n (events_of xs ts))
unfolding table_accepts
verdict_so_far r t d n xs ts h = rw (events_take n xs ts) at h

pub follower_agrees : FollowerAgrees
unfolding tables_of
follower_agrees r scratch cells rows pool d xs ts n valid fits word h =
    let w : Keeps r.symbols d most_events xs ts = fine_keeps r.symbols d most_events xs ts word in
    let so_far : word_refusal r.symbols d most_events (take (suc n) xs) (take (suc n) ts) ≡ fine =
    word_so_far r.symbols d most_events (suc n) xs ts word in
    let l : n < length xs = ltb-true n (length xs) h in
    record {
      not_refused =
          none_refused r (rows_of r) cells rows pool d n
          (step_all (tables_of r cells rows pool) (start_at d) (take n (events_of xs ts)))
          (get_or (events_of xs ts) n no_event)
          (built_in_shape r scratch cells rows pool valid fits)
          w.grain_least
          w.grain_most
          (omega (arith, w.events_most))
          (ready_at r (rows_of r) cells rows pool d n (events_of xs ts) (valid_of r valid)
          (fitted_closed r scratch cells rows pool fits)
          (discovered r).some
          w.grain_least
          (omega (arith, events_length xs ts w.lengths_equal))
          w.symbols_below
          w.stamps_ordered);
      verdict_is =
          verdict_so_far r (tables_of r cells rows pool) d (suc n) xs ts
          (table_walks r scratch cells rows pool d most_events (take (suc n) xs) (take (suc n) ts) valid fits so_far
          ∙ walk_agrees r d most_events (take (suc n) xs) (take (suc n) ts) valid so_far);
    }
