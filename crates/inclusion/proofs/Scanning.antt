-- The search's invariant: a note keeps it; waiting closes a state; the events of a state one by one; the next state.
use mathlib.Core.Path.{◌≡◌, refl, sym, ◌∙◌, ap, subst₂}
use mathlib.Core.Bool.{true, false}
use mathlib.Core.List.{List}
use Prim.Native.Nat.{ℕ, suc, ◌-◌, ◌/◌, ◌%◌, ◌≤◌, ◌<◌}
use native.Mathlib.Omega.{arith}
use lib.Dec.{eqb}
use lib.ListN.{length}
use borrow.Author.Tests.{eqb-true, eqb-false, eq-eqb, ne_eqb}
use Rattle.model.specs.Basics.{pick}
use Rattle.model.proofs.Logic.{by_test, Two, less, least, two}
use Rattle.inclusion.specs.Graphs.{Graph}
use Rattle.inclusion.specs.Parts.{low, high, level_mark, Keeps, ways, level_marks, most_mark}
use Rattle.inclusion.specs.Scans.{Place, Placed, Came, began, waited, taken, Scan, Next, first, event, waiting, Won}
use Rattle.inclusion.proofs.Parts.{Grown, Noting, grown_laid, grown_keeps}

-- the levels with one place more
abbrev levelled : (ℕ → ℕ) → ℕ → ℕ → ℕ → ℕ
levelled level tail n k = pick (eqb k tail) n (level k)

pub level_old : (level : ℕ → ℕ) (tail n k : ℕ) → k < tail → levelled level tail n k ≡ level k
level_old level tail n k b = rw (ne_eqb k tail (λ q. absurd (omega (arith, b, q))))

level_new : (level : ℕ → ℕ) (tail n : ℕ) → levelled level tail n tail ≡ n
level_new level tail n = rw (eq-eqb tail tail refl)

mark_kept : {s s' : List ℕ} {tail : ℕ} → Keeps s tail s' → (k : ℕ) → k < tail → high s' (low s' k) ≡ high s (low s k)
mark_kept {s} {s'} h k b = ap (λ (y : ℕ). high s' y) (h.low_kept k b) ∙ h.high_kept k b

-- what may be noted next
levels_to :
    {g : Graph} {s : List ℕ} {tail done from m x mark n : ℕ} (z : Scan g s tail done from m)
    → Next g s z.level tail from x mark n
    → (k : ℕ) → k < tail → z.level k ≤ n
levels_to z (first e f u v w) k b = absurd (omega (arith, e, b))
levels_to z (event a f u q v w i) k b = omega (arith, z.most k b f, w)
levels_to z (waiting j e f u v i) k b = omega (arith, z.rising k j (omega (arith, e, b)) (omega (arith, e)), v)

most_new :
    {g : Graph} {s : List ℕ} {tail done from m x mark n : ℕ} (z : Scan g s tail done from m)
    → Next g s z.level tail from x mark n
    → n ≤ suc (levelled z.level tail n from)
most_new {tail = tail} {from = from} {n = n} z (first e f u v w) = omega (arith, v)
most_new {tail = tail} {from = from} {n = n} z (event a f u q v w i) =
    omega (arith, level_old z.level tail n from f, w)
most_new {tail = tail} {from = from} {n = n} z (waiting j e f u v i) =
    omega (arith, level_old z.level tail n from f, z.most j (omega (arith, e)) f, v)

pub next_mark :
    {g : Graph} {s : List ℕ} {level : ℕ → ℕ} {tail from x mark n : ℕ} → Next g s level tail from x mark n
    → ((mark - 1) / ways ≡ n % level_marks) × (1 ≤ mark) × (mark ≤ most_mark)
next_mark (first e f u v w) = (omega (arith, v, w), omega (arith, w), omega (arith, w))
next_mark (event a f u q v w i) = (omega (arith, i, q), omega (arith, i), omega (arith, i, q))
next_mark (waiting j e f u v i) = (omega (arith, i), omega (arith, i), omega (arith, i))

module _
    {g : Graph} {s : List ℕ} {tail done from m : ℕ} (z : Scan g s tail done from m) (s' : List ℕ) (x mark n : ℕ)
    (r : Grown s tail x mark s')
    (h : x < length s)
    (w : high s x ≡ 0)
    (nx : Next g s z.level tail from x mark n)
  where
    abbrev levels : ℕ → ℕ
    levels = levelled z.level tail n

    pub noting : Noting s tail x mark
    noting = record {
      laid = z.laid;
      state_below = h;
      not_found = w;
      mark_some = (next_mark nx).1;
      mark_most = (next_mark nx).2;
    }

    kept : Keeps s tail s'
    kept = grown_keeps z.laid w r

    pub kept_level : (k : ℕ) → k < tail → levels k ≡ z.level k
    kept_level k b = level_old z.level tail n k b

    new_level : levels tail ≡ n
    new_level = level_new z.level tail n

    pub placed_up : (y k : ℕ) → Placed s tail z.level y k → Placed s' (suc tail) levels y k
    placed_up y k p = record {
      place = p.place;
      below = omega (arith, p.below);
      state_is = r.low_old p.place p.below ∙ p.state_is;
      level_most = rw (kept_level p.place p.below) p.level_most;
    }

    pub found_up : (y : ℕ) → 1 ≤ high s' y → Place s' (suc tail) y
    found_up y k =
        by_test (eqb y x)
        (λ e. record { place = tail; below = omega arith; state_is = r.low_new ∙ sym (eqb-true y x e) })
        (λ e. up (z.found y (rw (r.high_old y (eqb-false y x e)) at k)))
      where
        up : Place s tail y → Place s' (suc tail) y
        up p = record {
          place = p.place;
          below = omega (arith, p.below);
          state_is = r.low_old p.place p.below ∙ p.state_is;
        }

    came_old : (k : ℕ) → k < tail → Came g s z.level k → Came g s' levels k
    came_old k b (began e f u) = began e (r.low_old k b ∙ f) (kept_level k b ∙ u)
    came_old k b (waited j e f u v) =
        let i : j < tail = omega (arith, e, b) in
        waited j e
        (r.low_old k b ∙ f ∙ ap g.waits_to (sym (r.low_old j i)))
        (kept_level k b ∙ u ∙ sym (kept_level j i))
        (ap (λ (y : ℕ). (y - 1) % ways) (mark_kept kept k b) ∙ v)
    came_old k b (taken a p q u f v i) =
        let l : p < tail = omega (arith, q, b) in
        taken a p q u
        (r.low_old k b ∙ f ∙ ap (g.takes_to a) (sym (r.low_old p l)))
        (kept_level k b ∙ v ∙ ap suc (sym (kept_level p l)))
        (ap (λ (y : ℕ). (y - 1) % ways) (mark_kept kept k b) ∙ i)

    mark_is : high s' (low s' tail) ≡ mark
    mark_is = ap (λ (y : ℕ). high s' y) r.low_new ∙ r.high_new

    came_new : Next g s z.level tail from x mark n → Came g s' levels tail
    came_new (first e f u v i) = began e (r.low_new ∙ u) (new_level ∙ v)
    came_new (event a f u q v i o) =
        taken a from f u
        (r.low_new ∙ v ∙ ap (g.takes_to a) (sym (r.low_old from f)))
        (new_level ∙ i ∙ ap suc (sym (kept_level from f)))
        (let d : (mark - 1) % ways ≡ suc a = omega (arith, o, q) in
        ap (λ (y : ℕ). (y - 1) % ways) mark_is ∙ d)
    came_new (waiting j e f u v o) =
        let i : j < tail = omega (arith, e) in
        waited j e
        (r.low_new ∙ u ∙ ap g.waits_to (sym (r.low_old j i)))
        (new_level ∙ v ∙ sym (kept_level j i))
        (let d : (mark - 1) % ways ≡ 0 = omega (arith, o) in
        ap (λ (y : ℕ). (y - 1) % ways) mark_is ∙ d)

    pub rising_new : (j k : ℕ) → j ≤ k → k < suc tail → levels j ≤ levels k
    rising_new j k a b = elim (two k tail) [
      | less c ↦ rw (kept_level k c, kept_level j (omega (arith, a, c))) (z.rising j k a c)
      | least c ↦ last (omega arith) (two j tail)
    ]
      where
        last : k ≡ tail → Two j tail → levels j ≤ levels k
        last e (less d) =
            rw e (rw (new_level, kept_level j d) (levels_to z nx j d))
        last e (least d) = let f : j ≡ k = omega arith in rw f (omega arith)

    pub most_all : (k : ℕ) → k < suc tail → levels k ≤ suc (levels from)
    most_all k b = elim (two k tail) [
      | less c ↦ omega (arith, kept_level k c, levels_to z nx k c, most_new z nx)
      | least c ↦
          let e : k ≡ tail = omega arith in
          rw e (rw new_level (most_new z nx))
    ]

    pub level_mark_new : (k : ℕ) → k < suc tail → level_mark s' (low s' k) ≡ levels k % level_marks
    level_mark_new k b = elim (two k tail) [
      | less c ↦
          ap (λ (y : ℕ). (y - 1) / ways) (mark_kept kept k c) ∙ z.level_mark_lem k c
          ∙ ap (λ (y : ℕ). y % level_marks) (sym (kept_level k c))
      | least c ↦
          let e : k ≡ tail = omega arith in
          rw e (ap (λ (y : ℕ). (y - 1) / ways) mark_is ∙ (next_mark nx).0
          ∙ ap (λ (y : ℕ). y % level_marks) (sym new_level))
    ]

    pub came_all : (k : ℕ) → k < suc tail → Came g s' levels k
    came_all k b = elim (two k tail) [
      | less c ↦ came_old k c (z.came k c)
      | least c ↦ let e : k ≡ tail = omega arith in rw e (came_new nx)
    ]

    pub takes_up :
        (k a : ℕ) → k < tail → Placed s tail z.level (g.takes_to a (low s k)) (suc (z.level k))
        → Placed s' (suc tail) levels (g.takes_to a (low s' k)) (suc (levels k))
    takes_up k a c p =
        subst₂ (λ (y v : ℕ). Placed s' (suc tail) levels (g.takes_to a y) (suc v)) (sym (r.low_old k c))
        (sym (kept_level k c))
        (placed_up (g.takes_to a (low s k)) (suc (z.level k)) p)

    unfoldable pub grown_scan : Scan g s' (suc tail) done from m
    grown_scan = record {
      laid = grown_laid noting r;
      level = levels;
      done_most = omega (arith, z.done_most);
      from_most = omega (arith, z.from_most);
      now_below = λ b. omega (arith, z.now_below b);
      found = found_up;
      rising = rising_new;
      most = λ k b d. most_all k b;
      level_mark_lem = level_mark_new;
      came = came_all;
      waits_found = λ k b.
          let c : k < tail = omega (arith, b, z.done_most) in
          subst₂ (λ (y v : ℕ). Placed s' (suc tail) levels (g.waits_to y) v) (sym (r.low_old k c))
          (sym (kept_level k c))
          (placed_up (g.waits_to (low s k)) (z.level k) (z.waits_found k b));
      no_goal = λ k b.
          let c : k < tail = omega (arith, b, z.done_most) in
          rw (r.low_old k c) (z.no_goal k b);
      takes_found = λ k a b d. takes_up k a (omega (arith, b, z.from_most)) (z.takes_found k a b d);
      takes_now = λ a b. takes_up from a (z.now_below (omega (arith, b))) (z.takes_now a b);
    }

    pub grown_level_new : grown_scan.level tail ≡ n
    unfolding grown_scan
    grown_level_new = new_level

    pub grown_level_old : (k : ℕ) → k < tail → grown_scan.level k ≡ z.level k
    unfolding grown_scan
    grown_level_old = kept_level

    grown_most : n ≤ suc (grown_scan.level from)
    unfolding grown_scan
    grown_most = most_new z nx

-- a goal that was just noted is ahead of all
pub grown_won :
    {g : Graph} {s : List ℕ} {tail from m : ℕ} (z : Scan g s tail tail from m) (s' : List ℕ) (x mark n : ℕ)
    → Grown s tail x mark s'
    → x < length s
    → high s x ≡ 0
    → Next g s z.level tail from x mark n
    → g.goal x ≡ true
    → Won g s' tail from m
grown_won {g} {s} {tail} {from} z s' x mark n r h w nx o = record {
  scan = grown_scan z s' x mark n r h w nx;
  wins = ap g.goal r.low_new ∙ o;
  ahead = λ k b q. elim (two k from) [
    | less c ↦ c
    | least c ↦
        absurd (omega (
          arith,
          q,
          (grown_scan z s' x mark n r h w nx).rising from k c b,
          grown_most z s' x mark n r h w nx,
          grown_level_new z s' x mark n r h w nx,
        ))
  ];
}

-- one state more has its waiting found, and is no goal
unfoldable pub close_scan :
    {g : Graph} {s : List ℕ} {tail done from m : ℕ} (z : Scan g s tail done from m) → done < tail
    → Placed s tail z.level (g.waits_to (low s done)) (z.level done)
    → g.goal (low s done) ≡ false
    → Scan g s tail (suc done) from m
close_scan {g} {s} {tail} {done} {from} {m} z d p o = record {
  laid = z.laid;
  level = z.level;
  done_most = d;
  from_most = z.from_most;
  now_below = z.now_below;
  found = z.found;
  rising = z.rising;
  most = z.most;
  level_mark_lem = z.level_mark_lem;
  came = z.came;
  waits_found = λ k b. elim (two k done) [
    | less c ↦ z.waits_found k c
    | least c ↦ let e : k ≡ done = omega (arith, b, c) in rw e p
  ];
  no_goal = λ k b. elim (two k done) [
    | less c ↦ z.no_goal k c
    | least c ↦ let e : k ≡ done = omega (arith, b, c) in rw e o
  ];
  takes_found = z.takes_found;
  takes_now = z.takes_now;
}

pub close_level :
    {g : Graph} {s : List ℕ} {tail done from m : ℕ} (z : Scan g s tail done from m) (d : done < tail)
    (p : Placed s tail z.level (g.waits_to (low s done)) (z.level done))
    (o : g.goal (low s done) ≡ false)
    (k : ℕ)
    → (close_scan z d p o).level k ≡ z.level k
unfolding close_scan
close_level z d p o k = refl

-- the last state: what waiting leads to is found
pub close_last :
    {g : Graph} {s : List ℕ} {tail from m : ℕ} → Scan g s (suc tail) tail from m → 1 ≤ high s (g.waits_to (low s tail))
    → g.goal (low s tail) ≡ false
    → Scan g s (suc tail) (suc tail) from m
close_last {g} {s} {tail} {from} {m} z h o =
    close_scan z (omega arith) (at_last (z.found (g.waits_to (low s tail)) h)) o
  where
    at_last :
        Place s (suc tail) (g.waits_to (low s tail))
        → Placed s (suc tail) z.level (g.waits_to (low s tail)) (z.level tail)
    at_last p = record {
      place = p.place;
      below = p.below;
      state_is = p.state_is;
      level_most = z.rising p.place tail (omega (arith, p.below)) (omega arith);
    }

-- one event more of the state at `from`
pub take_scan :
    {g : Graph} {s : List ℕ} {tail from m : ℕ} → Scan g s tail tail from m → from < tail
    → 1 ≤ high s (g.takes_to m (low s from))
    → Scan g s tail tail from (suc m)
take_scan {g} {s} {tail} {from} {m} z f h = record {
  laid = z.laid;
  level = z.level;
  done_most = z.done_most;
  from_most = z.from_most;
  now_below = λ b. f;
  found = z.found;
  rising = z.rising;
  most = z.most;
  level_mark_lem = z.level_mark_lem;
  came = z.came;
  waits_found = z.waits_found;
  no_goal = z.no_goal;
  takes_found = z.takes_found;
  takes_now = λ a b. elim (two a m) [
    | less c ↦ z.takes_now a c
    | least c ↦ let e : a ≡ m = omega (arith, b, c) in rw e (at_most (z.found (g.takes_to m (low s from)) h))
  ];
}
  where
    at_most :
        Place s tail (g.takes_to m (low s from))
        → Placed s tail z.level (g.takes_to m (low s from)) (suc (z.level from))
    at_most p = record {
      place = p.place;
      below = p.below;
      state_is = p.state_is;
      level_most = z.most p.place p.below f;
    }

-- the next state
pub move_scan :
    {g : Graph} {s : List ℕ} {tail from m : ℕ} → Scan g s tail tail from m → from < tail → g.symbols ≤ m
    → Scan g s tail tail (suc from) 0
move_scan {g} {s} {tail} {from} {m} z f h = record {
  laid = z.laid;
  level = z.level;
  done_most = z.done_most;
  from_most = f;
  now_below = λ b. absurd (omega (arith, b));
  found = z.found;
  rising = z.rising;
  most = λ k b d. omega (arith, z.most k b f, z.rising from (suc from) (omega arith) d);
  level_mark_lem = z.level_mark_lem;
  came = z.came;
  waits_found = z.waits_found;
  no_goal = z.no_goal;
  takes_found = λ k a b d. elim (two k from) [
    | less c ↦ z.takes_found k a c d
    | least c ↦ let e : k ≡ from = omega (arith, b, c) in rw e (z.takes_now a (omega (arith, d, h)))
  ];
  takes_now = λ a b. absurd (omega (arith, b));
}
