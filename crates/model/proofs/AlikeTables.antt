-- Two words alike over one table in shape, filled by hand too: the timer is reset on whole seconds only, so the two
-- walks are at the same row, with the timer reset at the same second, after each event.
use mathlib.Core.Path.{◌≡◌, refl, sym, ◌∙◌, ap, ap₂}
use mathlib.Core.Bool.{Bool, true, false}
use mathlib.Core.List.{List, [], ◌∷◌}
use Prim.Native.Nat.{ℕ, ◌+◌, ◌-◌, ◌*◌, ◌/◌, ◌%◌, ◌≤◌, ◌<◌}
use native.Mathlib.Omega.{arith}
use lib.Dec.{eqb}
use borrow.Author.Tests.{eqb-true}
use Rattle.model.specs.declared.Follower.{Follower}
use Rattle.model.specs.Basics.{pick}
use Rattle.model.specs.Words.{Event}
use Rattle.model.specs.Alike.{half_seconds}
use Rattle.model.specs.Construction.{interval_of}
use Rattle.model.specs.Tables.{Tables}
use Rattle.model.specs.Walks.{cell_at, in_shape, stamp, start_at, step_cell, step, step_all, verdict, table_accepts}
use Rattle.model.proofs.Regions.{Whole, whole_at_even, interval_small}
use Rattle.model.proofs.Words.{Ordered, Below}
use Rattle.model.proofs.Seconds.{half_less, half_whole, half_zero, half_even, interval_half, cut}
use Rattle.model.proofs.ShapeCells.{CellKept, cell_kept, shaped}

-- event by event equal symbols and equal half seconds
pub data Alike (d e : ℕ) : List Event → List Event → Type 0 where
  none : Alike d e [] []
  more :
      {v w : Event} {vs ws : List Event} → v.symbol ≡ w.symbol → half_seconds d v.stamp ≡ half_seconds e w.stamp
      → Alike d e vs ws
      → Alike d e (v ∷ vs) (w ∷ ws)

-- two followers at one row, their timers reset at the same second
record Level (rows d e : ℕ) (f g : Follower) : Type 0 where
  grain_is : f.grain ≡ d
  grain_is' : g.grain ≡ e
  row_is : f.row ≡ g.row
  row_below : f.row < rows
  second : ℕ
  reset_is : f.reset.0 ≡ second * d
  reset_is' : g.reset.0 ≡ second * e
  before : second * d ≤ f.last.0
  before' : second * e ≤ g.last.0
  lasts : half_seconds d f.last.0 ≡ half_seconds e g.last.0

module _ (t : Tables) (shape : in_shape t ≡ true) (d e : ℕ) (hd : 1 ≤ d) (he : 1 ≤ e) where
  -- the timer's interval at two stamps alike
  interval_alike :
      (c k x y : ℕ) → k * d ≤ x → k * e ≤ y → half_seconds d x ≡ half_seconds e y
      → interval_of c d (x - k * d) ≡ interval_of c e (y - k * e)
  interval_alike c k x y p q h =
      interval_half c d (x - k * d) hd
      ∙ ap (cut c) (half_less d x k hd p ∙ ap (λ (z : ℕ). z - 2 * k) h ∙ sym (half_less e y k he q))
      ∙ sym (interval_half c e (y - k * e) he)

  module _ (f g : Follower) (v w : Event) (l : Level t.built.rows d e f g) (below : v.symbol < t.built.symbols)
      (o : f.last.0 ≤ v.stamp) (p : g.last.0 ≤ w.stamp) (sym_is : v.symbol ≡ w.symbol)
      (h : half_seconds d v.stamp ≡ half_seconds e w.stamp) where
    abbrev i : ℕ
    i = interval_of t.built.top d (v.stamp - l.second * d)

    cells_alike : step_cell t f v ≡ step_cell t g w
    cells_alike =
        rw (
          l.grain_is,
          l.grain_is',
          l.row_is,
          sym_is,
          l.reset_is,
          l.reset_is',
          interval_alike t.built.top l.second v.stamp w.stamp (omega (arith, l.before))
              (omega (arith, l.before')) h,
        )

    abbrev cell : ℕ
    cell = cell_at t f.row v.symbol i

    cell_is : step_cell t f v ≡ cell
    cell_is =
        ap₂ (λ (x y : ℕ). cell_at t f.row v.symbol (interval_of t.built.top x (v.stamp - y))) l.grain_is
        l.reset_is

    kept : CellKept t.built.rows i cell
    kept = cell_kept t shape f.row v.symbol i l.row_below below (interval_small t.built.top d _ hd)

    record After (z : Bool) : Type 0 where
      second : ℕ
      is : (pick z (stamp v.stamp) f.reset).0 ≡ second * d
      is' : (pick z (stamp w.stamp) g.reset).0 ≡ second * e
      before : second * d ≤ v.stamp
      before' : second * e ≤ w.stamp

    after : (z : Bool) → eqb (cell % 2) 1 ≡ z → After z
    after false q = record {
      second = l.second;
      is = l.reset_is;
      is' = l.reset_is';
      before = omega (arith, l.before);
      before' = omega (arith, l.before');
    }
    after true q =
        let m : Whole t.built.top d (v.stamp - l.second * d) =
        whole_at_even t.built.top d (v.stamp - l.second * d) hd (kept.even (eqb-true (cell % 2) 1 q)) in
        let a : v.stamp ≡ (l.second + m.count) * d = omega (arith, m.age_is, l.before) in
        let b : w.stamp ≡ (l.second + m.count) * e =
        half_even e w.stamp (l.second + m.count) he
        (sym h ∙ ap (half_seconds d) a ∙ half_whole d (l.second + m.count) hd) in
        record { second = l.second + m.count; is = a; is' = b; before = omega arith; before' = omega arith }

    step_level : Level t.built.rows d e (step t f v) (step t g w)
    unfolding step
    step_level =
        let a = after (eqb (cell % 2) 1) refl in
        let same_cell : cell ≡ step_cell t g w = sym cell_is ∙ cells_alike in
        record {
          grain_is = l.grain_is;
          grain_is' = l.grain_is';
          row_is = ap (λ (x : ℕ). x / 2) cells_alike;
          row_below = rw cell_is kept.row_below;
          second = a.second;
          reset_is = rw cell_is a.is;
          reset_is' = rw (← same_cell) a.is';
          before = a.before;
          before' = a.before';
          lasts = h;
        }

  last_is : (f : Follower) (v : Event) → (step t f v).last.0 ≡ v.stamp
  unfolding step
  last_is f v = refl

  -- after each event
  steps_level :
      {vs ws : List Event} (f g : Follower) → Alike d e vs ws → Below t.built.symbols vs → Ordered f.last.0 vs
      → Ordered g.last.0 ws
      → Level t.built.rows d e f g
      → Level t.built.rows d e (step_all t f vs) (step_all t g ws)
  unfolding step_all
  steps_level f g none b o p l = l
  steps_level f g (more {v = v} {w = w} y h k) b o p l =
      let n = step_level f g v w l b.0 o.0 p.0 y h in
      steps_level (step t f v) (step t g w) k b.1 (rw (last_is f v) o.1) (rw (last_is g w) p.1) n

  start_level : Level t.built.rows d e (start_at d) (start_at e)
  start_level = record {
    grain_is = refl;
    grain_is' = refl;
    row_is = refl;
    row_below = (shaped t shape).rows_some;
    second = 0;
    reset_is = omega arith;
    reset_is' = omega arith;
    before = omega arith;
    before' = omega arith;
    lasts = half_zero d hd ∙ sym (half_zero e he);
  }

  walk_level :
      {vs ws : List Event} → Alike d e vs ws → Below t.built.symbols vs → Ordered 0 vs → Ordered 0 ws
      → Level t.built.rows d e (step_all t (start_at d) vs) (step_all t (start_at e) ws)
  walk_level k b o p = steps_level (start_at d) (start_at e) k b o p start_level

  pub table_alike :
      {vs ws : List Event} → Alike d e vs ws → Below t.built.symbols vs → Ordered 0 vs → Ordered 0 ws
      → table_accepts t d vs ≡ table_accepts t e ws
  unfolding table_accepts
  table_alike k b o p = ap (verdict t) (walk_level k b o p).row_is
