-- Over any table in shape, filled by hand too, each event leads to a row below R; so what is read there is what that
-- row's codes say.
use mathlib.Core.Path.{◌≡◌, refl}
use mathlib.Core.Bool.{Bool, true, ◌||◌, not}
use mathlib.Core.List.{List, [], ◌∷◌}
use Prim.Native.Nat.{ℕ, suc, ◌-◌, ◌≤◌, ◌<◌}
use native.Mathlib.Omega.{arith}
use lib.Dec.{eqb, ltb, leb}
use borrow.Author.Tests.{leb-false, lt-ltb, not-false}
use Rattle.model.specs.declared.Built.{Built}
use Rattle.model.specs.declared.Follower.{Follower}
use Rattle.model.specs.Basics.{remainder, Refusal, fine, refuse, ◌⨾◌}
use Rattle.model.specs.Words.{Event, events_of, most_events, most_grain, grain_ok}
use Rattle.model.specs.Construction.{interval_of}
use Rattle.model.specs.Tables.{Tables}
use Rattle.model.specs.Walks.{in_shape, shape_refusal, start_at, step, step_all}
use Rattle.model.specs.Walks.{strayed, follow_refusal}
use Rattle.model.specs.Claims.{SaysByCodes, AnswersStay}
use Rattle.model.proofs.Logic.{within_least, neither_left}
use Rattle.model.proofs.Refusals.{refused_false, first_passes, then_passes, fine_number}
use Rattle.model.proofs.Regions.{interval_small}
use Rattle.model.proofs.Words.{Below, Keeps, fine_keeps}
use Rattle.model.proofs.Stored.{stored_is_said}
use Rattle.model.proofs.ShapeCells.{shaped, cell_kept}

module _ (t : Tables) (shape : in_shape t ≡ true) where
  pub step_below :
      (f : Follower) (v : Event) → 1 ≤ f.grain → f.row < t.built.rows → v.symbol < t.built.symbols
      → (step t f v).row < t.built.rows
  unfolding step
  step_below f v hd h hs =
      let b : Built = t.built in
      let i : ℕ = interval_of b.top f.grain (v.stamp - f.reset.0) in
      (cell_kept t shape f.row v.symbol i h hs (interval_small b.top f.grain (v.stamp - f.reset.0) hd)
      ).row_below

  pub steps_below :
      (d : ℕ) (vs : List Event) (f : Follower) → 1 ≤ d → f.grain ≡ d → f.row < t.built.rows
      → Below t.built.symbols vs
      → (step_all t f vs).row < t.built.rows
  unfolding step_all step
  steps_below d [] f hd g h b = h
  steps_below d (v ∷ vs) f hd g h b =
      steps_below d vs (step t f v) hd g (step_below f v (omega (arith, g)) h b.0) b.1

  by_codes : (row : ℕ) → row < t.built.rows → SaysByCodes t row
  by_codes row h = record { row_below = lt-ltb row t.built.rows h; verdict_is = stored_is_said t row shape h }

-- what an event that is not refused has passed
module _ (t : Tables) (f : Follower) (v : Event) (h : follow_refusal t f v ≡ fine) where
  abbrev late : Refusal
  late = refuse (ltb v.stamp f.last.0) 33 (suc f.count)

  abbrev unknown : Refusal
  unknown = refuse (leb t.built.symbols v.symbol) 32 (suc f.count)

  abbrev full : Refusal
  full = refuse (eqb f.count most_events) 31 0

  abbrev stray : Refusal
  stray = refuse (strayed t.built.rows f) 34 0

  abbrev coarse : Refusal
  coarse = refuse (not (grain_ok f.grain)) 30 0

  past_shape : (coarse ⨾ (stray ⨾ (full ⨾ (unknown ⨾ late)))).number ≡ 0
  unfolding follow_refusal
  past_shape = then_passes (shape_refusal t) (coarse ⨾ (stray ⨾ (full ⨾ (unknown ⨾ late)))) (fine_number h)

  past_grain : (stray ⨾ (full ⨾ (unknown ⨾ late))).number ≡ 0
  past_grain = then_passes coarse (stray ⨾ (full ⨾ (unknown ⨾ late))) past_shape

  in_shape_lem : in_shape t ≡ true
  unfolding follow_refusal shape_refusal
  in_shape_lem =
      not-false (in_shape t)
      (refused_false (not (in_shape t)) 24 0
      (first_passes (shape_refusal t) (coarse ⨾ (stray ⨾ (full ⨾ (unknown ⨾ late)))) (fine_number h)))

  grain_least : 1 ≤ f.grain
  grain_least =
      within_least 1 most_grain f.grain
      (not-false (grain_ok f.grain)
      (refused_false (not (grain_ok f.grain)) 29 0
      (first_passes coarse (stray ⨾ (full ⨾ (unknown ⨾ late))) past_shape)))

  on_a_row : f.row < t.built.rows
  on_a_row =
      let low : Bool = leb t.built.rows f.row in
      let back : Bool = ltb f.last.0 f.reset.0 in
      let off : Bool = not (eqb (remainder f.reset.0 f.grain) 0) in
      leb-false t.built.rows f.row
      (neither_left low back
      (neither_left (low || back) off
      (neither_left (low || back || off) (ltb most_events f.count)
      (refused_false (strayed t.built.rows f) 33 0 (first_passes stray (full ⨾ (unknown ⨾ late)) past_grain)))))

  known : v.symbol < t.built.symbols
  known =
      leb-false t.built.symbols v.symbol
      (refused_false (leb t.built.symbols v.symbol) 31 (suc f.count)
      (first_passes unknown late
      (then_passes full (unknown ⨾ late) (then_passes stray (full ⨾ (unknown ⨾ late)) past_grain))))

  taken : SaysByCodes t (step t f v).row
  taken = by_codes t in_shape_lem (step t f v).row (step_below t in_shape_lem f v grain_least on_a_row known)

-- The claim.
pub answers_stay : AnswersStay
answers_stay = record {
  runs = λ t d xs ts shape word.
      let w : Keeps t.built.symbols d most_events xs ts = fine_keeps t.built.symbols d most_events xs ts word in
      by_codes t shape (step_all t (start_at d) (events_of xs ts)).row
      (steps_below t shape d (events_of xs ts) (start_at d) w.grain_least refl (shaped t shape).rows_some
      w.symbols_below);
  follows = λ t f v h. taken t f v h;
}
