-- The table's walk is the walk over the construction's rows: at each event the cell gives the number of the successor
-- row and says whether the timer is reset.
use mathlib.Core.Path.{◌≡◌, refl, ◌∙◌, ap}
use mathlib.Core.Bool.{Bool, true, false}
use mathlib.Core.List.{List, [], ◌∷◌}
use Prim.Native.Nat.{ℕ, suc, ◌+◌, ◌-◌, ◌*◌, ◌/◌, ◌%◌, ◌≤◌, ◌<◌}
use native.Mathlib.Omega.{arith}
use native.Mathlib.Nat.{zero-add}
use lib.Dec.{eqb}
use lib.ListN.{length}
use borrow.Author.Tests.{eq-eqb, ne_eqb}
use Rattle.model.specs.declared.Stamp.{Stamp}
use Rattle.model.specs.declared.Follower.{Follower}
use Rattle.model.specs.Basics.{pick, one_if}
use Rattle.model.specs.Rules.{Rule, cm}
use Rattle.model.specs.Words.{Event, events_of}
use Rattle.model.specs.Construction.{interval_of, next_row, row_resets, row_at, number_of, most_rows, rows_of, cell_of}
use Rattle.model.specs.Construction.{walks_from, walks}
use Rattle.model.specs.Tables.{tables_by, tables_of}
use Rattle.model.specs.Walks.{verdict, stamp, start_at, step_cell, step, step_all, table_accepts}
use Rattle.model.specs.Demands.{TableWalks}
use Rattle.model.proofs.Masks.{Asc}
use Rattle.model.proofs.Valid.{valid_of}
use Rattle.model.proofs.RowNumbers.{Stands, stands}
use Rattle.model.proofs.Discovery.{Closed, Discovered, discovered}
use Rattle.model.proofs.Regions.{interval_small}
use Rattle.model.proofs.Words.{Below, Keeps, fine_keeps}
use Rattle.model.proofs.TableRoom.{fitted_closed}
use Rattle.model.proofs.TablePlaces.{cell_by_place, verdict_by_place, final_asc}

-- a cell gives its row and its timer back
pub cell_row : (n : ℕ) (t : Bool) → (2 * n + one_if t) / 2 ≡ n
cell_row n true = omega arith
cell_row n false = omega arith

pub cell_timer : (n : ℕ) (t : Bool) → eqb ((2 * n + one_if t) % 2) 1 ≡ t
cell_timer n true = omega (arith, eq-eqb)
cell_timer n false = ne_eqb ((2 * n + 0) % 2) 1 (omega arith)

-- a follower before and after an event, over the rows
pub record Stepped (r : Rule) (rows : List (List ℕ)) (f : Follower) (v : Event) (i : ℕ) (after : Follower)
    : Type 0 where
  pub row_below : after.row < length rows
  pub row_is : row_at rows after.row ≡ next_row r v.symbol i (row_at rows f.row)
  pub reset_is : after.reset.0 ≡ pick (row_resets r v.symbol i (row_at rows f.row)) v.stamp f.reset.0
  pub grain_is : after.grain ≡ f.grain
  pub last_is : after.last.0 ≡ v.stamp
  pub count_is : after.count ≡ suc f.count

pick_stamp : (t : Bool) (a : ℕ) (b : Stamp) → (pick t (stamp a) b).0 ≡ pick t a b.0
pick_stamp true a b = refl
pick_stamp false a b = refl

module _ (r : Rule) (rows : List (List ℕ)) (c n p : ℕ) (closed : Closed r (length rows) rows) where
  pub steps :
      (f : Follower) (v : Event)
      → 1 ≤ f.grain
      → f.row < length rows
      → v.symbol < r.symbols
      → Stepped r rows f v (interval_of (cm r) f.grain (v.stamp - f.reset.0)) (step (tables_by r rows c n p) f v)
  unfolding step tables_by cell_of
  steps f v hd h hs = record {
    row_below = rw row_number at.inside;
    row_is = ap (row_at rows) row_number ∙ at.row_is;
    reset_is =
        pick_stamp (eqb (cell % 2) 1) v.stamp f.reset
        ∙ ap (λ (t : Bool). pick t v.stamp f.reset.0) timer;
    grain_is = refl;
    last_is = refl;
    count_is = refl;
  }
    where
      i : ℕ
      i = interval_of (cm r) f.grain (v.stamp - f.reset.0)

      x : List ℕ
      x = row_at rows f.row

      cell : ℕ
      cell = step_cell (tables_by r rows c n p) f v

      i_below : i < 2 * cm r + 2
      i_below = interval_small (cm r) f.grain (v.stamp - f.reset.0) hd

      cell_is : cell ≡ cell_of r rows x v.symbol i
      cell_is = cell_by_place r rows c n p f.row v.symbol i h hs i_below

      at : Stands 0 (next_row r v.symbol i x) rows
      at = stands 0 (next_row r v.symbol i x) rows (closed f.row v.symbol i h hs i_below)

      row_number : cell / 2 ≡ at.place
      row_number =
          ap (λ (y : ℕ). y / 2) cell_is
          ∙ (cell_row (number_of (next_row r v.symbol i x) rows) (row_resets r v.symbol i x)
          ∙ (at.number_is ∙ zero-add at.place))

      timer : eqb (cell % 2) 1 ≡ row_resets r v.symbol i x
      timer =
          ap (λ (y : ℕ). eqb (y % 2) 1) cell_is
          ∙ cell_timer (number_of (next_row r v.symbol i x) rows) (row_resets r v.symbol i x)

  -- any events that keep the rules, from any follower on a row
  pub walk_on :
      (d : ℕ) (vs : List Event) (f : Follower)
      → 1 ≤ d
      → Asc 0 r.final
      → f.grain ≡ d
      → f.row < length rows
      → Below r.symbols vs
      → verdict (tables_by r rows c n p) (step_all (tables_by r rows c n p) f vs).row
      ≡ walks_from r d vs (row_at rows f.row) f.reset.0
  unfolding step_all walks_from
  walk_on d [] f hd asc g h b = verdict_by_place r rows c n p f.row h
  walk_on d (v ∷ vs) f hd asc g h b =
      let now : ℕ = interval_of (cm r) f.grain (v.stamp - f.reset.0) in
      let s : Stepped r rows f v now (step (tables_by r rows c n p) f v) = steps f v (omega arith) h b.0 in
      walk_on d vs (step (tables_by r rows c n p) f v) hd asc (s.grain_is ∙ g) s.row_below b.1
      ∙ rw (s.row_is, s.reset_is, g)

-- from the start row, over the rows of a rule
walk_by :
    (fuel : ℕ) (r : Rule) (rows : List (List ℕ)) (c n p d : ℕ) (vs : List Event)
    → 1 ≤ d
    → Asc 0 r.final
    → Discovered fuel r rows
    → Closed r (length rows) rows
    → Below r.symbols vs
    → table_accepts (tables_by r rows c n p) d vs ≡ walks r d vs
unfolding table_accepts walks
walk_by fuel r rows c n p d vs hd asc found closed b =
    walk_on r rows c n p closed d vs (start_at d) hd asc refl found.some b
    ∙ ap (λ (x : List ℕ). walks_from r d vs x 0) found.start_is

-- The claim.
pub table_walks : TableWalks
unfolding tables_of
table_walks r scratch cells rows pool d most xs ts valid fits word =
    let w : Keeps r.symbols d most xs ts = fine_keeps r.symbols d most xs ts word in
    walk_by (suc most_rows) r (rows_of r) cells rows pool d (events_of xs ts) w.grain_least
    (final_asc r (valid_of r valid))
    (discovered r)
    (fitted_closed r scratch cells rows pool fits)
    w.symbols_below
