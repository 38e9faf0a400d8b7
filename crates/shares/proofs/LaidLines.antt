-- The lines of a batch, laid into zeros one behind another: those done, and those of the tables left, are all of them.
use mathlib.Core.Path.{◌≡◌, sym, ◌∙◌, ap, ap₂}
use mathlib.Core.List.{List, ◌++◌, append_assoc}
use Prim.Native.Nat.{ℕ, ◌+◌, ◌-◌, ◌*◌, ◌≤◌, ◌<◌}
use native.Mathlib.Omega.{arith}
use lib.ListN.{length, get_or, take, drop, length-append}
use borrow.Rule.Slice.PartMut.{put_mid}
use Rattle.model.specs.declared.Built.{Built}
use Rattle.model.specs.Basics.{zeros, filled}
use Rattle.model.specs.Tables.{Tables, tables, row_width, no_built}
use Rattle.model.specs.Walks.{cell_need}
use Rattle.model.specs.Lists.{most_listed_events}
use Rattle.model.specs.Shares.{most_tables, line_width, line_of, lines_of}
use Rattle.model.specs.Shares.{table_says, laid_out}
use Rattle.shares.specs.Batches.{Passed}
use Rattle.shares.proofs.BatchLaws.{Sound, Standing, first_left}
use Rattle.shares.proofs.BatchLaws.{standing_sound, standing_next, behind_is}
use Rattle.shares.proofs.LineLaws.{part_zero, part_laid, line_long, filled_length}

-- i lines are laid
pub record Laying
    (bs : List Built) (cells rows pool : List ℕ) (m h : ℕ) (lines cells' rows' pool' : List ℕ) (i : ℕ)
    : Type 0 where
  pub standing : Standing bs cells rows pool m h cells' rows' pool' i
  pub done : List ℕ
  pub done_long : length done ≡ line_width * i
  pub lines_long : length lines ≡ line_width * most_tables
  pub lines_are : lines ≡ filled (line_width * most_tables) done
  pub rest :
      done ++ lines_of (laid_out (drop i bs) cells' rows' pool') m h ≡ lines_of (laid_out bs cells rows pool) m h

module _ {bs : List Built} {cells rows pool : List ℕ} {m h : ℕ} {lines cells' rows' pool' : List ℕ} {i : ℕ}
    (k : Laying bs cells rows pool m h lines cells' rows' pool' i) where
  -- the lines of some tables in what is lent
  abbrev lines_at : List Built → List ℕ
  lines_at xs = lines_of (laid_out xs cells' rows' pool') m h

  -- Table i.
  module _ (p : Passed bs cells rows pool m h) (few : m ≤ most_listed_events) (l : i < length bs) where
    abbrev t : Tables
    t = tables (get_or bs i no_built) cells' rows' pool'

    pub laid_sound : Sound (tables (get_or bs i no_built) cells' rows' pool') m h
    laid_sound = standing_sound k.standing l p.tables_fine

    place_fits : line_width * i + line_width ≤ line_width * most_tables
    place_fits = omega (arith, p.count_most)

    pub line_room : take (line_width * i + line_width - line_width * i) (drop (line_width * i) lines) ≡ zeros line_width
    line_room =
        ap (λ (xs : List ℕ). take (line_width * i + line_width - line_width * i) (drop (line_width * i) xs)) k.lines_are
        ∙ part_zero (line_width * most_tables) (line_width * i) line_width k.done k.done_long place_fits

    pub laying_next :
        {u : Tables} → u ≡ tables (get_or bs i no_built) cells' rows' pool' → {mid cells'' rows'' pool'' : List ℕ}
        → mid ≡ line_of u m h
        → cells'' ≡ drop (cell_need u.built) u.cells
        → rows'' ≡ drop (row_width * u.built.rows) u.rows
        → pool'' ≡ drop u.built.total u.pool
        → Laying bs cells rows pool m h
        (put_mid (line_width * i) (line_width * i + line_width - line_width * i) lines mid) cells'' rows'' pool''
        (i + 1)
    laying_next e {mid} mid_is cells_are rows_are pool_is =
        let line_is : mid ≡ line_of t m h = mid_is ∙ ap (λ (x : Tables). line_of x m h) e in
        let wide : length mid ≡ line_width =
        ap length line_is ∙ line_long (table_says t) t.built.symbols m h few in
        let long : length (k.done ++ mid) ≡ line_width * (i + 1) =
        length-append k.done mid ∙ omega (arith, k.done_long) in
        let next :
        put_mid (line_width * i) (line_width * i + line_width - line_width * i) lines mid
        ≡ filled (line_width * most_tables) (k.done ++ mid) =
        ap (λ (xs : List ℕ). put_mid (line_width * i) (line_width * i + line_width - line_width * i) xs mid)
        k.lines_are
        ∙ part_laid (line_width * most_tables) (line_width * i) line_width k.done k.done_long place_fits mid wide in
        record {
          standing = standing_next k.standing l e cells_are rows_are pool_is laid_sound;
          done = k.done ++ mid;
          done_long = long;
          lines_long =
              ap length next
              ∙ filled_length (line_width * most_tables) (k.done ++ mid) (omega (arith, long, p.count_most));
          lines_are = next;
          rest =
              append_assoc k.done mid _
              ∙ ap₂ (λ (x : List ℕ) (ts : List Tables). k.done ++ (x ++ lines_of ts m h)) line_is
              (behind_is k.standing l e cells_are rows_are pool_is)
              ∙ (ap (λ (xs : List Built). k.done ++ lines_at xs) (sym (first_left bs i l)) ∙ k.rest);
        }
