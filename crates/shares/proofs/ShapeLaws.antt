-- A table in shape, as the walk and the batch take it: sizes, cells, stored verdicts, and room for each of its parts.
use mathlib.Core.Path.{◌≡◌}
use mathlib.Core.Bool.{true}
use Prim.Native.Nat.{◌≤◌}
use native.Mathlib.Omega.{arith}
use lib.ListN.{length}
use Rattle.model.specs.Tables.{Tables}
use Rattle.model.specs.Walks.{in_shape, codes_say, row_codes}
use Rattle.model.proofs.Logic.{most_one}
use Rattle.model.proofs.ShapeCells.{Shaped, shaped, cell_kept}
use Rattle.model.proofs.Stored.{stored_said}
use Rattle.shares.specs.Tree.{Sized, Celled, Rowed}

module _ (t : Tables) (h : in_shape t ≡ true) where
  pub shape_sized : Sized t.built
  shape_sized =
      let k : Shaped t = shaped t h in
      record {
        rows_some = k.rows_some;
        rows_most = k.rows_most;
        symbols_some = k.symbols_some;
        symbols_most = k.symbols_most;
        top_most = k.top_most;
      }

  pub shape_celled : Celled t.built t.cells
  shape_celled = record {
    cells_long = (shaped t h).long.cells_long;
    row_below = λ n s i hn hs hi. (cell_kept t h n s i hn hs hi).row_below;
  }

  pub shape_rowed : Rowed t.built t.rows
  shape_rowed = record {
    rows_long = (shaped t h).long.rows_long;
    stored = λ n l. omega (arith, stored_said t n h l, most_one (codes_say t.built (row_codes t n)));
  }

  pub shape_pool : t.built.total ≤ length t.pool
  shape_pool = (shaped t h).long.pool_long
