-- The refusals in their order, and what passes them.
use mathlib.Core.Path.{◌≡◌}
use mathlib.Core.Bool.{true, false}
use Rattle.std.proofs.Common.{Err}
use Rattle.model.specs.declared.Fault.TheVariants.{OutOfShape, OtherSymbols, NoRoomForStates}
use Rattle.model.specs.Faults.{at_once}
use Prim.Native.Nat.{ℕ, ◌≤◌, ◌<◌}
use native.Mathlib.Omega.{arith}
use borrow.Author.Tests.{lt-ltb, le-ltb, eq-eqb, ne_eqb}
use Rattle.model.specs.Basics.{fine}
use Rattle.model.specs.Tables.{Tables}
use Rattle.model.specs.Walks.{in_shape, shape_refusal}
use Rattle.model.specs.Inclusion.{Comparable, joint_count, most_joint_states, inclusion_refusal}
use Rattle.model.proofs.ShapeCells.{Shaped, shaped, cell_kept}
use Rattle.inclusion.specs.Numbers.{Sized, Celled}
use Rattle.inclusion.specs.Graphs.{Paired}
use Rattle.inclusion.specs.Judging.{Admitted, Judges}

-- a table in shape, as the search takes it
pub shape_sized : (t : Tables) → in_shape t ≡ true → Sized t.built
shape_sized t h =
    let k : Shaped t = shaped t h in
    record {
      rows_some = k.rows_some;
      rows_most = k.rows_most;
      symbols_most = k.symbols_most;
      top_most = k.top_most;
    }

pub shape_celled : (t : Tables) → in_shape t ≡ true → Celled t.built t.cells
shape_celled t h = record {
  sized = shape_sized t h;
  cells_long = (shaped t h).long.cells_long;
  row_below = λ n s i a b c. (cell_kept t h n s i a b c).row_below;
}

pub admitted_paired :
    (t u : Tables) (n : ℕ) → Admitted t u n → (size : ℕ) → size ≡ joint_count t.built u.built
    → Paired t.built t.cells u.built u.cells size
admitted_paired t u n a size e = record {
  first = shape_celled t a.comparable.first_shape;
  second = shape_celled u a.comparable.second_shape;
  same_symbols = a.comparable.same_symbols;
  size_is = e;
  size_most = omega (arith, a.states_most, e);
}

module _ (t u : Tables) (n : ℕ) where
  abbrev states : ℕ
  states = joint_count t.built u.built

  pub first_bad : in_shape t ≡ false → Judges t u n (Err (at_once OutOfShape))
  unfolding inclusion_refusal shape_refusal
  first_bad h = record { refusal_is = rw h; admits = tt }

  pub second_bad : in_shape t ≡ true → in_shape u ≡ false → Judges t u n (Err (at_once OutOfShape))
  unfolding inclusion_refusal shape_refusal
  second_bad h k = record { refusal_is = rw (h, k); admits = tt }

  pub symbols_bad :
      in_shape t ≡ true → in_shape u ≡ true → (t.built.symbols ≡ u.built.symbols → ⊥)
      → Judges t u n (Err (at_once OtherSymbols))
  unfolding inclusion_refusal shape_refusal
  symbols_bad h k d = record {
    refusal_is = rw (h, k, ne_eqb t.built.symbols u.built.symbols d);
    admits = tt;
  }

  pub too_many : Comparable t u → most_joint_states < states → Judges t u n (Err (at_once NoRoomForStates))
  unfolding inclusion_refusal shape_refusal
  too_many c m = record {
    refusal_is =
        rw (
          c.first_shape,
          c.second_shape,
          eq-eqb t.built.symbols u.built.symbols c.same_symbols,
          lt-ltb most_joint_states states m,
        );
    admits = tt;
  }

  pub too_short :
      Comparable t u → states ≤ most_joint_states → n < states → Judges t u n (Err (at_once NoRoomForStates))
  unfolding inclusion_refusal shape_refusal
  too_short c m o = record {
    refusal_is =
        rw (
          c.first_shape,
          c.second_shape,
          eq-eqb t.built.symbols u.built.symbols c.same_symbols,
          le-ltb most_joint_states states m,
          lt-ltb n states o,
        );
    admits = tt;
  }

  pub admitted_fine : Admitted t u n → inclusion_refusal t u n ≡ fine
  unfolding inclusion_refusal shape_refusal
  admitted_fine a =
      rw (
        a.comparable.first_shape,
        a.comparable.second_shape,
        eq-eqb t.built.symbols u.built.symbols a.comparable.same_symbols,
        le-ltb most_joint_states states a.states_most,
        le-ltb n states a.states_in,
      )
