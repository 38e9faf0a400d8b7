-- The parts of a table's shape in the order in which they are checked, and what each settles for the next.
use mathlib.Core.Path.{◌≡◌, refl, sym, ◌∙◌}
use mathlib.Core.Bool.{Bool, true, false, ◌&&◌}
use mathlib.Core.List.{List}
use Prim.Native.Nat.{ℕ, ◌*◌, ◌≤◌}
use lib.Dec.{leb}
use lib.ListN.{length, take}
use borrow.Author.Tests.{leb-true}
use Rattle.model.specs.declared.Built.{Built}
use Rattle.model.specs.Basics.{all_below}
use Rattle.model.specs.Tables.{Tables, tables, row_width}
use Rattle.model.specs.Walks.{built_pairs, built_sizes_ok, built_width, cell_need, long_enough}
use Rattle.model.specs.Walks.{rows_chain, cells_ok, verdicts_ok, in_shape}
use Rattle.model.proofs.Logic.{no_way, and_left, and_right}
use Rattle.shape.specs.Ranges.{sizes_in_range, counts_ok, long_ok, rows_ok}
use Rattle.shape.specs.Verdicts.{Settled}

-- What is settled before the rows `ns`: sizes and lengths.
pub record Sized (b : Built) (cs ns ps : List ℕ) : Type 0 where
  pub sizes : built_sizes_ok b ≡ true
  pub long : long_ok b cs ps ≡ true

-- And before the codes: there are R rows, in a chain; `m` is N.
pub record Linked (b : Built) (cs ns ps : List ℕ) (m : ℕ) : Type 0 where
  pub sized : Sized b cs ns ps
  pub rows : rows_ok b.rows ns b.total ≡ true
  pub pairs_are : m ≡ built_pairs b

-- And before the cells: the codes are below N; `k` is the number of cells.
pub record Coded (b : Built) (cs ns ps : List ℕ) (m k : ℕ) : Type 0 where
  pub linked : Linked b cs ns ps m
  pub codes : all_below m (take b.total ps) ≡ true
  pub need_is : k ≡ cell_need b

-- sizes and counts together, as plain bounds
module _ (b : Built) (m : ℕ) (r : sizes_in_range b ≡ true) (e : m ≡ built_pairs b) where
  pub sizes_hold : counts_ok m b.rows ≡ true → built_sizes_ok b ≡ true
  sizes_hold h = rw r (rw e at h)

  sizes_fail : counts_ok m b.rows ≡ false → built_sizes_ok b ≡ false
  sizes_fail h = rw r (rw e at h)

record Long (b : Built) (cs ps : List ℕ) : Type 0 where
  cells_long : cell_need b ≤ length cs
  pool_long : b.total ≤ length ps

long_of : (b : Built) (cs ps : List ℕ) → long_ok b cs ps ≡ true → Long b cs ps
long_of b cs ps h =
    let cells = leb (cell_need b) (length cs) in
    let pool = leb b.total (length ps) in
    record {
      cells_long = leb-true _ _ (and_left cells pool h);
      pool_long = leb-true _ _ (and_right cells pool h);
    }

-- The lengths of the tables and the chain of the rows, in the order in which they are asked.
short_by : (cells rows pool : Bool) → (cells && pool) ≡ false → (cells && rows && pool) ≡ false
short_by true true pool h = h
short_by true false pool h = refl
short_by false rows pool h = refl

chain_by :
    (cells rows pool chain : Bool) → (cells && pool) ≡ true
    → (cells && rows && pool && chain) ≡ (rows && chain)
chain_by true true true chain h = refl
chain_by true false true chain h = refl
chain_by true rows false chain h = no_way h
chain_by false rows pool chain h = no_way h

pub sizes_out : (t : Tables) → sizes_in_range t.built ≡ false → false ≡ in_shape t
unfolding in_shape
sizes_out t h = rw h

pub counts_out :
    (t : Tables) (m : ℕ) → sizes_in_range t.built ≡ true → m ≡ built_pairs t.built
    → counts_ok m t.built.rows ≡ false
    → false ≡ in_shape t
unfolding in_shape
counts_out t m r e h = rw (sizes_fail t.built m r e h)

pub too_short :
    (t : Tables) → built_sizes_ok t.built ≡ true → long_ok t.built t.cells t.pool ≡ false → false ≡ in_shape t
unfolding in_shape
too_short t s h =
    let b = t.built in
    let long : long_enough t ≡ false =
    short_by (leb (cell_need b) (length t.cells)) (leb (row_width * b.rows) (length t.rows)) _ h in
    rw (s, long)

module _ {b : Built} {cs ns ps : List ℕ} where
  module _ (s : Sized b cs ns ps) where
    -- lengths and chain together are what is asked of the rows
    rows_are : (long_enough (tables b cs ns ps) && rows_chain b.rows 0 ns b.total) ≡ rows_ok b.rows ns b.total
    rows_are =
        let cells = leb (cell_need b) (length cs) in
        let pool = leb b.total (length ps) in
        chain_by cells (leb (row_width * b.rows) (length ns)) pool _ s.long

    pub rows_out : rows_ok b.rows ns b.total ≡ false → false ≡ in_shape (tables b cs ns ps)
    unfolding in_shape
    rows_out h = rw (s.sizes, rows_are, h)

  module _ {m : ℕ} (l : Linked b cs ns ps m) where
    pub code_out : all_below m (take b.total ps) ≡ false → false ≡ in_shape (tables b cs ns ps)
    unfolding in_shape
    code_out h = rw (l.sized.sizes, rows_are l.sized, l.rows, rw l.pairs_are at h)

  module _ {m k : ℕ} (d : Coded b cs ns ps m k) where
    codes_are : all_below (built_pairs b) (take b.total ps) ≡ true
    codes_are = rw d.linked.pairs_are at d.codes

    -- cells and stored verdicts are what is left
    last_two :
        in_shape (tables b cs ns ps)
        ≡ (cells_ok 0 (built_width b) b.rows (take k cs) && verdicts_ok b.rows 0 b ns ps)
    unfolding in_shape
    last_two =
        let l = d.linked in
        rw (l.sized.sizes, rows_are l.sized, l.rows, codes_are, d.need_is)

    pub cell_out : cells_ok 0 (built_width b) b.rows (take k cs) ≡ false → false ≡ in_shape (tables b cs ns ps)
    cell_out h = sym (last_two ∙ rw h)

    pub settled : Settled b ns ps
    settled = record {
      sizes = d.linked.sized.sizes;
      chain = d.linked.rows;
      pool_long = (long_of b cs ps d.linked.sized.long).pool_long;
      codes = codes_are;
    }

    pub all_but_verdicts :
        cells_ok 0 (built_width b) b.rows (take k cs) ≡ true
        → verdicts_ok b.rows 0 b ns ps ≡ in_shape (tables b cs ns ps)
    all_but_verdicts h = sym (last_two ∙ rw h)
