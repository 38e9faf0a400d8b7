-- Tables with the same parts, whatever stands behind them: what rows in shape read is there, so they accept the same
-- words; and tables laid one after another are found again part by part.
use mathlib.Core.Path.{◌≡◌, refl, sym, ◌∙◌, ap}
use mathlib.Core.Bool.{true}
use mathlib.Core.List.{List, [], ◌∷◌, ◌++◌, append_assoc}
use Prim.Native.Nat.{ℕ, zero, suc, ◌+◌, ◌-◌, ◌*◌, ◌≤◌, ◌<◌}
use native.Mathlib.Omega.{arith}
use lib.Dec.{eqb}
use lib.ListN.{length, get_or, take, drop}
use lib.Seq.{get_or-take, length-take-le, take_at, drop_at}
use Rattle.model.specs.declared.Built.{Built}
use Rattle.model.specs.declared.Follower.{Follower}
use Rattle.model.specs.Words.{Event}
use Rattle.model.specs.Construction.{interval_of}
use Rattle.model.specs.Tables.{Tables, row_width}
use Rattle.model.specs.Walks.{built_width, cell_need, long_enough, in_shape, verdict, cell_place, cell_at, start_at}
use Rattle.model.specs.Walks.{step_cell, step, step_all, table_accepts}
use Rattle.model.specs.Shares.{laid_out, table_in, SameParts}
use Rattle.model.specs.Claims.{builts_of, cells_laid, rows_laid, pool_laid, all_long}
use Rattle.model.proofs.Logic.{and_left, and_right}
use Rattle.model.proofs.Words.{Below}
use Rattle.model.proofs.Regions.{interval_small}
use Rattle.model.proofs.ShapeCells.{Long, long_of, shaped, place_below}
use Rattle.model.proofs.ShapeWalk.{step_below, steps_below}

-- two lists that begin alike
pub alike_at : (n : ℕ) (xs ys : List ℕ) (i : ℕ) → take n xs ≡ take n ys → i < n → get_or xs i 0 ≡ get_or ys i 0
alike_at n xs ys i e l =
    sym (get_or-take n xs i 0 l) ∙ ap (λ (zs : List ℕ). get_or zs i 0) e ∙ get_or-take n ys i 0 l

module _ (t u : Tables) (same : SameParts t u) (shape : in_shape u ≡ true) where
  abbrev b : Built
  b = u.built

  cell_same :
      (n s i : ℕ) → n < u.built.rows → s < u.built.symbols → i < built_width u.built
      → cell_at t n s i ≡ cell_at u n s i
  cell_same n s i hn hs hi =
      ap (λ (x : Built). get_or t.cells (cell_place x n s i) 0) same.built_is
      ∙ alike_at (cell_need b) t.cells u.cells (cell_place b n s i)
      (sym (ap (λ (x : Built). take (cell_need x) t.cells) same.built_is) ∙ same.cells_are)
      (place_below n s i b.rows b.symbols (built_width b) hn hs hi)

  verdict_same : (n : ℕ) → n < u.built.rows → verdict t n ≡ verdict u n
  unfolding verdict
  verdict_same n h =
      ap (λ (x : ℕ). eqb x 1)
      (alike_at (row_width * b.rows) t.rows u.rows (row_width * n + 2)
      (sym (ap (λ (x : Built). take (row_width * x.rows) t.rows) same.built_is) ∙ same.rows_are) (omega arith))

  step_same :
      (f : Follower) (v : Event) → 1 ≤ f.grain → f.row < u.built.rows → v.symbol < u.built.symbols
      → step t f v ≡ step u f v
  unfolding step
  step_same f v hd h hs =
      let age : ℕ = v.stamp - f.reset.0 in
      let cell_is : step_cell t f v ≡ step_cell u f v =
      ap (λ (x : Built). cell_at t f.row v.symbol (interval_of x.top f.grain age)) same.built_is
      ∙ cell_same f.row v.symbol (interval_of b.top f.grain age) h hs
      (interval_small b.top f.grain age hd) in
      rw cell_is

  steps_same :
      (d : ℕ) (vs : List Event) (f : Follower) → 1 ≤ d → f.grain ≡ d → f.row < u.built.rows
      → Below u.built.symbols vs
      → step_all t f vs ≡ step_all u f vs
  unfolding step_all step
  steps_same d [] f hd g h k = refl
  steps_same d (v ∷ vs) f hd g h k =
      let some : 1 ≤ f.grain = omega (arith, g) in
      ap (λ (x : Follower). step_all t x vs) (step_same f v some h k.0)
      ∙ steps_same d vs (step u f v) hd g (step_below u shape f v some h k.0) k.1

  pub accepts_same :
      (d : ℕ) (vs : List Event) → 1 ≤ d → Below u.built.symbols vs → table_accepts t d vs ≡ table_accepts u d vs
  unfolding table_accepts
  accepts_same d vs hd k =
      let some : 0 < u.built.rows = (shaped u shape).rows_some in
      ap (λ (x : Follower). verdict t x.row) (steps_same d vs (start_at d) hd refl some k)
      ∙ verdict_same (step_all u (start_at d) vs).row (steps_below u shape d vs (start_at d) hd refl some k)

-- One part before others: it is found at the front, and the others behind it.
front : (n : ℕ) (c xs ys : List ℕ) → n ≤ length c → take n ((take n c ++ xs) ++ ys) ≡ take n c
front n c xs ys h =
    ap (take n) (append_assoc (take n c) xs ys) ∙ take_at (take n c) (xs ++ ys) n (length-take-le n c h)

past : (n : ℕ) (c xs ys : List ℕ) → n ≤ length c → drop n ((take n c ++ xs) ++ ys) ≡ xs ++ ys
past n c xs ys h =
    ap (drop n) (append_assoc (take n c) xs ys) ∙ drop_at (take n c) (xs ++ ys) n (length-take-le n c h)

pub laid :
    (ts : List Tables) (cells rows pool : List ℕ) (i : ℕ) → all_long ts ≡ true → i < length ts
    → SameParts
    (table_in (laid_out (builts_of ts) (cells_laid ts ++ cells) (rows_laid ts ++ rows) (pool_laid ts ++ pool)) i)
    (table_in ts i)
laid [] cells rows pool i all l = absurd (omega arith)
laid (t ∷ ts) cells rows pool zero all l =
    let k : Long t = long_of t (and_left (long_enough t) (all_long ts) all) in
    record {
      built_is = refl;
      cells_are = front (cell_need t.built) t.cells (cells_laid ts) cells k.cells_long;
      rows_are = front (row_width * t.built.rows) t.rows (rows_laid ts) rows k.rows_long;
      pool_is = front t.built.total t.pool (pool_laid ts) pool k.pool_long;
    }
laid (t ∷ ts) cells rows pool (suc i) all l =
    let k : Long t = long_of t (and_left (long_enough t) (all_long ts) all) in
    rw (
      past (cell_need t.built) t.cells (cells_laid ts) cells k.cells_long,
      past (row_width * t.built.rows) t.rows (rows_laid ts) rows k.rows_long,
      past t.built.total t.pool (pool_laid ts) pool k.pool_long,
    )
    (laid ts cells rows pool i (and_right (long_enough t) (all_long ts) all) (omega arith))
