-- No line looks at the pool: the lines of a batch are the same over any.
use mathlib.Core.Path.{◌≡◌, refl, sym, ◌∙◌, ap, ap₂, fun_ext}
use mathlib.Core.Bool.{Bool}
use mathlib.Core.List.{List, [], ◌∷◌, ◌++◌}
use Prim.Native.Nat.{ℕ, ◌*◌}
use lib.Dec.{eqb}
use lib.ListN.{drop}
use lib.Seq.{drop-nil}
use Rattle.model.specs.declared.Built.{Built}
use Rattle.model.specs.declared.Follower.{Follower}
use Rattle.model.specs.Words.{Event}
use Rattle.model.specs.Tables.{Tables, tables, row_width, row_verdict}
use Rattle.model.specs.Walks.{cell_need, verdict, start_at, step, step_all, table_accepts}
use Rattle.model.specs.Lists.{list_grain}
use Rattle.model.specs.Shares.{line_of, lines_of, table_says, laid_out, line_by}

module _ (b : Built) (cells rows pool : List ℕ) where
  abbrev whole : Tables
  whole = tables b cells rows pool

  abbrev bare : Tables
  bare = tables b cells rows []

  steps_bare : (vs : List Event) (f : Follower) → step_all whole f vs ≡ step_all bare f vs
  unfolding step_all step
  steps_bare [] f = refl
  steps_bare (v ∷ vs) f = steps_bare vs (step whole f v)

  says_bare : (w : List Event) → table_says whole w ≡ table_says bare w
  unfolding table_accepts verdict
  says_bare w = ap (λ (f : Follower). eqb (row_verdict rows f.row) 1) (steps_bare w (start_at list_grain))

  line_bare : (m h : ℕ) → line_of whole m h ≡ line_of bare m h
  line_bare m h = ap (λ (says : List Event → Bool). line_by says b.symbols m h) (fun_ext says_bare)

pub lines_bare :
    (bs : List Built) (cells rows pool : List ℕ) (m h : ℕ)
    → lines_of (laid_out bs cells rows pool) m h ≡ lines_of (laid_out bs cells rows []) m h
lines_bare [] cells rows pool m h = refl
lines_bare (b ∷ bs) cells rows pool m h =
    let c : List ℕ = drop (cell_need b) cells in
    let n : List ℕ = drop (row_width * b.rows) rows in
    ap₂ (λ (xs ys : List ℕ). xs ++ ys) (line_bare b cells rows pool m h)
    (lines_bare bs c n (drop b.total pool) m h
    ∙ ap (λ (p : List ℕ). lines_of (laid_out bs c n p) m h) (sym (drop-nil {A = ℕ} b.total)))
