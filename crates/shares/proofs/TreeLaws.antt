-- The tree of words, counted node by node: a word is counted by the row that it leads to; the words below a node are
-- those behind each symbol at its first stamp, and those from the next stamp on.
use mathlib.Core.Path.{◌≡◌, refl, sym, ◌∙◌, ap, ap₂}
use mathlib.Core.Bool.{Bool, true, false}
use mathlib.Core.List.{List, [], ◌∷◌}
use Prim.Native.Nat.{ℕ, zero, suc, ◌+◌, ◌-◌, ◌/◌, ◌%◌, ◌≤◌, ◌<◌}
use native.Mathlib.Numerals.{add-one}
use native.Mathlib.Omega.{arith}
use lib.Dec.{eqb}
use Rattle.model.specs.declared.Follower.{Follower}
use Rattle.model.specs.declared.Stamp.{Stamp}
use Rattle.model.specs.Basics.{pick, one_if}
use Rattle.model.specs.Words.{Event}
use Rattle.model.specs.Construction.{interval_of}
use Rattle.model.specs.Tables.{Tables, row_verdict}
use Rattle.model.specs.Walks.{verdict, cell_at, stamp, step, step_all}
use Rattle.model.specs.Lists.{list_grain, event_of, behind, by_symbols, words_from, count_if}
use Rattle.model.proofs.Lists.{count_both, count_same}
use Rattle.model.proofs.ShareCounts.{count_behind}
use Rattle.shares.specs.Tree.{standing, tree_count}

-- a walk's rows hang on its row and its last reset alone, and not on its last stamp and its count
walk_same :
    (t : Tables) (row : ℕ) (reset last last' : Stamp) (count count' : ℕ) (w : List Event)
    → (step_all t (record { grain = list_grain; row = row; reset = reset; last = last; count = count }) w).row
    ≡ (step_all t (record { grain = list_grain; row = row; reset = reset; last = last'; count = count' }) w).row
unfolding step_all step
walk_same t row reset last last' count count' [] = refl
walk_same t row reset last last' count count' (v ∷ w) =
    let next : Follower =
    step t (record { grain = list_grain; row = row; reset = reset; last = last; count = count }) v in
    walk_same t next.row next.reset (stamp v.stamp) (stamp v.stamp) (suc count) (suc count') w

-- the cell that an event takes at a node, and the reset after it
abbrev pub taken : Tables → ℕ → ℕ → ℕ → ℕ → ℕ
taken t row reset i x = cell_at t row i (interval_of t.built.top list_grain (x - reset))

abbrev pub since : Tables → ℕ → ℕ → ℕ → ℕ → ℕ
since t row reset i x = pick (eqb (taken t row reset i x % 2) 1) x reset

-- the words below a node that begin with one event, and with one of m symbols from i on, at stamp x
unfoldable pub child_count : Tables → ℕ → ℕ → ℕ → ℕ → ℕ → ℕ → ℕ
child_count t row reset i n k x = tree_count t (taken t row reset i x / 2) (since t row reset i x) n k x

unfoldable pub branch_counts : Tables → ℕ → ℕ → ℕ → ℕ → ℕ → ℕ → ℕ → ℕ
branch_counts t row reset zero i n k x = 0
branch_counts t row reset (suc m) i n k x = child_count t row reset i n k x + branch_counts t row reset m (suc i) n k x

-- what a word is asked at a node
abbrev ends : Tables → ℕ → ℕ → List Event → Bool
ends t row reset w = verdict t (step_all t (standing row reset) w).row

stamp_pick : (b : Bool) (x y : ℕ) → pick b (stamp x) (stamp y) ≡ stamp (pick b x y)
stamp_pick true x y = refl
stamp_pick false x y = refl

-- behind an event a word is asked at the child
ends_behind :
    (t : Tables) (row reset i x : ℕ) (w : List Event)
    → ends t row reset (event_of i x ∷ w) ≡ ends t (taken t row reset i x / 2) (since t row reset i x) w
unfolding step_all step
ends_behind t row reset i x w =
    let odd : Bool = eqb (taken t row reset i x % 2) 1 in
    ap (verdict t)
    (walk_same t (taken t row reset i x / 2) (pick odd (stamp x) (stamp reset)) (stamp x) (stamp 0) 1 0 w
    ∙ ap
    (λ (r : Stamp).
    (step_all t
    (record {
      grain = list_grain;
      row = taken t row reset i x / 2;
      reset = r;
      last = stamp 0;
      count = 0;
    })
    w).row)
    (stamp_pick odd x reset))

count_child :
    (t : Tables) (row reset i n k x : ℕ)
    → count_if (ends t row reset) (behind (event_of i x) (words_from t.built.symbols n k x))
    ≡ child_count t row reset i n k x
unfolding tree_count child_count
count_child t row reset i n k x =
    let ws : List (List Event) = words_from t.built.symbols n k x in
    count_behind (ends t row reset) (event_of i x) ws
    ∙ count_same (λ w. ends t row reset (event_of i x ∷ w))
    (ends t (taken t row reset i x / 2) (since t row reset i x))
    ws
    (λ w h. ends_behind t row reset i x w)

count_branches :
    (t : Tables) (row reset m i n k x : ℕ)
    → count_if (ends t row reset) (by_symbols m i x (words_from t.built.symbols n k x))
    ≡ branch_counts t row reset m i n k x
unfolding count_if branch_counts
count_branches t row reset zero i n k x = refl
count_branches t row reset (suc m) i n k x =
    count_both (ends t row reset) (behind (event_of i x) (words_from t.built.symbols n k x))
    (by_symbols m (suc i) x (words_from t.built.symbols n k x))
    ∙ ap₂ ◌+◌ (count_child t row reset i n k x) (count_branches t row reset m (suc i) n k x)

-- a leaf, no stamp left, a stamp more
tree_leaf : (t : Tables) (row reset k x : ℕ) → tree_count t row reset 0 k x ≡ one_if (verdict t row)
unfolding tree_count count_if words_from step_all
tree_leaf t row reset k x = omega arith

tree_end : (t : Tables) (row reset n x : ℕ) → tree_count t row reset (suc n) 0 x ≡ 0
unfolding tree_count count_if words_from
tree_end t row reset n x = refl

tree_step :
    (t : Tables) (row reset n k x : ℕ)
    → tree_count t row reset (suc n) (suc k) x
    ≡ branch_counts t row reset t.built.symbols 0 n (suc k) x + tree_count t row reset (suc n) k (suc x)
unfolding tree_count words_from
tree_step t row reset n k x =
    count_both (ends t row reset) (by_symbols t.built.symbols 0 x (words_from t.built.symbols n (suc k) x))
    (words_from t.built.symbols (suc n) k (suc x))
    ∙ ap (λ (z : ℕ). z + count_if (ends t row reset) (words_from t.built.symbols (suc n) k (suc x)))
    (count_branches t row reset t.built.symbols 0 n (suc k) x)

-- a stored verdict is what a leaf counts
one_or_none : (v : ℕ) → v ≤ 1 → v ≡ one_if (eqb v 1)
one_or_none zero h = refl
one_or_none (suc zero) h = refl
one_or_none (suc (suc v)) h = absurd (omega arith)

pub stored_leaf :
    (t : Tables) (row reset k x v : ℕ) → v ≡ row_verdict t.rows row → v ≤ 1 → v ≡ tree_count t row reset 0 k x
unfolding verdict
stored_leaf t row reset k x v e h =
    one_or_none v h ∙ ap (λ (z : ℕ). one_if (eqb z 1)) e ∙ sym (tree_leaf t row reset k x)

-- what is below a node from stamp x on, place by place; the same with the symbols before i at stamp x passed
unfoldable pub below : Tables → ℕ → ℕ → ℕ → ℕ → ℕ → ℕ
below t stamps row reset x n = tree_count t row reset (suc n) (stamps - x) x

unfoldable pub left : Tables → ℕ → ℕ → ℕ → ℕ → ℕ → ℕ → ℕ
left t stamps row reset x i n =
    branch_counts t row reset (t.built.symbols - i) i n (stamps - x) x + below t stamps row reset (x + 1) n

module _ (t : Tables) (stamps row reset x : ℕ) where
  pub below_none : (n : ℕ) → stamps ≤ x → below t stamps row reset x n ≡ 0
  unfolding below
  below_none n h =
      let e : stamps - x ≡ 0 = omega arith in
      rw e (tree_end t row reset n x)

  pub below_some : (n : ℕ) → x < stamps → below t stamps row reset x n ≡ left t stamps row reset x 0 n
  unfolding below left
  below_some n h =
      let e : stamps - x ≡ suc (stamps - suc x) = omega arith in
      let f : t.built.symbols - 0 ≡ t.built.symbols = omega arith in
      rw (add-one x, f, e) (tree_step t row reset n (stamps - suc x) x)

  pub left_none : (i n : ℕ) → t.built.symbols ≤ i → left t stamps row reset x i n ≡ below t stamps row reset (x + 1) n
  unfolding left branch_counts
  left_none i n h =
      let e : t.built.symbols - i ≡ 0 = omega arith in
      rw e (omega arith)

  pub left_some :
      (i n : ℕ) → i < t.built.symbols
      → left t stamps row reset x i n
      ≡ child_count t row reset i n (stamps - x) x + left t stamps row reset x (i + 1) n
  unfolding left branch_counts
  left_some i n h =
      let e : t.built.symbols - i ≡ suc (t.built.symbols - suc i) = omega arith in
      rw (add-one i, e) (omega arith)
