-- A table with the parts of one in shape is in shape: every test of it looks at the parts alone.
use mathlib.Core.Path.{◌≡◌, refl, sym, ◌∙◌, ap, ap₂, subst}
use mathlib.Core.Bool.{Bool, true, ◌&&◌}
use mathlib.Core.List.{List}
use Prim.Native.Nat.{ℕ, zero, suc, ◌+◌, ◌*◌, ◌≤◌, ◌<◌}
use native.Mathlib.Omega.{arith}
use lib.Dec.{eqb, leb}
use lib.ListN.{length, get_or, take, drop, length-take}
use lib.Seq.{get_or-drop, length-take-le, take-take, take-add, drop_at}
use borrow.Author.Tests.{le-leb}
use Rattle.model.specs.declared.Built.{Built}
use Rattle.model.specs.Basics.{one_if, all_below}
use Rattle.model.specs.Tables.{Tables, tables, row_width, row_start, row_length, row_verdict, codes_at}
use Rattle.model.specs.Walks.{built_pairs, built_sizes_ok, built_width, cell_need, long_enough, rows_chain, cells_ok}
use Rattle.model.specs.Walks.{codes_say, verdicts_ok, in_shape}
use Rattle.model.specs.Shares.{SameParts}
use Rattle.model.proofs.Logic.{and_left, and_right, and_both}
use Rattle.model.proofs.ShapeCells.{Long, long_of, row_ends}
use Rattle.model.proofs.SameParts.{alike_at}

-- Two lists that begin alike: both reach as far, and every part of the beginning is alike.
alike_long : (n : ℕ) (xs ys : List ℕ) → take n xs ≡ take n ys → n ≤ length ys → n ≤ length xs
alike_long n xs ys e l = omega (arith, length-take n xs, length-take n ys, ap length e, l)

part : (s k : ℕ) (xs : List ℕ) → s ≤ length xs → drop s (take (s + k) xs) ≡ take k (drop s xs)
part s k xs l =
    ap (drop s) (take-add s k xs) ∙ drop_at (take s xs) (take k (drop s xs)) s (length-take-le s xs l)

alike_part :
    (n s k : ℕ) (xs ys : List ℕ) → take n xs ≡ take n ys → n ≤ length xs → n ≤ length ys → s + k ≤ n
    → take k (drop s xs) ≡ take k (drop s ys)
alike_part n s k xs ys e lx ly h =
    let front : take (s + k) xs ≡ take (s + k) ys =
    sym (take-take (s + k) n xs h) ∙ ap (take (s + k)) e ∙ take-take (s + k) n ys h in
    sym (part s k xs (omega arith)) ∙ ap (drop s) front ∙ part s k ys (omega arith)

-- The tests that go row by row.
chain_same :
    (n p total : ℕ) (xs ys : List ℕ) → ((i : ℕ) → i < row_width * n → get_or xs i 0 ≡ get_or ys i 0)
    → rows_chain n p xs total ≡ rows_chain n p ys total
chain_same zero p total xs ys same = refl
chain_same (suc n) p total xs ys same =
    let rest : (i : ℕ) → i < row_width * n → get_or (drop row_width xs) i 0 ≡ get_or (drop row_width ys) i 0 =
    λ i l. get_or-drop row_width xs i 0 ∙ same (row_width + i) (omega arith) ∙ sym (get_or-drop row_width ys i 0) in
    ap₂ (λ (a b : ℕ). eqb a p && rows_chain n (p + b) (drop row_width xs) total) (same 0 (omega arith))
    (same 1 (omega arith))
    ∙ ap (λ (x : Bool). eqb (row_start ys 0) p && x)
    (chain_same n (p + row_length ys 0) total (drop row_width xs) (drop row_width ys) rest)

module _ (b : Built) (xs ys ps qs : List ℕ) where
  verdicts_same :
      (n i : ℕ) → ((k : ℕ) → k < i + n → row_verdict xs k ≡ row_verdict ys k)
      → ((k : ℕ) → k < i + n → codes_at xs ps k ≡ codes_at ys qs k)
      → verdicts_ok n i b xs ps ≡ verdicts_ok n i b ys qs
  verdicts_same zero i stored codes = refl
  verdicts_same (suc n) i stored codes =
      ap₂ ◌&&◌
      (ap₂ (λ (v : ℕ) (cs : List ℕ). eqb v (one_if (codes_say b cs))) (stored i (omega arith)) (codes i (omega arith)))
      (verdicts_same n (suc i) (λ k l. stored k (omega arith)) (λ k l. codes k (omega arith)))

-- All of it, for tables with one built record; the second is in shape.
module _
    (b : Built) (cs ds xs ys ps qs : List ℕ) (cells_are : take (cell_need b) cs ≡ take (cell_need b) ds)
    (rows_are : take (row_width * b.rows) xs ≡ take (row_width * b.rows) ys)
    (pool_is : take b.total ps ≡ take b.total qs)
  where
    row_same : (i : ℕ) → i < row_width * b.rows → get_or xs i 0 ≡ get_or ys i 0
    row_same i l = alike_at (row_width * b.rows) xs ys i rows_are l

    long_same : long_enough (tables b ds ys qs) ≡ true → long_enough (tables b cs xs ps) ≡ true
    long_same h =
        let l : Long (tables b ds ys qs) = long_of (tables b ds ys qs) h in
        let c : Bool = leb (cell_need b) (length cs) in
        let n : Bool = leb (row_width * b.rows) (length xs) in
        and_both (c && n) (leb b.total (length ps))
        (and_both c n
        (le-leb (cell_need b) (length cs) (alike_long (cell_need b) cs ds cells_are l.cells_long))
        (le-leb (row_width * b.rows) (length xs) (alike_long (row_width * b.rows) xs ys rows_are l.rows_long)))
        (le-leb b.total (length ps) (alike_long b.total ps qs pool_is l.pool_long))

    codes_same :
        b.total ≤ length qs → rows_chain b.rows 0 ys b.total ≡ true → (k : ℕ) → k < b.rows
        → codes_at xs ps k ≡ codes_at ys qs k
    codes_same l chain k h =
        ap₂ (λ (s n : ℕ). take n (drop s ps)) (row_same (row_width * k) (omega arith))
        (row_same (row_width * k + 1) (omega arith))
        ∙ alike_part b.total (row_start ys k) (row_length ys k) ps qs pool_is
        (alike_long b.total ps qs pool_is l) l
        (row_ends b.rows 0 ys b.total k chain h)

    shape_by_parts : in_shape (tables b ds ys qs) ≡ true → in_shape (tables b cs xs ps) ≡ true
    unfolding in_shape
    shape_by_parts h =
        let sizes : Bool = built_sizes_ok b in
        let long : Bool = long_enough (tables b ds ys qs) in
        let chain : Bool = rows_chain b.rows 0 ys b.total in
        let codes : Bool = all_below (built_pairs b) (take b.total qs) in
        let cells : Bool = cells_ok 0 (built_width b) b.rows (take (cell_need b) ds) in
        let stored : Bool = verdicts_ok b.rows 0 b ys qs in
        let h5 : (sizes && long && chain && codes && cells) ≡ true =
        and_left (sizes && long && chain && codes && cells) stored h in
        let h4 : (sizes && long && chain && codes) ≡ true = and_left (sizes && long && chain && codes) cells h5 in
        let h3 : (sizes && long && chain) ≡ true = and_left (sizes && long && chain) codes h4 in
        let h2 : (sizes && long) ≡ true = and_left (sizes && long) chain h3 in
        let is_long : long ≡ true = and_right sizes long h2 in
        let in_chain : chain ≡ true = and_right (sizes && long) chain h3 in
        let chain_is : rows_chain b.rows 0 xs b.total ≡ chain =
        chain_same b.rows 0 b.total xs ys row_same in
        let stored_is : verdicts_ok b.rows 0 b xs ps ≡ stored =
        verdicts_same b xs ys ps qs b.rows 0 (λ k l. row_same (row_width * k + 2) (omega arith))
        (λ k l. codes_same (long_of (tables b ds ys qs) is_long).pool_long in_chain k (omega arith)) in
        let long_is : long_enough (tables b cs xs ps) ≡ long = long_same is_long ∙ sym is_long in
        rw (long_is, chain_is, pool_is, cells_are, stored_is) h

-- The claim.
pub same_shape : (t u : Tables) → in_shape u ≡ true → SameParts t u → in_shape t ≡ true
same_shape t u h same =
    let b : Built = u.built in
    subst (λ (x : Built). in_shape (tables x t.cells t.rows t.pool) ≡ true) (sym same.built_is)
    (shape_by_parts b t.cells u.cells t.rows u.rows t.pool u.pool
    (sym (ap (λ (x : Built). take (cell_need x) t.cells) same.built_is) ∙ same.cells_are)
    (sym (ap (λ (x : Built). take (row_width * x.rows) t.rows) same.built_is) ∙ same.rows_are)
    (sym (ap (λ (x : Built). take x.total t.pool) same.built_is) ∙ same.pool_is)
    h)
