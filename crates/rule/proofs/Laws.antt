-- What each test of the code says of the definition that it stands for, over plain variables.
use mathlib.Core.Path.{◌≡◌, refl, sym, ◌∙◌, ap, ap₂}
use mathlib.Core.Bool.{Bool, true, false, ◌&&◌}
use mathlib.Core.List.{List, [], ◌∷◌, ◌++◌, append_assoc}
use Prim.Native.Nat.{ℕ, suc, ◌+◌, ◌-◌, ◌*◌, ◌≤◌, ◌<◌}
use native.Mathlib.Omega.{arith}
use lib.Dec.{eqb, leb}
use lib.Bits.{bit_or, or_zero_l, or_add_and, and_le_r}
use lib.ListN.{length, get_or, take, drop, length-append}
use lib.Seq.{take_at, drop_at, length-take-le, take-add, take-take}
use borrow.Author.Tests.{eqb-true, eqb-false, le-leb, lt-leb, ne_eqb}
use Rattle.std.specs.List.{fold}
use Rattle.model.specs.declared.Head.{Head}
use Rattle.model.specs.Basics.{pick}
use Rattle.model.specs.Rules.{Edge, plain_edge, atoms_of, atoms_ok, integer_reset, text_ok}
use Rattle.model.specs.Layout.{edge_fields, edge_width, text_length, edge_in}
use Rattle.model.proofs.Logic.{by_test}
use Rattle.numbers.specs.Lent.{all_zero}
use Rattle.checks.specs.Checks.{fields_ok, edge_fault}
use Rattle.rule.specs.Checks.{count_ok, edge_good, edges_good}
use Rattle.rule.proofs.Counts.{text_places, counted}

-- bits of either are bits of both joined
none_joined : (a b : ℕ) (t : Bool) → (eqb (bit_or a b) 0 && t) ≡ (eqb a 0 && (eqb b 0 && t))
none_joined a b t =
    by_test (eqb a 0)
    (λ p. rw (p, eqb-true a 0 p, or_zero_l b))
    (λ p. rw (p, ne_eqb (bit_or a b) 0 (λ q. eqb-false a 0 p (omega (arith, q, or_add_and a b, and_le_r a b)))))

-- bits of some number, as they are joined, are those of all of them
none_from : (seen : ℕ) (xs : List ℕ) → eqb (fold bit_or seen xs) 0 ≡ (eqb seen 0 && all_zero xs)
none_from seen [] = and_true (eqb seen 0)
  where
    and_true : (a : Bool) → a ≡ (a && true)
    and_true true = refl
    and_true false = refl
none_from seen (x ∷ xs) = none_from (bit_or seen x) xs ∙ none_joined seen x (all_zero xs)

pub none_seen : (xs : List ℕ) → eqb (fold bit_or 0 xs) 0 ≡ all_zero xs
none_seen xs = none_from 0 xs

-- The edge at the front of a table, read from the numbers of its width alone: the same edge, as good.
part_front :
    (i m : ℕ) (t : List ℕ) → i ≤ m → m ≤ length t → take (m - i) (drop i (take m t)) ≡ take (m - i) (drop i t)
part_front i m t a b =
    let e : m ≡ i + (m - i) = omega arith in
    ap (take (m - i))
    (ap (λ (k : ℕ). drop i (take k t)) e
    ∙ (ap (drop i) (take-add i (m - i) t)
    ∙ drop_at (take i t) (take (m - i) (drop i t)) i (length-take-le i t (omega arith))))
    ∙ take-take (m - i) (m - i) (drop i t) (omega arith)

pub edge_front :
    (t : List ℕ) → edge_width ≤ length t → count_ok (get_or t 0 0) (get_or t 5 0) ≡ true
    → edge_in (take edge_width t) ≡ edge_in t
edge_front [] long ok = absurd (omega arith)
edge_front (k ∷ []) long ok = absurd (omega arith)
edge_front (k ∷ a ∷ []) long ok = absurd (omega arith)
edge_front (k ∷ a ∷ b ∷ []) long ok = absurd (omega arith)
edge_front (k ∷ a ∷ b ∷ c ∷ []) long ok = absurd (omega arith)
edge_front (k ∷ a ∷ b ∷ c ∷ d ∷ []) long ok = absurd (omega arith)
edge_front (k ∷ a ∷ b ∷ c ∷ d ∷ n ∷ t) long ok =
    ap
    (λ (x : List ℕ). record { kind = k; source = a; target = b; symbol = c; resets = d; text = x })
    (take-take (text_length k n) text_places t (counted k n ok).length_most)

good_front : (h : Head) (t : List ℕ) → edge_width ≤ length t → edge_good h (take edge_width t) ≡ edge_good h t
unfolding edge_good edge_fault
good_front h [] long = absurd (omega arith)
good_front h (k ∷ []) long = absurd (omega arith)
good_front h (k ∷ a ∷ []) long = absurd (omega arith)
good_front h (k ∷ a ∷ b ∷ []) long = absurd (omega arith)
good_front h (k ∷ a ∷ b ∷ c ∷ []) long = absurd (omega arith)
good_front h (k ∷ a ∷ b ∷ c ∷ d ∷ []) long = absurd (omega arith)
good_front h (k ∷ a ∷ b ∷ c ∷ d ∷ n ∷ t) long =
    let table : List ℕ = k ∷ a ∷ b ∷ c ∷ d ∷ n ∷ t in
    by_test (count_ok k n)
    (λ ok.
    ap₂
    (λ (e : Edge) (unused : Bool).
    count_ok k n
    && eqb
    (pick (fields_ok h table && text_ok e && atoms_ok h.clocks (atoms_of e))
    (pick (integer_reset e) 0 7) 6) 0
    && unused)
    (edge_front table long ok)
    (ap all_zero
    (part_front (edge_fields + text_length k n) edge_width table (omega (arith, (counted k n ok).length_most)) long)))
    (λ not_ok. rw not_ok)

-- The edges that are left, `n` of them in `rest`, of kinds from `last` on; the places past all edges follow.
pub record EdgesLeft (h : Head) (last : ℕ) (rest : List ℕ) (past : ℕ) (t : List ℕ) : Type 0 where
  pub n : ℕ
  pub long : length rest ≡ edge_width * n
  pub rest_is : edges_good h last n (rest ++ drop past t) ≡ edges_good h plain_edge h.count t

-- an edge at the front, read from its own numbers, and the edges behind it
edge_first :
    (h : Head) (last m : ℕ) (edge others : List ℕ) → length edge ≡ edge_width
    → edges_good h last (suc m) (edge ++ others)
    ≡ (leb last (get_or edge 0 0) && edge_good h edge && edges_good h (get_or edge 0 0) m others)
unfolding edges_good
edge_first h last m [] others long = absurd (omega arith)
edge_first h last m (k ∷ edge) others long =
    let front : take edge_width ((k ∷ edge) ++ others) ≡ (k ∷ edge) = take_at (k ∷ edge) others edge_width long in
    let back : drop edge_width ((k ∷ edge) ++ others) ≡ others = drop_at (k ∷ edge) others edge_width long in
    let whole : edge_width ≤ length ((k ∷ edge) ++ others) = rw (length-append (k ∷ edge) others) (omega arith) in
    let good : edge_good h ((k ∷ edge) ++ others) ≡ edge_good h (k ∷ edge) =
    sym (good_front h ((k ∷ edge) ++ others) whole) ∙ ap (edge_good h) front in
    ap₂ (λ (g : Bool) (ys : List ℕ). leb last k && g && edges_good h k m ys) good back

module _
    {h : Head} {last past : ℕ} {rest t : List ℕ} (inv : EdgesLeft h last rest past t) (edge others : List ℕ)
    (parts : rest ≡ edge ++ others) (long : length edge ≡ edge_width)
  where
    more : inv.n ≡ suc (inv.n - 1)
    more = omega (arith, inv.long, ap length parts, length-append edge others)

    turn :
        (leb last (get_or edge 0 0) && edge_good h edge
        && edges_good h (get_or edge 0 0) (inv.n - 1) (others ++ drop past t))
        ≡ edges_good h plain_edge h.count t
    turn =
        sym (edge_first h last (inv.n - 1) edge (others ++ drop past t) long)
        ∙ ap₂ (λ (n : ℕ) (ys : List ℕ). edges_good h last n ys) (sym more)
        (sym (append_assoc edge others (drop past t)) ∙ ap (λ (ys : List ℕ). ys ++ drop past t) (sym parts))
        ∙ inv.rest_is

    pub edges_fail : edge_good h edge ≡ false → false ≡ edges_good h plain_edge h.count t
    edges_fail bad = by_test (leb last (get_or edge 0 0)) (λ e. (rw (e, bad) at turn)) (λ e. (rw e at turn))

    -- its kind, as it was read
    module _ (kind : ℕ) (kind_is : kind ≡ get_or edge 0 0) where
      pub edges_fall : kind < last → false ≡ edges_good h plain_edge h.count t
      edges_fall low =
          let low_too : get_or edge 0 0 < last = omega (arith, kind_is) in
          (rw (lt-leb last (get_or edge 0 0) low_too) at turn)

      pub edges_next : last ≤ kind → edge_good h edge ≡ true → EdgesLeft h kind others past t
      edges_next high good =
          let high_too : last ≤ get_or edge 0 0 = omega (arith, kind_is) in
          record {
            n = inv.n - 1;
            long = omega (arith, inv.long, ap length parts, length-append edge others);
            rest_is = rw kind_is (rw (le-leb last (get_or edge 0 0) high_too, good) at turn);
          }

pub edges_end :
    {h : Head} {last past : ℕ} {rest t : List ℕ} → EdgesLeft h last rest past t → length rest < edge_width
    → all_zero (drop past t) ≡ edges_good h plain_edge h.count t
unfolding edges_good
edges_end {rest = []} inv short = let none : inv.n ≡ 0 = omega (arith, inv.long) in (rw none at inv.rest_is)
edges_end {rest = x ∷ rest} inv short = absurd (omega (arith, inv.long))
