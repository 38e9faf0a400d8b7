-- The edge table that its own rule becomes is the lent table exactly if every unused place is zero: the places of text
-- that an edge does not have, and all places past the last edge.
use mathlib.Core.Path.{◌≡◌, refl, sym, ◌∙◌, ap}
use mathlib.Core.Bool.{Bool, true, false, ◌&&◌}
use mathlib.Core.List.{List, [], ◌∷◌, ◌++◌, append_assoc}
use Prim.Native.Nat.{ℕ, zero, suc, ◌+◌, ◌-◌, ◌*◌, ◌≤◌}
use native.Mathlib.Omega.{arith}
use lib.Dec.{eqb, leb}
use lib.ListN.{length, get_or, take, drop, length-append, length-drop, take-append-drop}
use lib.Seq.{get_or-take, length-take-le, take-add}
use borrow.Author.Tests.{eq-eqb}
use Rattle.model.specs.Basics.{pick, same, zeros, filled}
use Rattle.model.specs.declared.Head.{Head}
use Rattle.model.specs.Rules.{Edge, Rule, rule, integer_reset, sized, edge_ok, edges_ok, kinds_rise}
use Rattle.model.specs.Layout.{edge_fields, edge_width, text_count, text_length, edge_in, edges_in}
use Rattle.model.specs.Layout.{edge_numbers, edges_numbers}
use Rattle.model.proofs.Logic.{same_equal, same_self, same_truth, and_left, and_right, and_both}
use Rattle.model.proofs.EdgesWritten.{edge_numbers_length}
use Rattle.numbers.specs.Lent.{all_zero}
use Rattle.numbers.proofs.Zeros.{same_zeros}
use Rattle.checks.specs.Checks.{edge_fault}
use Rattle.checks.proofs.EdgeChecks.{fault_of_rule}
use Rattle.rule.specs.Checks.{count_ok, unused_zero, edge_good, edges_good}
use Rattle.rule.proofs.Counts.{text_places, counted, sized_counted, text_long}

-- two lists in two parts each
same_parts :
    (a c b d : List ℕ) → length a ≡ length c → same (a ++ b) (c ++ d) ≡ (same a c && same b d)
same_parts [] [] b d h = refl
same_parts [] (y ∷ c) b d h = absurd (omega arith)
same_parts (x ∷ a) [] b d h = absurd (omega arith)
same_parts (x ∷ a) (y ∷ c) b d h = go (eqb x y) (same_parts a c b d (omega arith))
  where
    go :
        (t : Bool) → same (a ++ b) (c ++ d) ≡ (same a c && same b d)
        → (t && same (a ++ b) (c ++ d)) ≡ (t && same a c && same b d)
    go true e = e
    go false e = refl

-- the places of an edge's text: the n numbers that it has, then zeros
text_same :
    (n : ℕ) (t : List ℕ) → text_places ≤ length t → n ≤ text_places
    → same (filled text_places (take n t)) (take text_places t) ≡ all_zero (take (text_places - n) (drop n t))
text_same n t h m =
    let unused : List ℕ = take (text_places - n) (drop n t) in
    let long : length (take n t) ≡ n = length-take-le n t (omega arith) in
    let past : length unused ≡ text_places - n =
    length-take-le (text_places - n) (drop n t) (rw (length-drop n t) (omega arith)) in
    let e : text_places ≡ n + (text_places - n) = omega arith in
    let split : take text_places t ≡ take n t ++ unused =
    ap (λ (k : ℕ). take k t) e ∙ take-add n (text_places - n) t in
    rw (
      long,
      split,
      same_parts (take n t) (take n t) (zeros (text_places - n)) unused refl,
      same_self (take n t),
    )
    (ap (λ (k : ℕ). same (zeros k) unused) (sym past) ∙ same_zeros unused)

-- one edge of a kind and a count in their ranges
counted_same :
    (t : List ℕ) → edge_width ≤ length t → count_ok (get_or t 0 0) (get_or t 5 0) ≡ true
    → same (edge_numbers (edge_in t)) (take edge_width t) ≡ unused_zero t
counted_same [] h ok = absurd (omega arith)
counted_same (k ∷ []) h ok = absurd (omega arith)
counted_same (k ∷ a ∷ []) h ok = absurd (omega arith)
counted_same (k ∷ a ∷ b ∷ []) h ok = absurd (omega arith)
counted_same (k ∷ a ∷ b ∷ c ∷ []) h ok = absurd (omega arith)
counted_same (k ∷ a ∷ b ∷ c ∷ d ∷ []) h ok = absurd (omega arith)
counted_same (k ∷ a ∷ b ∷ c ∷ d ∷ n ∷ t) h ok =
    let m : ℕ = text_length k n in
    let fields : edge_fields + m ≡ suc (suc (suc (suc (suc (suc m))))) = omega arith in
    let past : edge_width - (edge_fields + m) ≡ text_places - m = omega arith in
    let long : length (take m t) ≡ m = text_long (k ∷ a ∷ b ∷ c ∷ d ∷ n ∷ t) h ok in
    let again : text_count k (length (take m t)) ≡ n = ap (text_count k) long ∙ (counted k n ok).count_again in
    rw (
      past,
      fields,
      again,
      eq-eqb k k refl,
      eq-eqb a a refl,
      eq-eqb b b refl,
      eq-eqb c c refl,
      eq-eqb d d refl,
      eq-eqb n n refl,
    )
    (text_same m t (omega arith) (counted k n ok).length_most)

-- an edge whose size is one of its kind: the count in the table is that of its text
same_count :
    (t : List ℕ) → sized (edge_in t) ≡ true → same (edge_numbers (edge_in t)) (take edge_width t) ≡ true
    → count_ok (get_or t 0 0) (get_or t 5 0) ≡ true
same_count t s q =
    let e : text_count (get_or t 0 0) (length (edge_in t).text) ≡ get_or t 5 0 =
    ap (λ (l : List ℕ). get_or l 5 0) (same_equal (edge_numbers (edge_in t)) (take edge_width t) q)
    ∙ get_or-take edge_width t 5 0 (omega arith) in
    rw e at (sized_counted (edge_in t) s)

-- one edge
edge_same :
    (t : List ℕ) → edge_width ≤ length t
    → (sized (edge_in t) && same (edge_numbers (edge_in t)) (take edge_width t))
    ≡ (count_ok (get_or t 0 0) (get_or t 5 0) && unused_zero t)
edge_same t h =
    let s : Bool = sized (edge_in t) in
    let y : Bool = same (edge_numbers (edge_in t)) (take edge_width t) in
    let m : Bool = count_ok (get_or t 0 0) (get_or t 5 0) in
    same_truth (s && y) (m && unused_zero t)
    (λ q.
    let ok = same_count t (and_left s y q) (and_right s y q) in
    and_both m (unused_zero t) ok (sym (counted_same t h ok) ∙ and_right s y q))
    (λ q.
    let ok = and_left m (unused_zero t) q in
    and_both s y ((counted (get_or t 0 0) (get_or t 5 0) ok).is_sized (edge_in t) refl (text_long t h ok))
    (counted_same t h ok ∙ and_right m (unused_zero t) q))

-- the first edge, and the rest
table_parts :
    (xs ys t : List ℕ) → length xs ≡ edge_width → edge_width ≤ length t
    → same (filled (length t) (xs ++ ys)) t
    ≡ (same xs (take edge_width t) && same (filled (length (drop edge_width t)) ys) (drop edge_width t))
table_parts xs ys t e h =
    let left : length t - length (xs ++ ys) ≡ length (drop edge_width t) - length ys =
    rw (length-append xs ys, length-drop edge_width t, e) (omega arith) in
    let front : length xs ≡ length (take edge_width t) = e ∙ sym (length-take-le edge_width t h) in
    ap (λ (l : List ℕ). same (filled (length t) (xs ++ ys)) l) (sym (take-append-drop edge_width t))
    ∙ (rw (left, append_assoc xs ys (zeros (length (drop edge_width t) - length ys)))
    (same_parts xs (take edge_width t) (ys ++ zeros (length (drop edge_width t) - length ys)) (drop edge_width t)
    front))

-- no fault is every number in range and the resets pinned
fault_none : (a b : Bool) → (a && b) ≡ eqb (pick a (pick b 0 7) 6) 0
fault_none true true = refl
fault_none true false = refl
fault_none false b = refl

-- the tests in the code's order and in the definition's
regroup :
    (v s q l u z y w m n g : Bool) → (s ≡ true → z ≡ (y && w)) → (s && y) ≡ (m && n) → (q && u && w) ≡ g
    → (v && s && q && (l && u) && z) ≡ (l && (m && v && n) && g)
regroup v s q l u z y w m n g split counts rest =
    same_truth (v && s && q && (l && u) && z) (l && (m && v && n) && g) forth back
  where
    forth : (v && s && q && (l && u) && z) ≡ true → (l && (m && v && n) && g) ≡ true
    forth h =
        let h4 : (v && s && q && (l && u)) ≡ true = and_left (v && s && q && (l && u)) z h in
        let h3 : (v && s && q) ≡ true = and_left (v && s && q) (l && u) h4 in
        let h2 : (v && s) ≡ true = and_left (v && s) q h3 in
        let k : (l && u) ≡ true = and_right (v && s && q) (l && u) h4 in
        let yes_s : s ≡ true = and_right v s h2 in
        let e : (y && w) ≡ true = sym (split yes_s) ∙ and_right (v && s && q && (l && u)) z h in
        let c : (m && n) ≡ true = sym counts ∙ and_both s y yes_s (and_left y w e) in
        let r : g ≡ true =
        sym rest
        ∙ and_both (q && u) w (and_both q u (and_right (v && s) q h3) (and_right l u k)) (and_right y w e) in
        rw (and_left l u k, and_left m n c, and_left v s h2, and_right m n c, r)

    back : (l && (m && v && n) && g) ≡ true → (v && s && q && (l && u) && z) ≡ true
    back h =
        let h2 : (l && (m && v && n)) ≡ true = and_left (l && (m && v && n)) g h in
        let a : (m && v && n) ≡ true = and_right l (m && v && n) h2 in
        let b : (m && v) ≡ true = and_left (m && v) n a in
        let c : (s && y) ≡ true = counts ∙ and_both m n (and_left m v b) (and_right (m && v) n a) in
        let r : (q && u && w) ≡ true = rest ∙ and_right (l && (m && v && n)) g h in
        let r2 : (q && u) ≡ true = and_left (q && u) w r in
        let yes_s : s ≡ true = and_left s y c in
        let e : z ≡ true = split yes_s ∙ and_both y w (and_right s y c) (and_right (q && u) w r) in
        rw (
          and_right m v b,
          yes_s,
          and_left q u r2,
          and_left l (m && v && n) h2,
          and_right q u r2,
          e,
        )

-- all edges, of kinds that never fall, then the places past them
pub edges_same :
    (h : Head) (i f : List ℕ) (es : List Edge) (least n : ℕ) (t : List ℕ) → edge_width * n ≤ length t
    → (edges_ok (rule h.locations h.symbols h.clocks i f es) (edges_in n t) && kinds_rise least (edges_in n t)
    && same (filled (length t) (edges_numbers (edges_in n t))) t)
    ≡ edges_good h least n t
unfolding edges_numbers edge_good edges_good
edges_same h i f es least zero t b = let z : length t - 0 ≡ length t = omega arith in rw z (same_zeros t)
edges_same h i f es least (suc n) t b =
    let r : Rule = rule h.locations h.symbols h.clocks i f es in
    let e : Edge = edge_in t in
    let rest : List Edge = edges_in n (drop edge_width t) in
    let rest_same : Bool = same (filled (length (drop edge_width t)) (edges_numbers rest)) (drop edge_width t) in
    let fault : (edge_ok r e && integer_reset e) ≡ eqb (edge_fault h t) 0 =
    fault_none (edge_ok r e) (integer_reset e) ∙ ap (λ (k : ℕ). eqb k 0) (sym (fault_of_rule h r t refl refl refl)) in
    ap
    (λ (x : Bool).
    x && sized e && edges_ok r rest && (leb least e.kind && kinds_rise e.kind rest)
    && same (filled (length t) (edge_numbers e ++ edges_numbers rest)) t)
    fault
    ∙ regroup (eqb (edge_fault h t) 0) (sized e) (edges_ok r rest) (leb least e.kind) (kinds_rise e.kind rest)
    (same (filled (length t) (edge_numbers e ++ edges_numbers rest)) t) (same (edge_numbers e) (take edge_width t))
    rest_same (count_ok (get_or t 0 0) (get_or t 5 0)) (unused_zero t)
    (edges_good h (get_or t 0 0) n (drop edge_width t))
    (λ s. table_parts (edge_numbers e) (edges_numbers rest) t (edge_numbers_length e s) (omega arith))
    (edge_same t (omega arith))
    (edges_same h i f es (get_or t 0 0) n (drop edge_width t) (rw (length-drop edge_width t) (omega arith)))
