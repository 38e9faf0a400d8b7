-- A scratch of 32-bit numbers as two tables: the low part of place k is the k-th state found, the high part of place x
-- how state x was found. Noting a state changes one place of each, and one place fewer is not marked.
use mathlib.Core.Path.{◌≡◌, refl, sym, ◌∙◌, ap, subst}
use mathlib.Core.Bool.{Bool, true, false}
use mathlib.Core.List.{List, [], ◌∷◌}
use Prim.Native.Nat.{ℕ, zero, suc, ◌+◌, ◌*◌, ◌/◌, ◌%◌, ◌≤◌, ◌<◌}
use native.Mathlib.Omega.{arith}
use lib.Dec.{eqb}
use lib.ListN.{length, get_or, set}
use lib.Seq.{get_or-set_same, get_or-set_other}
use borrow.Author.Tests.{eqb-true, eqb-false, eq-eqb, ne_eqb}
use Rattle.model.specs.Basics.{pick, one_if}
use Rattle.model.proofs.Logic.{by_test, eqb_suc, less, least, two}
use Rattle.inclusion.specs.Parts.{part, most_mark, low, high, raised_at, noted, unmarked, Laid, Keeps}

raised_get :
    (s : List ℕ) (k n j : ℕ) → k < length s → get_or (raised_at s k n) j 0 ≡ get_or s j 0 + pick (eqb j k) n 0
raised_get [] k n j h = absurd (omega arith)
raised_get (x ∷ xs) zero n zero h = refl
raised_get (x ∷ xs) zero n (suc j) h = rw (ne_eqb (suc j) 0 (omega arith)) (omega arith)
raised_get (x ∷ xs) (suc k) n zero h = rw (ne_eqb 0 (suc k) (omega arith)) (omega arith)
raised_get (x ∷ xs) (suc k) n (suc j) h =
    raised_get xs k n j (omega arith) ∙ ap (λ (b : Bool). get_or xs j 0 + pick b n 0) (sym (eqb_suc j k))

raised_length : (s : List ℕ) (k n : ℕ) → length (raised_at s k n) ≡ length s
raised_length [] k n = refl
raised_length (x ∷ xs) zero n = refl
raised_length (x ∷ xs) (suc k) n = ap suc (raised_length xs k n)

noted_get :
    (s : List ℕ) (tail x mark j : ℕ) → tail < length s → x < length s
    → get_or (noted s tail x mark) j 0 ≡ get_or s j 0 + pick (eqb j tail) x 0 + pick (eqb j x) (part * mark) 0
noted_get s tail x mark j p q =
    raised_get (raised_at s tail x) x (part * mark) j (omega (arith, raised_length s tail x))
    ∙ ap (λ (z : ℕ). z + pick (eqb j x) (part * mark) 0) (raised_get s tail x j p)

low_noted :
    (s : List ℕ) (tail x mark j : ℕ) → tail < length s → x < length s → x < part → low s tail ≡ 0
    → low (noted s tail x mark) j ≡ pick (eqb j tail) x (low s j)
low_noted s tail x mark j p q h z = rw (noted_get s tail x mark j p q) (go (eqb j tail) (eqb j x) refl)
  where
    go :
        (a b : Bool) → eqb j tail ≡ a
        → (get_or s j 0 + pick a x 0 + pick b (part * mark) 0) % part ≡ pick a x (get_or s j 0 % part)
    go true true e = let i = eqb-true j tail e in let y : get_or s j 0 % part ≡ 0 = rw i z in omega arith
    go true false e = let i = eqb-true j tail e in let y : get_or s j 0 % part ≡ 0 = rw i z in omega arith
    go false true e = omega arith
    go false false e = omega arith

high_noted :
    (s : List ℕ) (tail x mark j : ℕ) → tail < length s → x < length s → x < part → low s tail ≡ 0 → high s x ≡ 0
    → high (noted s tail x mark) j ≡ pick (eqb j x) mark (high s j)
high_noted s tail x mark j p q h z w = rw (noted_get s tail x mark j p q) (go (eqb j tail) (eqb j x) refl refl)
  where
    go :
        (a b : Bool) → eqb j tail ≡ a → eqb j x ≡ b
        → (get_or s j 0 + pick a x 0 + pick b (part * mark) 0) / part ≡ pick b mark (get_or s j 0 / part)
    go true true e f =
        let y : get_or s j 0 % part ≡ 0 = rw (eqb-true j tail e) z in
        let v : get_or s j 0 / part ≡ 0 = rw (eqb-true j x f) w in
        omega arith
    go true false e f = let y : get_or s j 0 % part ≡ 0 = rw (eqb-true j tail e) z in omega arith
    go false true e f = let v : get_or s j 0 / part ≡ 0 = rw (eqb-true j x f) w in omega arith
    go false false e f = omega arith

marks_fewer :
    (s : List ℕ) (k n : ℕ) → k < length s → high s k ≡ 0 → 1 ≤ n
    → suc (unmarked (raised_at s k (part * n))) ≡ unmarked s
marks_fewer [] k n h z m = absurd (omega arith)
marks_fewer (x ∷ xs) zero n h z m =
    let f : eqb ((x + part * n) / part) 0 ≡ false = ne_eqb ((x + part * n) / part) 0 (omega arith) in
    let g : eqb (x / part) 0 ≡ true = eq-eqb (x / part) 0 z in
    rw (f, g) (omega arith)
marks_fewer (x ∷ xs) (suc k) n h z m = omega (arith, marks_fewer xs k n (omega arith) z m)

marks_same :
    (s : List ℕ) (k n : ℕ) → k < length s → low s k ≡ 0 → n < part → unmarked (raised_at s k n) ≡ unmarked s
marks_same [] k n h z m = refl
marks_same (x ∷ xs) zero n h z m =
    let f : (x + n) / part ≡ x / part = omega arith in
    rw f
marks_same (x ∷ xs) (suc k) n h z m =
    ap (λ (y : ℕ). one_if (eqb (x / part) 0) + y) (marks_same xs k n (omega arith) z m)

-- one place fewer is not marked: with tail + unmarked ≡ N kept, tail is below N wherever a state is not found
unmarked_noted :
    (s : List ℕ) (tail x mark : ℕ) → tail < length s → x < length s → x < part → low s tail ≡ 0 → high s x ≡ 0
    → 1 ≤ mark
    → suc (unmarked (noted s tail x mark)) ≡ unmarked s
unmarked_noted s tail x mark p q h z w m =
    marks_fewer (raised_at s tail x) x mark (omega (arith, raised_length s tail x)) still m ∙ marks_same s tail x p z h
  where
    still : high (raised_at s tail x) x ≡ 0
    still = rw (raised_get s tail x x p) (go (eqb x tail) refl)
      where
        go : (a : Bool) → eqb x tail ≡ a → (get_or s x 0 + pick a x 0) / part ≡ 0
        go true e = let y : get_or s x 0 % part ≡ 0 = rw (eqb-true x tail e) z in omega arith
        go false e = omega arith

some_unmarked : (s : List ℕ) (x : ℕ) → x < length s → high s x ≡ 0 → 1 ≤ unmarked s
some_unmarked [] x h z = absurd (omega arith)
some_unmarked (y ∷ ys) zero h z = rw (eq-eqb (y / part) 0 z) (omega arith)
some_unmarked (y ∷ ys) (suc x) h z = omega (arith, some_unmarked ys x (omega arith) z)

raised_set : (s : List ℕ) (k n : ℕ) → raised_at s k n ≡ set s k (get_or s k 0 + n)
raised_set [] k n = refl
raised_set (x ∷ xs) zero n = refl
raised_set (x ∷ xs) (suc k) n = ap (λ (l : List ℕ). x ∷ l) (raised_set xs k n)

pub noted_length : (s : List ℕ) (tail x mark : ℕ) → length (noted s tail x mark) ≡ length s
noted_length s tail x mark = raised_length (raised_at s tail x) x (part * mark) ∙ raised_length s tail x

-- the note as the two stores that write it
pub noted_stores :
    (s : List ℕ) (tail x mark : ℕ)
    → let once = set s tail (get_or s tail 0 + x) in
    set once x (get_or once x 0 + part * mark) ≡ noted s tail x mark
noted_stores s tail x mark =
    sym (raised_set (raised_at s tail x) x (part * mark)
    ∙ ap (λ (l : List ℕ). set l x (get_or l x 0 + part * mark)) (raised_set s tail x))

-- what a note leaves and what it makes, of any list after it
pub record Grown (s : List ℕ) (tail x mark : ℕ) (s' : List ℕ) : Type 0 where
  pub length_is : length s' ≡ length s
  pub low_old : (k : ℕ) → k < tail → low s' k ≡ low s k
  pub low_new : low s' tail ≡ x
  pub low_past : (k : ℕ) → tail < k → low s' k ≡ 0
  pub high_new : high s' x ≡ mark
  pub high_old : (z : ℕ) → (z ≡ x → ⊥) → high s' z ≡ high s z
  pub one_less : suc (unmarked s') ≡ unmarked s

pub tail_below : {s : List ℕ} {tail : ℕ} → Laid s tail → (x : ℕ) → x < length s → high s x ≡ 0 → tail < length s
tail_below {s} {tail} l x h z = omega (arith, l.counted, some_unmarked s x h z)

-- a state that may be noted: not found so far, with a mark that fits
pub record Noting (s : List ℕ) (tail x mark : ℕ) : Type 0 where
  pub laid : Laid s tail
  pub state_below : x < length s
  pub not_found : high s x ≡ 0
  pub mark_some : 1 ≤ mark
  pub mark_most : mark ≤ most_mark

pub noted_grown :
    {s : List ℕ} {tail x mark : ℕ} → Noting s tail x mark → (s' : List ℕ) → s' ≡ noted s tail x mark
    → Grown s tail x mark s'
noted_grown {s} {tail} {x} {mark} n s' i =
    let h : x < length s = n.state_below in
    let z : high s x ≡ 0 = n.not_found in
    let t : tail < length s = tail_below n.laid x h z in
    let p : x < part = omega (arith, n.laid.small) in
    let e : low s tail ≡ 0 = n.laid.past tail (omega arith) in
    let other : (k : ℕ) → (k ≡ tail → ⊥) → low (noted s tail x mark) k ≡ low s k =
    λ k d. rw (low_noted s tail x mark k t h p e) (rw (ne_eqb k tail d)) in
    subst (λ (l : List ℕ). Grown s tail x mark l) (sym i) (record {
      length_is = noted_length s tail x mark;
      low_old = λ k b. other k (λ q. absurd (omega (arith, b, q)));
      low_new = rw (low_noted s tail x mark tail t h p e) (rw (eq-eqb tail tail refl));
      low_past = λ k b. other k (λ q. absurd (omega (arith, b, q))) ∙ n.laid.past k (omega (arith, b));
      high_new = rw (high_noted s tail x mark x t h p e z) (rw (eq-eqb x x refl));
      high_old = λ y q. rw (high_noted s tail x mark y t h p e z) (rw (ne_eqb y x q));
      one_less = unmarked_noted s tail x mark t h p e z n.mark_some;
    })

-- laid again after a note
old_other : {s : List ℕ} {tail x : ℕ} → Laid s tail → high s x ≡ 0 → (k : ℕ) → k < tail → low s k ≡ x → ⊥
old_other {s} l z k b e = let q : high s (low s k) ≡ 0 = rw e z in omega (arith, q, l.marked k b)

pub grown_laid : {s s' : List ℕ} {tail x mark : ℕ} → Noting s tail x mark → Grown s tail x mark s' → Laid s' (suc tail)
grown_laid {s} {s'} {tail} {x} {mark} n g =
    let l : Laid s tail = n.laid in
    record {
      small = omega (arith, l.small, g.length_is);
      counted = omega (arith, l.counted, g.length_is, g.one_less);
      past = λ k b. g.low_past k b;
      states_below = λ k b. elim (two k tail) [
        | less q ↦ rw (g.low_old k q) (omega (arith, l.states_below k q, g.length_is))
        | least q ↦ let e : k ≡ tail = omega arith in rw (e, g.low_new) (omega (arith, n.state_below, g.length_is))
      ];
      marked = λ k b. elim (two k tail) [
        | less q ↦ rw (g.low_old k q) (rw (g.high_old (low s k) (old_other l n.not_found k q)) (l.marked k q))
        | least q ↦ let e : k ≡ tail = omega arith in rw (e, g.low_new, g.high_new) n.mark_some
      ];
      marks_most = λ y. by_test (eqb y x)
          (λ e. let q : y ≡ x = eqb-true y x e in rw (q, g.high_new) n.mark_most)
          (λ e. rw (g.high_old y (eqb-false y x e)) (l.marks_most y));
    }

pub grown_keeps :
    {s s' : List ℕ} {tail x mark : ℕ} → Laid s tail → high s x ≡ 0 → Grown s tail x mark s' → Keeps s tail s'
grown_keeps {s} {s'} {tail} l z g = record {
  same_length = g.length_is;
  low_kept = g.low_old;
  high_kept = λ k b. g.high_old (low s k) (old_other l z k b);
}

pub keeps_same : (s : List ℕ) (n : ℕ) → Keeps s n s
keeps_same s n = record { same_length = refl; low_kept = λ k b. refl; high_kept = λ k b. refl }

pub keeps_on : {s s' s'' : List ℕ} {n m : ℕ} → n ≤ m → Keeps s n s' → Keeps s' m s'' → Keeps s n s''
keeps_on {s} {s'} {s''} {n} {m} h p q = record {
  same_length = q.same_length ∙ p.same_length;
  low_kept = λ k b. q.low_kept k (omega (arith, h, b)) ∙ p.low_kept k b;
  high_kept = λ k b.
      ap (λ (y : ℕ). high s'' y) (sym (p.low_kept k b)) ∙ q.high_kept k (omega (arith, h, b))
      ∙ ap (λ (y : ℕ). high s' y) (p.low_kept k b) ∙ p.high_kept k b;
}

-- the second sum of a note fits 32 bits, also where it falls on the place of the first
module _ {s : List ℕ} {tail : ℕ} (l : Laid s tail) (x : ℕ) (h : x < length s) (z : high s x ≡ 0) where
  abbrev sum : ℕ
  sum = get_or s tail 0 + x

  same_place : eqb x tail ≡ true → get_or (set s tail sum) x 0 < 2 * part
  same_place e =
      let q : x ≡ tail = eqb-true x tail e in
      let p : low s tail ≡ 0 = l.past tail (omega arith) in
      let w : high s tail ≡ 0 = rw q at z in
      let v : get_or (set s tail sum) tail 0 ≡ sum = get_or-set_same s tail sum 0 (tail_below l x h z) in
      let u : get_or (set s tail sum) x 0 ≡ get_or (set s tail sum) tail 0 =
      ap (λ (y : ℕ). get_or (set s tail sum) y 0) q in
      omega (arith, u, v, w, p, l.small)

  other_place : eqb x tail ≡ false → get_or (set s tail sum) x 0 < 2 * part
  other_place e = omega (arith, get_or-set_other s tail x sum 0 (eqb-false x tail e), z)

  pub second_store : get_or (set s tail sum) x 0 < 2 * part
  second_store = by_test (eqb x tail) same_place other_place

-- a place below the tail and the state that stands there, and its mark as it is read
pub record Filled (s : List ℕ) (k : ℕ) : Type 0 where
  pub place_in : k < length s
  pub state_in : low s k < length s
  pub mark_some : 1 ≤ high s (low s k)
  pub mark_most : high s (low s k) ≤ most_mark

pub filled : {s : List ℕ} {tail : ℕ} → Laid s tail → (k : ℕ) → k < tail → Filled s k
filled {s} l k h = record {
  place_in = omega (arith, l.counted, h);
  state_in = l.states_below k h;
  mark_some = l.marked k h;
  mark_most = l.marks_most (low s k);
}

pub mark_read :
    {s : List ℕ} {k : ℕ} → Filled s k → (state mark : ℕ) → state ≡ low s k → mark ≡ high s state
    → (1 ≤ mark) × (mark ≤ most_mark)
mark_read {s} {k} f state mark e g =
    let h : mark ≡ high s (low s k) = g ∙ ap (λ (y : ℕ). high s y) e in
    (omega (arith, h, f.mark_some), omega (arith, h, f.mark_most))
