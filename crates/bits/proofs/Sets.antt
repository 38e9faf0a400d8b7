-- Marked codes as a set: they rise, a code is among them exactly if its bit is set, and one bit more puts one code in.
use mathlib.Core.Path.{◌≡◌, refl, sym, ◌∙◌, ap, ap₂}
use mathlib.Core.Bool.{Bool, true, false, ◌||◌}
use mathlib.Core.List.{List, [], ◌∷◌, ◌++◌, append_assoc, append-nil}
use mathlib.Core.Logic.{inl, inr}
use Prim.Native.Nat.{ℕ, zero, suc, ◌+◌, ◌-◌, ◌*◌, ◌/◌, ◌%◌, ◌^◌, ◌≤◌, ◌<◌}
use native.Mathlib.Omega.{arith}
use native.Mathlib.Nat.{zero-div}
use lib.Dec.{eqb}
use lib.ListN.{length, get_or, set, take}
use lib.Bits as Bits
use lib.Seq.{take-suc, get_or-set_same, get_or-set_other, length-take-le}
use borrow.Author.Tests.{eqb-true, eqb-false, eq-eqb, ne_eqb}
use Rattle.model.specs.Basics.{is_in, bit, zeros}
use Rattle.model.specs.Construction.{with_code}
use Rattle.model.proofs.Logic.{by_test, same_truth, In, is_in_lem, in_is, cmp, is_lt, is_eq, is_gt}
use Rattle.model.proofs.Logic.{two, less, least, no_way, or_right, or_left, or_none}
use Rattle.model.proofs.Masks.{Asc, not_below}
use Rattle.model.proofs.RowSets.{with_code_has, with_code_keeps, with_code_of}
use Rattle.model.proofs.RowsKeep.{with_ascends}
use Rattle.bits.specs.Bits.{marked, number_codes, codes_from, codes_in}
use Rattle.bits.proofs.Bitwise.{Between, number_between, number_zero, number_has, bit_set}

-- lists that rise are equal if they have the same members
pub asc_same :
    (n : ℕ) (xs ys : List ℕ) → Asc n xs → Asc n ys → ((x : ℕ) → is_in x xs ≡ is_in x ys) → xs ≡ ys
asc_same n [] [] a b h = refl
asc_same n [] (y ∷ ys) a b h = no_way (h y ∙ rw (eq-eqb y y refl))
asc_same n (x ∷ xs) [] a b h = no_way (sym (h x) ∙ rw (eq-eqb x x refl))
asc_same n (x ∷ xs) (y ∷ ys) a b h =
    elim (cmp x y) [
      | is_lt l ↦
          let p : is_in x (x ∷ xs) ≡ true = rw (eq-eqb x x refl) in
          no_way (sym (not_below y (y ∷ ys) x (omega arith, b.1) l) ∙ (sym (h x) ∙ p))
      | is_gt l ↦
          let p : is_in y (y ∷ ys) ≡ true = rw (eq-eqb y y refl) in
          no_way (sym (not_below x (x ∷ xs) y (omega arith, a.1) l) ∙ (h y ∙ p))
      | is_eq l ↦
          ap₂ ◌∷◌ l (asc_same (suc x) xs ys a.1 (rw (← l) at b.1) (λ z. tails l z))
    ]
  where
    tails : x ≡ y → (z : ℕ) → is_in z xs ≡ is_in z ys
    tails l z =
        elim (two x z) [
          | less g ↦
              let p : eqb z x ≡ false = ne_eqb z x (λ q. omega arith) in
              let q : eqb z y ≡ false = ne_eqb z y (λ q. omega arith) in
              rw (p, q) at (h z)
          | least g ↦
              not_below (suc x) xs z a.1 (omega arith) ∙ sym (not_below (suc y) ys z b.1 (omega arith))
        ]

-- members of two lists, of a row with a code more
in_append : (x : ℕ) (xs ys : List ℕ) → is_in x (xs ++ ys) ≡ (is_in x xs || is_in x ys)
in_append x [] ys = refl
in_append x (z ∷ xs) ys = by_test (eqb x z) (λ e. rw e) (λ e. rw e (in_append x xs ys))

pub in_with : (c x : ℕ) (ys : List ℕ) → is_in x (with_code c ys) ≡ (is_in x ys || eqb x c)
in_with c x ys =
    same_truth (is_in x (with_code c ys)) (is_in x ys || eqb x c)
    (λ h. elim (with_code_of c x ys (in_is x (with_code c ys) h)) [
      | inl e ↦ or_right (is_in x ys) (eqb x c) (eq-eqb x c e)
      | inr i ↦ or_left (is_in x ys) (eqb x c) (is_in_lem x ys i)
    ])
    (λ h. by_test (is_in x ys) (λ e. is_in_lem x (with_code c ys) (with_code_keeps c x ys (in_is x ys e)))
    (λ e. is_in_lem x (with_code c ys) (has (eqb-true x c (rw e at h)))))
  where
    has : x ≡ c → In x (with_code c ys)
    has e = rw e (with_code_has c ys)

-- one number's codes before the rest
join_rises : (a b : ℕ) (xs ys : List ℕ) → a ≤ b → Between a b xs → Asc b ys → Asc a (xs ++ ys)
join_rises a b [] [] l h g = tt
join_rises a b [] (y ∷ ys) l h g = (omega (arith, g.0), g.1)
join_rises a b (x ∷ xs) ys l h g = (h.0, join_rises (suc x) b xs ys h.1 h.2 g)

not_over : (a b x : ℕ) (xs : List ℕ) → Between a b xs → b ≤ x → is_in x xs ≡ false
not_over a b x [] h l = refl
not_over a b x (y ∷ xs) h l = rw (ne_eqb x y (λ q. omega (arith, h.1))) (not_over (suc y) b x xs h.2 l)

pub codes_rise : (first : ℕ) (ws : List ℕ) → Asc first (codes_from first ws)
unfolding codes_from
codes_rise first [] = tt
codes_rise first (w ∷ ws) =
    join_rises first (first + 32) (number_codes 32 first w) (codes_from (first + 32) ws) (omega arith)
    (number_between 32 first w) (codes_rise (first + 32) ws)

-- a code is marked exactly if it is among the codes
codes_have : (first : ℕ) (ws : List ℕ) (x : ℕ) → is_in (first + x) (codes_from first ws) ≡ marked ws x
unfolding codes_from
codes_have first [] x = rw zero_bit
  where
    zero_bit : marked [] x ≡ false
    zero_bit = let e : 0 / 2 ^ (x % 32) ≡ 0 = zero-div (2 ^ (x % 32)) in rw e
codes_have first (w ∷ ws) x =
    in_append (first + x) (number_codes 32 first w) (codes_from (first + 32) ws)
    ∙ elim (two x 32) [
      | less h ↦
          let rest : is_in (first + x) (codes_from (first + 32) ws) ≡ false =
          not_below (first + 32) (codes_from (first + 32) ws) (first + x) (codes_rise (first + 32) ws) (omega arith) in
          let q : x / 32 ≡ 0 = omega arith in
          let m : x % 32 ≡ x = omega arith in
          rw (rest, number_has 32 first w x h, q, m) (or_none (bit x w))
      | least h ↦
          let y : ℕ = x - 32 in
          let e : first + x ≡ first + 32 + y = omega arith in
          let none : is_in (first + x) (number_codes 32 first w) ≡ false =
          not_over first (first + 32) (first + x) (number_codes 32 first w) (number_between 32 first w) (omega arith) in
          let q : x / 32 ≡ suc (y / 32) = omega arith in
          let m : x % 32 ≡ y % 32 = omega arith in
          rw (none, q, m) (ap (λ (z : ℕ). is_in z (codes_from (first + 32) ws)) e ∙ codes_have (first + 32) ws y)
    ]

pub codes_are : (ws : List ℕ) (x : ℕ) → is_in x (codes_in ws) ≡ marked ws x
unfolding codes_in
codes_are ws x = let e : 0 + x ≡ x = omega arith in rw e at (codes_have 0 ws x)

-- one bit more puts one code in
abbrev pub with_bit : List ℕ → ℕ → List ℕ
with_bit ws c = set ws (c / 32) (Bits.bit_or (get_or ws (c / 32) 0) (2 ^ (c % 32)))

marked_set : (ws : List ℕ) (c x : ℕ) → c < 32 * length ws → marked (with_bit ws c) x ≡ (marked ws x || eqb x c)
marked_set ws c x h =
    by_test (eqb (x / 32) (c / 32))
    (λ e.
    let q : x / 32 ≡ c / 32 = eqb-true (x / 32) (c / 32) e in
    let v : ℕ = Bits.bit_or (get_or ws (c / 32) 0) (2 ^ (c % 32)) in
    let g : get_or (set ws (c / 32) v) (c / 32) 0 ≡ v = get_or-set_same ws (c / 32) v 0 (omega arith) in
    let t : eqb (x % 32) (c % 32) ≡ eqb x c =
    same_truth (eqb (x % 32) (c % 32)) (eqb x c)
    (λ p. eq-eqb x c (let r : x % 32 ≡ c % 32 = eqb-true (x % 32) (c % 32) p in omega arith))
    (λ p. eq-eqb (x % 32) (c % 32) (ap (λ (n : ℕ). n % 32) (eqb-true x c p))) in
    rw (q, g)
    (bit_set (x % 32) (c % 32) (get_or ws (c / 32) 0) ∙ ap (λ (u : Bool). bit (x % 32) (get_or ws (c / 32) 0) || u) t))
    (λ e.
    let v : ℕ = Bits.bit_or (get_or ws (c / 32) 0) (2 ^ (c % 32)) in
    let ne : x / 32 ≡ c / 32 → ⊥ = eqb-false (x / 32) (c / 32) e in
    let g : get_or (set ws (c / 32) v) (x / 32) 0 ≡ get_or ws (x / 32) 0 = get_or-set_other ws (c / 32) (x / 32) v 0 ne
    in
    let t : eqb x c ≡ false = ne_eqb x c (λ p. ne (ap (λ (n : ℕ). n / 32) p)) in
    rw (g, t) (sym (or_none (marked ws x))))

pub codes_set : (ws : List ℕ) (c : ℕ) → c < 32 * length ws → codes_in (with_bit ws c) ≡ with_code c (codes_in ws)
unfolding codes_in
codes_set ws c h =
    asc_same 0 (codes_in (with_bit ws c)) (with_code c (codes_in ws)) (codes_rise 0 (with_bit ws c))
    (with_ascends 0 c (codes_in ws) (omega arith) (codes_rise 0 ws))
    (λ x.
    codes_are (with_bit ws c) x
    ∙ (marked_set ws c x h
    ∙ (ap (λ (t : Bool). t || eqb x c) (sym (codes_are ws x)) ∙ sym (in_with c x (codes_in ws)))))

-- parts of the table
pub codes_append :
    (first : ℕ) (xs ys : List ℕ)
    → codes_from first (xs ++ ys) ≡ codes_from first xs ++ codes_from (first + 32 * length xs) ys
unfolding codes_from
codes_append first [] ys = let e : first + 32 * 0 ≡ first = omega arith in rw e
codes_append first (x ∷ xs) ys =
    let e : first + 32 + 32 * length xs ≡ first + 32 * suc (length xs) = omega arith in
    ap (λ (l : List ℕ). number_codes 32 first x ++ l)
    (codes_append (first + 32) xs ys ∙ ap (λ (n : ℕ). codes_from (first + 32) xs ++ codes_from n ys) e)
    ∙ sym
    (append_assoc (number_codes 32 first x) (codes_from (first + 32) xs) (codes_from (first + 32 * suc (length xs)) ys))

pub codes_zeros : (first n : ℕ) → codes_from first (zeros n) ≡ []
unfolding codes_from
codes_zeros first zero = refl
codes_zeros first (suc n) = rw (number_zero 32 first) (codes_zeros (first + 32) n)

-- the codes of the first k numbers, and of one number more
abbrev pub codes_to : List ℕ → ℕ → List ℕ
codes_to ws k = codes_from 0 (take k ws)

pub codes_next :
    (ws : List ℕ) (k : ℕ) → k < length ws
    → codes_from 0 (take (suc k) ws) ≡ codes_from 0 (take k ws) ++ number_codes 32 (32 * k) (get_or ws k 0)
unfolding codes_from
codes_next ws k h =
    let l : length (take k ws) ≡ k = length-take-le k ws (omega arith) in
    let e : 0 + 32 * length (take k ws) ≡ 32 * k = omega arith in
    ap (codes_from 0) (take-suc ws k 0 h)
    ∙ (codes_append 0 (take k ws) (get_or ws k 0 ∷ [])
    ∙ (ap (λ (n : ℕ). codes_from 0 (take k ws) ++ (number_codes 32 n (get_or ws k 0) ++ [])) e
    ∙ ap (λ (l : List ℕ). codes_from 0 (take k ws) ++ l) (append-nil (number_codes 32 (32 * k) (get_or ws k 0)))))
