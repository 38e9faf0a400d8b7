-- A mask's bits are the members of the ascending list that it was made of.
use mathlib.Core.Path.{◌≡◌, refl, sym, ◌∙◌, ap, ap₂}
use mathlib.Core.Bool.{true, false}
use mathlib.Core.List.{List, [], ◌∷◌}
use Prim.Native.Nat.{ℕ, suc, ◌+◌, ◌-◌, ◌*◌, ◌/◌, ◌%◌, ◌^◌, ◌≤◌, ◌<◌}
use native.Mathlib.Omega.{arith}
use native.Mathlib.Nat.{mul-div_cancel, zero-div, pow-succ', add_comm}
use lib.Arith.{digits_div}
use lib.Pow.{pow-add, pow_pos, shr-shr, pow-lt}
use lib.Dec.{eqb}
use borrow.Author.Tests.{eqb-true, eq-eqb, ne_eqb}
use Rattle.model.specs.Basics.{is_in, bit, mask_of}
use Rattle.model.proofs.Logic.{no_way, by_test, Cmp, cmp, is_lt, is_eq, is_gt}

-- ascending from n on
abbrev pub Asc : ℕ → List ℕ → Type 0
Asc n [] = Unit {0}
Asc n (x ∷ xs) = (n ≤ x) × Asc (suc x) xs

pub not_below : (n : ℕ) (xs : List ℕ) (l : ℕ) → Asc n xs → l < n → is_in l xs ≡ false
not_below n [] l a h = refl
not_below n (x ∷ xs) l a h = rw (ne_eqb l x (omega arith)) (not_below (suc x) xs l a.1 (omega (arith, a.0)))

-- two ascending lists with the same members are equal
pub asc_same :
    (n m : ℕ) (xs ys : List ℕ) → Asc n xs → Asc m ys → ((l : ℕ) → is_in l xs ≡ is_in l ys) → xs ≡ ys
asc_same n m [] [] a b h = refl
asc_same n m [] (y ∷ ys) a b h = no_way (h y ∙ rw (eq-eqb y y refl))
asc_same n m (x ∷ xs) [] a b h = no_way (sym (h x) ∙ rw (eq-eqb x x refl))
asc_same n m (x ∷ xs) (y ∷ ys) a b h = go (cmp x y) (asc_same (suc x) (suc y) xs ys a.1 b.1)
  where
    rest : x ≡ y → (l : ℕ) → is_in l xs ≡ is_in l ys
    rest e l =
        by_test (eqb l x)
        (λ q.
        let at_x : l ≡ x = eqb-true l x q in
        not_below (suc x) xs l a.1 (omega arith) ∙ sym (not_below (suc y) ys l b.1 (omega arith)))
        (λ q. rw (q, ← e, q) at (h l))

    go : Cmp x y → (((l : ℕ) → is_in l xs ≡ is_in l ys) → xs ≡ ys) → x ∷ xs ≡ y ∷ ys
    go (is_lt l) k =
        no_way (sym (not_below y (y ∷ ys) x (omega arith, b.1) l) ∙ (sym (h x) ∙ rw (eq-eqb x x refl)))
    go (is_eq l) k = ap₂ ◌∷◌ l (k (rest l))
    go (is_gt l) k =
        no_way (sym (not_below x (x ∷ xs) y (omega arith, a.1) l) ∙ (h y ∙ rw (eq-eqb y y refl)))

-- a power as a multiple of a lower one
lower : (n x : ℕ) → n ≤ x → 2 ^ x ≡ 2 ^ (x - n) * 2 ^ n
lower n x h = let e : x - n + n ≡ x = omega arith in sym (ap (λ (k : ℕ). 2 ^ k) e) ∙ pow-add 2 (x - n) n

multiple : (n : ℕ) (xs : List ℕ) → Asc n xs → (m : ℕ) × (mask_of xs ≡ m * 2 ^ n)
unfolding mask_of
multiple n [] a = (0, omega arith)
multiple n (x ∷ xs) a =
    let k = multiple (suc x) xs a.1 in
    let z : mask_of xs ≡ k.0 * (2 * 2 ^ x) = k.1 ∙ rw (pow-succ' 2 x) in
    ((1 + 2 * k.0) * 2 ^ (x - n), rw (z, lower n x a.0) (omega arith))

even_bit : (l m : ℕ) → bit l (m * 2 ^ suc l) ≡ false
even_bit l m =
    let e : m * 2 ^ suc l ≡ (m * 2) * 2 ^ l = rw (pow-succ' 2 l) (omega arith) in
    let f : (m * 2) % 2 ≡ 0 = omega arith in
    rw (e, mul-div_cancel (m * 2) (pow_pos l), f)

odd_bit : (l m : ℕ) → bit l (2 ^ l + m * 2 ^ suc l) ≡ true
odd_bit l m =
    let e : 2 ^ l + m * 2 ^ suc l ≡ (1 + 2 * m) * 2 ^ l = rw (pow-succ' 2 l) (omega arith) in
    let f : (1 + 2 * m) % 2 ≡ 1 = omega arith in
    rw (e, mul-div_cancel (1 + 2 * m) (pow_pos l), f)

over_bit : (x l m : ℕ) → x < l → bit l (2 ^ x + m * 2 ^ suc x) ≡ bit l (m * 2 ^ suc x)
over_bit x l m h =
    let k : ℕ = l - suc x in
    let e : l ≡ suc x + k = omega arith in
    let a : (2 ^ x + m * 2 ^ suc x) / 2 ^ suc x ≡ m = rw (add_comm (2 ^ x) (m * 2 ^ suc x))
    (digits_div m (pow-lt (omega arith))) in
    let b : m * 2 ^ suc x / 2 ^ suc x ≡ m = mul-div_cancel m (pow_pos (suc x)) in
    let q : (2 ^ x + m * 2 ^ suc x) / 2 ^ (suc x + k) ≡ m * 2 ^ suc x / 2 ^ (suc x + k) =
    sym (shr-shr (2 ^ x + m * 2 ^ suc x) (suc x) k)
    ∙ (ap (λ (n : ℕ). n / 2 ^ k) (a ∙ sym b) ∙ shr-shr (m * 2 ^ suc x) (suc x) k) in
    rw (e, q)

pub mask_bits : (n : ℕ) (xs : List ℕ) (l : ℕ) → Asc n xs → bit l (mask_of xs) ≡ is_in l xs
unfolding mask_of
mask_bits n [] l a = rw (zero-div (2 ^ l))
mask_bits n (x ∷ xs) l a = go (cmp l x) (multiple (suc x) xs a.1) (mask_bits (suc x) xs l a.1)
  where
    go :
        Cmp l x → (m : ℕ) × (mask_of xs ≡ m * 2 ^ suc x) → bit l (mask_of xs) ≡ is_in l xs
        → bit l (mask_of (x ∷ xs)) ≡ is_in l (x ∷ xs)
    go (is_lt h) m k =
        let z = multiple (suc l) (x ∷ xs) (h, a.1) in
        rw (z.1, even_bit l z.0, not_below x (x ∷ xs) l (omega arith, a.1) h)
    go (is_eq h) m k = rw (m.1, h, odd_bit x m.0, eq-eqb x x refl)
    go (is_gt h) m k = rw (m.1, over_bit x l m.0 h, ne_eqb l x (omega arith)) (rw m.1 at k)
