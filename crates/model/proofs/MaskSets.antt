-- A mask as a set of locations, the other way: its bits rise, make it again, and are below l exactly if it is below
-- 2^l.
use mathlib.Core.Path.{◌≡◌, refl, sym, ◌∙◌}
use mathlib.Core.Bool.{Bool, true, false}
use mathlib.Core.List.{List, [], ◌∷◌, ◌++◌}
use Prim.Native.Nat.{ℕ, zero, suc, ◌+◌, ◌*◌, ◌/◌, ◌%◌, ◌^◌, ◌≤◌, ◌<◌}
use native.Mathlib.Omega.{arith}
use native.Mathlib.Nat.{div-eq_of_lt, pow-succ'}
use lib.Pow.{pow_mono, shr-shr}
use lib.Dec.{leb}
use borrow.Author.Tests.{eqb-true, eqb-false, lt-ltb, le-leb}
use Rattle.model.specs.Basics.{bit, mask_of, bits_from}
use Rattle.model.specs.Rules.{rising}
use Rattle.model.proofs.Logic.{Two, two, less, least}
use Rattle.model.proofs.Rising.{rising_least, rising_below, rising_rest}

-- one number more
pub mask_append : (xs ys : List ℕ) → mask_of (xs ++ ys) ≡ mask_of xs + mask_of ys
unfolding mask_of
mask_append [] ys = omega arith
mask_append (x ∷ xs) ys = omega (arith, mask_append xs ys)

pub mask_last : (xs : List ℕ) (x : ℕ) → mask_of (xs ++ (x ∷ [])) ≡ mask_of xs + 2 ^ x
unfolding mask_of
mask_last xs x = omega (arith, mask_append xs (x ∷ []))

-- a rising list below l has a mask below 2^l
above : (n l : ℕ) (xs : List ℕ) → n ≤ l → rising n l xs ≡ true → mask_of xs + 2 ^ n ≤ 2 ^ l
unfolding mask_of
above n l [] h q = omega (arith, pow_mono h)
above n l (x ∷ xs) h q =
    let low : 2 ^ n ≤ 2 ^ x = pow_mono (rising_least n l x xs q) in
    let rest = above (suc x) l xs (rising_below n l x xs q) (rising_rest n l x xs q) in
    omega arith

pub mask_below : (l : ℕ) (xs : List ℕ) → rising 0 l xs ≡ true → mask_of xs < 2 ^ l
mask_below l xs q = omega (arith, above 0 l xs (omega arith) q)

-- a bit that is set is below the mask
bit_set : (l i mask : ℕ) → mask < 2 ^ l → bit i mask ≡ true → i < l
bit_set l i mask h b = go (two i l)
  where
    go : Two i l → i < l
    go (less q) = q
    go (least q) =
        let none : mask / 2 ^ i ≡ 0 = div-eq_of_lt (omega (arith, pow_mono q)) in
        absurd (omega (arith, eqb-true (mask / 2 ^ i % 2) 1 b))

rising_lower : (m n l : ℕ) (xs : List ℕ) → m ≤ n → rising n l xs ≡ true → rising m l xs ≡ true
rising_lower m n l [] h q = refl
rising_lower m n l (x ∷ xs) h q =
    let p : leb m x ≡ true = le-leb m x (omega (arith, rising_least n l x xs q)) in
    rw (p, lt-ltb x l (rising_below n l x xs q)) (rising_rest n l x xs q)

pub bits_rise : (n i l mask : ℕ) → mask < 2 ^ l → rising i l (bits_from n i mask) ≡ true
unfolding bits_from
bits_rise zero i l mask h = refl
bits_rise (suc n) i l mask h = go (bit i mask) refl (bits_rise n (suc i) l mask h)
  where
    go :
        (b : Bool) → bit i mask ≡ b → rising (suc i) l (bits_from n (suc i) mask) ≡ true
        → rising i l (bits_from (suc n) i mask) ≡ true
    go true e k = rw (e, le-leb i i (omega arith), lt-ltb i l (bit_set l i mask h e)) k
    go false e k = rw e (rising_lower i (suc i) l (bits_from n (suc i) mask) (omega arith) k)

-- the mask from bit i on
odd : (q half p : ℕ) → q ≡ 2 * half + 1 → p + half * (2 * p) ≡ q * p
odd q half p e = rw e (omega arith)

even : (q half p : ℕ) → q ≡ 2 * half → half * (2 * p) ≡ q * p
even q half p e = rw e (omega arith)

bits_again : (n i mask : ℕ) → mask < 2 ^ (i + n) → mask_of (bits_from n i mask) ≡ mask / 2 ^ i * 2 ^ i
unfolding bits_from mask_of
bits_again zero i mask h =
    let e : i + 0 ≡ i = omega arith in
    let none : mask / 2 ^ i ≡ 0 = div-eq_of_lt (rw e at h) in
    rw none (omega arith)
bits_again (suc n) i mask h =
    let e : i + suc n ≡ suc i + n = omega arith in
    go (bit i mask) refl (bits_again n (suc i) mask (rw e at h))
  where
    half : mask / 2 ^ suc i ≡ mask / 2 ^ i / 2
    half = let e : i + 1 ≡ suc i = omega arith in sym (shr-shr mask i 1 ∙ rw e)

    go :
        (b : Bool) → bit i mask ≡ b → mask_of (bits_from n (suc i) mask) ≡ mask / 2 ^ suc i * 2 ^ suc i
        → mask_of (bits_from (suc n) i mask) ≡ mask / 2 ^ i * 2 ^ i
    go true e k =
        let set : mask / 2 ^ i % 2 ≡ 1 = eqb-true (mask / 2 ^ i % 2) 1 e in
        rw (e, k, half, pow-succ' 2 i)
        (odd (mask / 2 ^ i) (mask / 2 ^ i / 2) (2 ^ i) (omega arith))
    go false e k =
        rw (e, k, half, pow-succ' 2 i)
        (even (mask / 2 ^ i) (mask / 2 ^ i / 2) (2 ^ i) (omega (arith, eqb-false (mask / 2 ^ i % 2) 1 e)))

pub mask_again : (mask : ℕ) → mask < 2 ^ 32 → mask_of (bits_from 32 0 mask) ≡ mask
mask_again mask h = bits_again 32 0 mask h ∙ omega arith
