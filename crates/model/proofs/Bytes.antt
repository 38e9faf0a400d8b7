-- Numbers as two bytes each, low byte first, and back: what is written is read again, and bytes that were read are
-- written again.
use mathlib.Core.Path.{◌≡◌, refl, ◌∙◌, ap, ap₂}
use mathlib.Core.Bool.{true}
use mathlib.Core.List.{List, [], ◌∷◌, ◌++◌}
use Prim.Native.Nat.{ℕ, zero, suc, ◌+◌, ◌*◌, ◌/◌, ◌%◌, ◌≤◌, ◌<◌}
use native.Mathlib.Omega.{arith}
use lib.Dec.{ltb}
use lib.ListN.{length, get_or, drop}
use lib.Seq.{get_or-drop}
use borrow.Author.Tests.{ltb-true, lt-ltb}
use Rattle.model.specs.Basics.{all_below}
use Rattle.model.specs.Files.{number_at, two, numbers, numbers_of}
use Rattle.model.proofs.Logic.{and_left, and_right, and_both}

-- a number as two bytes, and back
pub two_back : (v : ℕ) → v % 256 + 256 * (v / 256) ≡ v
two_back v = omega arith

pub bytes_back : (a b : ℕ) → a < 256 → b < 256 → two (a + 256 * b) ≡ a ∷ b ∷ []
bytes_back a b p q =
    let low : (a + 256 * b) % 256 ≡ a = omega arith in
    let high : (a + 256 * b) / 256 ≡ b = omega arith in
    rw (low, high)

-- the numbers that were written, from any place on
pub numbers_length : (vs : List ℕ) → length (numbers vs) ≡ 2 * length vs
numbers_length [] = refl
numbers_length (v ∷ vs) = omega (arith, numbers_length vs)

pub numbers_append : (xs ys : List ℕ) → numbers (xs ++ ys) ≡ numbers xs ++ numbers ys
numbers_append [] ys = refl
numbers_append (x ∷ xs) ys = ap (λ (l : List ℕ). x % 256 ∷ x / 256 ∷ l) (numbers_append xs ys)

-- number i + k is number i of the bytes from 2 k on
pub number_later : (i k : ℕ) (s : List ℕ) → number_at i (drop (2 * k) s) ≡ number_at (k + i) s
number_later i k s =
    let a : 2 * k + 2 * i ≡ 2 * (k + i) = omega arith in
    let b : 2 * k + (2 * i + 1) ≡ 2 * (k + i) + 1 = omega arith in
    rw (get_or-drop (2 * k) s (2 * i) 0, get_or-drop (2 * k) s (2 * i + 1) 0, a, b)

number_next : (i a b : ℕ) (s : List ℕ) → number_at (suc i) (a ∷ b ∷ s) ≡ number_at i s
number_next i a b s =
    let high : 2 * suc i + 1 ≡ suc (suc (2 * i + 1)) = omega arith in
    let low : 2 * suc i ≡ suc (suc (2 * i)) = omega arith in
    rw (high, low)

pub number_written :
    (vs rest : List ℕ) (i : ℕ) → i < length vs → number_at i (numbers vs ++ rest) ≡ get_or vs i 0
number_written [] rest i h = absurd (omega arith)
number_written (v ∷ vs) rest zero h = two_back v
number_written (v ∷ vs) rest (suc i) h =
    number_next i (v % 256) (v / 256) (numbers vs ++ rest) ∙ number_written vs rest i (omega arith)

pub rest_written :
    (vs rest : List ℕ) (k : ℕ) → k ≤ length vs → drop (2 * k) (numbers vs ++ rest) ≡ numbers (drop k vs) ++ rest
rest_written vs rest zero h = refl
rest_written [] rest (suc k) h = absurd (omega arith)
rest_written (v ∷ vs) rest (suc k) h =
    let e : 2 * suc k ≡ suc (suc (2 * k)) = omega arith in
    rw e (rest_written vs rest k (omega arith))

pub numbers_of_length : (n : ℕ) (s : List ℕ) → length (numbers_of n s) ≡ n
numbers_of_length zero s = refl
numbers_of_length (suc n) s = ap suc (numbers_of_length n (drop 2 s))

-- numbers that were written are read
pub numbers_read : (vs rest : List ℕ) → numbers_of (length vs) (numbers vs ++ rest) ≡ vs
numbers_read [] rest = refl
numbers_read (v ∷ vs) rest = ap₂ (λ (x : ℕ) (l : List ℕ). x ∷ l) (two_back v) (numbers_read vs rest)

-- bytes that were read as n numbers are these numbers, written
pub all_below_drop : (m n : ℕ) (s : List ℕ) → all_below m s ≡ true → all_below m (drop n s) ≡ true
all_below_drop m zero s h = h
all_below_drop m (suc n) [] h = refl
all_below_drop m (suc n) (x ∷ s) h = all_below_drop m n s (and_right (ltb x m) (all_below m s) h)

pub all_below_append :
    (m : ℕ) (s t : List ℕ) → all_below m s ≡ true → all_below m t ≡ true → all_below m (s ++ t) ≡ true
all_below_append m [] t p q = q
all_below_append m (x ∷ s) t p q =
    and_both (ltb x m) (all_below m (s ++ t)) (and_left (ltb x m) (all_below m s) p)
    (all_below_append m s t (and_right (ltb x m) (all_below m s) p) q)

pub numbers_back :
    (n : ℕ) (s : List ℕ) → all_below 256 s ≡ true → 2 * n ≤ length s → numbers (numbers_of n s) ++ drop (2 * n) s ≡ s
numbers_back zero s b h = refl
numbers_back (suc n) [] b h = absurd (omega arith)
numbers_back (suc n) (x ∷ []) b h = absurd (omega arith)
numbers_back (suc n) (x ∷ y ∷ s) b h =
    let c : all_below 256 (y ∷ s) ≡ true = and_right (ltb x 256) (all_below 256 (y ∷ s)) b in
    let p : x < 256 = ltb-true x 256 (and_left (ltb x 256) (all_below 256 (y ∷ s)) b) in
    let q : y < 256 = ltb-true y 256 (and_left (ltb y 256) (all_below 256 s) c) in
    let e : 2 * suc n ≡ suc (suc (2 * n)) = omega arith in
    let rest = numbers_back n s (and_right (ltb y 256) (all_below 256 s) c) (omega arith) in
    rw e (ap₂ ◌++◌ (bytes_back x y p q) rest)

-- numbers of two bytes are written as bytes
pub numbers_are_bytes : (vs : List ℕ) → all_below 65536 vs ≡ true → all_below 256 (numbers vs) ≡ true
numbers_are_bytes [] h = refl
numbers_are_bytes (v ∷ vs) h =
    let b : v < 65536 = ltb-true v 65536 (and_left (ltb v 65536) (all_below 65536 vs) h) in
    rw (lt-ltb (v % 256) 256 (omega arith), lt-ltb (v / 256) 256 (omega arith))
    (numbers_are_bytes vs (and_right (ltb v 65536) (all_below 65536 vs) h))
