-- A set of locations as a mask, read back: the mask of a rising list below 32 has exactly that list for its bits.
use mathlib.Core.Path.{◌≡◌, refl, ◌∙◌, ap, subst}
use mathlib.Core.Bool.{true, false}
use mathlib.Core.List.{List, [], ◌∷◌}
use Prim.Native.Nat.{ℕ, zero, suc, ◌+◌, ◌≤◌}
use native.Mathlib.Omega.{arith}
use lib.Dec.{eqb}
use borrow.Author.Tests.{eq-eqb, ne_eqb}
use Rattle.model.specs.Basics.{is_in, bit, mask_of, bits_from}
use Rattle.model.specs.Rules.{rising}
use Rattle.model.proofs.Logic.{Cmp, cmp, is_lt, is_eq, is_gt}
use Rattle.model.proofs.Masks.{Asc, not_below, mask_bits}
use Rattle.model.proofs.Rising.{Below, rising_asc, rising_all_below}

-- the bits of a mask from i on are a list that ascends from i
abbrev Bits : ℕ → ℕ → List ℕ → Type 0
Bits i mask xs = (l : ℕ) → i ≤ l → bit l mask ≡ is_in l xs

-- past the first of the list, the bits are the rest of it
bits_rest : (i mask x : ℕ) (xs : List ℕ) → i ≡ x → Bits i mask (x ∷ xs) → Bits (suc i) mask xs
bits_rest i mask x xs e k l h =
    let f : eqb l x ≡ false = ne_eqb l x (omega arith) in
    let g : is_in l (x ∷ xs) ≡ is_in l xs = rw f in
    k l (omega arith) ∙ g

bits_are :
    (n i mask : ℕ) (xs : List ℕ) → Asc i xs → Below (i + n) xs → Bits i mask xs → bits_from n i mask ≡ xs
unfolding bits_from
bits_are zero i mask [] a b k = refl
bits_are zero i mask (x ∷ xs) a b k = absurd (omega arith)
bits_are (suc n) i mask [] a b k = rw (k i (omega arith)) (bits_are n (suc i) mask [] tt tt (λ l h. k l (omega arith)))
bits_are (suc n) i mask (x ∷ xs) a b k = go (cmp i x) (bits_are n (suc i) mask)
  where
    s : i + suc n ≡ suc i + n
    s = omega arith

    go :
        Cmp i x
        → ((ys : List ℕ) → Asc (suc i) ys → Below (suc i + n) ys → Bits (suc i) mask ys → bits_from n (suc i) mask ≡ ys)
        → bits_from (suc n) i mask ≡ x ∷ xs
    go (is_lt h) rest =
        rw (k i (omega arith), not_below x (x ∷ xs) i (omega arith, a.1) h)
        (rest (x ∷ xs) (omega arith, a.1) (subst (λ m. Below m (x ∷ xs)) s b) (λ l q. k l (omega arith)))
    go (is_eq h) rest =
        let others = rest xs (rw (← h) at a.1) (subst (λ m. Below m xs) s b.1) (bits_rest i mask x xs h k) in
        rw (k i (omega arith), eq-eqb i x h, h) (ap (λ (ys : List ℕ). x ∷ ys) (rw h at others))
    go (is_gt h) rest = absurd (omega arith)

pub bits_of_mask : (l : ℕ) (xs : List ℕ) → l ≤ 32 → rising 0 l xs ≡ true → bits_from 32 0 (mask_of xs) ≡ xs
bits_of_mask l xs q h =
    bits_are 32 0 (mask_of xs) xs (rising_asc 0 l xs h) (rising_all_below 0 l 32 xs q h)
    (λ n z. mask_bits 0 xs n (rising_asc 0 l xs h))
