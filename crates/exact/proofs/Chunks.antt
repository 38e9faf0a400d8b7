-- Configurations by chunks of k + 1 numbers: the first and the others, one more at the end, what was read and written.
use Rattle.std.proofs.Common.{◌≡◌, ◌<◌, ◌≤◌, ◌+◌, ◌-◌, ◌*◌, ℕ, zero, suc, List, [], ◌∷◌, ◌++◌, length, get_or, take}
use Rattle.std.proofs.Common.{drop, set, length-set, refl, sym, ◌∙◌, ap, ap₂, arith, append_assoc, add-one}
use Rattle.std.proofs.Common.{length-append}
use Rattle.std.proofs.lemmas.List.{take-append-le, drop-append-le, length-drop, length-take-le, take-append-drop}
use Rattle.std.proofs.Math.Seq.{take-append_seam, drop-append_seam, take-length, take-suc, take-suc-set, take_all}
use native.Mathlib.Nat.{suc-mul, zero-mul}
use Rattle.model.specs.Rules.{most_clocks}
use Rattle.model.specs.Runs.{Config, config}
use Rattle.ages.specs.declared.Configuration.{Configuration}
use Rattle.ages.specs.Ages.{config_of, numbers_of}
use Rattle.exact.specs.Chunks.{config_in, configs_in, Loaded}

pub configs_length : (k n : ℕ) (s : List ℕ) → length (configs_in k n s) ≡ n
configs_length k zero s = refl
configs_length k (suc n) s = ap suc (configs_length k n (drop (k + 1) s))

-- a chunk and what follows it
pub configs_chunk :
    (k n : ℕ) (x r : List ℕ) → length x ≡ k + 1 → configs_in k (suc n) (x ++ r) ≡ config_in x ∷ configs_in k n r
configs_chunk k n x r h =
    let t : take (k + 1) (x ++ r) ≡ x = rw (← h) (take-append_seam x r) in
    let d : drop (k + 1) (x ++ r) ≡ r = rw (← h) (drop-append_seam x r) in
    rw (t, d)

-- chunks that are there in full do not depend on what follows
pub configs_front :
    (k n : ℕ) (s r : List ℕ) → length s ≡ n * (k + 1) → configs_in k n (s ++ r) ≡ configs_in k n s
configs_front k zero s r h = refl
configs_front k (suc n) s r h =
    let w : suc n * (k + 1) ≡ n * (k + 1) + (k + 1) = suc-mul n (k + 1) in
    let t : take (k + 1) (s ++ r) ≡ take (k + 1) s = take-append-le (k + 1) s r (omega arith) in
    let d : drop (k + 1) (s ++ r) ≡ drop (k + 1) s ++ r = drop-append-le (k + 1) s r (omega arith) in
    let l : length (drop (k + 1) s) ≡ n * (k + 1) = rw (length-drop (k + 1) s) (omega arith) in
    rw (t, d, configs_front k n (drop (k + 1) s) r l)

pub part_length : (k n : ℕ) (s : List ℕ) → n * (k + 1) ≤ length s → length (take (n * (k + 1)) s) ≡ n * (k + 1)
part_length k n s h = length-take-le (n * (k + 1)) s h

pub configs_part :
    (k n : ℕ) (s : List ℕ) → n * (k + 1) ≤ length s → configs_in k n (take (n * (k + 1)) s) ≡ configs_in k n s
configs_part k n s h =
    sym (configs_front k n (take (n * (k + 1)) s) (drop (n * (k + 1)) s) (part_length k n s h))
    ∙ ap (configs_in k n) (take-append-drop (n * (k + 1)) s)

-- one more at the end
pub configs_more :
    (k n : ℕ) (s x : List ℕ) → length s ≡ n * (k + 1) → length x ≡ k + 1
    → configs_in k (suc n) (s ++ x) ≡ configs_in k n s ++ (config_in x ∷ [])
configs_more k zero [] x h l = let t : take (k + 1) x ≡ x = rw (← l) (take-length x) in rw t
configs_more k zero (y ∷ s) x h l = absurd (omega (arith, zero-mul (k + 1)))
configs_more k (suc n) s x h l =
    let w : suc n * (k + 1) ≡ n * (k + 1) + (k + 1) = suc-mul n (k + 1) in
    let t : take (k + 1) (s ++ x) ≡ take (k + 1) s = take-append-le (k + 1) s x (omega arith) in
    let d : drop (k + 1) (s ++ x) ≡ drop (k + 1) s ++ x = drop-append-le (k + 1) s x (omega arith) in
    let m : length (drop (k + 1) s) ≡ n * (k + 1) = rw (length-drop (k + 1) s) (omega arith) in
    ap₂ ◌∷◌ (ap config_in t)
    (ap (configs_in k (suc n)) d ∙ configs_more k n (drop (k + 1) s) x m l)

-- one more behind those that are there, where its numbers were written
pub configs_appended :
    (k n : ℕ) (s x r : List ℕ) → n * (k + 1) ≤ length s → length x ≡ k + 1
    → configs_in k (n + 1) (take (n * (k + 1)) s ++ (x ++ r)) ≡ configs_in k n s ++ (config_in x ∷ [])
configs_appended k n s x r h l =
    let front : List ℕ = take (n * (k + 1)) s in
    let long : length (front ++ x) ≡ suc n * (k + 1) =
    omega (arith, length-append front x, part_length k n s h, suc-mul n (k + 1)) in
    rw (add-one n, ← append_assoc front x r)
    (configs_front k (suc n) (front ++ x) r long
    ∙ (configs_more k n front x (part_length k n s h) l
    ∙ ap (λ (cs : List Config). cs ++ (config_in x ∷ [])) (configs_part k n s h)))

-- no room for one more
pub append_full :
    (k n : ℕ) (s : List ℕ) (c : Config) → length s - n * (k + 1) < k + 1
    → length s < length (configs_in k n s ++ (c ∷ [])) * (k + 1)
append_full k n s c h =
    let e : length (configs_in k n s ++ (c ∷ [])) ≡ suc n =
    omega (arith, length-append (configs_in k n s) (c ∷ []), configs_length k n s) in
    rw e (omega (arith, suc-mul n (k + 1)))

-- a part of a list, and the list once the part is back
pub part_sized : (at w : ℕ) (s : List ℕ) → w ≤ length s - at → length (take (at + w - at) (drop at s)) ≡ w
part_sized at w s h =
    let e : at + w - at ≡ w = omega arith in
    rw e (length-take-le w (drop at s) (rw (length-drop at s) h))

pub back_sized :
    (at w : ℕ) (s x : List ℕ) → at ≤ length s → w ≤ length s - at → length x ≡ w
    → length (take at s ++ (x ++ drop (at + w - at) (drop at s))) ≡ length s
back_sized at w s x g h l =
    let e : at + w - at ≡ w = omega arith in
    rw e
    (length-append (take at s) (x ++ drop w (drop at s))
    ∙ omega
    (arith, length-take-le at s g, length-append x (drop w (drop at s)), length-drop w (drop at s), length-drop at s))

-- So many chunks are left. The next of them, and the others behind it.
pub record Next (k left : ℕ) (rest x behind : List ℕ) : Type 0 where
  pub long : length behind ≡ (left - 1) * (k + 1)
  pub configs_are : configs_in k left rest ≡ config_in x ∷ configs_in k (left - 1) behind

pub next_chunk :
    (k left : ℕ) (rest x behind : List ℕ) → length rest ≡ left * (k + 1) → rest ≡ x ++ behind → length x ≡ k + 1
    → Next k left rest x behind
next_chunk k zero rest x behind h e l =
    absurd (omega (arith, zero-mul (k + 1), ap (λ (s : List ℕ). length s) e, length-append x behind))
next_chunk k (suc n) rest x behind h e l =
    let w : suc n * (k + 1) ≡ n * (k + 1) + (k + 1) = suc-mul n (k + 1) in
    let z : suc n - 1 ≡ n = omega arith in
    record {
      long = rw z (omega (arith, ap (λ (s : List ℕ). length s) e, length-append x behind));
      configs_are = rw (e, z) (configs_chunk k n x behind l);
    }

-- none is left
pub no_chunk : (k left : ℕ) (rest : List ℕ) → length rest ≡ left * (k + 1) → length rest < k + 1 → left ≡ 0
no_chunk k zero rest h l = refl
no_chunk k (suc n) rest h l = absurd (omega (arith, suc-mul n (k + 1)))

-- the first number of a chunk
pub location_first : (x : List ℕ) → get_or x 0 0 ≡ (config_in x).location
location_first [] = refl
location_first (l ∷ ages) = refl

-- what was read from a chunk is its configuration
first_four :
    (ages : List ℕ) → length ages ≤ most_clocks
    → take (length ages) (get_or ages 0 0 ∷ get_or ages 1 0 ∷ get_or ages 2 0 ∷ get_or ages 3 0 ∷ []) ≡ ages
first_four [] m = refl
first_four (a ∷ []) m = refl
first_four (a ∷ b ∷ []) m = refl
first_four (a ∷ b ∷ c ∷ []) m = refl
first_four (a ∷ b ∷ c ∷ d ∷ []) m = refl
first_four (a ∷ b ∷ c ∷ d ∷ e ∷ ages) m = absurd (omega arith)

pub loaded_is :
    (k : ℕ) (s : List ℕ) (c : Configuration) → Loaded s c → length s ≡ k + 1 → k ≤ most_clocks
    → config_of k c ≡ config_in s
loaded_is k [] c h n m = absurd (omega arith)
loaded_is k (l ∷ ages) c h n m =
    let e : k ≡ length ages = omega arith in
    ap₂ config h.location_is (ap (take k) h.ages_are ∙ rw e (first_four ages (omega arith)))

-- The location is written, and then the ages: the front of the numbers is as it must be.
pub record Storing (at : ℕ) (c : Configuration) (was s : List ℕ) : Type 0 where
  pub length_is : length s ≡ length was
  pub front_is : take at s ≡ take at (c.location ∷ numbers_of c.ages.of)

pub storing : (c : Configuration) (was : List ℕ) → 0 < length was → Storing 1 c was (set was 0 c.location)
storing c [] h = absurd (omega arith)
storing c (x ∷ was) h = record { length_is = refl; front_is = refl }

module _ {at : ℕ} {c : Configuration} {was s : List ℕ} (inv : Storing at c was s) where
  pub storing_next :
      (age : ℕ) → 1 ≤ at → at < length was → at - 1 < length (numbers_of c.ages.of)
      → age ≡ get_or (numbers_of c.ages.of) (at - 1) 0
      → Storing (at + 1) c was (set s at age)
  storing_next age h g f e =
      let before : at ≡ suc (at - 1) = omega arith in
      record {
        length_is = length-set s at age ∙ inv.length_is;
        front_is =
            rw (add-one at)
            (take-suc-set s at age (omega (arith, inv.length_is))
            ∙ (ap₂ ◌++◌ inv.front_is
            (ap (λ (v : ℕ). v ∷ [])
            (e ∙ sym (ap (λ (i : ℕ). get_or (c.location ∷ numbers_of c.ages.of) i 0) before)))
            ∙ sym (take-suc (c.location ∷ numbers_of c.ages.of) at 0 (omega arith))));
      }

  pub stored : 1 ≤ at → at ≡ length was → config_in s ≡ config_of (length was - 1) c
  stored g h =
      let whole : take at s ≡ s = take_all at s (omega (arith, inv.length_is)) in
      let n : at ≡ suc (length was - 1) = omega arith in
      sym (ap config_in whole) ∙ (ap config_in inv.front_is ∙ rw n refl)
