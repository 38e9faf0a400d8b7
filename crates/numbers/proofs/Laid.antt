-- Numbers laid into a lent table one after another.
use mathlib.Core.Path.{◌≡◌, sym, ◌∙◌, ap, ap₂}
use mathlib.Core.List.{List, [], ◌∷◌, ◌++◌, append_assoc}
use Prim.Native.Nat.{ℕ, zero, suc, ◌+◌, ◌-◌, ◌≤◌, ◌<◌}
use native.Mathlib.Omega.{arith}
use native.Mathlib.Nat.{add-zero, add_assoc}
use lib.ListN.{length, get_or, set, take, drop, length-append, take-append-drop}
use lib.Seq.{set_at, take_at, take-append_seam, drop-append-add, drop-drop, drop-cons, length-take-le}
use Rattle.model.specs.Basics.{zeros, filled}
use Rattle.numbers.specs.Lent.{laid}

pub laid_none : (was : List ℕ) (at : ℕ) → was ≡ laid was at []
laid_none was at = rw (add-zero at) (sym (take-append-drop at was))

module _ (was : List ℕ) (at : ℕ) (u : List ℕ) (inside : at + length u ≤ length was) where
  front : length (take at was ++ u) ≡ at + length u
  front = rw (length-append (take at was) u, length-take-le at was (omega arith))

  split : laid was at u ≡ (take at was ++ u) ++ drop (at + length u) was
  split = sym (append_assoc (take at was) u (drop (at + length u) was))

  -- one number more
  pub laid_set :
      (v : ℕ) → at + length u < length was
      → set (laid was at u) (at + length u) v ≡ laid was at (u ++ (v ∷ []))
  laid_set v h =
      let k : at + length (u ++ (v ∷ [])) ≡ suc (at + length u) = rw (length-append u (v ∷ [])) (omega arith) in
      let rest : List ℕ = drop (suc (at + length u)) was in
      let first : List ℕ = take at was ++ u in
      let next : ℕ = get_or was (at + length u) 0 in
      let there : set (first ++ (next ∷ rest)) (at + length u) v ≡ first ++ (v ∷ rest) =
      set_at first next rest v (at + length u) front in
      rw (split, drop-cons was (at + length u) 0 h, there, k)
      (append_assoc (take at was) u (v ∷ drop (suc (at + length u)) was)
      ∙ ap (λ (l : List ℕ). take at was ++ l) (sym (append_assoc u (v ∷ []) (drop (suc (at + length u)) was))))

  -- more numbers behind them
  pub laid_join : (v : List ℕ) → laid (laid was at u) (at + length u) v ≡ laid was at (u ++ v)
  laid_join v =
      let first : take (at + length u) (laid was at u) ≡ take at was ++ u =
      ap (take (at + length u)) split ∙ take_at (take at was ++ u) (drop (at + length u) was) (at + length u) front in
      let k : at + length u + length v ≡ at + length (u ++ v) =
      rw (length-append u v) (add_assoc at (length u) (length v)) in
      let rest : drop (at + length u + length v) (laid was at u) ≡ drop (at + length (u ++ v)) was =
      ap₂ (λ (n : ℕ) (l : List ℕ). drop (n + length v) l) (sym front) split
      ∙ (drop-append-add (take at was ++ u) (drop (at + length u) was) (length v)
      ∙ (drop-drop (length v) (at + length u) was
      ∙ ap (λ (n : ℕ). drop n was) k)) in
      ap₂ (λ (a b : List ℕ). a ++ (v ++ b)) first rest
      ∙ (append_assoc (take at was) u (v ++ drop (at + length (u ++ v)) was)
      ∙ ap (λ (l : List ℕ). take at was ++ l) (sym (append_assoc u v (drop (at + length (u ++ v)) was))))

-- a store behind what was laid
pub laid_store :
    (was cells cells' : List ℕ) (at n : ℕ) (u : List ℕ) (cell v : ℕ) → n ≡ length u → at + n < length was
    → cells ≡ laid was at u
    → cell ≡ v
    → cells' ≡ set cells (at + n) cell
    → cells' ≡ laid was at (u ++ (v ∷ []))
laid_store was cells cells' at n u cell v is_n h e f w =
    let g : at + length u < length was = rw (← is_n) h in
    w ∙ (rw (e, f, is_n) (laid_set was at u (omega arith) v g))

pub drop_zeros : (m k : ℕ) → drop m (zeros k) ≡ zeros (k - m)
drop_zeros zero k = let e : k - 0 ≡ k = omega arith in rw e
drop_zeros (suc m) zero = let e : 0 - suc m ≡ 0 = omega arith in rw e
drop_zeros (suc m) (suc k) = let e : suc k - suc m ≡ k - m = omega arith in rw e (drop_zeros m k)

filled_lay :
    (n : ℕ) (xs ys : List ℕ) → length xs + length ys ≤ n
    → laid (filled n xs) (length xs) ys ≡ filled n (xs ++ ys)
filled_lay n xs ys h =
    let e : n - length xs - length ys ≡ n - length (xs ++ ys) = rw (length-append xs ys) (omega arith) in
    let rest : drop (length xs + length ys) (filled n xs) ≡ zeros (n - length (xs ++ ys)) =
    drop-append-add xs (zeros (n - length xs)) (length ys) ∙ (drop_zeros (length ys) (n - length xs) ∙ ap zeros e) in
    rw (take-append_seam xs (zeros (n - length xs)), rest)
    (sym (append_assoc xs ys (zeros (n - length (xs ++ ys)))))

-- into a table that begins with a list, behind it
pub laid_filled :
    (n at : ℕ) (xs ys : List ℕ) → at ≡ length xs → length xs + length ys ≤ n
    → laid (filled n xs) at ys ≡ filled n (xs ++ ys)
laid_filled n at xs ys e h = rw e (filled_lay n xs ys h)
