-- The list is the only one that has each word that fits once and in order: of two words that differ one comes before
-- the other and not the other way round, so two such lists agree word by word.
use mathlib.Core.Path.{◌≡◌, refl, sym, ◌∙◌, ap, ap₂}
use mathlib.Core.Bool.{Bool, true, false, ◌&&◌}
use mathlib.Core.List.{List, [], ◌∷◌, ◌++◌, append_assoc}
use mathlib.Core.Logic.{◌⊎◌, inl, inr}
use Prim.Native.Nat.{ℕ, ◌+◌, ◌≤◌, ◌<◌}
use native.Mathlib.Omega.{arith}
use lib.Dec.{eqb, ltb}
use lib.ListN.{length}
use borrow.Author.Tests.{ltb-true, eqb-true}
use Rattle.model.specs.Basics.{one_if}
use Rattle.model.specs.Words.{Event}
use Rattle.model.specs.Lists.{words_up_to, same_event, same_word, fits, count_if}
use Rattle.model.specs.Claims.{times, event_before, by_event, before}
use Rattle.model.proofs.Logic.{no_way, and_left, and_right, or_cases}
use Rattle.model.proofs.Lists.{list_once}
use Rattle.model.proofs.NextWord.{same_event_lem}
use Rattle.model.proofs.ListOrder.{Rising, event_is, stands_first, times_none, list_rises, same_word_lem}

-- how one event comes before another
data Earlier (v w : Event) : Type 0 where
  by_stamp : v.stamp < w.stamp → Earlier v w
  by_symbol : v.stamp ≡ w.stamp → v.symbol < w.symbol → Earlier v w

earlier : (v w : Event) → event_before v w ≡ true → Earlier v w
earlier v w h = go (or_cases lower (level && symbol) h)
  where
    lower : Bool
    lower = ltb v.stamp w.stamp

    level : Bool
    level = eqb v.stamp w.stamp

    symbol : Bool
    symbol = ltb v.symbol w.symbol

    go : (lower ≡ true) ⊎ ((level && symbol) ≡ true) → Earlier v w
    go (inl a) = by_stamp (ltb-true v.stamp w.stamp a)
    go (inr b) =
        by_symbol (eqb-true v.stamp w.stamp (and_left level symbol b))
        (ltb-true v.symbol w.symbol (and_right level symbol b))

not_both_events : (v w : Event) → Earlier v w → Earlier w v → ⊥
not_both_events v w (by_stamp a) (by_stamp b) = omega arith
not_both_events v w (by_stamp a) (by_symbol e b) = omega arith
not_both_events v w (by_symbol e a) (by_stamp b) = omega arith
not_both_events v w (by_symbol e a) (by_symbol f b) = omega arith

not_same : (v w : Event) → Earlier v w → same_event v w ≡ true → ⊥
not_same v w x h = go x
  where
    go : Earlier v w → ⊥
    go (by_stamp a) = omega (arith, ap (λ (z : Event). z.stamp) (event_is v w h))
    go (by_symbol e a) = omega (arith, ap (λ (z : Event). z.symbol) (event_is v w h))

-- the same word
word_is : (vs ws : List Event) → same_word vs ws ≡ true → vs ≡ ws
word_is [] [] h = refl
word_is [] (w ∷ ws) h = no_way h
word_is (v ∷ vs) [] h = no_way h
word_is (v ∷ vs) (w ∷ ws) h =
    ap₂ (λ (x : Event) (xs : List Event). x ∷ xs) (event_is v w (and_left (same_event v w) (same_word vs ws) h))
    (word_is vs ws (and_right (same_event v w) (same_word vs ws) h))

-- words of one length
not_both_ways : (vs ws : List Event) → by_event vs ws ≡ true → by_event ws vs ≡ true → ⊥
not_both_ways [] ws h k = no_way h
not_both_ways (v ∷ vs) [] h k = no_way h
not_both_ways (v ∷ vs) (w ∷ ws) h k =
    go (or_cases (event_before v w) (same_event v w && by_event vs ws) h)
    (or_cases (event_before w v) (same_event w v && by_event ws vs) k)
    (not_both_ways vs ws)
  where
    go :
        (event_before v w ≡ true) ⊎ ((same_event v w && by_event vs ws) ≡ true)
        → (event_before w v ≡ true) ⊎ ((same_event w v && by_event ws vs) ≡ true)
        → (by_event vs ws ≡ true → by_event ws vs ≡ true → ⊥)
        → ⊥
    go (inl a) (inl b) rest = not_both_events v w (earlier v w a) (earlier w v b)
    go (inl a) (inr b) rest =
        let back : w ≡ v = event_is w v (and_left (same_event w v) (by_event ws vs) b) in
        not_same v w (earlier v w a) (ap (λ (z : Event). same_event v z) back ∙ same_event_lem v)
    go (inr a) (inl b) rest =
        let on : v ≡ w = event_is v w (and_left (same_event v w) (by_event vs ws) a) in
        not_same w v (earlier w v b) (ap (λ (z : Event). same_event w z) on ∙ same_event_lem w)
    go (inr a) (inr b) rest =
        rest (and_right (same_event v w) (by_event vs ws) a) (and_right (same_event w v) (by_event ws vs) b)

-- any two words
not_both : (vs ws : List Event) → before vs ws ≡ true → before ws vs ≡ true → ⊥
not_both vs ws h k =
    go (or_cases (ltb (length vs) (length ws)) (eqb (length vs) (length ws) && by_event vs ws) h)
    (or_cases (ltb (length ws) (length vs)) (eqb (length ws) (length vs) && by_event ws vs) k)
  where
    as_long : (eqb (length vs) (length ws) && by_event vs ws) ≡ true → length vs ≡ length ws
    as_long a =
        eqb-true (length vs) (length ws) (and_left (eqb (length vs) (length ws)) (by_event vs ws) a)

    as_long_back : (eqb (length ws) (length vs) && by_event ws vs) ≡ true → length ws ≡ length vs
    as_long_back b =
        eqb-true (length ws) (length vs) (and_left (eqb (length ws) (length vs)) (by_event ws vs) b)

    go :
        (ltb (length vs) (length ws) ≡ true) ⊎ ((eqb (length vs) (length ws) && by_event vs ws) ≡ true)
        → (ltb (length ws) (length vs) ≡ true) ⊎ ((eqb (length ws) (length vs) && by_event ws vs) ≡ true)
        → ⊥
    go (inl a) (inl b) =
        omega (arith, ltb-true (length vs) (length ws) a, ltb-true (length ws) (length vs) b)
    go (inl a) (inr b) = omega (arith, ltb-true (length vs) (length ws) a, as_long_back b)
    go (inr a) (inl b) = omega (arith, ltb-true (length ws) (length vs) b, as_long a)
    go (inr a) (inr b) =
        not_both_ways vs ws (and_right (eqb (length vs) (length ws)) (by_event vs ws) a)
        (and_right (eqb (length ws) (length vs)) (by_event ws vs) b)

-- two lists in order with the same words
times_more : (w x : List Event) (xs : List (List Event)) → times w (x ∷ xs) ≡ one_if (same_word w x) + times w xs
unfolding count_if
times_more w x xs = refl

rising_same :
    (xs ys : List (List Event)) → Rising before xs → Rising before ys → ((w : List Event) → times w xs ≡ times w ys)
    → xs ≡ ys
rising_same [] [] a b h = refl
rising_same [] (y ∷ ys) a b h = absurd (omega (arith, h y, times_none y, stands_first y ys))
rising_same (x ∷ xs) [] a b h = absurd (omega (arith, h x, times_none x, stands_first x xs))
rising_same (x ∷ xs) (y ∷ ys) a b h = go (same_word x y) refl (rising_same xs ys a.1 b.1)
  where
    go :
        (t : Bool) → same_word x y ≡ t → (((w : List Event) → times w xs ≡ times w ys) → xs ≡ ys)
        → (x ∷ xs) ≡ (y ∷ ys)
    go true e rest =
        ap₂ (λ (z : List Event) (zs : List (List Event)). z ∷ zs) (word_is x y e)
        (rest (λ w.
        omega (
          arith,
          h w,
          times_more w x xs,
          times_more w y ys,
          ap (λ (z : List Event). one_if (same_word w z)) (word_is x y e),
        )))
    go false e rest = absurd (not_both x y (a.0 y first_later) (b.0 x second_later))
      where
        other : same_word y x ≡ false
        other = turned (same_word y x) refl
          where
            turned : (t : Bool) → same_word y x ≡ t → same_word y x ≡ false
            turned false f = f
            turned true f =
                no_way (sym e ∙ ap (λ (z : List Event). same_word x z) (word_is y x f) ∙ same_word_lem x)

        first_later : 1 ≤ times y xs
        first_later =
            omega (arith, h y, times_more y x xs, ap one_if other, stands_first y ys)

        second_later : 1 ≤ times x ys
        second_later =
            omega (arith, h x, times_more x y ys, ap one_if e, stands_first x xs)

rising_of :
    (front ws : List (List Event))
    → ((xs ys : List (List Event)) (v w : List Event) → front ++ ws ≡ xs ++ (v ∷ ys) → 1 ≤ times w ys
    → before v w ≡ true)
    → Rising before ws
rising_of front [] h = tt
rising_of front (x ∷ ws) h = (
  (λ w m. h front ws x w refl m),
  rising_of (front ++ (x ∷ [])) ws
      (λ xs ys v w e m. h xs ys v w (sym (append_assoc front (x ∷ []) ws) ∙ e) m),
)

pub only_one :
    (s h m : ℕ) (ws : List (List Event)) → ((w : List Event) → times w ws ≡ one_if (fits s h m w))
    → ((xs ys : List (List Event)) (v w : List Event) → ws ≡ xs ++ (v ∷ ys) → 1 ≤ times w ys → before v w ≡ true)
    → ws ≡ words_up_to s h m
only_one s h m ws c o =
    rising_same ws (words_up_to s h m) (rising_of [] ws o) (list_rises s h m) (λ w. c w ∙ sym (list_once s h m w))
