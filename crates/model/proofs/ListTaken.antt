-- 39 speaks of the list itself; and calls of next_word go on: the empty word is taken, and what a call gives the next
-- call takes.
use mathlib.Core.Path.{◌≡◌, refl, sym, ◌∙◌, ap, ap₂}
use mathlib.Core.Bool.{Bool, true, false, ◌&&◌}
use mathlib.Core.List.{List, [], ◌∷◌, ◌++◌}
use Prim.Native.Nat.{ℕ, zero, suc, ◌-◌, ◌≤◌}
use native.Mathlib.Omega.{arith}
use lib.Dec.{eqb}
use lib.ListN.{length, take}
use borrow.Author.Tests.{eqb-true, le-leb, eq-eqb}
use Rattle.model.specs.declared.Size.{Size}
use Rattle.model.specs.declared.Listed.{Listed}
use Rattle.model.specs.declared.Next.{Next}
use Rattle.model.specs.Basics.{pick, one_if, same, zeros, filled, fine}
use Rattle.model.specs.Words.{Event, events_of}
use Rattle.model.specs.Lists.{most_listed_events, size_ok, top_stamp, stamp_count, words_from, words_of, words_up_to}
use Rattle.model.specs.Lists.{list_of, same_word, After, first_of, word_after}
use Rattle.model.specs.Lists.{fits, symbols_of, stamps_of, listed_of, events_in, same_listed, in_list, list_refusal}
use Rattle.model.specs.Promises.{GivesNext}
use Rattle.model.specs.Claims.{times, ListsAre}
use Rattle.model.proofs.Logic.{no_way, is_one, most_one, and_left, and_right, and_both, same_equal, same_self}
use Rattle.model.proofs.Lists.{words_once, words_counted, list_once, listed_legal, events_back, symbols_length}
use Rattle.model.proofs.Lists.{stamps_length}
use Rattle.model.proofs.Alike.{halves_listed, each_once}
use Rattle.model.proofs.ListOnly.{only_one}
use Rattle.model.proofs.ListOrder.{stands_first, stands_later, in_order, stands}

-- a word by value, and back
take_front : (xs ys : List ℕ) → take (length xs) (xs ++ ys) ≡ xs
take_front [] ys = refl
take_front (x ∷ xs) ys = ap (λ (zs : List ℕ). x ∷ zs) (take_front xs ys)

by_value : (w : List Event) → events_in (listed_of w) ≡ w
by_value w =
    ap₂ events_of
    (ap (λ (n : ℕ). take n (filled most_listed_events (symbols_of w))) (sym (symbols_length w))
    ∙ take_front (symbols_of w) (zeros (most_listed_events - length (symbols_of w))))
    (ap (λ (n : ℕ). take n (filled most_listed_events (stamps_of w))) (sym (stamps_length w))
    ∙ take_front (stamps_of w) (zeros (most_listed_events - length (stamps_of w))))
    ∙ events_back w

same_itself : (w : Listed) → same_listed w w ≡ true
same_itself w =
    and_both (eqb w.count w.count) (same w.symbols w.symbols && same w.stamps w.stamps)
    (eq-eqb w.count w.count refl)
    (and_both (same w.symbols w.symbols) (same w.stamps w.stamps) (same_self w.symbols)
    (same_self w.stamps))

same_is : (v w : Listed) → same_listed v w ≡ true → v ≡ w
same_is v w h =
    let counts : Bool = eqb v.count w.count in
    let symbols : Bool = same v.symbols w.symbols in
    let stamps : Bool = same v.stamps w.stamps in
    let places : (symbols && stamps) ≡ true = and_right counts (symbols && stamps) h in
    ap (λ (n : ℕ). record { count = n; symbols = v.symbols; stamps = v.stamps })
    (eqb-true v.count w.count (and_left counts (symbols && stamps) h))
    ∙ ap₂ (λ (xs ts : List ℕ). record { count = w.count; symbols = xs; stamps = ts })
    (same_equal v.symbols w.symbols (and_left symbols stamps places))
    (same_equal v.stamps w.stamps (and_right symbols stamps places))

-- 39
module _ (z : Size) where
  abbrev fits_z : List Event → Bool
  fits_z = fits z.symbols z.seconds z.events

  once_z : (w : List Event) → times w (list_of z) ≡ one_if (fits_z w)
  once_z w = list_once z.symbols z.seconds z.events w

  listed_taken : (w : List Event) → times w (list_of z) ≡ 1 → in_list z (listed_of w) ≡ true
  unfolding in_list
  listed_taken w h =
      ap (λ (vs : List Event). fits_z vs && same_listed (listed_of vs) (listed_of w)) (by_value w)
      ∙ and_both (fits_z w) (same_listed (listed_of w) (listed_of w)) (is_one (fits_z w) (omega (arith, h, once_z w)))
      (same_itself (listed_of w))

  taken_listed : (w : Listed) → in_list z w ≡ true
      → (times (events_in w) (list_of z) ≡ 1) × (listed_of (events_in w) ≡ w)
  unfolding in_list
  taken_listed w h =
      let fit : Bool = fits_z (events_in w) in
      let own : Bool = same_listed (listed_of (events_in w)) w in
      (once_z (events_in w) ∙ ap one_if (and_left fit own h), same_is (listed_of (events_in w)) w (and_right fit own h))

  -- the refusals in a row
  taken_fine : (w : Listed) → size_ok z ≡ true → in_list z w ≡ true → list_refusal z w ≡ fine
  unfolding list_refusal
  taken_fine w h g = rw (h, g)

  fine_taken : (w : Listed) → (list_refusal z w).number ≡ 0 → (size_ok z ≡ true) × (in_list z w ≡ true)
  unfolding list_refusal
  fine_taken w h = go (size_ok z) (in_list z w) refl refl
    where
      go : (a b : Bool) → size_ok z ≡ a → in_list z w ≡ b → (size_ok z ≡ true) × (in_list z w ≡ true)
      go true true e f = (e, f)
      go true false e f = let n : ◌≡◌ {A = ℕ} 39 0 = rw (e, f) at h in absurd (omega arith)
      go false b e f = let n : ◌≡◌ {A = ℕ} 38 0 = rw e at h in absurd (omega arith)

  empty_listed : in_list z (listed_of []) ≡ true
  unfolding in_list
  empty_listed = rw (le-leb 0 z.events (omega arith))

  empty_taken : size_ok z ≡ true → list_refusal z (listed_of []) ≡ fine
  empty_taken h = taken_fine (listed_of []) h empty_listed

-- the word after another is one of the list
after_in :
    (v : List Event) (ws : List (List Event)) → (word_after v ws).some ≡ true → 1 ≤ times (word_after v ws).word ws
after_in v [] h = no_way h
after_in v (w ∷ ws) h = go (same_word v w) refl ws (after_in v ws) h
  where
    go :
        (b : Bool) → same_word v w ≡ b → (ws : List (List Event))
        → ((word_after v ws).some ≡ true → 1 ≤ times (word_after v ws).word ws)
        → (word_after v (w ∷ ws)).some ≡ true
        → 1 ≤ times (word_after v (w ∷ ws)).word (w ∷ ws)
    go true e [] later k = no_way (rw (e, word_after) at k)
    go true e (x ∷ xs) later k =
        rw (e, word_after) (stands_later x w (x ∷ xs) (omega (arith, stands_first x xs)))
    go false e xs later k =
        rw (e, word_after) (stands_later (word_after v xs).word w xs (later (rw (e, word_after) at k)))

next_taken :
    (z : Size) (w : Listed) (answer : Next) → GivesNext z w answer → answer.number ≡ 0
    → list_refusal z answer.word ≡ fine
next_taken z w answer p n = go after.some refl
  where
    after : After
    after = word_after (events_in w) (list_of z)

    passed : (list_refusal z w).number ≡ 0
    passed = sym (ap (λ (a : Next). a.number) p.answer_is) ∙ n

    word_is : answer.word ≡ pick after.some (listed_of after.word) w
    word_is =
        ap (λ (a : Next). a.word) p.answer_is
        ∙ ap (λ (b : Bool). pick (b && after.some) (listed_of after.word) w)
        (eq-eqb (list_refusal z w).number 0 passed)

    one_of : after.some ≡ true → times after.word (list_of z) ≡ 1
    one_of e =
        let there_is : 1 ≤ times after.word (list_of z) = after_in (events_in w) (list_of z) e in
        omega (arith, there_is, once_z z after.word, most_one (fits_z z after.word))

    go : (b : Bool) → after.some ≡ b → list_refusal z answer.word ≡ fine
    go true e =
        ap (list_refusal z) (word_is ∙ ap (λ (b : Bool). pick b (listed_of after.word) w) e)
        ∙ taken_fine z (listed_of after.word) (fine_taken z w passed).0 (listed_taken z after.word (one_of e))
    go false e =
        ap (list_refusal z) (word_is ∙ ap (λ (b : Bool). pick b (listed_of after.word) w) e)
        ∙ taken_fine z w (fine_taken z w passed).0 (fine_taken z w passed).1

-- the empty word is the first
begins : (s h m : ℕ) → first_of (words_up_to s h m) ≡ record { some = true; word = [] }
unfolding words_up_to words_from
begins s h zero = refl
begins s h (suc m) = front (words_up_to s h m) (begins s h m)
  where
    front :
        (xs : List (List Event)) → first_of xs ≡ record { some = true; word = [] }
        → first_of (xs ++ words_of s h (suc m)) ≡ record { some = true; word = [] }
    front [] e = no_way (ap (λ (x : After). x.some) e)
    front (x ∷ xs) e = e

pub lists_are : ListsAre
lists_are = record {
  once = list_once;
  in_order = in_order;
  only_one = only_one;
  begins = begins;
  stands_next = λ s h m xs ys v w e. stands s h m xs (w ∷ ys) v e;
  stands_last = λ s h m xs v e. stands s h m xs [] v e;
  read_back = by_value;
  listed_taken = listed_taken;
  taken_listed = taken_listed;
  empty_taken = empty_taken;
  next_taken = next_taken;
  alike_to_one = each_once;
  halves_listed = halves_listed;
  legal = listed_legal;
  counted = λ s h n. words_counted s n (top_stamp h) 0;
  of_length = λ s h n w. words_once s (top_stamp h) n (stamp_count h) 0 w (omega arith);
}
