-- Words alike: by their half seconds, event by event; and the listed word that any word is alike to, its half seconds.
use mathlib.Core.Path.{◌≡◌, refl, ◌∙◌, ap, ap₂}
use mathlib.Core.Bool.{Bool, true, false, ◌&&◌}
use mathlib.Core.List.{List, [], ◌∷◌}
use Prim.Native.Nat.{ℕ, suc, ◌*◌, ◌%◌, ◌≤◌}
use native.Mathlib.Omega.{arith}
use lib.Dec.{eqb, leb}
use lib.ListN.{length}
use borrow.Author.Tests.{leb-true, leb-false, eqb-true, lt-ltb, le-leb, eq-eqb}
use Rattle.model.specs.Basics.{one_if, fine}
use Rattle.model.specs.Words.{Event, events_of, word_refusal}
use Rattle.model.specs.Alike.{whole_seconds, fraction, alike_stamps, alike, half_seconds, in_halves}
use Rattle.model.specs.Lists.{list_grain, top_stamp, event_of, words_up_to, same_word, fits_from, fits, count_if}
use Rattle.model.specs.Construction.{interval_of}
use Rattle.model.specs.Claims.{AlikeIs, up_to}
use Rattle.model.proofs.Logic.{by_test, same_truth, and_left, and_right, and_both}
use Rattle.model.proofs.Words.{Ordered, Below, Keeps, fine_keeps, events_length}
use Rattle.model.proofs.Seconds.{fraction_small, half_rises, half_whole, half_zero, cut, interval_half}
use Rattle.model.proofs.Lists.{count_same, list_once}

-- stamps are alike exactly if they have the same half seconds
same_halves : (d t e u : ℕ) → alike_stamps d t e u ≡ eqb (half_seconds d t) (half_seconds e u)
same_halves d t e u =
    same_truth (alike_stamps d t e u) (eqb (half_seconds d t) (half_seconds e u))
    (λ h.
    eq-eqb (half_seconds d t) (half_seconds e u)
    (omega (
      arith,
      eqb-true (whole_seconds d t) (whole_seconds e u) (and_left same_seconds same_fractions h),
      eqb-true (fraction d t) (fraction e u) (and_right same_seconds same_fractions h),
    )))
    (λ h.
    let k : half_seconds d t ≡ half_seconds e u = eqb-true (half_seconds d t) (half_seconds e u) h in
    and_both same_seconds same_fractions
    (eq-eqb (whole_seconds d t) (whole_seconds e u) (omega (arith, k, fraction_small d t, fraction_small e u)))
    (eq-eqb (fraction d t) (fraction e u) (omega (arith, k, fraction_small d t, fraction_small e u))))
  where
    same_seconds : Bool
    same_seconds = eqb (whole_seconds d t) (whole_seconds e u)

    same_fractions : Bool
    same_fractions = eqb (fraction d t) (fraction e u)

flip : (a b c : Bool) → (a && (b && c)) ≡ ((b && a) && c)
flip true true c = refl
flip true false c = refl
flip false true c = refl
flip false false c = refl

same_words : (d e : ℕ) (vs ws : List Event) → alike d vs e ws ≡ same_word (in_halves d vs) (in_halves e ws)
same_words d e [] [] = refl
same_words d e [] (w ∷ ws) = refl
same_words d e (v ∷ vs) [] = refl
same_words d e (v ∷ vs) (w ∷ ws) =
    ap₂ (λ (a b : Bool). eqb v.symbol w.symbol && (a && b)) (same_halves d v.stamp e w.stamp)
    (same_words d e vs ws)
    ∙ flip (eqb v.symbol w.symbol) (eqb (half_seconds d v.stamp) (half_seconds e w.stamp))
    (same_word (in_halves d vs) (in_halves e ws))

-- under D = 2 a stamp is its half seconds
bit_two : (u : ℕ) → one_if (leb 1 (u % 2)) ≡ u % 2
bit_two u =
    by_test (leb 1 (u % 2)) (λ e. rw e (omega (arith, leb-true 1 (u % 2) e)))
    (λ e. rw e (omega (arith, leb-false 1 (u % 2) e)))

pub half_two : (u : ℕ) → half_seconds list_grain u ≡ u
half_two u = omega (arith, bit_two u)

-- so the interval of an age under D = 2 is that age, cut at the top
pub interval_two : (c age : ℕ) → interval_of c list_grain age ≡ cut c age
interval_two c age = interval_half c list_grain age (omega arith) ∙ ap (cut c) (half_two age)

already_halves : (w : List Event) → in_halves list_grain w ≡ w
already_halves [] = refl
already_halves (v ∷ vs) =
    ap₂ (λ (t : ℕ) (ws : List Event). event_of v.symbol t ∷ ws) (half_two v.stamp) (already_halves vs)

pub alike_is : AlikeIs
alike_is = record { same_halves = same_halves; same_words = same_words; already_halves = already_halves }

-- so a listed word is alike exactly if it is the word in half seconds
alike_same : (d : ℕ) (vs ws : List Event) → alike d vs list_grain ws ≡ same_word (in_halves d vs) ws
alike_same d vs ws = same_words d list_grain vs ws ∙ ap (same_word (in_halves d vs)) (already_halves ws)

pub length_halves : (d : ℕ) (vs : List Event) → length (in_halves d vs) ≡ length vs
length_halves d [] = refl
length_halves d (v ∷ vs) = ap suc (length_halves d vs)

halves_fit :
    (s h d last : ℕ) (vs : List Event) → 1 ≤ d → Below s vs → Ordered last vs → up_to (h * d) vs ≡ true
    → fits_from s (top_stamp h) (half_seconds d last) (in_halves d vs) ≡ true
halves_fit s h d last [] hd b o u = refl
halves_fit s h d last (v ∷ vs) hd b o u =
    let top : v.stamp ≤ h * d = leb-true v.stamp (h * d) (and_left (leb v.stamp (h * d)) (up_to (h * d) vs) u) in
    rw (
      lt-ltb v.symbol s b.0,
      le-leb (half_seconds d last) (half_seconds d v.stamp) (half_rises d last v.stamp hd o.0),
      le-leb (half_seconds d v.stamp) (top_stamp h)
          (omega (arith, half_rises d v.stamp (h * d) hd top, half_whole d h hd)),
    )
    (halves_fit s h d v.stamp vs hd b.1 o.1 (and_right (leb v.stamp (h * d)) (up_to (h * d) vs) u))

-- that word is listed, and no other is alike
pub halves_listed :
    (s h m d : ℕ) (symbols stamps : List ℕ) → word_refusal s d m symbols stamps ≡ fine
    → up_to (h * d) (events_of symbols stamps) ≡ true
    → fits s h m (in_halves d (events_of symbols stamps)) ≡ true
halves_listed s h m d symbols stamps f u =
    let vs : List Event = events_of symbols stamps in
    let k : Keeps s d m symbols stamps = fine_keeps s d m symbols stamps f in
    let n : length (in_halves d vs) ≤ m =
    omega (arith, length_halves d vs, events_length symbols stamps k.lengths_equal, k.events_most) in
    and_both (leb (length (in_halves d vs)) m) (fits_from s (top_stamp h) 0 (in_halves d vs))
    (le-leb (length (in_halves d vs)) m n)
    (rw (half_zero d k.grain_least) at
    (halves_fit s h d 0 vs k.grain_least k.symbols_below k.stamps_ordered u))

pub each_once :
    (s h m d : ℕ) (symbols stamps : List ℕ) → word_refusal s d m symbols stamps ≡ fine
    → up_to (h * d) (events_of symbols stamps) ≡ true
    → count_if (λ w. alike d (events_of symbols stamps) list_grain w) (words_up_to s h m) ≡ 1
each_once s h m d symbols stamps f u =
    let vs : List Event = events_of symbols stamps in
    count_same (λ w. alike d vs list_grain w) (same_word (in_halves d vs)) (words_up_to s h m)
    (λ w i. alike_same d vs w)
    ∙ list_once s h m (in_halves d vs)
    ∙ ap one_if (halves_listed s h m d symbols stamps f u)
