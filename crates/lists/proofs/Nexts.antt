-- The answer: refused, the next word, or that it was the last.
use mathlib.Core.Path.{◌≡◌, sym, ◌∙◌, ap, ap₂}
use mathlib.Core.Bool.{Bool, true, false}
use mathlib.Core.List.{List, []}
use Prim.Native.Nat.{ℕ, suc, ◌+◌, ◌-◌, ◌≤◌, ◌<◌}
use native.Mathlib.Omega.{arith}
use lib.ListN.{length, replicate, length-replicate}
use borrow.Author.Tests.{lt-ltb, le-ltb}
use Rattle.model.specs.declared.Size.{Size}
use Rattle.model.specs.declared.Listed.{Listed}
use Rattle.model.specs.Basics.{zeros, filled, fine}
use Rattle.model.specs.Words.{Event}
use Rattle.model.specs.Lists.{most_listed_events, top_stamp, size_ok, After}
use Rattle.model.specs.Lists.{events_in, listed_of, in_list, list_refusal}
use Rattle.model.specs.Promises.{next_of, next_given}
use Rattle.model.proofs.Flags.{is_true}
use Rattle.model.proofs.NextWord.{floor, next_or_longer, next_is}
use Rattle.model.specs.declared.Next.{Next}
use Rattle.lists.specs.Odometer.{Six, up_to_raised, raised_at, least_from, Raising}
use Rattle.lists.proofs.Places.{events_count}
use Rattle.lists.proofs.Fitting.{InRange, in_range, Member, member}
use Rattle.lists.proofs.Raised.{zeros_both, up_to_most, bump_none, bump_raised, floor_is, least_length}
use Rattle.lists.proofs.Raised.{least_symbols, least_stamps}

filled_zeros : (k : ℕ) → k ≤ most_listed_events → filled most_listed_events (zeros k) ≡ zeros most_listed_events
filled_zeros k h =
    let all : k + (most_listed_events - length (zeros k)) ≡ most_listed_events =
    omega (arith, length-replicate {A = ℕ} k 0) in
    zeros_both k (most_listed_events - length (zeros k)) ∙ ap zeros all

-- the record that crosses the call, by its number, whether there is none, and its word
abbrev answer_of : ℕ → Bool → Listed → Next
answer_of n last w = record { number = n; place = 0; last = last; word = w }

-- the first word of a length
abbrev pub zeroed : ℕ → Listed
zeroed n = record { count = n; symbols = replicate most_listed_events 0; stamps = replicate most_listed_events 0 }

first_word :
    (n : ℕ) → n ≤ most_listed_events
    → listed_of (floor n 0) ≡ zeroed n
first_word n h =
    let least : Listed = listed_of (least_from n 0) in
    ap listed_of (floor_is n 0)
    ∙ ap (λ (k : ℕ). record { count = k; symbols = least.symbols; stamps = least.stamps })
    (least_length n 0)
    ∙ ap₂ (λ (a b : List ℕ). record { count = n; symbols = a; stamps = b })
    (ap (filled most_listed_events) (least_symbols n 0) ∙ filled_zeros n h)
    (ap (filled most_listed_events) (least_stamps n 0) ∙ filled_zeros n h)

module _ (z : Size) (w : Listed) where
  pub size_refused : size_ok z ≡ false → answer_of 38 false w ≡ next_given z w
  unfolding list_refusal
  size_refused h = rw h

  pub word_refused :
      size_ok z ≡ true → in_list z w ≡ false → answer_of 39 false w ≡ next_given z w
  unfolding list_refusal
  word_refused h g = rw (h, g)

-- not refused
pub record Taken (z : Size) (w : Listed) : Type 0 where
  pub size_ok : size_ok z ≡ true
  pub in_list : in_list z w ≡ true
  pub places : Six w

pub taken_count : {z : Size} {w : Listed} → Taken z w → w.count ≤ most_listed_events
taken_count {z} {w} t = (member z w t.places t.in_list).most_count

-- the events up to and with the last that can be raised, as `r`
pub record Found (z : Size) (w : Listed) (r : ℕ) : Type 0 where
  pub taken : Taken z w
  pub up_to : r ≡ up_to_raised z.symbols (top_stamp z.seconds) (events_in w)

pub is_found :
    {z : Size} {w : Listed} {r : ℕ} {a b : Bool} → a ≡ size_ok z → a ≡ true → b ≡ in_list z w → b ≡ true → Six w
    → r ≡ up_to_raised z.symbols (top_stamp z.seconds) (events_in w)
    → Found z w r
is_found s p l q f u = record {
  taken = record { size_ok = is_true s p; in_list = is_true l q; places = f };
  up_to = u;
}

module _ {z : Size} {w : Listed} {r : ℕ} (x : Found z w r) where
  abbrev vs : List Event
  vs = events_in w

  ranges : InRange z
  ranges = in_range z x.taken.size_ok

  of_list : Member z w
  of_list = member z w x.taken.places x.taken.in_list

  counts : length vs ≡ w.count
  counts = events_count w x.taken.places of_list.most_count

  not_refused : list_refusal z w ≡ fine
  unfolding list_refusal
  not_refused = rw (x.taken.size_ok, x.taken.in_list)

  said_is : (y : After) → next_or_longer z.symbols z.seconds z.events vs ≡ y → next_given z w ≡ next_of fine y w
  said_is y e =
      ap₂ (λ a b. next_of a b w) not_refused
      (next_is z.symbols z.seconds z.events vs ranges.some_symbols of_list.all_fit ∙ e)

  -- the last event that can be raised is
  module _ {i : ℕ} (p : r ≡ suc i) where
    pub next_raising : Raising z w i
    next_raising = record {
      size_ok = x.taken.size_ok;
      in_list = x.taken.in_list;
      below = omega (arith, p, x.up_to, up_to_most z.symbols (top_stamp z.seconds) vs, counts);
    }

    pub next_raised : {y : Listed} → y ≡ listed_of (raised_at z.symbols i vs) → answer_of 0 false y ≡ next_given z w
    next_raised q =
        ap (answer_of 0 false) q
        ∙ sym
        (said_is (record { some = true; word = raised_at z.symbols i vs })
        (rw (bump_raised z.symbols (top_stamp z.seconds) i vs (sym x.up_to ∙ p))))

  -- none can be raised
  module _ (p : r ≡ 0) where
    none_up : up_to_raised z.symbols (top_stamp z.seconds) vs ≡ 0
    none_up = sym x.up_to ∙ p

    pub was_last : w.count ≡ z.events → answer_of 0 true w ≡ next_given z w
    was_last n =
        sym
        (said_is (record { some = false; word = [] })
        (rw (
          bump_none z.symbols (top_stamp z.seconds) vs none_up,
          le-ltb (length vs) z.events (omega (arith, counts)),
        )))

    pub next_longer :
        (w.count ≡ z.events → ⊥)
        → answer_of 0 false (zeroed (w.count + 1)) ≡ next_given z w
    next_longer n =
        let longer : w.count < z.events = omega (arith, of_list.count_within) in
        let one : suc (length vs) ≡ w.count + 1 = omega (arith, counts) in
        sym
        (said_is (record { some = true; word = floor (suc (length vs)) 0 })
        (rw (
          bump_none z.symbols (top_stamp z.seconds) vs none_up,
          lt-ltb (length vs) z.events (omega (arith, counts)),
        ))
        ∙ ap (answer_of 0 false) (first_word (suc (length vs)) (omega (arith, counts, ranges.most_events))
        ∙ ap zeroed one))
