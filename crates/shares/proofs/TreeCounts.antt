-- Counts while a tree is walked: place by place, what stands there, what is held back for place 0 and what is still to
-- be walked come to one sum, which has room.
use mathlib.Core.Path.{◌≡◌, refl, sym, ◌∙◌, ap, ap₂}
use mathlib.Core.List.{List, [], ◌∷◌}
use Prim.Native.Nat.{ℕ, zero, suc, ◌+◌, ◌-◌, ◌/◌, ◌%◌, ◌≤◌, ◌<◌}
use native.Mathlib.Omega.{arith}
use lib.Dec.{eqb}
use lib.ListN.{length, get_or, set, length-set, get_or-append}
use lib.Seq.{take_all, get_or-set_same, get_or-set_other}
use borrow.Rule.Slice.PartMut.{mid_of, post_of, put_mid, mid_len, same_len_mid}
use Rattle.model.specs.declared.Built.{Built}
use Rattle.model.specs.Basics.{pick}
use Rattle.model.specs.Construction.{interval_of}
use Rattle.model.specs.Tables.{Tables, row_verdict}
use Rattle.model.specs.Walks.{cell_at}
use Rattle.model.specs.Lists.{list_grain}
use Rattle.model.specs.Shares.{most_words}
use Rattle.model.proofs.Logic.{by_test}
use Rattle.shares.specs.Tree.{Node, Roomy, Tallied, tree_count}
use Rattle.shares.proofs.TreeLaws.{taken, child_count, below, left, below_none, below_some, left_none, left_some}
use Rattle.shares.proofs.TreeLaws.{stored_leaf}

-- the places from 1 on, as a slice lends them, and the list when they are back
abbrev pub tail : List ℕ → List ℕ
tail xs = mid_of 1 (length xs - 1) xs

abbrev pub back : List ℕ → List ℕ → List ℕ
back xs ys = put_mid 1 (length xs - 1) xs ys

pub tail_long : (xs : List ℕ) → length (tail xs) ≡ length xs - 1
tail_long xs = mid_len 1 (length xs) xs (omega arith)

pub tail_at : (xs : List ℕ) (n : ℕ) → get_or (tail xs) n 0 ≡ get_or xs (suc n) 0
tail_at [] n = refl
tail_at (x ∷ xs) n = ap (λ (ys : List ℕ). get_or ys n 0) (take_all (length (x ∷ xs) - 1) xs (omega arith))

pub back_first : (xs ys : List ℕ) → 0 < length xs → get_or (back xs ys) 0 0 ≡ get_or xs 0 0
back_first [] ys h = absurd (omega arith)
back_first (x ∷ xs) ys h = refl

pub back_later :
    (xs ys : List ℕ) (n : ℕ) → 0 < length xs → n < length ys → get_or (back xs ys) (suc n) 0 ≡ get_or ys n 0
back_later [] ys n h g = absurd (omega arith)
back_later (x ∷ xs) ys n h g = get_or-append ys (post_of 1 (length (x ∷ xs) - 1) (x ∷ xs)) 0 n g

-- what is held back for place n
abbrev pub also : ℕ → ℕ → ℕ
also zero here = here
also (suc n) here = 0

-- what was held back goes to place 0
abbrev pub settled : List ℕ → ℕ → List ℕ
settled counts here = set counts 0 (get_or counts 0 0 + here)

-- from counts₀, with here₀ held back and rest₀ still to be walked, to counts, here and rest
pub record Kept
    (counts₀ : List ℕ) (here₀ : ℕ) (rest₀ : ℕ → ℕ) (counts : List ℕ) (here : ℕ) (rest : ℕ → ℕ) : Type 0 where
  pub some : 1 ≤ length counts₀
  pub room : (n : ℕ) → n < length counts₀ → get_or counts₀ n 0 + also n here₀ + rest₀ n ≤ most_words
  pub same_length : length counts ≡ length counts₀
  pub same_sum :
      (n : ℕ) → n < length counts₀
      → get_or counts n 0 + also n here + rest n ≡ get_or counts₀ n 0 + also n here₀ + rest₀ n

pub kept_as :
    {counts₀ counts counts' : List ℕ} {here₀ here : ℕ} {rest₀ rest : ℕ → ℕ} → counts' ≡ counts
    → Kept counts₀ here₀ rest₀ counts here rest
    → Kept counts₀ here₀ rest₀ counts' here rest
kept_as e k = rw e k

-- the room that there is still
pub room_now :
    {counts₀ counts : List ℕ} {here₀ here : ℕ} {rest₀ rest : ℕ → ℕ} → Kept counts₀ here₀ rest₀ counts here rest
    → (n : ℕ) → n < length counts
    → get_or counts n 0 + also n here + rest n ≤ most_words
room_now {counts₀} k n h =
    let g : n < length counts₀ = omega (arith, k.same_length) in
    omega (arith, k.room n g, k.same_sum n g)

nothing_also : (n : ℕ) → also n 0 ≡ 0
nothing_also zero = refl
nothing_also (suc n) = refl

-- the node that an event leads to
pub child_node :
    {b : Built} {stamps row reset from x s : ℕ} (cell : ℕ) → Node b stamps row reset from → from ≤ x → x ≤ stamps
    → cell / 2 < b.rows
    → s ≡ pick (eqb (cell % 2) 1) x reset
    → Node b stamps (cell / 2) s x
child_node cell d f m b h = record {
  row_in = b;
  reset_before =
      by_test (eqb (cell % 2) 1) (λ odd. omega (arith, rw odd at h))
      (λ even. omega (arith, rw even at h, d.reset_before));
  from_before = m;
  stamps_most = d.stamps_most;
}

module _ (t : Tables) (stamps row reset : ℕ) where
  -- a node's walk, and the symbols at one of its stamps
  pub walk_start :
      {from : ℕ} {counts : List ℕ} → Roomy t stamps row reset from counts
      → Kept counts 0 (below t stamps row reset from) counts 0 (below t stamps row reset from)
  unfolding below
  walk_start r = record {
    some = r.some;
    room = λ n h. omega (arith, r.room n h, nothing_also n);
    same_length = refl;
    same_sum = λ n h. refl;
  }

  module _ {counts₀ counts : List ℕ} {here₀ here : ℕ} {rest₀ : ℕ → ℕ} (x : ℕ) (more : x < stamps)
      (k : Kept counts₀ here₀ rest₀ counts here (below t stamps row reset x)) where
    pub stamp_start :
        Kept counts here (left t stamps row reset x 0) counts here (left t stamps row reset x 0)
    stamp_start = record {
      some = omega (arith, k.some, k.same_length);
      room = λ n h. omega (arith, room_now k n h, below_some t stamps row reset x n more);
      same_length = refl;
      same_sum = λ n h. refl;
    }

    pub stamp_end :
        {counts' : List ℕ} {here' i : ℕ} → t.built.symbols ≤ i
        → Kept counts here (left t stamps row reset x 0) counts' here' (left t stamps row reset x i)
        → Kept counts₀ here₀ rest₀ counts' here' (below t stamps row reset (x + 1))
    stamp_end {i = i} end j = record {
      some = k.some;
      room = k.room;
      same_length = j.same_length ∙ k.same_length;
      same_sum = λ n h.
          let g : n < length counts = omega (arith, k.same_length) in
          omega (
            arith,
            k.same_sum n h,
            j.same_sum n g,
            below_some t stamps row reset x n more,
            left_none t stamps row reset x i n end,
          );
    }

  -- the words behind symbol i at stamp x
  abbrev child_at : ℕ → ℕ → ℕ → ℕ
  child_at x i n = child_count t row reset i n (stamps - x) x

  -- one symbol at a stamp: its interval, its cell, and the verdict of the cell's row
  pub record EventRead (x i interval cell v : ℕ) : Type 0 where
    pub symbol_in : i < t.built.symbols
    pub interval_is : interval ≡ interval_of t.built.top list_grain (x - reset)
    pub cell_read : cell ≡ cell_at t row i interval
    pub verdict_is : v ≡ row_verdict t.rows (cell / 2)
    pub verdict_most : v ≤ 1

  module _ {x i interval cell v : ℕ} (e : EventRead x i interval cell v) where
    cell_is : cell ≡ taken t row reset i x
    cell_is = e.cell_read ∙ ap (cell_at t row i) e.interval_is

    -- the child is walked from the cell's row, from the last reset after the event
    child_is :
        (s : ℕ) → s ≡ pick (eqb (cell % 2) 1) x reset
        → (n : ℕ) → child_at x i n ≡ tree_count t (cell / 2) s n (stamps - x) x
    unfolding child_count
    child_is s h n =
        ap₂ (λ (r z : ℕ). tree_count t r z n (stamps - x) x) (ap (λ (c : ℕ). c / 2) (sym cell_is))
        (ap (λ (c : ℕ). pick (eqb (c % 2) 1) x reset) (sym cell_is) ∙ sym h)

    leaf_is : v ≡ child_at x i 0
    leaf_is =
        let s : ℕ = pick (eqb (cell % 2) 1) x reset in
        stored_leaf t (cell / 2) s (stamps - x) x v e.verdict_is e.verdict_most ∙ sym (child_is s refl 0)

    module _ {counts₀ counts : List ℕ} {here₀ here : ℕ} {rest₀ : ℕ → ℕ}
        (k : Kept counts₀ here₀ rest₀ counts here (left t stamps row reset x i)) where
      split : (n : ℕ) → left t stamps row reset x i n ≡ child_at x i n + left t stamps row reset x (i + 1) n
      split n = left_some t stamps row reset x i n e.symbol_in

      some_now : 0 < length counts
      some_now = omega (arith, k.some, k.same_length)

      pub here_most : here + v ≤ most_words
      here_most = omega (arith, room_now k 0 some_now, split 0, leaf_is)

      pub child_roomy :
          {s : ℕ} → s ≡ pick (eqb (cell % 2) 1) x reset → 1 < length counts
          → Roomy t stamps (cell / 2) s x (tail counts)
      child_roomy {s} h m = record {
        some = omega (arith, tail_long counts);
        room = λ n g.
            omega (
              arith,
              tail_at counts n,
              room_now k (suc n) (omega (arith, tail_long counts)),
              split (suc n),
              child_is s h (suc n),
            );
      }

      -- after the event, at the last length and before it
      pub symbol_last :
          length counts ≤ 1 → Kept counts₀ here₀ rest₀ counts (here + v) (left t stamps row reset x (i + 1))
      symbol_last m = record {
        some = k.some;
        room = k.room;
        same_length = k.same_length;
        same_sum = λ n h. at_first n (omega (arith, k.same_length)) (k.same_sum n h);
      }
        where
          at_first :
              (n : ℕ) → n < 1 → {z : ℕ} → get_or counts n 0 + also n here + left t stamps row reset x i n ≡ z
              → get_or counts n 0 + also n (here + v) + left t stamps row reset x (i + 1) n ≡ z
          at_first zero h g = omega (arith, g, split 0, leaf_is)
          at_first (suc n) h g = absurd (omega arith)

      pub symbol_more :
          {s : ℕ} {part : List ℕ} → s ≡ pick (eqb (cell % 2) 1) x reset → 1 < length counts
          → Tallied t stamps (cell / 2) s x (tail counts) part
          → Kept counts₀ here₀ rest₀ (back counts part) (here + v) (left t stamps row reset x (i + 1))
      symbol_more {s} {part} h m d = record {
        some = k.some;
        room = k.room;
        same_length = same_len_mid 1 (length counts - 1) counts part d.same_length ∙ k.same_length;
        same_sum = λ n g. at_place n (omega (arith, k.same_length)) (k.same_sum n g);
      }
        where
          at_place :
              (n : ℕ) → n < length counts → {z : ℕ}
              → get_or counts n 0 + also n here + left t stamps row reset x i n ≡ z
              → get_or (back counts part) n 0 + also n (here + v) + left t stamps row reset x (i + 1) n ≡ z
          at_place zero u g = omega (arith, g, split 0, leaf_is, back_first counts part some_now)
          at_place (suc n) u g =
              let w : n < length (tail counts) = omega (arith, tail_long counts) in
              omega (
                arith,
                g,
                split (suc n),
                back_later counts part n some_now (omega (arith, d.same_length)),
                d.added n w,
                tail_at counts n,
                child_is s h (suc n),
              )

  -- the end of a walk
  module _ {counts₀ counts : List ℕ} {here : ℕ} (from x : ℕ) (end : stamps ≤ x)
      (k : Kept counts₀ 0 (below t stamps row reset from) counts here (below t stamps row reset x)) where
    pub end_long : length (settled counts here) ≡ length counts₀
    end_long = length-set counts 0 (get_or counts 0 0 + here) ∙ k.same_length

    pub end_tallied : Tallied t stamps row reset from counts₀ (settled counts here)
    unfolding below
    end_tallied = record {
      same_length = end_long;
      added = λ n h.
          at_place n h (omega (arith, k.same_sum n h, below_none t stamps row reset x n end, nothing_also n));
    }
      where
        at_place :
            (n : ℕ) → n < length counts₀ → {z : ℕ} → get_or counts n 0 + also n here ≡ z
            → get_or (settled counts here) n 0 ≡ z
        at_place zero h g =
            get_or-set_same counts 0 (get_or counts 0 0 + here) 0 (omega (arith, k.same_length)) ∙ g
        at_place (suc n) h g =
            get_or-set_other counts 0 (suc n) (get_or counts 0 0 + here) 0 (λ e. absurd (omega (arith, e)))
            ∙ omega (arith, g)
