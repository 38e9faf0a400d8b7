-- The greatest share, read off the lines: the last share of a line is the table's in all, so the best line is the best
-- table.
use mathlib.Core.Path.{◌≡◌, refl, sym, ◌∙◌, ap}
use mathlib.Core.Bool.{Bool, true, false}
use mathlib.Core.List.{List, [], ◌∷◌, ◌++◌, append_assoc}
use Prim.Native.Nat.{ℕ, suc, ◌+◌, ◌-◌, ◌*◌, ◌≤◌, ◌<◌}
use native.Mathlib.Omega.{arith}
use native.Mathlib.Numerals.{add-one}
use lib.ListN.{length, get_or, length-append}
use lib.Seq.{get_or-append-add}
use Rattle.model.specs.Basics.{zeros, filled}
use Rattle.model.specs.Tables.{Tables}
use Rattle.model.specs.Lists.{most_listed_events}
use Rattle.model.specs.Shares.{most_tables, share, shares_from}
use Rattle.model.specs.Shares.{line_width, line_by, line_of, lines_of, table_says, accepted_by, words_for, smaller}
use Rattle.model.specs.Shares.{greatest_from, greatest_of}
use Rattle.shares.proofs.LineLaws.{front_long, line_long}
use Rattle.shares.specs.Batches.{accepted_at, words_at, best_in, greatest_in}

-- Where the search stands: lines up to place i compared, the best of them at place `best`.
pub record Searching (count : ℕ) (lines : List ℕ) (best i : ℕ) : Type 0 where
  pub some : 1 ≤ i
  pub most : i ≤ count
  pub best_before : best < i
  pub same : suc (best_in (count - i) best i lines) ≡ greatest_in count lines

pub searching_first : (count : ℕ) (lines : List ℕ) → 1 ≤ count → Searching count lines 0 1
searching_first count lines h = record { some = omega arith; most = h; best_before = omega arith; same = refl }

module _ {count : ℕ} {lines : List ℕ} {best i : ℕ} (k : Searching count lines best i) (l : i < count) where
  abbrev is_better : Bool
  is_better = smaller (accepted_at lines best) (words_at lines best) (accepted_at lines i) (words_at lines i)

  -- the flag as it was asked: how many words stands behind how many are accepted
  abbrev asked : Bool
  asked =
      smaller (accepted_at lines best) (get_or lines (line_width * best + 28 + 1) 0) (accepted_at lines i)
      (get_or lines (line_width * i + 28 + 1) 0)

  asked_is : {r z : Bool} → r ≡ asked → r ≡ z → is_better ≡ z
  asked_is e f =
      let x : line_width * best + 29 ≡ line_width * best + 28 + 1 = omega arith in
      let y : line_width * i + 29 ≡ line_width * i + 28 + 1 = omega arith in
      rw (x, y) (sym e ∙ f)

  turn : (n : ℕ) → count - i ≡ suc n → suc (best_in (suc n) best i lines) ≡ greatest_in count lines
  turn n g = ap (λ (x : ℕ). suc (best_in x best i lines)) (sym g) ∙ k.same

  pub better : {r : Bool} {best' : ℕ} → r ≡ asked → r ≡ true → best' ≡ i → Searching count lines best' (i + 1)
  unfolding best_in
  better a z e = record {
    some = omega arith;
    most = omega arith;
    best_before = omega arith;
    same =
        rw (e, add-one)
        (let goes : suc (best_in (suc (count - suc i)) best i lines) ≡ greatest_in count lines =
        turn (count - suc i) (omega arith) in
        rw (asked_is a z, best_in) at goes);
  }

  pub kept : {r : Bool} {best' : ℕ} → r ≡ asked → r ≡ false → best' ≡ best → Searching count lines best' (i + 1)
  unfolding best_in
  kept a z e = record {
    some = omega arith;
    most = omega arith;
    best_before = omega (arith, k.best_before);
    same =
        rw (e, add-one)
        (let goes : suc (best_in (suc (count - suc i)) best i lines) ≡ greatest_in count lines =
        turn (count - suc i) (omega arith) in
        rw (asked_is a z, best_in) at goes);
  }

pub searched :
    {count : ℕ} {lines : List ℕ} {best i : ℕ} → Searching count lines best i → count ≤ i
    → best + 1 ≡ greatest_in count lines
unfolding best_in
searched {count} {lines} {best} {i} k l =
    let none : count - i ≡ 0 = omega arith in
    add-one best ∙ ap (λ (x : ℕ). suc (best_in x best i lines)) (sym none) ∙ k.same

-- past what stands before
past : (n : ℕ) (before xs : List ℕ) (j : ℕ) → length before ≡ n → get_or (before ++ xs) (n + j) 0 ≡ get_or xs j 0
past n before xs j e = rw (← e) (get_or-append-add before xs j 0)

-- A table's line among others: places 28 and 29 are its words accepted and its words in all.
module _ (t : Tables) (m h : ℕ) (few : m ≤ most_listed_events) (i : ℕ) (before after : List ℕ)
    (e : length before ≡ line_width * i)
  where
    abbrev lines : List ℕ
    lines = before ++ (line_of t m h ++ after)

    abbrev front : List ℕ
    front = filled 28 (shares_from (suc m) 0 (table_says t) t.built.symbols h)

    abbrev last : List ℕ
    last = share (accepted_by t h m) (words_for t h m)

    -- place j of the share in all
    in_all : (j : ℕ) → get_or lines (line_width * i + (28 + j)) 0 ≡ get_or (last ++ after) j 0
    unfolding line_by
    in_all j =
        past (line_width * i) before (line_of t m h ++ after) (28 + j) e
        ∙ (ap (λ (xs : List ℕ). get_or xs (28 + j) 0) (append_assoc front last after)
        ∙ past 28 front (last ++ after) j (front_long (table_says t) t.built.symbols m h few))

    accepted_there : accepted_at (before ++ (line_of t m h ++ after)) i ≡ accepted_by t h m
    accepted_there = in_all 0

    words_there : words_at (before ++ (line_of t m h ++ after)) i ≡ words_for t h m
    words_there = in_all 1

-- the best line from place i on is the best table from number i + 1 on
module _ (m h : ℕ) (few : m ≤ most_listed_events) where
  best_is :
      (ts : List Tables) (lines before after : List ℕ) (best i a b : ℕ) → lines ≡ before ++ (lines_of ts m h ++ after)
      → length before ≡ line_width * i
      → accepted_at lines best ≡ a
      → words_at lines best ≡ b
      → suc (best_in (length ts) best i lines) ≡ greatest_from (suc best) a b (suc i) ts m h
  unfolding best_in
  best_is [] lines before after best i a b e l ea eb = refl
  best_is (t ∷ ts) lines before after best i a b e l ea eb =
      go (smaller a b (accepted_by t h m) (words_for t h m)) refl (best_is ts lines (before ++ line_of t m h) after)
    where
      from_here : lines ≡ before ++ (line_of t m h ++ (lines_of ts m h ++ after))
      from_here = e ∙ ap (λ (xs : List ℕ). before ++ xs) (append_assoc (line_of t m h) (lines_of ts m h) after)

      further : lines ≡ (before ++ line_of t m h) ++ (lines_of ts m h ++ after)
      further = from_here ∙ sym (append_assoc before (line_of t m h) (lines_of ts m h ++ after))

      long : length (before ++ line_of t m h) ≡ line_width * suc i
      long =
          length-append before (line_of t m h)
          ∙ omega (arith, l, line_long (table_says t) t.built.symbols m h few)

      accepted : accepted_at lines i ≡ accepted_by t h m
      accepted =
          ap (λ (xs : List ℕ). accepted_at xs i) from_here
          ∙ accepted_there t m h few i before (lines_of ts m h ++ after) l

      words : words_at lines i ≡ words_for t h m
      words =
          ap (λ (xs : List ℕ). words_at xs i) from_here
          ∙ words_there t m h few i before (lines_of ts m h ++ after) l

      go :
          (z : Bool) → smaller a b (accepted_by t h m) (words_for t h m) ≡ z
          → ((best i a b : ℕ) → lines ≡ (before ++ line_of t m h) ++ (lines_of ts m h ++ after)
          → length (before ++ line_of t m h) ≡ line_width * i
          → accepted_at lines best ≡ a
          → words_at lines best ≡ b
          → suc (best_in (length ts) best i lines) ≡ greatest_from (suc best) a b (suc i) ts m h)
          → suc (best_in (suc (length ts)) best i lines) ≡ greatest_from (suc best) a b (suc i) (t ∷ ts) m h
      go true z next =
          rw (ea, eb, accepted, words, z, best_in, greatest_from)
          (next i (suc i) (accepted_by t h m) (words_for t h m) further long accepted words)
      go false z next =
          rw (ea, eb, accepted, words, z, best_in, greatest_from) (next best (suc i) a b further long ea eb)

pub greatest_is :
    (ts : List Tables) (m h count : ℕ) → m ≤ most_listed_events → length ts ≡ count → 1 ≤ count
    → greatest_in count (filled (line_width * most_tables) (lines_of ts m h)) ≡ greatest_of ts m h
unfolding greatest_of
greatest_is [] m h count few e l = absurd (omega arith)
greatest_is (t ∷ ts) m h count few e l =
    let after : List ℕ = zeros (line_width * most_tables - length (lines_of (t ∷ ts) m h)) in
    let lines : List ℕ = filled (line_width * most_tables) (lines_of (t ∷ ts) m h) in
    let one_less : count - 1 ≡ length ts = omega (arith, e) in
    let split : lines ≡ line_of t m h ++ (lines_of ts m h ++ after) =
    append_assoc (line_of t m h) (lines_of ts m h) after in
    ap (λ (n : ℕ). suc (best_in n 0 1 lines)) one_less
    ∙ best_is m h few ts lines (line_of t m h) after 0 1 (accepted_by t h m) (words_for t h m) split
    (line_long (table_says t) t.built.symbols m h few)
    (ap (λ (xs : List ℕ). accepted_at xs 0) split ∙ accepted_there t m h few 0 [] (lines_of ts m h ++ after) refl)
    (ap (λ (xs : List ℕ). words_at xs 0) split ∙ words_there t m h few 0 [] (lines_of ts m h ++ after) refl)
