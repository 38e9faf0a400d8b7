-- Which numbers each check can give: the reader 1 to 8, the tables' room 22 to 24, a word 30 to 33, shares of a batch
-- 25, 38, 40 and 43.
use mathlib.Core.Path.{◌≡◌, refl}
use mathlib.Core.Bool.{Bool, true, false, not, ◌||◌}
use mathlib.Core.List.{List, [], ◌∷◌}
use Prim.Native.Nat.{ℕ, zero, suc, ◌+◌, ◌≤◌, ◌<◌}
use native.Mathlib.Omega.{arith}
use lib.Dec.{eqb, ltb, leb}
use lib.ListN.{length}
use borrow.Author.Tests.{ne_eqb}
use Rattle.model.specs.declared.Batch.{Batch}
use Rattle.model.specs.Basics.{within, is_in, Refusal, fine, refuse, passes, ◌⨾◌}
use Rattle.model.specs.Rules.{Rule, pair_count, most_pairs}
use Rattle.model.specs.Words.{Event, events_of, grain_ok, event_refusal, events_refusal, word_refusal}
use Rattle.model.specs.Files.{no_rule, seen_sizes, body_length, kind_of, body_of, record_refusal, cut_short, body_ok}
use Rattle.model.specs.Files.{out_of_order, one_too_many, bad_sizes, out_of_range, not_pinned, at_end, read_from}
use Rattle.model.specs.Files.{read_rule}
use Rattle.model.specs.Construction.{rows_of}
use Rattle.model.specs.Tables.{Tables, row_room, fit_refusal, scratch_need, table_refusal}
use Rattle.model.specs.Walks.{in_shape}
use Rattle.model.specs.Lists.{span_ok}
use Rattle.model.specs.Shares.{words_for, batch_of, most_tables, most_words, tables_refusal, shares_refusal}
use Rattle.model.proofs.Logic.{by_test}

-- a refusal is none, or has a number from low to high
pub data Among (low high : ℕ) (f : Refusal) : Type 0 where
  none : f ≡ fine → Among low high f
  some : low ≤ f.number → f.number ≤ high → Among low high f

pub among_refuse : {low high : ℕ} (test : Bool) (n p : ℕ) → low ≤ n → n ≤ high → Among low high (refuse test n p)
among_refuse true n p a b = some a b
among_refuse false n p a b = none refl

pub among_then : {low high : ℕ} (f g : Refusal) → Among low high f → Among low high g → Among low high (f ⨾ g)
among_then {low} {high} f g (none e) b = rw e b
among_then {low} {high} f g (some l h) b =
    by_test (eqb f.number 0) (λ e. rw e b) (λ e. rw e (some l h))

-- none of the numbers from low to high: no refusal at all
pub among_none : {low high : ℕ} (f : Refusal) → Among low high f → (low ≤ f.number → f.number ≤ high → ⊥) → f ≡ fine
among_none f (none e) h = e
among_none f (some l m) h = absurd (h l m)

-- a number that is 0 is no refusal, where 0 is not among the numbers
pub among_zero : {low high : ℕ} (f : Refusal) → 1 ≤ low → Among low high f → f.number ≡ 0 → f ≡ fine
among_zero f p (none e) h = e
among_zero f p (some l m) h = absurd (omega arith)

-- a number below them, not 0, is never met
pub among_never :
    {low high : ℕ} (f : Refusal) (n : ℕ) → Among low high f → 1 ≤ n → n < low → eqb f.number n ≡ false
among_never f n (none e) p q = rw e (ne_eqb 0 n (λ m. omega arith))
among_never f n (some l h) p q = ne_eqb f.number n (λ m. omega arith)

-- the reader
record_numbers : (p last : ℕ) (r : Rule) (s : List ℕ) → Among 1 8 (record_refusal p last r s)
unfolding record_refusal
record_numbers p last r s =
    among_then (refuse (cut_short s) 1 p) _ (among_refuse (cut_short s) 1 p (omega arith) (omega arith))
    (among_then (refuse (not (body_ok (kind_of s) (body_length s))) 2 p) _
    (among_refuse (not (body_ok (kind_of s) (body_length s))) 2 p (omega arith) (omega arith))
    (among_then (refuse (out_of_order last r (kind_of s) (body_of s)) 3 p) _
    (among_refuse (out_of_order last r (kind_of s) (body_of s)) 3 p (omega arith) (omega arith))
    (among_then (refuse (one_too_many r (kind_of s)) 4 p) _
    (among_refuse (one_too_many r (kind_of s)) 4 p (omega arith) (omega arith))
    (among_then (refuse (bad_sizes (kind_of s) (body_of s)) 5 p) _
    (among_refuse (bad_sizes (kind_of s) (body_of s)) 5 p (omega arith) (omega arith))
    (among_then (refuse (out_of_range r (kind_of s) (body_length s) (body_of s)) 6 p) _
    (among_refuse (out_of_range r (kind_of s) (body_length s) (body_of s)) 6 p (omega arith) (omega arith))
    (among_refuse (not_pinned (kind_of s) (body_length s) (body_of s)) 7 p (omega arith) (omega arith)))))))

end_numbers : (p : ℕ) (r : Rule) → Among 1 8 (at_end p r).refused
unfolding at_end
end_numbers p r =
    among_then (refuse (not (seen_sizes r)) 3 p) _ (among_refuse (not (seen_sizes r)) 3 p (omega arith) (omega arith))
    (among_refuse (ltb most_pairs (pair_count r)) 8 p (omega arith) (omega arith))

from_numbers : (fuel p last : ℕ) (r : Rule) (s : List ℕ) → Among 1 8 (read_from fuel p last r s).refused
unfolding read_from
from_numbers zero p last r s = end_numbers p r
from_numbers (suc fuel) p last r s =
    by_test (eqb (length s) 0) (λ e. rw (e, read_from) (end_numbers p r))
    (λ e.
    by_test (passes (record_refusal p last r s))
    (λ q. rw (e, read_from, q) (from_numbers fuel _ _ _ _))
    (λ q. rw (e, read_from, q) (record_numbers p last r s)))

pub read_numbers : (file : List ℕ) → Among 1 8 (read_rule file).refused
unfolding read_rule
read_numbers file = from_numbers (suc (length file)) 0 0 no_rule file

-- the room for the tables
fit_numbers : (n room used pool : ℕ) (rows : List (List ℕ)) → Among 22 24 (fit_refusal n room used pool rows)
unfolding fit_refusal
fit_numbers n room used pool [] = none refl
fit_numbers n room used pool (x ∷ xs) =
    by_test (leb room n) (λ e. rw (e, fit_refusal) (some (omega arith) (omega arith)))
    (λ e.
    by_test (ltb pool (used + length x)) (λ q. rw (e, fit_refusal, q) (some (omega arith) (omega arith)))
    (λ q. rw (e, fit_refusal, q) (fit_numbers (suc n) room (used + length x) pool xs)))

room_numbers :
    (r : Rule) (scratch cells rows pool : ℕ) (found : List (List ℕ))
    → Among 22 24 (refuse (ltb scratch (scratch_need r)) 22 0 ⨾ fit_refusal 0 (row_room r cells rows) 0 pool found)
room_numbers r scratch cells rows pool found =
    among_then (refuse (ltb scratch (scratch_need r)) 22 0) _
    (among_refuse (ltb scratch (scratch_need r)) 22 0 (omega arith) (omega arith))
    (fit_numbers 0 (row_room r cells rows) 0 pool found)

pub table_numbers : (r : Rule) (scratch cells rows pool : ℕ) → Among 22 24 (table_refusal r scratch cells rows pool)
unfolding table_refusal
table_numbers r scratch cells rows pool = room_numbers r scratch cells rows pool (rows_of r)

-- a word
event_numbers : (s i last : ℕ) (v : Event) → Among 30 33 (event_refusal s i last v)
event_numbers s i last v =
    among_then (refuse (leb s v.symbol) 32 i) _ (among_refuse (leb s v.symbol) 32 i (omega arith) (omega arith))
    (among_refuse (ltb v.stamp last) 33 i (omega arith) (omega arith))

events_numbers : (s i last : ℕ) (vs : List Event) → Among 30 33 (events_refusal s i last vs)
events_numbers s i last [] = none refl
events_numbers s i last (v ∷ vs) =
    by_test (passes (event_refusal s i last v)) (λ e. rw (e, events_refusal) (events_numbers s (suc i) v.stamp vs))
    (λ e. rw (e, events_refusal) (event_numbers s i last v))

pub word_numbers : (s d most : ℕ) (xs ts : List ℕ) → Among 30 33 (word_refusal s d most xs ts)
unfolding word_refusal
word_numbers s d most xs ts =
    among_then (refuse (not (grain_ok d)) 30 0) _ (among_refuse (not (grain_ok d)) 30 0 (omega arith) (omega arith))
    (among_then (refuse (not (eqb (length xs) (length ts)) || ltb most (length xs)) 31 0) _
    (among_refuse (not (eqb (length xs) (length ts)) || ltb most (length xs)) 31 0 (omega arith) (omega arith))
    (events_numbers s 1 0 (events_of xs ts)))

-- shares of a batch: 0 or one of four
abbrev pub share_numbers : List ℕ
share_numbers = 0 ∷ 25 ∷ 38 ∷ 40 ∷ 43 ∷ []

one_refuse :
    (ns : List ℕ) (test : Bool) (n p : ℕ) → is_in 0 ns ≡ true → is_in n ns ≡ true
    → is_in (refuse test n p).number ns ≡ true
one_refuse ns true n p z h = h
one_refuse ns false n p z h = z

one_then :
    (ns : List ℕ) (f g : Refusal) → is_in f.number ns ≡ true → is_in g.number ns ≡ true
    → is_in (f ⨾ g).number ns ≡ true
one_then ns f g a b = by_test (passes f) (λ e. rw e b) (λ e. rw e a)

tables_numbers :
    (i : ℕ) (ts : List Tables) (m h : ℕ) → is_in (tables_refusal i ts m h).number share_numbers ≡ true
tables_numbers i [] m h = refl
tables_numbers i (t ∷ ts) m h =
    one_then share_numbers (refuse (not (in_shape t)) 25 i) _ (one_refuse share_numbers (not (in_shape t)) 25 i refl
    refl)
    (one_then share_numbers (refuse (ltb most_words (words_for t h m)) 43 i) _
    (one_refuse share_numbers (ltb most_words (words_for t h m)) 43 i refl refl)
    (tables_numbers (suc i) ts m h))

pub shares_numbers :
    (x : Batch) (cells rows pool : List ℕ) (m h : ℕ)
    → is_in (shares_refusal x cells rows pool m h).number share_numbers ≡ true
unfolding shares_refusal
shares_numbers x cells rows pool m h =
    let few : Bool = within 1 most_tables x.count in
    one_then share_numbers (refuse (not few) 40 0) _ (one_refuse share_numbers (not few) 40 0 refl refl)
    (one_then share_numbers (refuse (not (span_ok m h)) 38 0) _
    (one_refuse share_numbers (not (span_ok m h)) 38 0 refl refl)
    (tables_numbers 1 (batch_of x cells rows pool) m h))
