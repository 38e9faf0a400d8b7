-- An accepted file spells a valid rule, and is that rule's file, without a ceiling or with one.
use mathlib.Core.Path.{◌≡◌, refl, sym, ◌∙◌, ap}
use mathlib.Core.Bool.{true, false, not}
use mathlib.Core.List.{List, [], ◌∷◌, ◌++◌, append-nil, append_assoc}
use Prim.Native.Nat.{ℕ, ◌+◌, ◌-◌, ◌*◌, ◌/◌, ◌≤◌}
use native.Mathlib.Omega.{arith}
use lib.Dec.{ltb}
use lib.ListN.{length, drop}
use borrow.Author.Tests.{ltb-false, leb-true, le-leb, not-false}
use Rattle.model.specs.Basics.{all_below, fine, refuse, Refusal}
use Rattle.model.specs.Rules.{Edge, Rule, pair_count, most_pairs, most_constant, kinds_rise, valid_rule}
use Rattle.model.specs.Files.{number_at, body_length, kind_of, body_of, edge_from, no_rule, seen_sizes, with_sizes}
use Rattle.model.specs.Files.{with_initial, with_final, with_edge, with_record, at_end, read_rule, numbers}
use Rattle.model.specs.Files.{ceiling_record, edge_record, edge_records, file_with, rule_bytes}
use Rattle.model.specs.Files.{ceiling_bytes, less_ceiling, has_ceiling}
use Rattle.model.specs.Demands.{SameBytes, SpellsValid, Writing, plain, ceiled, OnlyWritten}
use Rattle.model.proofs.Logic.{no_way}
use Rattle.model.proofs.Refusals.{refused_false, first_passes, then_passes}
use Rattle.model.proofs.Valid.{valid_parts}
use Rattle.model.proofs.ValidParts.{parts_valid}
use Rattle.model.proofs.Bytes.{numbers_of_length, all_below_drop}
use Rattle.model.proofs.FileSteps.{record_length, rule_after, bytes_after, read_on, of_every_reading, read_all}
use Rattle.model.proofs.FileRecords.{SizesAllowed, EdgeAllowed, Allowed, sizes, initial, final, ceiling, edge}
use Rattle.model.proofs.FileChecks.{RecordAllowed, record_allowed}
use Rattle.model.proofs.FileWrites.{writes_initial, writes_final, writes_ceiling, writes_edge, three_numbers}
use Rattle.model.proofs.FileWrites.{four_numbers, record_again}
use Rattle.model.proofs.FileLess.{less_plain, less_ceiled, plain_has_none, ceiled_has_one}
use Rattle.model.proofs.FileSoFar.{SoFar, sizes_so_far, with_edge_lem, sizes_once, record_so_far}

-- new bytes are old ones and a part, which stands before the rest
joined :
    (new old part rest s : List ℕ) → new ≡ old ++ part → part ++ rest ≡ s → new ++ rest ≡ old ++ s
joined new old part rest s p q = rw p (append_assoc old part rest ∙ ap (λ (l : List ℕ). old ++ l) q)

-- a record of one number
one_number :
    (s : List ℕ) (kind : ℕ) → all_below 256 s ≡ true → record_length s ≤ length s → body_length s ≡ 2
    → kind_of s ≡ kind
    → numbers (2 ∷ kind ∷ number_at 0 (body_of s) ∷ []) ++ bytes_after s ≡ s
one_number s kind b whole long k =
    ap (λ (n : ℕ). numbers (n ∷ kind ∷ number_at 0 (body_of s) ∷ []) ++ bytes_after s) (sym long)
    ∙ record_again s 1 kind (number_at 0 (body_of s) ∷ []) b whole long k refl

-- a record of an edge
edge_again :
    (last kind : ℕ) (r : Rule) (s : List ℕ) → all_below 256 s ≡ true → record_length s ≤ length s → kind_of s ≡ kind
    → EdgeAllowed last kind r (body_length s) (body_of s)
    → edge_record (edge_from kind (body_length s) (body_of s)) ++ bytes_after s ≡ s
edge_again last kind r s b whole k a =
    let n : ℕ = body_length s in
    let m : ℕ = (n - 8) / 2 in
    let e : Edge = edge_from kind n (body_of s) in
    let count : length e.text ≡ m = numbers_of_length m (drop 8 (body_of s)) in
    let long : n ≡ 2 * (4 + m) = omega (arith, a.length_least, a.length_even) in
    let size : 8 + 2 * length e.text ≡ n = omega (arith, a.length_least, a.length_even) in
    let vs : List ℕ = e.source ∷ e.target ∷ e.symbol ∷ e.resets ∷ e.text in
    ap (λ (j : ℕ). numbers (j ∷ kind ∷ vs) ++ bytes_after s) size
    ∙ record_again s (4 + m) kind vs b whole long k (four_numbers m (body_of s))

-- the rule after a record, by its kind
after_kind : (r : Rule) (s : List ℕ) (k : ℕ) → kind_of s ≡ k
    → rule_after r s ≡ with_record r k (body_length s) (body_of s)
after_kind r s k e = ap (λ (j : ℕ). with_record r j (body_length s) (body_of s)) e

-- What may stand between locations and edges of a file once a record of kind `last` has been read: nothing or, from
-- kind 4 on, a ceiling.
data Between (last : ℕ) (between : List ℕ) : Type 0 where
  nothing : between ≡ [] → Between last between
  one : (c : ℕ) → 4 ≤ last → c ≤ most_constant → between ≡ ceiling_record c → Between last between

nothing_yet : (last : ℕ) (between : List ℕ) → Between last between → last ≤ 3 → between ≡ []
nothing_yet last between (nothing e) h = e
nothing_yet last between (one c seen most e) h = absurd (omega arith)

still_between : (last kind : ℕ) (between : List ℕ) → 4 ≤ kind → Between last between → Between kind between
still_between last kind between h (nothing e) = nothing e
still_between last kind between h (one c seen most e) = one c h most e

-- The file so far and the bytes left are, before and after a record, the same bytes.
record ReadPast (r : Rule) (between s : List ℕ) : Type 0 where
  now_between : List ℕ
  may_stand : Between (kind_of s) now_between
  same : file_with now_between (rule_after r s) ++ bytes_after s ≡ file_with between r ++ s

-- a record past the sizes
module _
    (last : ℕ) (r : Rule) (was : SoFar last r) (between : List ℕ) (stands : Between last between) (s : List ℕ)
    (b : all_below 256 s ≡ true)
  where
    adds :
        (after : List ℕ) (q : Rule) (part : List ℕ) → rule_after r s ≡ q
        → file_with after q ≡ file_with between r ++ part
        → part ++ bytes_after s ≡ s
        → file_with after (rule_after r s) ++ bytes_after s ≡ file_with between r ++ s
    adds after q part e p same =
        joined (file_with after (rule_after r s)) (file_with between r) part (bytes_after s) s (ap (file_with after) e
        ∙ p)
        same

    record_read_past :
        record_length s ≤ length s → Allowed last r (kind_of s) (body_length s) (body_of s) → ReadPast r between s
    unfolding with_record
    record_read_past whole (sizes e a) = absurd (sizes_once last r was (body_length s) (body_of s) a)
    record_read_past whole (initial e a) =
        let x : ℕ = number_at 0 (body_of s) in
        let none : between ≡ [] = nothing_yet last between stands (omega (arith, a.no_fall)) in
        record {
          now_between = [];
          may_stand = nothing refl;
          same =
              adds [] (with_initial r x) (numbers (2 ∷ 2 ∷ x ∷ [])) (after_kind r s 2 e)
              (rw none (writes_initial r x (was.no_final a.no_fall) (was.no_edges (omega (arith, a.no_fall)))))
              (one_number s 2 b whole a.length_is e);
        }
    record_read_past whole (final e a) =
        let x : ℕ = number_at 0 (body_of s) in
        let none : between ≡ [] = nothing_yet last between stands (omega (arith, a.no_fall)) in
        record {
          now_between = [];
          may_stand = nothing refl;
          same =
              adds [] (with_final r x) (numbers (2 ∷ 3 ∷ x ∷ [])) (after_kind r s 3 e)
              (rw none (writes_final r x (was.no_edges (omega (arith, a.no_fall)))))
              (one_number s 3 b whole a.length_is e);
        }
    record_read_past whole (ceiling e a) =
        let c : ℕ = number_at 0 (body_of s) in
        let none : between ≡ [] = nothing_yet last between stands (omega (arith, a.no_fall, a.none_yet)) in
        record {
          now_between = ceiling_record c;
          may_stand = one c (omega (arith, e)) a.in_range refl;
          same =
              adds (ceiling_record c) r (ceiling_record c) (after_kind r s 4 e)
              (rw none (writes_ceiling r c (was.no_edges a.no_fall)))
              (one_number s 4 b whole a.length_is e);
        }
    record_read_past whole (edge low high a) =
        let k : ℕ = kind_of s in
        let f : Edge = edge_from k (body_length s) (body_of s) in
        record {
          now_between = between;
          may_stand = still_between last k between (omega arith) stands;
          same =
              adds between (with_edge r f) (edge_record f) (with_edge_lem r k (body_length s) (body_of s) low)
              (writes_edge r between f)
              (edge_again last k r s b whole refl a);
        }

-- the sizes
sizes_written :
    (body : List ℕ)
    → file_with [] (with_sizes body) ≡ numbers (6 ∷ 1 ∷ number_at 0 body ∷ number_at 1 body ∷ number_at 2 body ∷ [])
unfolding file_with edge_records
sizes_written body = refl

sizes_same_bytes :
    (r : Rule) (s : List ℕ) → all_below 256 s ≡ true → record_length s ≤ length s → kind_of s ≡ 1
    → SizesAllowed r (body_length s) (body_of s)
    → file_with [] (rule_after r s) ++ bytes_after s ≡ s
unfolding with_record
sizes_same_bytes r s b whole e a =
    let vs : List ℕ = number_at 0 (body_of s) ∷ number_at 1 (body_of s) ∷ number_at 2 (body_of s) ∷ [] in
    ap (λ (l : List ℕ). l ++ bytes_after s) (ap (file_with []) (after_kind r s 1 e) ∙ sizes_written (body_of s))
    ∙ (ap (λ (n : ℕ). numbers (n ∷ 1 ∷ vs) ++ bytes_after s) (sym a.length_is)
    ∙ record_again s 3 1 vs b whole a.length_is e (three_numbers 0 (body_of s)))

-- An accepted reading, record by record.
pub data Accepted (whole : Rule) : ℕ → Rule → List ℕ → Type 0 where
  ended :
      {last : ℕ} {r : Rule} {s : List ℕ} → length s ≡ 0 → 1 ≤ r.locations → pair_count r ≤ most_pairs → whole ≡ r
      → Accepted whole last r s
  went_on :
      {last : ℕ} {r : Rule} {s : List ℕ} → RecordAllowed last r s
      → Accepted whole (kind_of s) (rule_after r s) (bytes_after s)
      → Accepted whole last r s

end_accepted :
    (p last : ℕ) (r : Rule) (s : List ℕ) → length s ≡ 0 → (at_end p r).refused.number ≡ 0
    → Accepted (at_end p r).rule_is last r s
unfolding at_end
end_accepted p last r s e h =
    let seen : not (seen_sizes r) ≡ false =
    refused_false (not (seen_sizes r)) 2 p (first_passes (refuse (not (seen_sizes r)) 3 p) _ h) in
    let few : ltb most_pairs (pair_count r) ≡ false =
    refused_false (ltb most_pairs (pair_count r)) 7 p (then_passes (refuse (not (seen_sizes r)) 3 p) _ h) in
    ended e (leb-true 1 r.locations (not-false (seen_sizes r) seen)) (ltb-false most_pairs (pair_count r) few)
    (rw (seen, few))

pub accepted :
    (p last : ℕ) (r : Rule) (s : List ℕ) → (read_on p last r s).refused.number ≡ 0
    → Accepted (read_on p last r s).rule_is last r s
accepted =
    of_every_reading (λ p last r s x. x.refused.number ≡ 0 → Accepted x.rule_is last r s) end_accepted
    (λ p last r s x h e k z. went_on (record_allowed p last r s e) (k z))
    (λ p last r s h e z. absurd (e z))

no_bytes : (xs s : List ℕ) → length s ≡ 0 → xs ≡ xs ++ s
no_bytes xs [] e = sym (append-nil xs)
no_bytes xs (x ∷ s) e = absurd (omega arith)

-- from a rule so far on
valid_from :
    {whole : Rule} {last : ℕ} {r : Rule} {s : List ℕ} → Accepted whole last r s → SoFar last r
    → valid_rule whole ≡ true
valid_from (ended {r = r} e h few same) was = rw same (parts_valid r was.parts few)
valid_from (went_on {last = last} {r = r} {s = s} a rest) was =
    valid_from rest (record_so_far last r was (kind_of s) (body_length s) (body_of s) a.allowed)

-- the file of the whole rule, with what stands between its locations and its edges
record FileOf (whole : Rule) (file : List ℕ) : Type 0 where
  between : List ℕ
  stands : Between 5 between
  same : file_with between whole ≡ file

bytes_from :
    {whole : Rule} {last : ℕ} {r : Rule} {s : List ℕ} → Accepted whole last r s → SoFar last r → (between : List ℕ)
    → Between last between
    → all_below 256 s ≡ true
    → FileOf whole (file_with between r ++ s)
bytes_from (ended {last = last} {r = r} {s = s} e h few same) was between stands b = record {
  between = between;
  stands = still_between last 5 between (omega arith) stands;
  same = ap (file_with between) same ∙ no_bytes (file_with between r) s e;
}
bytes_from (went_on {last = last} {r = r} {s = s} a rest) was between stands b =
    let past : ReadPast r between s = record_read_past last r was between stands s b a.whole a.allowed in
    rw past.same
    at (bytes_from rest (record_so_far last r was (kind_of s) (body_length s) (body_of s) a.allowed)
    past.now_between past.may_stand
    (all_below_drop 256 (record_length s) s b))

-- from the start on: the first record has the sizes
first_is_sizes :
    (last : ℕ) (r : Rule) (kind n : ℕ) (body : List ℕ) → r.locations ≡ 0 → Allowed last r kind n body
    → (kind ≡ 1) × SizesAllowed r n body
first_is_sizes last r kind n body none (sizes e a) = (e, a)
first_is_sizes last r kind n body none (initial e a) = absurd (omega (arith, a.sizes_seen))
first_is_sizes last r kind n body none (final e a) = absurd (omega (arith, a.sizes_seen))
first_is_sizes last r kind n body none (ceiling e a) = absurd (omega (arith, a.sizes_seen))
first_is_sizes last r kind n body none (edge low high a) = absurd (omega (arith, a.sizes_seen))

first_so_far :
    (r : Rule) (kind n : ℕ) (body : List ℕ) → kind ≡ 1 → SizesAllowed r n body → SoFar kind (with_record r kind n body)
unfolding with_record
first_so_far r kind n body e a = rw e (sizes_so_far r n body a)

valid_whole :
    {whole : Rule} {last : ℕ} {r : Rule} {s : List ℕ} → Accepted whole last r s → r.locations ≡ 0
    → valid_rule whole ≡ true
valid_whole (ended e h few same) none = absurd (omega arith)
valid_whole (went_on {last = last} {r = r} {s = s} a rest) none =
    let first = first_is_sizes last r (kind_of s) (body_length s) (body_of s) none a.allowed in
    valid_from rest (first_so_far r (kind_of s) (body_length s) (body_of s) first.0 first.1)

bytes_whole :
    {whole : Rule} {last : ℕ} {r : Rule} {s : List ℕ} → Accepted whole last r s → r.locations ≡ 0
    → all_below 256 s ≡ true
    → FileOf whole s
bytes_whole (ended e h few same) none b = absurd (omega arith)
bytes_whole (went_on {last = last} {r = r} {s = s} a rest) none b =
    let first = first_is_sizes last r (kind_of s) (body_length s) (body_of s) none a.allowed in
    rw (sizes_same_bytes r s b a.whole first.0 first.1)
    at (bytes_from rest (first_so_far r (kind_of s) (body_length s) (body_of s) first.0 first.1) [] (nothing refl)
    (all_below_drop 256 (record_length s) s b))

file_accepted : (file : List ℕ) → (read_rule file).refused ≡ fine → Accepted (read_rule file).rule_is 0 no_rule file
file_accepted file h =
    rw (read_all file) (accepted 0 0 no_rule file (ap (λ (x : Refusal). x.number) (rw (read_all file) at h)))

pub spells_valid : SpellsValid
spells_valid file h = valid_whole (file_accepted file h) refl

kinds_spelt :
    (file : List ℕ) → (read_rule file).refused ≡ fine → kinds_rise 5 (read_rule file).rule_is.edges ≡ true
kinds_spelt file h = (valid_parts (read_rule file).rule_is (spells_valid file h)).kinds_rise

-- what it is by its bytes, and less its ceiling
is_writing :
    (r : Rule) (file between : List ℕ) → kinds_rise 5 r.edges ≡ true → Between 5 between → file_with between r ≡ file
    → Writing r file
unfolding rule_bytes ceiling_bytes
is_writing r file between rise (nothing e) same =
    let f : file ≡ rule_bytes r = sym same ∙ rw e in
    plain (ap has_ceiling f ∙ plain_has_none r rise) f
is_writing r file between rise (one c seen most e) same =
    let f : file ≡ ceiling_bytes c r = sym same ∙ rw e in
    ceiled c (le-leb c most_constant most) (ap has_ceiling f ∙ ceiled_has_one c r) f

pub only_written : OnlyWritten
only_written file b h =
    let whole : FileOf (read_rule file).rule_is file = bytes_whole (file_accepted file h) refl b in
    is_writing (read_rule file).rule_is file whole.between (kinds_spelt file h) whole.stands whole.same

less_writing :
    (r : Rule) (file : List ℕ) → kinds_rise 5 r.edges ≡ true → Writing r file → rule_bytes r ≡ less_ceiling file
less_writing r file rise (plain none f) = sym (less_plain r rise) ∙ ap less_ceiling (sym f)
less_writing r file rise (ceiled c most has f) = sym (less_ceiled c r rise) ∙ ap less_ceiling (sym f)

pub less_bytes :
    (file : List ℕ) → all_below 256 file ≡ true → (read_rule file).refused ≡ fine
    → rule_bytes (read_rule file).rule_is ≡ less_ceiling file
less_bytes file b h = less_writing (read_rule file).rule_is file (kinds_spelt file h) (only_written file b h)

same_writing : (r : Rule) (file : List ℕ) → Writing r file → has_ceiling file ≡ false → rule_bytes r ≡ file
same_writing r file (plain none f) h = sym f
same_writing r file (ceiled c most has f) h = no_way (sym h ∙ has)

pub same_bytes : SameBytes
same_bytes file b h none = same_writing (read_rule file).rule_is file (only_written file b h) none
