-- Marks and their span: one code more, none, and a row looked at code by code.
use mathlib.Core.Path.{◌≡◌, refl, sym, ◌∙◌, ap}
use mathlib.Core.Bool.{true, false, ◌&&◌, ◌||◌}
use mathlib.Core.List.{List, [], ◌∷◌}
use Prim.Native.Nat.{ℕ, suc, min, max, ◌+◌, ◌/◌, ◌^◌, ◌≤◌, ◌<◌}
use native.Mathlib.Omega.{arith}
use native.Mathlib.Numerals.{add-one}
use lib.Dec.{eqb, ltb}
use lib.ListN.{length, get_or, drop, length-set}
use lib.Seq.{drop-cons, drop-length, get_or-set_other}
use borrow.Author.Tests.{eqb-true}
use Rattle.model.specs.Basics.{is_in, zeros}
use Rattle.model.specs.Construction.{with_code}
use Rattle.model.specs.Tables.{scratch_bits}
use Rattle.model.proofs.Logic.{by_test, zeros_at, or_none, no_way}
use Rattle.model.proofs.RowsKeep.{with_ascends}
use Rattle.bits.specs.declared.Span.{Span}
use Rattle.bits.specs.Bits.{all_marked, marked, codes_in, CanMark, MarksAre}
use Rattle.bits.proofs.Sets.{codes_rise, codes_are, codes_set, codes_zeros, in_with, asc_same, with_bit}
use Rattle.bits.proofs.Laying.{codes_few}
use Rattle.std.specs.List.{list_all}

-- no marks
pub no_codes : (n : ℕ) → codes_in (zeros n) ≡ []
unfolding codes_in
no_codes n = codes_zeros 0 n

pub no_marks :
    (marks : List ℕ) → marks ≡ zeros (length marks)
    → MarksAre [] marks (record { low = length marks; past = 0; count = 0 })
no_marks marks e =
    let none : codes_in marks ≡ [] = ap codes_in e ∙ no_codes (length marks) in
    record {
      codes_are = none;
      in_span = record {
        none_below = λ k l. ap (λ (x : List ℕ). get_or x k 0) e ∙ zeros_at (length marks) k;
        none_past = λ k l. ap (λ (x : List ℕ). get_or x k 0) e ∙ zeros_at (length marks) k;
        low_most = omega arith;
        past_most = omega arith;
        few = omega arith;
        count_is = sym (ap length none);
      };
    }

-- a code that is marked is put in without a change
with_there : (c : ℕ) (marks : List ℕ) → marked marks c ≡ true → with_code c (codes_in marks) ≡ codes_in marks
unfolding codes_in
with_there c marks h =
    asc_same 0 (with_code c (codes_in marks)) (codes_in marks)
    (with_ascends 0 c (codes_in marks) (omega arith) (codes_rise 0 marks))
    (codes_rise 0 marks) (λ x. in_with c x (codes_in marks) ∙ there x)
  where
    there : (x : ℕ) → (is_in x (codes_in marks) || eqb x c) ≡ is_in x (codes_in marks)
    there x =
        by_test (eqb x c)
        (λ e.
        let m : is_in x (codes_in marks) ≡ true =
        ap (λ (y : ℕ). is_in y (codes_in marks)) (eqb-true x c e) ∙ (codes_are marks c ∙ h) in
        rw m)
        (λ e. rw e (or_none (is_in x (codes_in marks))))

pub marked_again :
    {marks : List ℕ} {span : Span} {code : ℕ} → CanMark marks span code → marked marks code ≡ true
    → MarksAre (with_code code (codes_in marks)) marks span
marked_again {marks} {span} {code} can h =
    record { codes_are = sym (with_there code marks h); in_span = can.in_span }

-- one that is not is one more
with_longer : (x : ℕ) (ys : List ℕ) → is_in x ys ≡ false → length (with_code x ys) ≡ suc (length ys)
with_longer x [] h = refl
with_longer x (y ∷ ys) h =
    by_test (eqb x y) (λ e. no_way (sym h ∙ rw e))
    (λ e.
    let on : length (with_code x ys) ≡ suc (length ys) = with_longer x ys (rw e at h) in
    by_test (ltb x y) (λ g. rw (e, with_code, g)) (λ g. rw (e, with_code, g) (omega (arith, on))))

-- Of a code that was not marked: the span takes its number in, and one code more is counted.
module _ {marks : List ℕ} {span : Span} {code : ℕ} (can : CanMark marks span code) where
  pub count_fits : span.count < 2 ^ 32
  count_fits = omega (arith, can.in_span.count_is, codes_few can.in_span)

  longer : marked marks code ≡ false → span.count + 1 ≡ length (with_code code (codes_in marks))
  longer m =
      let l : length (with_code code (codes_in marks)) ≡ suc (length (codes_in marks)) =
      with_longer code (codes_in marks) (codes_are marks code ∙ m) in
      omega (arith, can.in_span.count_is)

  abbrev at : ℕ
  at = code / scratch_bits

  pub mark_does :
      (low past count : ℕ) → marked marks code ≡ false → low ≡ min span.low at
      → past ≡ max span.past (at + 1)
      → count ≡ span.count + 1
      → MarksAre (with_code code (codes_in marks)) (with_bit marks code)
      (record { low = low; past = past; count = count })
  mark_does low past count m is_low is_past is_count =
      let codes : codes_in (with_bit marks code) ≡ with_code code (codes_in marks) =
      codes_set marks code can.code_below in
      record {
        codes_are = codes;
        in_span = record {
          none_below =
              λ k l. get_or-set_other marks at k _ 0 (λ q. omega (arith, is_low))
              ∙ can.in_span.none_below k (omega (arith, is_low));
          none_past =
              λ k l. get_or-set_other marks at k _ 0 (λ q. omega (arith, is_past))
              ∙ can.in_span.none_past k (omega (arith, is_past));
          low_most = rw (length-set marks at) (omega (arith, is_low, can.in_span.low_most));
          past_most = rw (length-set marks at) (omega (arith, is_past, can.in_span.past_most, can.code_below));
          few = omega (arith, is_past, can.in_span.few, can.code_most);
          count_is = is_count ∙ (longer m ∙ sym (ap length codes));
        };
      }

-- a row code by code
pub row_asked : (marks row : List ℕ) → list_all (λ x. marked marks x) row ≡ all_marked marks row
row_asked marks [] = refl
row_asked marks (x ∷ xs) = ap (λ t. marked marks x && t) (row_asked marks xs)

-- A row code by code: what is asked of the rest is asked of the whole.
rest_head :
    (marks row : List ℕ) (j : ℕ) → j < length row
    → all_marked marks (drop j row) ≡ (marked marks (get_or row j 0) && all_marked marks (drop (j + 1) row))
rest_head marks row j h = rw (drop-cons row j 0 h, add-one j)

pub rest_end : (marks row : List ℕ) (j : ℕ) → length row ≤ j → j ≤ length row → all_marked marks (drop j row) ≡ true
rest_end marks row j h g = let e : j ≡ length row = omega arith in rw (e, drop-length row)

module _
    (marks row : List ℕ) (j code : ℕ) (inv : all_marked marks (drop j row) ≡ all_marked marks row)
    (h : j < length row) (e : code ≡ get_or row j 0) where
  pub none_there : marked marks code ≡ false → false ≡ all_marked marks row
  none_there m =
      let n : marked marks (get_or row j 0) ≡ false = sym (ap (marked marks) e) ∙ m in
      sym (sym inv ∙ (rest_head marks row j h ∙ rw n))

  pub one_there : marked marks code ≡ true → all_marked marks (drop (j + 1) row) ≡ all_marked marks row
  one_there m =
      let n : marked marks (get_or row j 0) ≡ true = sym (ap (marked marks) e) ∙ m in
      sym (rest_head marks row j h ∙ rw n) ∙ inv
