-- Codes laid into a lent table one after another; the loops over the numbers that hold the bits.
use mathlib.Core.Path.{◌≡◌, refl, sym, ◌∙◌, ap, ap₂}
use mathlib.Core.List.{List, [], ◌∷◌, ◌++◌, append_assoc, append-nil}
use Prim.Native.Nat.{ℕ, zero, suc, min, ◌+◌, ◌-◌, ◌*◌, ◌/◌, ◌%◌, ◌^◌, ◌≤◌, ◌<◌}
use native.Mathlib.Omega.{arith}
use native.Mathlib.Nat.{mod-eq_of_lt}
use lib.Pow.{pow-lt}
use native.Mathlib.Numerals.{add-one}
use lib.ListN.{length, get_or, set, take, drop, length-append, length-set, take-append-drop}
use lib.ListN.{replicate-append-replicate}
use lib.Count.{count_trailing_zeros}
use lib.Seq.{drop-length, get_or-set_same, get_or-set_other}
use borrow.Rule.Slice.PartMut.{put_mid, post_of, Post-is}
use Rattle.model.specs.Basics.{zeros}
use Rattle.model.specs.Rules.{most_pairs}
use Rattle.model.specs.Tables.{most_scratch}
use Rattle.model.proofs.Logic.{two, less, least}
use Rattle.numbers.specs.Lent.{laid}
use Rattle.numbers.proofs.Laid.{laid_none, laid_set, laid_join}
use Rattle.bits.specs.declared.Span.{Span}
use Rattle.bits.specs.Bits.{number_codes, codes_from, codes_in, InSpan}
use Rattle.bits.proofs.Bitwise.{low, even, odd, number_even, number_odd, number_zero, Lowest}
use Rattle.bits.proofs.Sets.{codes_to, codes_next, codes_append, codes_zeros}

-- places that hold zero
pub zero_front : (i : ℕ) (m : List ℕ) → i ≤ length m → ((k : ℕ) → k < i → get_or m k 0 ≡ 0) → take i m ≡ zeros i
zero_front zero m h z = refl
zero_front (suc i) [] h z = absurd (omega arith)
zero_front (suc i) (x ∷ m) h z =
    let x_zero : x ≡ 0 = z 0 (omega arith) in
    rw (x_zero, zero_front i m (omega arith) (λ k l. z (suc k) (omega arith)))

pub zero_back : (i : ℕ) (m : List ℕ) → ((k : ℕ) → i ≤ k → get_or m k 0 ≡ 0) → drop i m ≡ zeros (length m - i)
zero_back zero [] z = refl
zero_back zero (x ∷ m) z =
    let x_zero : x ≡ 0 = z 0 (omega arith) in
    let on : m ≡ zeros (length m - 0) = zero_back zero m (λ k l. z (suc k) (omega arith)) in
    let a : length m - 0 ≡ length m = omega arith in
    let b : suc (length m) - 0 ≡ suc (length m) = omega arith in
    rw (x_zero, b) (ap (λ (l : List ℕ). 0 ∷ l) (rw a at on))
zero_back (suc i) [] z = let a : 0 - suc i ≡ 0 = omega arith in rw a
zero_back (suc i) (x ∷ m) z =
    let a : suc (length m) - suc i ≡ length m - i = omega arith in
    rw a (zero_back i m (λ k l. z (suc k) (omega arith)))

-- Up to number k: nothing before `low`, all by `past`.
pub none_yet : (ws : List ℕ) (span : Span) → InSpan ws span → codes_to ws span.low ≡ []
none_yet ws span s =
    let front : take span.low ws ≡ zeros span.low = zero_front span.low ws s.low_most s.none_below in
    rw front (codes_zeros 0 span.low)

pub all_by : (ws : List ℕ) (span : Span) (k : ℕ) → InSpan ws span → span.past ≤ k → codes_to ws k ≡ codes_in ws
unfolding codes_in
all_by ws span k s h =
    let back : drop k ws ≡ zeros (length ws - k) = zero_back k ws (λ j l. s.none_past j (omega arith)) in
    sym (append-nil (codes_to ws k))
    ∙ (sym (ap (λ (l : List ℕ). codes_to ws k ++ l) (codes_zeros (0 + 32 * length (take k ws)) (length ws - k)))
    ∙ (sym (ap (λ (l : List ℕ). codes_to ws k ++ codes_from (0 + 32 * length (take k ws)) l) back)
    ∙ (sym (codes_append 0 (take k ws) (drop k ws)) ∙ ap (codes_from 0) (take-append-drop k ws))))

pub length_to :
    (ws : List ℕ) (k : ℕ) → k < length ws
    → length (codes_to ws (k + 1)) ≡ length (codes_to ws k) + length (number_codes 32 (32 * k) (get_or ws k 0))
length_to ws k h =
    rw (add-one k, codes_next ws k h) (length-append (codes_to ws k) (number_codes 32 (32 * k) (get_or ws k 0)))

-- there are never more than there are in all
pub to_most : (ws : List ℕ) (k : ℕ) → length (codes_to ws k) ≤ length (codes_in ws)
unfolding codes_in
to_most ws k =
    let e : codes_from 0 ws ≡ codes_to ws k ++ codes_from (0 + 32 * length (take k ws)) (drop k ws) =
    sym (ap (codes_from 0) (take-append-drop k ws)) ∙ codes_append 0 (take k ws) (drop k ws) in
    rw e (rw (length-append (codes_to ws k) (codes_from (0 + 32 * length (take k ws)) (drop k ws))) (omega arith))

-- a number has 32 codes at most, so there are few
number_few : (n first w : ℕ) → length (number_codes n first w) ≤ n
unfolding number_codes
number_few zero first w = omega arith
number_few (suc n) first w =
    let on : length (number_codes n (suc first) (w / 2)) ≤ n = number_few n (suc first) (w / 2) in
    elim (low w) [
      | even e ↦ rw (number_even n first w e) (omega arith)
      | odd e ↦ rw (number_odd n first w e) (omega arith)
    ]

to_few : (ws : List ℕ) (k : ℕ) → k ≤ length ws → length (codes_to ws k) ≤ 32 * k
unfolding codes_from
to_few ws zero h = omega arith
to_few ws (suc k) h =
    let on : length (codes_to ws k) ≤ 32 * k = to_few ws k (omega arith) in
    let here : length (number_codes 32 (32 * k) (get_or ws k 0)) ≤ 32 = number_few 32 (32 * k) (get_or ws k 0) in
    let e : length (codes_to ws (suc k)) ≡ length (codes_to ws k) + length (number_codes 32 (32 * k) (get_or ws k 0)) =
    ap length (codes_next ws k (omega arith))
    ∙ length-append (codes_to ws k) (number_codes 32 (32 * k) (get_or ws k 0)) in
    omega arith

pub codes_few : {ws : List ℕ} {span : Span} → InSpan ws span → length (codes_in ws) ≤ most_pairs
codes_few {ws} {span} s =
    let e : codes_to ws span.past ≡ codes_in ws = all_by ws span span.past s (omega arith) in
    omega (arith, to_few ws span.past s.past_most, s.few, ap length e)

-- a bit at its place
pub shl_one_is : (k : ℕ) → k < 32 → 1 * 2 ^ k % 4294967296 ≡ 2 ^ k
shl_one_is k h =
    let p : 2 ^ k < 2 ^ 32 = pow-lt h in
    let o : 1 * 2 ^ k ≡ 2 ^ k = omega arith in
    rw o (mod-eq_of_lt p)

-- The codes of one number: those written, and those still in the rest.
pub record Writing (bits first at : ℕ) (was out : List ℕ) (rest to : ℕ) (done : List ℕ) : Type 0 where
  pub rest_fits : rest < 2 ^ 32
  pub all_are : done ++ number_codes 32 first rest ≡ number_codes 32 first bits
  pub to_is : to ≡ at + length done
  pub out_is : out ≡ laid was at done
  pub long : length out ≡ length was
  pub room : at + length (number_codes 32 first bits) ≤ length was

pub writing_start :
    (bits first at : ℕ) (was : List ℕ) → bits < 2 ^ 32 → at + length (number_codes 32 first bits) ≤ length was
    → Writing bits first at was was bits at []
writing_start bits first at was h g = record {
  rest_fits = h;
  all_are = refl;
  to_is = omega arith;
  out_is = laid_none was at;
  long = refl;
  room = g;
}

module _
    {bits first at : ℕ} {was out : List ℕ} {rest to : ℕ} {done : List ℕ}
    (w : Writing bits first at was out rest to done) (low : Lowest 32 first rest (count_trailing_zeros 32 rest)) where
  abbrev left : List ℕ
  left = number_codes 32 first (rest - 2 ^ count_trailing_zeros 32 rest)

  abbrev next : ℕ
  next = first + count_trailing_zeros 32 rest

  all_next : (done ++ (next ∷ [])) ++ left ≡ number_codes 32 first bits
  all_next =
      append_assoc done (next ∷ []) left ∙ (sym (ap (λ (l : List ℕ). done ++ l) low.codes_are) ∙ w.all_are)

  sizes : length done + suc (length left) ≡ length (number_codes 32 first bits)
  sizes =
      sym (length-append done (next ∷ left))
      ∙ ap length (sym (ap (λ (l : List ℕ). done ++ l) low.codes_are) ∙ w.all_are)

  pub writing_room : to < length out
  writing_room = omega (arith, w.to_is, w.long, w.room, sizes)

  pub writing_next :
      (v : ℕ) (rest' to' : ℕ) → v ≡ next → rest' ≡ rest - 2 ^ count_trailing_zeros 32 rest → to' ≡ to + 1
      → Writing bits first at was (set out to v) rest' to' (done ++ (next ∷ []))
  writing_next v rest' to' e f g =
      let inside : at + length done < length was = omega (arith, w.to_is, w.long, writing_room) in
      record {
        rest_fits = omega (arith, w.rest_fits, f);
        all_are = rw f all_next;
        to_is = rw (length-append done (next ∷ [])) (omega (arith, w.to_is));
        out_is =
            rw (e, w.out_is, w.to_is) (laid_set was at done (omega arith) next inside);
        long = length-set out to v ∙ w.long;
        room = w.room;
      }

pub writing_end :
    {bits first at : ℕ} {was out : List ℕ} {rest to : ℕ} {done : List ℕ} → Writing bits first at was out rest to done
    → rest ≡ 0
    → (to ≡ at + length (number_codes 32 first bits)) × (out ≡ laid was at (number_codes 32 first bits))
writing_end {bits} {first} {at} {was} {out} {rest} {to} {done} w z =
    let e : done ≡ number_codes 32 first bits =
    sym (append-nil done)
    ∙ (sym (ap (λ (l : List ℕ). done ++ l) (ap (number_codes 32 first) z ∙ number_zero 32 first)) ∙ w.all_are) in
    (w.to_is ∙ ap (λ (l : List ℕ). at + length l) e, w.out_is ∙ ap (laid was at) e)

-- The codes of the first k numbers stand in the table.
pub record Filling (ws : List ℕ) (at : ℕ) (was out : List ℕ) (to k : ℕ) : Type 0 where
  pub to_is : to ≡ at + length (codes_to ws k)
  pub out_is : out ≡ laid was at (codes_to ws k)
  pub long : length out ≡ length was
  pub room : at + length (codes_in ws) ≤ length was

filling_start :
    (ws : List ℕ) (span : Span) (at : ℕ) (was : List ℕ) → InSpan ws span → at + length (codes_in ws) ≤ length was
    → Filling ws at was was at span.low
filling_start ws span at was s h =
    let e : codes_to ws span.low ≡ [] = none_yet ws span s in
    record { to_is = rw e (omega arith); out_is = rw e (laid_none was at); long = refl; room = h }

module _ {ws : List ℕ} {at : ℕ} {was out : List ℕ} {to k : ℕ} (f : Filling ws at was out to k) where
  abbrev of_number : List ℕ
  of_number = number_codes 32 (32 * k) (get_or ws k 0)

  pub filling_room : k < length ws → to + length of_number ≤ length out
  filling_room h = omega (arith, f.to_is, f.long, f.room, length_to ws k h, to_most ws (k + 1))

  pub filling_next :
      (out' : List ℕ) (to' : ℕ) → k < length ws → to' ≡ to + length of_number → out' ≡ laid out to of_number
      → length out' ≡ length out
      → Filling ws at was out' to' (k + 1)
  filling_next out' to' h e g l =
      let inside : at + length (codes_to ws k) ≤ length was = omega (arith, f.room, to_most ws k) in
      record {
        to_is = rw (length_to ws k h) (omega (arith, e, f.to_is));
        out_is =
            g
            ∙ rw (f.to_is, f.out_is, add-one k, codes_next ws k h)
            (laid_join was at (codes_to ws k) inside of_number);
        long = l ∙ f.long;
        room = f.room;
      }

  filling_end :
      (span : Span) → InSpan ws span → span.past ≤ k
      → (to ≡ at + length (codes_in ws)) × (out ≡ laid was at (codes_in ws))
  filling_end span s h =
      let e : codes_to ws k ≡ codes_in ws = all_by ws span k s h in
      (f.to_is ∙ ap (λ (l : List ℕ). at + length l) e, f.out_is ∙ ap (laid was at) e)

-- a table that just holds the codes holds nothing else
laid_whole : (was new : List ℕ) → length was ≡ length new → laid was 0 new ≡ new
laid_whole was new e =
    let z : 0 + length new ≡ length was = omega arith in
    rw (z, drop-length was) (append-nil new)

pub filled_all :
    (span : Span) (ws was out : List ℕ) (to k past : ℕ) → InSpan ws span → length was ≡ span.count
    → past ≡ min (min span.past (length ws)) most_scratch → past ≤ k
    → (Filling ws 0 was was 0 span.low → Filling ws 0 was out to k)
    → out ≡ codes_in ws
filled_all span ws was out to k past s count p h f =
    let long : length was ≡ length (codes_in ws) = count ∙ s.count_is in
    let e : past ≡ span.past = omega (arith, p, s.past_most, s.few) in
    (filling_end (f (filling_start ws span 0 was s (omega arith))) span s (omega arith)).1
    ∙ laid_whole was (codes_in ws) long

-- The first number of a span is zero, then the others: all are.
pub all_clear :
    {was : List ℕ} {past : ℕ} (span : Span) → InSpan was span → past ≡ min span.past (length was) → span.low < past
    → put_mid (span.low + 1) (past - (span.low + 1)) (set was span.low 0) (zeros (past - (span.low + 1)))
    ≡ zeros (length was)
all_clear {was} {past} span s p h =
    let low : ℕ = span.low in
    let one : List ℕ = set was low 0 in
    let rest : ℕ = past - (low + 1) in
    let long : length one ≡ length was = length-set was low 0 in
    let front : take (low + 1) one ≡ zeros (low + 1) =
    zero_front (low + 1) one (omega (arith, p, s.past_most)) (λ k l. before k l) in
    let back : drop past one ≡ zeros (length one - past) = zero_back past one (λ k l. behind k l) in
    let there : post_of (low + 1) rest one ≡ zeros (length one - past) =
    Post-is (low + 1) past one (omega arith) ∙ back in
    let whole : zeros (low + 1) ++ (zeros rest ++ zeros (length one - past)) ≡ zeros (length was) =
    simp replicate-append-replicate (ap zeros (omega (arith, long, p, s.past_most))) in
    ap₂ (λ (a b : List ℕ). a ++ (zeros rest ++ b)) front there ∙ whole
  where
    behind : (k : ℕ) → past ≤ k → get_or (set was span.low 0) k 0 ≡ 0
    behind k l = get_or-set_other was span.low k 0 0 (λ q. omega arith) ∙ s.none_past k (omega (arith, p, s.past_most))

    before : (k : ℕ) → k < span.low + 1 → get_or (set was span.low 0) k 0 ≡ 0
    before k l =
        elim (two k span.low) [
          | less g ↦ get_or-set_other was span.low k 0 0 (λ q. omega arith) ∙ s.none_below k g
          | least g ↦
              let e : k ≡ span.low = omega arith in
              rw e (get_or-set_same was span.low 0 0 (omega (arith, p)))
        ]
