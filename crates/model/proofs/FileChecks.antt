-- The checks of one record: it is not refused exactly if it is whole and has what its kind asks for.
use mathlib.Core.Path.{◌≡◌, ◌∙◌, ap}
use mathlib.Core.Bool.{Bool, false, not}
use mathlib.Core.List.{List}
use Prim.Native.Nat.{ℕ, ◌+◌, ◌≤◌}
use native.Mathlib.Omega.{arith}
use lib.Dec.{ltb}
use lib.ListN.{length, drop}
use borrow.Author.Tests.{ltb-false, le-ltb, not-false}
use Rattle.model.specs.Basics.{Refusal, fine, refuse, ◌⨾◌}
use Rattle.model.specs.Rules.{Rule}
use Rattle.model.specs.Files.{record_head, body_length, kind_of, body_of, body_ok, cut_short, out_of_order}
use Rattle.model.specs.Files.{one_too_many}
use Rattle.model.specs.Files.{bad_sizes, out_of_range, not_pinned, record_refusal, with_record}
use Rattle.model.proofs.Logic.{neither_right}
use Rattle.model.proofs.Refusals.{refused_false, first_passes, then_passes}
use Rattle.model.proofs.FileSteps.{record_length, rule_after, bytes_after, read_on, read_goes_on}
use Rattle.model.proofs.FileRecords.{Allowed, passed_allowed, allowed_passes}

-- The record at the front of s, at place p: not refused exactly if it is whole and allowed.
pub record RecordAllowed (last : ℕ) (r : Rule) (s : List ℕ) : Type 0 where
  pub whole : record_head + body_length s ≤ length s
  pub allowed : Allowed last r (kind_of s) (body_length s) (body_of s)

pub record_allowed :
    (p last : ℕ) (r : Rule) (s : List ℕ) → (record_refusal p last r s).number ≡ 0 → RecordAllowed last r s
unfolding record_refusal
record_allowed p last r s h =
    let n : ℕ = body_length s in
    let k : ℕ = kind_of s in
    let b : List ℕ = body_of s in
    let h2 = then_passes (refuse (cut_short s) 1 p) _ h in
    let h3 = then_passes (refuse (not (body_ok k n)) 2 p) _ h2 in
    let h4 = then_passes (refuse (out_of_order last r k b) 3 p) _ h3 in
    let h5 = then_passes (refuse (one_too_many r k) 4 p) _ h4 in
    let h6 = then_passes (refuse (bad_sizes k b) 5 p) _ h5 in
    let h7 = then_passes (refuse (out_of_range r k n b) 6 p) _ h6 in
    let cut = refused_false (cut_short s) 0 p (first_passes (refuse (cut_short s) 1 p) _ h) in
    let bad = refused_false (not (body_ok k n)) 1 p (first_passes (refuse (not (body_ok k n)) 2 p) _ h2) in
    record {
      whole =
          ltb-false (length s) (record_head + n)
          (neither_right (ltb (length s) record_head) (ltb (length s) (record_head + n)) cut);
      allowed = passed_allowed last r k n b (record {
        of_length = not-false (body_ok k n) bad;
        in_order = refused_false (out_of_order last r k b) 2 p (first_passes (refuse (out_of_order last r k b) 3 p) _
            h3);
        not_too_many = refused_false (one_too_many r k) 3 p (first_passes (refuse (one_too_many r k) 4 p) _ h4);
        good_sizes = refused_false (bad_sizes k b) 4 p (first_passes (refuse (bad_sizes k b) 5 p) _ h5);
        in_range = refused_false (out_of_range r k n b) 5 p (first_passes (refuse (out_of_range r k n b) 6 p) _ h6);
        pinned = refused_false (not_pinned k n b) 6 p h7;
      });
    }

-- seven tests in a row that all pass
seven_fine :
    (a b c d e f g : Bool) (p : ℕ) → a ≡ false → b ≡ false → c ≡ false → d ≡ false → e ≡ false → f ≡ false → g ≡ false
    → (refuse a 1 p ⨾ refuse b 2 p ⨾ refuse c 3 p ⨾ refuse d 4 p ⨾ refuse e 5 p ⨾ refuse f 6 p ⨾ refuse g 7 p) ≡ fine
seven_fine a b c d e f g p ha hb hc hd he hf hg = rw (ha, hb, hc, hd, he, hf, hg)

pub record_fine : (p last : ℕ) (r : Rule) (s : List ℕ) → RecordAllowed last r s → record_refusal p last r s ≡ fine
unfolding record_refusal
record_fine p last r s h =
    let n : ℕ = body_length s in
    let k : ℕ = kind_of s in
    let b : List ℕ = body_of s in
    let q = allowed_passes last r k n b h.allowed in
    let head = le-ltb (length s) record_head (omega arith) in
    let cut : cut_short s ≡ false = rw (head, le-ltb (length s) (record_head + n) h.whole) in
    seven_fine (cut_short s) (not (body_ok k n)) (out_of_order last r k b) (one_too_many r k) (bad_sizes k b)
    (out_of_range r k n b) (not_pinned k n b) p
    cut (rw q.of_length) q.in_order q.not_too_many q.good_sizes q.in_range q.pinned

-- The step: from a record that is allowed the reading goes on after it.
pub read_record :
    (p last : ℕ) (r : Rule) (s : List ℕ) (kind n : ℕ) (body rest : List ℕ) → kind_of s ≡ kind → body_length s ≡ n
    → body_of s ≡ body → drop (record_head + n) s ≡ rest → record_head + n ≤ length s → Allowed last r kind n body
    → read_on p last r s ≡ read_on (p + (record_head + n)) kind (with_record r kind n body) rest
read_record p last r s kind n body rest k_is n_is body_is rest_is whole allowed =
    let here : Allowed last r (kind_of s) (body_length s) (body_of s) = rw (k_is, n_is, body_is) allowed in
    let fits : record_head + body_length s ≤ length s = rw n_is whole in
    let passes : (record_refusal p last r s).number ≡ 0 =
    ap (λ (x : Refusal). x.number) (record_fine p last r s (record { whole = fits; allowed = here })) in
    let after : bytes_after s ≡ rest = rw n_is rest_is in
    let rule_is : rule_after r s ≡ with_record r kind n body = rw (k_is, n_is, body_is) in
    let place : p + record_length s ≡ p + (record_head + n) = rw n_is in
    read_goes_on p last r s (omega arith) passes ∙ rw (rule_is, after, place, k_is)
