-- One step of a reading: the record split off is refused, or taken, as the definition has it of the bytes left.
use Rattle.std.proofs.Common.{◌≡◌, ◌∙◌, refl, sym, ap, true, false, not, List, [], ◌∷◌, ℕ, zero, suc, ◌+◌, ◌-◌, ◌*◌}
use Rattle.std.proofs.Common.{◌/◌, ◌≤◌, arith}
use Rattle.std.proofs.Common.{length, take, drop, length-drop}
use Rattle.std.proofs.lemmas.List.{get_or-take, drop-take}
use borrow.Author.Tests.{eqb-true, le-ltb}
use Rattle.model.specs.declared.Fault.{Fault}
use Rattle.model.specs.Basics.{Refusal, fine, refuse, ◌⨾◌}
use Rattle.model.specs.Rules.{Edge, Rule, edge_ok, integer_reset}
use Rattle.model.specs.Files.{number_at, fields_body, most_plain_body, most_grouped_body, record_head, body_length}
use Rattle.model.specs.Files.{out_of_order, one_too_many, bad_sizes, kind_of, body_of, body_ok, cut_short, numbers_of}
use Rattle.model.specs.Files.{edge_from, record_refusal, with_record}
use Rattle.model.proofs.FileRecords.{Allowed, allowed_passes}
use Rattle.model.proofs.FileSteps.{record_length, rule_after}
use Rattle.model.proofs.Logic.{and_left, within_least}
use Rattle.reader.specs.declared.cursor.Cursor.{Cursor}
use Rattle.reader.specs.declared.record.Kind.{Kind}
use Rattle.reader.specs.declared.record.Kind.TheVariants.{Sizes, Initial, Final, Ceiling, Plain, Grouped}
use Rattle.reader.specs.Records.{kind_number, SplitOff}
use Rattle.reader.specs.State.{body_refusal, Taken, NotTaken, GoesOn, Stops}

-- numbers of the body are those of all that follows its start
number_in : (n i : ℕ) (s : List ℕ) → 2 * i + 2 ≤ n → number_at i (take n s) ≡ number_at i s
number_in n i s h = rw (get_or-take n s (2 * i) 0 (omega arith), get_or-take n s (2 * i + 1) 0 (omega arith))

drop_in : (k n : ℕ) (s : List ℕ) → k ≤ n → drop k (take n s) ≡ take (n - k) (drop k s)
drop_in k n s h = let e : n ≡ k + (n - k) = omega arith in ap (λ (m : ℕ). drop k (take m s)) e ∙ drop-take k (n - k) s

numbers_in : (m n : ℕ) (s : List ℕ) → 2 * m ≤ n → numbers_of m (take n s) ≡ numbers_of m s
numbers_in zero n s h = refl
numbers_in (suc m) n s h =
    rw (number_in n 0 s (omega arith), drop_in 2 n s (omega arith))
    (ap (λ (l : List ℕ). number_at 0 s ∷ l) (numbers_in m (n - 2) (drop 2 s) (omega arith)))

edge_in_body : (kind n : ℕ) (s : List ℕ) → fields_body ≤ n → edge_from kind n (take n s) ≡ edge_from kind n s
edge_in_body kind n s h =
    rw (
      number_in n 0 s (omega arith),
      number_in n 1 s (omega arith),
      number_in n 2 s (omega arith),
      number_in n 3 s (omega arith),
      drop_in fields_body n s h,
      numbers_in ((n - fields_body) / 2) (n - fields_body) (drop fields_body s) (omega arith),
    )

-- so are the tests of a body and the rule after it
module _ (n : ℕ) (s : List ℕ) (p last : ℕ) (r : Rule) where
  -- of an edge's body the tests ask only for the edge
  abbrev edge_refusal : ℕ → Edge → Refusal
  edge_refusal kind e =
      refuse (out_of_order last r kind []) 3 p ⨾ refuse (one_too_many r kind) 4 p ⨾ refuse (bad_sizes kind []) 5 p
      ⨾ refuse (not (edge_ok r e)) 6 p
      ⨾ refuse (not (integer_reset e)) 7 p

  pub same_refusal :
      (k : Kind) → body_ok (kind_number k) n ≡ true
      → body_refusal p last r (kind_number k) n (take n s) ≡ body_refusal p last r (kind_number k) n s
  unfolding body_refusal
  same_refusal Sizes ok =
      let six : n ≡ 6 = eqb-true n 6 ok in
      rw (number_in n 0 s (omega arith), number_in n 1 s (omega arith), number_in n 2 s (omega arith))
  same_refusal Initial ok = let two : n ≡ 2 = eqb-true n 2 ok in rw (number_in n 0 s (omega arith))
  same_refusal Final ok = let two : n ≡ 2 = eqb-true n 2 ok in rw (number_in n 0 s (omega arith))
  same_refusal Ceiling ok = let two : n ≡ 2 = eqb-true n 2 ok in rw (number_in n 0 s (omega arith))
  same_refusal Plain ok =
      ap (edge_refusal 5) (edge_in_body 5 n s (within_least fields_body most_plain_body n (and_left _ _ ok)))
  same_refusal Grouped ok =
      ap (edge_refusal 6) (edge_in_body 6 n s (within_least fields_body most_grouped_body n (and_left _ _ ok)))

pub same_rule :
    (n : ℕ) (s : List ℕ) (r : Rule) (k : Kind) → body_ok (kind_number k) n ≡ true
    → with_record r (kind_number k) n (take n s) ≡ with_record r (kind_number k) n s
unfolding with_record
same_rule n s r Sizes ok =
    let six : n ≡ 6 = eqb-true n 6 ok in
    rw (number_in n 0 s (omega arith), number_in n 1 s (omega arith), number_in n 2 s (omega arith))
same_rule n s r Initial ok = let two : n ≡ 2 = eqb-true n 2 ok in rw (number_in n 0 s (omega arith))
same_rule n s r Final ok = let two : n ≡ 2 = eqb-true n 2 ok in rw (number_in n 0 s (omega arith))
same_rule n s r Ceiling ok = refl
same_rule n s r Plain ok = rw (edge_in_body 5 n s (within_least fields_body most_plain_body n (and_left _ _ ok)))
same_rule n s r Grouped ok = rw (edge_in_body 6 n s (within_least fields_body most_grouped_body n (and_left _ _ ok)))

-- the tests of a record that is allowed
allowed_fine :
    (p last : ℕ) (r : Rule) (kind n : ℕ) (body : List ℕ) → Allowed last r kind n body
    → body_refusal p last r kind n body ≡ fine
unfolding body_refusal
allowed_fine p last r kind n body a =
    let q = allowed_passes last r kind n body a in
    rw (q.in_order, q.not_too_many, q.good_sizes, q.in_range, q.pinned)

module _ {s : List ℕ} {k : Kind} {body after : List ℕ} (split : SplitOff s k body after)
    (ok : body_ok (kind_number k) (length body) ≡ true) where
  ok_at : body_ok (kind_number k) (body_length s) ≡ true
  ok_at = rw split.size_is at ok

  -- what the definition says of the record is what the code found of its body
  refusal_by :
      (p last : ℕ) (r : Rule)
      → record_refusal p last r s ≡ body_refusal p last r (kind_number k) (length body) body
  unfolding record_refusal body_refusal
  refusal_by p last r =
      let whole : cut_short s ≡ false =
      rw (
        le-ltb (length s) record_head (omega (arith, split.whole)),
        le-ltb (length s) (record_head + body_length s) split.whole,
      ) in
      let good : body_ok (kind_of s) (body_length s) ≡ true = rw (← split.kind_is) ok_at in
      rw (whole, good)
      (rw (← split.kind_is, split.size_is, split.body_is)
      (sym (same_refusal (body_length s) (body_of s) p last r k ok_at)))

  rule_by : (r : Rule) → with_record r (kind_number k) (length body) body ≡ rule_after r s
  rule_by r = rw (split.size_is, split.body_is) (same_rule (body_length s) (body_of s) r k ok_at ∙ rw split.kind_is)

  pub stops : {last : ℕ} {r : Rule} {f : Fault} → NotTaken last r (kind_number k) body f → Stops s last r f
  stops {last} {r} q = record { refusal_is = λ p. refusal_by p last r ∙ q.refusal_is p }

  pub goes_on :
      {last : ℕ} {r : Rule} {t' : List ℕ} {d : Cursor} → Taken last r (kind_number k) body t' d
      → GoesOn s last r t' d after
  goes_on {last} {r} q = record {
    passes = λ p. ap (λ (f : Refusal). f.number)
        (refusal_by p last r ∙ allowed_fine p last r (kind_number k) (length body) body q.allowed);
    after_is = split.after_is;
    shorter = omega (arith, ap length split.after_is ∙ length-drop (record_length s) s, split.whole);
    last_is = q.last_is ∙ split.kind_is;
    state = rw (rule_by r) at q.state;
  }
