-- Each fault of a record as the code tests it, 3 to 7, in its order.
use Rattle.std.proofs.Common.{◌≡◌, ◌∙◌, refl, ap, true, false, List, ℕ, ◌<◌, ◌≤◌, arith, length, None}
use lib.Dec.{eqb, ltb, leb}
use borrow.Author.Tests.{lt-ltb, le-ltb, le-leb, eq-eqb, ne_eqb}
use Rattle.model.specs.declared.Fault.{Fault}
use Rattle.model.specs.declared.Fault.TheVariants.{OutOfOrder, EdgeTooMany, BadSizes, OutOfRange, NotPinned}
use Rattle.model.specs.declared.Head.{Head}
use Rattle.model.specs.Rules.{Rule, most_constant, sizes_ok}
use Rattle.model.specs.Files.{no_rule, number_at, past_last, out_of_order, one_too_many, bad_sizes, out_of_range}
use Rattle.model.specs.Files.{not_pinned}
use Rattle.model.proofs.Logic.{by_test, or_none}
use Rattle.model.proofs.Valid.{sizes_of}
use Rattle.reader.specs.declared.cursor.Cursor.{Cursor}
use Rattle.reader.specs.declared.record.Kind.{Kind}
use Rattle.reader.specs.declared.record.Kind.TheVariants.{Sizes, Initial, Final, Ceiling, Plain, Grouped}
use Rattle.reader.specs.Records.{kind_number, LocationRefused, falls, missing}
use Rattle.reader.specs.State.{body_refusal, Holds, State, NotTaken}

-- 3 to 7 in their order
module _ (last : ℕ) (r : Rule) (kind : ℕ) (body : List ℕ) where
  pub refused_3 : out_of_order last r kind body ≡ true → NotTaken last r kind body OutOfOrder
  unfolding body_refusal
  refused_3 a = record { refusal_is = λ p. rw a }

  module _ (a : out_of_order last r kind body ≡ false) where
    pub refused_4 : one_too_many r kind ≡ true → NotTaken last r kind body EdgeTooMany
    unfolding body_refusal
    refused_4 b = record { refusal_is = λ p. rw (a, b) }

    module _ (b : one_too_many r kind ≡ false) where
      pub refused_5 : bad_sizes kind body ≡ true → NotTaken last r kind body BadSizes
      unfolding body_refusal
      refused_5 d = record { refusal_is = λ p. rw (a, b, d) }

      module _ (d : bad_sizes kind body ≡ false) where
        pub refused_6 : out_of_range r kind (length body) body ≡ true → NotTaken last r kind body OutOfRange
        unfolding body_refusal
        refused_6 e = record { refusal_is = λ p. rw (a, b, d, e) }

        pub refused_7 :
            out_of_range r kind (length body) body ≡ false → not_pinned kind (length body) body ≡ true
            → NotTaken last r kind body NotPinned
        unfolding body_refusal
        refused_7 e f = record { refusal_is = λ p. rw (a, b, d, e, f) }

-- 3, where the sizes were read
module _ {r : Rule} {c : Cursor} (h : Holds r c) (body : List ℕ) where
  pub seen : 1 ≤ r.locations
  seen = (sizes_of r.locations r.symbols r.clocks h.so_far.parts.sizes).locations_least

  locations_is : c.sizes.locations ≡ r.locations
  locations_is = ap (λ (x : Head). x.locations) h.head_is

  seen_is : leb 1 r.locations ≡ true
  seen_is = le-leb 1 r.locations seen

  pub order_again : (k : Kind) → k ≡ Sizes → NotTaken (kind_number c.last) r (kind_number k) body OutOfOrder
  order_again k e = rw e (refused_3 (kind_number c.last) r 1 body seen_is)

  pub order_falls : (kind : ℕ) → kind < kind_number c.last → NotTaken (kind_number c.last) r kind body OutOfOrder
  order_falls kind a =
      refused_3 (kind_number c.last) r kind body
      (by_test (eqb kind 1) (λ e. rw e seen_is)
      (λ e. rw (e, seen_is, lt-ltb kind (kind_number c.last) a)))

  -- kinds past the sizes that do not fall
  module _ {last : ℕ} (last_is : last ≡ kind_number c.last) where
    pub in_order_2 :
        last ≤ 2 → out_of_order last r 2 body ≡ ltb (number_at 0 body) (past_last r.initial)
    in_order_2 a = rw (seen_is, le-ltb 2 last a) (or_none _)

    pub in_order_3 : last ≤ 3 → out_of_order last r 3 body ≡ ltb (number_at 0 body) (past_last r.final)
    in_order_3 a = rw (seen_is, le-ltb 3 last a)

    pub in_order_4 : last ≤ 4 → out_of_order last r 4 body ≡ eqb last 4
    in_order_4 a = rw (seen_is, le-ltb 4 last a) (or_none _ ∙ or_none _)

    pub in_order_5 : (kind : ℕ) → 5 ≤ kind → last ≤ kind → out_of_order last r kind body ≡ false
    in_order_5 kind k a =
        rw (
          ne_eqb kind 1 (λ e. omega arith),
          seen_is,
          le-ltb kind last a,
          ne_eqb kind 4 (λ e. omega arith),
          ne_eqb kind 2 (λ e. omega arith),
          ne_eqb kind 3 (λ e. omega arith),
        )

  -- an initial or a final location: 3 where it does not rise, 6 where the rule has no such location
  module _ (x : ℕ) (x_is : x ≡ number_at 0 body) (f : Fault) where
    range_is : c.sizes.locations ≤ x → leb r.locations (number_at 0 body) ≡ true
    range_is b = le-leb r.locations (number_at 0 body) (omega (arith, locations_is))

    initial_at :
        kind_number c.last ≤ 2 → LocationRefused c.initial.least x c.sizes.locations f
        → NotTaken (kind_number c.last) r 2 body f
    initial_at a (falls b e) =
        rw e (refused_3 (kind_number c.last) r 2 body
        (in_order_2 refl a ∙ lt-ltb (number_at 0 body) (past_last r.initial) (omega (arith, h.start_is))))
    initial_at a (missing b d e) =
        rw e (refused_6 (kind_number c.last) r 2 body
        (in_order_2 refl a ∙ le-ltb (number_at 0 body) (past_last r.initial) (omega (arith, h.start_is)))
        refl refl (rw (range_is d)))

    final_at :
        kind_number c.last ≤ 3 → LocationRefused c.finals.least x c.sizes.locations f
        → NotTaken (kind_number c.last) r 3 body f
    final_at a (falls b e) =
        rw e (refused_3 (kind_number c.last) r 3 body
        (in_order_3 refl a ∙ lt-ltb (number_at 0 body) (past_last r.final) (omega (arith, h.end_is))))
    final_at a (missing b d e) =
        rw e (refused_6 (kind_number c.last) r 3 body
        (in_order_3 refl a ∙ le-ltb (number_at 0 body) (past_last r.final) (omega (arith, h.end_is)))
        refl refl (rw (range_is d)))

    pub initial_refused :
        (k : Kind) → k ≡ Initial → kind_number c.last ≤ kind_number k
        → LocationRefused c.initial.least x c.sizes.locations f
        → NotTaken (kind_number c.last) r (kind_number k) body f
    initial_refused k e a q = let b : kind_number c.last ≤ 2 = rw e at a in rw e (initial_at b q)

    pub final_refused :
        (k : Kind) → k ≡ Final → kind_number c.last ≤ kind_number k
        → LocationRefused c.finals.least x c.sizes.locations f
        → NotTaken (kind_number c.last) r (kind_number k) body f
    final_refused k e a q = let b : kind_number c.last ≤ 3 = rw e at a in rw e (final_at b q)

  -- a ceiling: 3 where it is the second, 6 where it is over 30
  pub ceiling_again :
      (k : Kind) → k ≡ Ceiling → kind_number c.last ≤ kind_number k → c.last ≡ Ceiling
      → NotTaken (kind_number c.last) r (kind_number k) body OutOfOrder
  ceiling_again k e a q =
      let b : kind_number c.last ≤ 4 = rw e at a in
      let four : kind_number c.last ≡ 4 = rw q in
      rw e (refused_3 (kind_number c.last) r 4 body (in_order_4 refl b ∙ eq-eqb (kind_number c.last) 4 four))

  pub ceiling_high :
      (k : Kind) → k ≡ Ceiling → kind_number c.last ≤ kind_number k → (kind_number c.last ≡ 4 → ⊥)
      → most_constant < number_at 0 body
      → NotTaken (kind_number c.last) r (kind_number k) body OutOfRange
  ceiling_high k e a q x =
      let b : kind_number c.last ≤ 4 = rw e at a in
      rw e (refused_6 (kind_number c.last) r 4 body (in_order_4 refl b ∙ ne_eqb (kind_number c.last) 4 q)
      refl refl (rw (lt-ltb most_constant (number_at 0 body) x)))

-- the first record
pub first_other :
    {r : Rule} {t : List ℕ} → State r None t → (k : Kind) → (k ≡ Sizes → ⊥) → (body : List ℕ)
    → NotTaken 0 r (kind_number k) body OutOfOrder
first_other {r} {t} state k other body =
    refused_3 0 r (kind_number k) body (rw state.held (by_kind k other))
  where
    by_kind : (k : Kind) → (k ≡ Sizes → ⊥) → out_of_order 0 no_rule (kind_number k) body ≡ true
    by_kind Sizes q = absurd (q refl)
    by_kind Initial q = refl
    by_kind Final q = refl
    by_kind Ceiling q = refl
    by_kind Plain q = refl
    by_kind Grouped q = refl

pub first_bad :
    {r : Rule} {t : List ℕ} → State r None t → (k : Kind) → k ≡ Sizes → (body : List ℕ)
    → sizes_ok (number_at 0 body) (number_at 1 body) (number_at 2 body) ≡ false
    → NotTaken 0 r (kind_number k) body BadSizes
first_bad {r} {t} state k e body bad = rw e (refused_5 0 r 1 body (rw state.held) refl (rw bad))

-- only a ceiling has number 4
pub not_ceiling : (k : Kind) → (k ≡ Ceiling → ⊥) → kind_number k ≡ 4 → ⊥
not_ceiling Sizes q e = omega arith
not_ceiling Initial q e = omega arith
not_ceiling Final q e = omega arith
not_ceiling Ceiling q e = q refl
not_ceiling Plain q e = omega arith
not_ceiling Grouped q e = omega arith
