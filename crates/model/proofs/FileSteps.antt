-- One record read: from a place on, the reading ends, is refused at this record, or goes on after it. More turns than
-- there are bytes change nothing, so that a reading is settled by where it stands.
use mathlib.Core.Path.{◌≡◌, refl, sym, ◌∙◌}
use mathlib.Core.Bool.{not}
use mathlib.Core.List.{List}
use Prim.Native.Nat.{ℕ, zero, suc, ◌+◌, ◌≤◌, ◌<◌}
use native.Mathlib.Omega.{arith}
use lib.Dec.{eqb, ltb}
use lib.ListN.{length, drop, length-drop}
use borrow.Author.Tests.{eqb-true, eqb-false, eq-eqb, ne_eqb}
use Rattle.model.specs.Basics.{refuse, passes}
use Rattle.model.specs.Rules.{Rule, pair_count, most_pairs}
use Rattle.model.specs.Files.{record_head, body_length, kind_of, body_of, record_refusal, with_record, no_rule}
use Rattle.model.specs.Files.{seen_sizes, Spelt, unspelt, at_end, read_from, read_rule}
use Rattle.model.proofs.Logic.{by_test}
use Rattle.model.proofs.Refusals.{Settled, refuse_settled, then_settled}

-- where the reading stands after the record at the front of s
abbrev pub record_length : List ℕ → ℕ
record_length s = record_head + body_length s

abbrev pub rule_after : Rule → List ℕ → Rule
rule_after r s = with_record r (kind_of s) (body_length s) (body_of s)

abbrev pub bytes_after : List ℕ → List ℕ
bytes_after s = drop (record_length s) s

-- with some turns left: the three ways on
turn_ends : (f p last : ℕ) (r : Rule) (s : List ℕ) → length s ≡ 0 → read_from f p last r s ≡ at_end p r
unfolding read_from
turn_ends zero p last r s e = refl
turn_ends (suc f) p last r s e = rw (eq-eqb (length s) 0 e, read_from)

turn_reads :
    (f p last : ℕ) (r : Rule) (s : List ℕ) → 0 < length s → (record_refusal p last r s).number ≡ 0
    → read_from (suc f) p last r s
    ≡ read_from f (p + record_length s) (kind_of s) (rule_after r s) (bytes_after s)
unfolding read_from
turn_reads f p last r s h e =
    rw (ne_eqb (length s) 0 (omega arith), read_from, eq-eqb (record_refusal p last r s).number 0 e)

turn_refuses :
    (f p last : ℕ) (r : Rule) (s : List ℕ) → 0 < length s → ((record_refusal p last r s).number ≡ 0 → ⊥)
    → read_from (suc f) p last r s ≡ unspelt (record_refusal p last r s)
unfolding read_from
turn_refuses f p last r s h e =
    rw (ne_eqb (length s) 0 (omega arith), read_from, ne_eqb (record_refusal p last r s).number 0 e)

-- which of the three it is
pub data Way (p last : ℕ) (r : Rule) (s : List ℕ) : Type 0 where
  ends : length s ≡ 0 → Way p last r s
  reads : 0 < length s → (record_refusal p last r s).number ≡ 0 → Way p last r s
  refuses : 0 < length s → ((record_refusal p last r s).number ≡ 0 → ⊥) → Way p last r s

pub way : (p last : ℕ) (r : Rule) (s : List ℕ) → Way p last r s
way p last r s =
    by_test (eqb (length s) 0) (λ e. ends (eqb-true (length s) 0 e))
    (λ e. by_test (passes (record_refusal p last r s))
    (λ q. reads (omega (arith, eqb-false (length s) 0 e)) (eqb-true (record_refusal p last r s).number 0 q))
    (λ q. refuses (omega (arith, eqb-false (length s) 0 e)) (eqb-false (record_refusal p last r s).number 0 q)))

-- a record takes 4 bytes or more, so that as many turns as bytes are enough
pub shorter : (f : ℕ) (s : List ℕ) → 0 < length s → length s ≤ suc f → length (bytes_after s) ≤ f
shorter f s h q = rw (length-drop (record_length s) s) (omega arith)

enough :
    (f g p last : ℕ) (r : Rule) (s : List ℕ) → length s ≤ f → length s ≤ g
    → read_from f p last r s ≡ read_from g p last r s
enough zero g p last r s a b = turn_ends zero p last r s (omega arith) ∙ sym (turn_ends g p last r s (omega arith))
enough (suc f) zero p last r s a b =
    turn_ends (suc f) p last r s (omega arith) ∙ sym (turn_ends zero p last r s (omega arith))
enough (suc f) (suc g) p last r s a b =
    go (way p last r s)
    (enough f g (p + record_length s) (kind_of s) (rule_after r s) (bytes_after s))
  where
    go :
        Way p last r s
        → (length (bytes_after s) ≤ f → length (bytes_after s) ≤ g
        → read_from f (p + record_length s) (kind_of s) (rule_after r s) (bytes_after s)
        ≡ read_from g (p + record_length s) (kind_of s) (rule_after r s) (bytes_after s))
        → read_from (suc f) p last r s ≡ read_from (suc g) p last r s
    go (ends e) k = turn_ends (suc f) p last r s e ∙ sym (turn_ends (suc g) p last r s e)
    go (reads h e) k =
        turn_reads f p last r s h e ∙ (k (shorter f s h a) (shorter g s h b) ∙ sym (turn_reads g p last r s h e))
    go (refuses h e) k = turn_refuses f p last r s h e ∙ sym (turn_refuses g p last r s h e)

-- The reading from place p on: the kind of the record before, the rule so far, the bytes left.
unfoldable pub read_on : ℕ → ℕ → Rule → List ℕ → Spelt
read_on p last r s = read_from (length s) p last r s

pub read_all : (s : List ℕ) → read_rule s ≡ read_on 0 0 no_rule s
unfolding read_rule read_on
read_all s = enough (suc (length s)) (length s) 0 0 no_rule s (omega arith) (omega arith)

pub read_ends : (p last : ℕ) (r : Rule) (s : List ℕ) → length s ≡ 0 → read_on p last r s ≡ at_end p r
unfolding read_on
read_ends p last r s e = turn_ends (length s) p last r s e

pub read_goes_on :
    (p last : ℕ) (r : Rule) (s : List ℕ) → 0 < length s → (record_refusal p last r s).number ≡ 0
    → read_on p last r s ≡ read_on (p + record_length s) (kind_of s) (rule_after r s) (bytes_after s)
unfolding read_on
read_goes_on p last r s h e =
    enough (length s) (suc (length s)) p last r s (omega arith) (omega arith)
    ∙ (turn_reads (length s) p last r s h e
    ∙ enough (length s) (length (bytes_after s)) (p + record_length s) (kind_of s) (rule_after r s) (bytes_after s)
    (shorter (length s) s h (omega arith)) (omega arith))

pub read_refuses :
    (p last : ℕ) (r : Rule) (s : List ℕ) → 0 < length s → ((record_refusal p last r s).number ≡ 0 → ⊥)
    → read_on p last r s ≡ unspelt (record_refusal p last r s)
unfolding read_on
read_refuses p last r s h e =
    enough (length s) (suc (length s)) p last r s (omega arith) (omega arith) ∙ turn_refuses (length s) p last r s h e

-- What holds at the end, at a refusal, and before a record if after it, holds of every reading.
module _
    (P : ℕ → ℕ → Rule → List ℕ → Spelt → Type 0)
    (at_end_lem : (p last : ℕ) (r : Rule) (s : List ℕ) → length s ≡ 0 → P p last r s (at_end p r))
    (on_record :
    (p last : ℕ) (r : Rule) (s : List ℕ) (x : Spelt) → 0 < length s → (record_refusal p last r s).number ≡ 0
    → P (p + record_length s) (kind_of s) (rule_after r s) (bytes_after s) x
    → P p last r s x)
    (on_refusal :
    (p last : ℕ) (r : Rule) (s : List ℕ) → 0 < length s → ((record_refusal p last r s).number ≡ 0 → ⊥)
    → P p last r s (unspelt (record_refusal p last r s)))
  where
    in_turns : (f p last : ℕ) (r : Rule) (s : List ℕ) → length s ≤ f → P p last r s (read_from f p last r s)
    in_turns zero p last r s b = rw (turn_ends zero p last r s (omega arith)) (at_end_lem p last r s (omega arith))
    in_turns (suc f) p last r s b =
        go (way p last r s) (in_turns f (p + record_length s) (kind_of s) (rule_after r s) (bytes_after s))
      where
        go :
            Way p last r s
            → (length (bytes_after s) ≤ f
            → P (p + record_length s) (kind_of s) (rule_after r s) (bytes_after s)
            (read_from f (p + record_length s) (kind_of s) (rule_after r s) (bytes_after s)))
            → P p last r s (read_from (suc f) p last r s)
        go (ends e) k = rw (turn_ends (suc f) p last r s e) (at_end_lem p last r s e)
        go (reads h e) k =
            rw (turn_reads f p last r s h e)
            (on_record p last r s (read_from f (p + record_length s) (kind_of s) (rule_after r s) (bytes_after s)) h e
            (k (shorter f s h b)))
        go (refuses h e) k = rw (turn_refuses f p last r s h e) (on_refusal p last r s h e)

    pub of_every_reading : (p last : ℕ) (r : Rule) (s : List ℕ) → P p last r s (read_on p last r s)
    unfolding read_on
    of_every_reading p last r s = in_turns (length s) p last r s (omega arith)

-- no number, no place
end_settled : (p : ℕ) (r : Rule) → Settled (at_end p r).refused
unfolding at_end
end_settled p r =
    then_settled (refuse (not (seen_sizes r)) 3 p) (refuse (ltb most_pairs (pair_count r)) 8 p)
    (refuse_settled (not (seen_sizes r)) 2 p) (refuse_settled (ltb most_pairs (pair_count r)) 7 p)

pub read_settled : (file : List ℕ) → Settled (read_rule file).refused
read_settled file =
    rw (read_all file)
    (of_every_reading (λ p last r s x. Settled x.refused) (λ p last r s e. end_settled p r)
    (λ p last r s x h e k. k) (λ p last r s h e z. absurd (e z)) 0 0 no_rule file)
