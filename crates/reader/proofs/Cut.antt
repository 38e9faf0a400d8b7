-- The record at the front of some bytes: cut short, or of no such kind and length.
use Rattle.std.proofs.Common.{◌≡◌, ◌∙◌, ap, true, false, List, ℕ, ◌+◌, ◌-◌, ◌*◌, ◌<◌, ◌≤◌, arith, length, take, drop}
use Rattle.std.proofs.Common.{length-drop}
use Rattle.std.proofs.lemmas.List.{get_or-take}
use borrow.Author.Tests.{lt-ltb, le-ltb}
use Rattle.model.specs.declared.Fault.TheVariants.{CutShort, BadBody}
use Rattle.model.specs.Files.{number_at, record_head, body_length, kind_of, body_ok, cut_short, record_refusal}
use Rattle.model.proofs.Logic.{or_left, or_right}
use Rattle.reader.specs.Records.{Refuses}

-- the two numbers of the first four bytes are those of all
pub head_number :
    (s : List ℕ) (i : ℕ) → i ≤ 1 → number_at i (take record_head s) ≡ number_at i s
head_number s i h = rw (get_or-take 4 s (2 * i) 0 (omega arith), get_or-take 4 s (2 * i + 1) 0 (omega arith))

module _ (s : List ℕ) where
  cut_refuses : cut_short s ≡ true → Refuses s CutShort
  unfolding record_refusal
  cut_refuses e = record { refusal_is = λ p last r. rw e }

  pub short_head : length s < record_head → Refuses s CutShort
  short_head h = cut_refuses (or_left _ _ (lt-ltb (length s) record_head h))

  -- the first four bytes, and the others
  module _ (head rest : List ℕ) (head_is : head ≡ take record_head s) (rest_is : rest ≡ drop record_head s)
      (size : ℕ) (size_is : size ≡ number_at 0 head) where
    body_length_is : size ≡ body_length s
    body_length_is = size_is ∙ (ap (number_at 0) head_is ∙ head_number s 0 (omega arith))

    rest_length : length rest ≡ length s - record_head
    rest_length = ap length rest_is ∙ length-drop record_head s

    pub short_body : length rest < size → Refuses s CutShort
    short_body h =
        cut_refuses
        (or_right _ _ (lt-ltb (length s) (record_head + body_length s) (omega (arith, body_length_is, rest_length))))

    pub bad_body :
        (kind : ℕ) → kind ≡ number_at 1 head → record_head ≤ length s → size ≤ length rest → body_ok kind size ≡ false
        → Refuses s BadBody
    unfolding record_refusal
    bad_body kind kind_is long fits e =
        let k : kind ≡ kind_of s = kind_is ∙ (ap (number_at 1) head_is ∙ head_number s 1 (omega arith)) in
        let n = body_length_is in
        let whole : cut_short s ≡ false =
        rw (
          le-ltb (length s) record_head long,
          le-ltb (length s) (record_head + body_length s) (omega (arith, n, rest_length)),
        ) in
        let bad : body_ok (kind_of s) (body_length s) ≡ false = rw (← k, ← n) e in
        record { refusal_is = λ p last r. rw (whole, bad) }
