-- Room for two banks; 26 before the first event; what the whole runner answers, and what it leaves in the scratch.
use Rattle.std.proofs.Common.{◌≡◌, ◌<◌, ◌≤◌, Bool, Result, Err, ◌+◌, ◌*◌, ◌/◌, ℕ, List, length, take, refl, ◌∙◌, ap}
use Rattle.std.proofs.Common.{arith}
use Rattle.std.proofs.lemmas.List.{length-take-le}
use Rattle.std.proofs.Math.Nat.{div-add-mod', mul-div_cancel}
use Rattle.model.specs.declared.Head.{Head}
use Rattle.model.specs.declared.Answer.{Answer}
use Rattle.model.specs.Basics.{one_if, zeros, refusal}
use Rattle.model.specs.Words.{most_events, events_of}
use Rattle.model.specs.Runs.{room_refusal}
use Rattle.model.specs.Layout.{rule_in}
use Rattle.model.specs.Promises.{config_room, exact_refusal, ChecksRule, ChecksWord, RunsExact}
use Rattle.model.specs.declared.Fault.{Fault}
use Rattle.model.specs.declared.Refused.{Refused}
use Rattle.model.specs.Faults.{fault_number, answer_in}
use Rattle.model.proofs.Faults.{refuses}
use Rattle.model.proofs.Inputs.{Checked, rule_refused, word_refused, both_passed}
use Rattle.model.proofs.Inputs.{Refused as RefusedInput}
use Rattle.exact.specs.declared.bank.Bank.{Bank}
use Rattle.exact.specs.Banks.{Empty, Filled}
use Rattle.exact.specs.Runs.{starts_over, answer_with, answer_over, Begins, Started}
use Rattle.exact.proofs.Starting.{starts_are}
use Rattle.exact.proofs.Running.{over_by_room, over_room}

-- two banks of length / (2 (k + 1)) configurations fit
pub two_banks : (len k : ℕ) → len / (2 * (k + 1)) * (k + 1) + len / (2 * (k + 1)) * (k + 1) ≤ len
two_banks len k = omega (arith, div-add-mod' len (2 * (k + 1)))

-- the second bank at the front of what lies behind the first
pub second_sized :
    (len k : ℕ) (back : List ℕ) → length back + len / (2 * (k + 1)) * (k + 1) ≡ len
    → length (take (len / (2 * (k + 1)) * (k + 1)) back) ≡ len / (2 * (k + 1)) * (k + 1)
second_sized len k back h = length-take-le (len / (2 * (k + 1)) * (k + 1)) back (omega (arith, two_banks len k))

-- as many configurations as a bank was made for
pub room_of_bank : (room k size : ℕ) → size ≡ room * (k + 1) → size / (k + 1) ≡ room
room_of_bank room k size e = rw e (mul-div_cancel room (omega arith))

module _ (head : Head) (edges : List ℕ) (d : ℕ) (symbols stamps scratch : List ℕ) where
  -- so many configurations in each bank, and the numbers of a bank
  abbrev room : ℕ
  room = length scratch / (2 * (head.clocks + 1))

  abbrev size : ℕ
  size = room * (head.clocks + 1)

  room_is : room ≡ config_room (rule_in head edges) scratch
  unfolding rule_in
  room_is = refl

  -- more initial locations than room
  pub start_full :
      (bank : Bank) → Empty head.clocks size bank
      → length bank.numbers.now < length (starts_over head.clocks head.starts) * (bank.clocks + 1)
      → room_refusal (rule_in head edges) d (config_room (rule_in head edges) scratch) (events_of symbols stamps)
      ≡ refusal 26 0
  unfolding room_refusal
  start_full bank empty h =
      let over : room < length (starts_over head.clocks head.starts) =
      over_by_room room (length (starts_over head.clocks head.starts)) head.clocks
      (rw (empty.clocks_are, empty.size_is) at h) in
      rw (← room_is, starts_are head edges)
      (over_room (rule_in head edges) d room 0 0 (starts_over head.clocks head.starts)
      (events_of symbols stamps) over)

  -- the configurations at the start are in the first bank
  module _ (first second from : Bank) (one : Empty head.clocks size first) (other : Empty head.clocks size second)
      (filled : Filled first (starts_over head.clocks head.starts) from) where
    abbrev found : ℕ
    found = length from.numbers.now / (head.clocks + 1)

    size_found : length from.numbers.now ≡ size
    size_found = filled.size_is ∙ one.size_is

    found_is : found ≡ room
    found_is = room_of_bank room head.clocks (length from.numbers.now) size_found

    pub start_made : Begins head symbols stamps → Started head symbols stamps found from second
    start_made b = record {
      begins = b;
      from_clocks = filled.clocks_are ∙ one.clocks_are;
      to_clocks = other.clocks_are;
      from_size = rw found_is size_found;
      to_size = rw found_is other.size_is;
      starts_there = filled.configs_are;
    }

    pub answered :
        (a : Answer) → a ≡ answer_with head edges d symbols stamps found
        → a ≡ answer_over head edges d symbols stamps scratch
    answered a e = e ∙ ap (answer_with head edges d symbols stamps) (found_is ∙ room_is)

-- no fault has number 0
counted : (f : Fault) → fault_number f ≡ 0 → ⊥
counted f z = let h = refuses f 0 in cc (rw z at h)

-- The whole call.
module _ (head : Head) (edges : List ℕ) (d : ℕ) (symbols stamps scratch : List ℕ) where
  -- a refusal by a check: the scratch is untouched
  refusal_is :
      (a : Answer) → RefusedInput head edges d most_events symbols stamps a
      → RunsExact head edges d symbols stamps scratch scratch a
  unfolding exact_refusal
  refusal_is a f = record {
    answer_is = f.answer_is ∙ rw (f.not_passed, f.not_passed);
    scratch_is = rw f.not_passed;
  }

  pub rule_refusal_is :
      (r : Result Bool Refused) (e : Refused) → r ≡ Err e
      → ChecksRule head edges (answer_in {A = Unit {0}} (λ u. 0) (Err e))
      → RunsExact head edges d symbols stamps scratch scratch (answer_in one_if r)
  rule_refusal_is r e q c =
      rw q (refusal_is _ (rule_refused head edges d most_events symbols stamps _ c (counted e.fault)))

  module _ (rule_ok : ChecksRule head edges (record { number = 0; place = 0; value = 0 })) where
    pub word_refusal_is :
        (r : Result Bool Refused) (e : Refused) → r ≡ Err e
        → ChecksWord head.symbols d most_events symbols stamps (answer_in {A = Unit {0}} (λ u. 0) (Err e))
        → RunsExact head edges d symbols stamps scratch scratch (answer_in one_if r)
    word_refusal_is r e q w =
        rw q
        (refusal_is _
        (word_refused head edges d most_events symbols stamps _ _ rule_ok w refl (counted e.fault)))

    module _
        (word_ok : ChecksWord head.symbols d most_events symbols stamps (record { number = 0; place = 0; value = 0 }))
      where
        checked : Checked head edges d most_events symbols stamps
        checked = both_passed head edges d most_events symbols stamps _ _ rule_ok word_ok refl refl

        pub begins : (xs ts : List ℕ) → xs ≡ symbols → ts ≡ stamps → Begins head xs ts
        begins xs ts e f =
            rw (e, f) (record { clocks_most = checked.clocks_most; stamps_ordered = checked.keeps.stamps_ordered })

        -- both checks pass: the answer over the events, the scratch zero
        pub runs_exact :
            (r : Answer) (xs ts used left : List ℕ) → xs ≡ symbols → ts ≡ stamps
            → r ≡ answer_over head edges d xs ts scratch
            → length used ≡ length scratch
            → left ≡ zeros (length used)
            → RunsExact head edges d symbols stamps scratch left r
        unfolding exact_refusal
        runs_exact r xs ts used left e f a same clear = record {
          answer_is = (rw (e, f) at a) ∙ rw checked.passes_both;
          scratch_is = clear ∙ rw (checked.passes_both, same);
        }
