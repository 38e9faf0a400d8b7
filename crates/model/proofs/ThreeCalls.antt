-- Demand 3 over the promises: reader, builder and table runner in a row, from the bytes of a file to the answer.
use mathlib.Core.Path.{◌≡◌, sym, ◌∙◌, ap, subst}
use mathlib.Core.Bool.{true, false}
use mathlib.Core.List.{List}
use Prim.Native.Nat.{ℕ}
use lib.Dec.{eqb}
use lib.ListN.{length}
use borrow.Author.Tests.{eqb-false}
use Rattle.model.specs.declared.Head.{Head}
use Rattle.model.specs.declared.Answer.{Answer}
use Rattle.model.specs.declared.Reading.{Reading}
use Rattle.model.specs.declared.Building.{Building}
use Rattle.model.specs.Basics.{one_if, within, Refusal, fine}
use Rattle.model.specs.Rules.{Rule}
use Rattle.model.specs.Words.{events_of, most_events, word_refusal}
use Rattle.model.specs.Runs.{accepts}
use Rattle.model.specs.Files.{read_rule, rule_bytes}
use Rattle.model.specs.Layout.{rule_in, rule_refusal}
use Rattle.model.specs.Tables.{Tables, tables, table_refusal}
use Rattle.model.specs.Walks.{table_accepts}
use Rattle.model.specs.Promises.{answer_of, too_short, read_refusal, ReadsRule, BuildsTable, run_refusal}
use Rattle.model.specs.Demands.{ReadBack, ThreeCalls, ThreeCallsWritten}
use Rattle.model.proofs.Logic.{by_test}
use Rattle.model.proofs.FileRead.{valid_is_spelt}
use Rattle.model.proofs.Numbers.{among_none, read_numbers, table_numbers, word_numbers}
use Rattle.model.proofs.Calls.{outside, Read, read, read_short, read_numbered, Made, made, built_numbered}
use Rattle.model.proofs.Calls.{Answered, answered}

-- none of 1 to 8 and 20: the first number is 0
pub first_none :
    (file edges edges' : List ℕ) (reading : Reading) → ReadsRule file edges edges' reading
    → within 1 8 reading.number ≡ false
    → eqb reading.number 20 ≡ false
    → reading.number ≡ 0
first_none file edges edges' reading p a b = by_test (too_short edges) short long
  where
    number : reading.number ≡ (read_refusal file edges).number
    number = ap (λ (x : Reading). x.number) p.answer_is

    short : too_short edges ≡ true → reading.number ≡ 0
    short h =
        absurd (eqb-false reading.number 20 b (number ∙ ap (λ (f : Refusal). f.number) (read_short file edges h)))

    long : too_short edges ≡ false → reading.number ≡ 0
    long h =
        let e : reading.number ≡ (read_rule file).refused.number =
        number ∙ ap (λ (f : Refusal). f.number) (read_numbered file edges h) in
        let out : within 1 8 (read_rule file).refused.number ≡ false = rw e at a in
        e ∙ ap (λ (f : Refusal). f.number)
        (among_none (read_rule file).refused (read_numbers file) (outside 1 8 (read_rule file).refused.number out))

-- none of 22 to 24 on a rule that passes 20 and 21: the second number is 0
pub second_none :
    (h : Head) (t scratch scratch' cells cells' rows rows' pool pool' : List ℕ) (building : Building) (r : Rule)
    → rule_refusal h t ≡ fine
    → rule_in h t ≡ r
    → BuildsTable h t scratch scratch' cells cells' rows rows' pool pool' building
    → within 22 24 building.number ≡ false
    → building.number ≡ 0
second_none h t scratch scratch' cells cells' rows rows' pool pool' building r f e p a =
    let refused : Refusal = table_refusal r (length scratch) (length cells) (length rows) (length pool) in
    let number : building.number ≡ refused.number =
    ap (λ (x : Building). x.number) p.answer_is
    ∙ ap (λ (x : Refusal). x.number) (built_numbered h t scratch cells rows pool r f e) in
    let out : within 22 24 refused.number ≡ false = rw number at a in
    number
    ∙ ap (λ (x : Refusal). x.number)
    (among_none refused (table_numbers r (length scratch) (length cells) (length rows) (length pool))
    (outside 22 24 refused.number out))

-- none of 30 to 33 on tables where only the word can be refused: the answer is the runs'
third_none :
    (r : Rule) (t : Tables) (d : ℕ) (symbols stamps : List ℕ) (answer : Answer)
    → Answered r t d symbols stamps
    → answer ≡ answer_of (run_refusal t d symbols stamps) (one_if (table_accepts t d (events_of symbols stamps)))
    → within 30 33 answer.number ≡ false
    → answer ≡ record { number = 0; place = 0; value = one_if (accepts r d (events_of symbols stamps)) }
third_none r t d symbols stamps answer s p a =
    let word : Refusal = word_refusal r.symbols d most_events symbols stamps in
    let number : answer.number ≡ word.number =
    ap (λ (x : Answer). x.number) p ∙ ap (λ (x : Refusal). x.number) s.refused_by_word in
    let out : within 30 33 word.number ≡ false = rw number at a in
    let none : word ≡ fine =
    among_none word (word_numbers r.symbols d most_events symbols stamps) (outside 30 33 word.number out) in
    p ∙ rw (s.refused_by_word, none, s.says none)

-- the writing of a valid rule is refused by none of 1 to 8
not_refused :
    (r : Rule) (edges edges' : List ℕ) (reading : Reading) → (read_rule (rule_bytes r)).refused ≡ fine
    → ReadsRule (rule_bytes r) edges edges' reading
    → within 1 8 reading.number ≡ false
not_refused r edges edges' reading f p =
    by_test (too_short edges)
    (λ h. rw (ap (λ (x : Reading). x.number) p.answer_is, read_short (rule_bytes r) edges h))
    (λ h. rw (ap (λ (x : Reading). x.number) p.answer_is, read_numbered (rule_bytes r) edges h, f))

pub three_calls : ThreeCalls
three_calls file edges edges' scratch scratch' cells cells' rows rows' pool pool' d symbols stamps reading building
    answer p q u a b c e =
    let r : Rule = (read_rule file).rule_is in
    let zero_read : reading.number ≡ 0 = first_none file edges edges' reading p a b in
    let x : Read file edges edges' reading = read file edges edges' reading p zero_read in
    let zero_built : building.number ≡ 0 =
    second_none reading.head edges' scratch scratch' cells cells' rows rows' pool pool' building r
    x.passes_both x.spells_it q c in
    let y : Made r scratch cells cells' rows rows' pool pool' building =
    made reading.head edges' scratch scratch' cells cells' rows rows' pool pool' building r x.passes_both
    x.spells_it q zero_built in
    let z : Answered r (tables building.built cells' rows' pool') d symbols stamps =
    subst (λ (t : Tables). Answered r t d symbols stamps) (sym y.tables_are)
    (answered r (length scratch) (length cells) (length rows) (length pool) d symbols stamps
    x.valid
    y.fits) in (
      zero_read,
      zero_built,
      third_none r (tables building.built cells' rows' pool') d symbols stamps answer z u.answer_is e,
    )

pub three_calls_written : ThreeCallsWritten
three_calls_written r edges edges' scratch scratch' cells cells' rows rows' pool pool' d symbols stamps reading
    building answer v p q u b c e =
    let k : ReadBack r (rule_bytes r) = valid_is_spelt r v in
    let claim =
    three_calls (rule_bytes r) edges edges' scratch scratch' cells cells' rows rows' pool pool' d symbols stamps
    reading building answer p q u (not_refused r edges edges' reading k.accepted p) b c e in
    claim.2 ∙ rw k.spells
