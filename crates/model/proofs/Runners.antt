-- The runners agree: each gives the verdict of the runs, so the exact, the branch and the table runner give one.
use Rattle.std.specs.Prelude.{Option}
use mathlib.Core.Path.{◌≡◌, refl, sym, ◌∙◌, ap, subst}
use mathlib.Core.List.{List}
use Prim.Native.Nat.{ℕ}
use native.Mathlib.Omega.{arith}
use lib.ListN.{length}
use borrow.Author.Tests.{eq-eqb}
use Rattle.model.specs.declared.Answer.{Answer}
use Rattle.model.specs.declared.Building.{Building}
use Rattle.model.specs.declared.Branch.{Branch}
use Rattle.model.specs.Basics.{one_if, Refusal}
use Rattle.model.specs.Rules.{Rule}
use Rattle.model.specs.Words.{events_of, most_events, word_refusal}
use Rattle.model.specs.Runs.{accepts, least_run, held_back}
use Rattle.model.specs.Layout.{rule_in, rule_refusal}
use Rattle.model.specs.Tables.{Tables, tables}
use Rattle.model.specs.Walks.{table_accepts}
use Rattle.model.specs.Promises.{answer_of, build_refusal, branch_of, run_refusal}
use Rattle.model.specs.Claims.{RunnersAgree}
use Rattle.model.proofs.Refusals.{first_passes}
use Rattle.model.proofs.LeastRun.{runs_are}
use Rattle.model.proofs.Readable.{rule_settled, passes_valid}
use Rattle.model.proofs.Numbers.{among_zero, word_numbers}
use Rattle.model.proofs.Calls.{Made, made, Answered, answered}

-- an answer without a number gives its value
value_of :
    (f : Refusal) (value : ℕ) (answer : Answer) → answer ≡ answer_of f value → answer.number ≡ 0 → answer.value ≡ value
value_of f value answer e z =
    let none : f.number ≡ 0 = sym (ap (λ (x : Answer). x.number) e) ∙ z in
    ap (λ (x : Answer). x.value) e ∙ rw (eq-eqb f.number 0 none)

-- the table runner's value is the runs'
table_value :
    (r : Rule) (t : Tables) (d : ℕ) (symbols stamps : List ℕ) (answer : Answer) → Answered r t d symbols stamps
    → answer ≡ answer_of (run_refusal t d symbols stamps) (one_if (table_accepts t d (events_of symbols stamps)))
    → answer.number ≡ 0
    → answer.value ≡ one_if (accepts r d (events_of symbols stamps))
table_value r t d symbols stamps answer says e z =
    let word : Refusal = word_refusal r.symbols d most_events symbols stamps in
    let none : word.number ≡ 0 =
    sym (ap (λ (x : Answer). x.number) e ∙ ap (λ (x : Refusal). x.number) says.refused_by_word) ∙ z in
    value_of (run_refusal t d symbols stamps) (one_if (table_accepts t d (events_of symbols stamps))) answer e z
    ∙ ap one_if
    (says.says (among_zero word (omega arith) (word_numbers r.symbols d most_events symbols stamps) none))

-- the branch runner finds a run exactly if the word is accepted
branch_found :
    (f : Refusal) (r : Rule) (d : ℕ) (symbols stamps : List ℕ) (g : Option ℕ) (branch : Branch)
    → branch ≡ branch_of f (least_run r d (events_of symbols stamps)) g
    → branch.number ≡ 0
    → branch.found ≡ accepts r d (events_of symbols stamps)
branch_found f r d symbols stamps g branch e z =
    let none : f.number ≡ 0 = sym (ap (λ (x : Branch). x.number) e) ∙ z in
    ap (λ (x : Branch). x.found) e ∙ rw (eq-eqb f.number 0 none) (runs_are.found_is r d (events_of symbols stamps))

pub runners_agree : RunnersAgree
unfolding build_refusal
runners_agree head edges scratch scratch' cells cells' rows rows' pool pool' room room' d symbols stamps building
    exact table branch p t e b z zt ze zb =
    let r : Rule = rule_in head edges in
    let built : Refusal = build_refusal head edges scratch cells rows pool in
    let none : built.number ≡ 0 = sym (ap (λ (x : Building). x.number) p.answer_is) ∙ z in
    let checked : (rule_refusal head edges).number ≡ 0 = first_passes (rule_refusal head edges) _ none in
    let y : Made r scratch cells cells' rows rows' pool pool' building =
    made head edges scratch scratch' cells cells' rows rows' pool pool' building r
    (rule_settled head edges checked)
    refl
    p
    z in
    let says : Answered r (tables building.built cells' rows' pool') d symbols stamps =
    subst (λ (x : Tables). Answered r x d symbols stamps) (sym y.tables_are)
    (answered r (length scratch) (length cells) (length rows) (length pool) d symbols stamps
    (passes_valid head edges checked)
    y.fits) in
    let verdict : table.value ≡ one_if (accepts r d (events_of symbols stamps)) =
    table_value r (tables building.built cells' rows' pool') d symbols stamps table says t.answer_is zt in (
      value_of _ _ exact e.answer_is ze ∙ sym verdict,
      ap one_if (branch_found _ r d symbols stamps (held_back r d (events_of symbols stamps)) branch b.answer_is zb)
          ∙ sym verdict,
    )
