-- The three calls in a row meet the promise of `decide`, wherever the first refusal is met.
use mathlib.Core.Path.{◌≡◌, sym, ◌∙◌, ap, subst}
use mathlib.Core.Bool.{true, false}
use mathlib.Core.List.{List}
use Prim.Native.Nat.{ℕ}
use native.Mathlib.Omega.{arith}
use lib.ListN.{length}
use borrow.Author.Tests.{eq-eqb, ne_eqb, eqb-true}
use Rattle.model.specs.declared.Answer.{Answer}
use Rattle.model.specs.declared.Reading.{Reading}
use Rattle.model.specs.declared.Building.{Building}
use Rattle.model.specs.Basics.{one_if, Refusal, fine, passes, ◌⨾◌}
use Rattle.model.specs.Rules.{Rule}
use Rattle.model.specs.Words.{events_of, most_events, word_refusal}
use Rattle.model.specs.Runs.{accepts}
use Rattle.model.specs.Files.{read_rule}
use Rattle.model.specs.Tables.{Tables, tables, table_refusal}
use Rattle.model.specs.Walks.{table_accepts}
use Rattle.model.specs.Promises.{answer_of, read_refusal, ReadsRule, build_refusal, BuildsTable, run_refusal}
use Rattle.model.specs.Promises.{RunsTable, roomed_refusal, decide_refusal, Decides}
use Rattle.model.proofs.Logic.{by_test}
use Rattle.model.proofs.Refusals.{on_pass, on_refused}
use Rattle.model.proofs.Numbers.{among_zero, word_numbers}
use Rattle.model.proofs.Calls.{Read, read, Made, made, built_numbered, Answered, answered}

-- a refusal handed on, value 0
abbrev pub handed_on : ℕ → ℕ → Answer
handed_on number place = record { number = number; place = place; value = 0 }

handed_on_lem : (f : Refusal) (value : ℕ) → (f.number ≡ 0 → ⊥) → handed_on f.number f.place ≡ answer_of f value
handed_on_lem f value h = rw (ne_eqb f.number 0 h)

-- the reader refuses: all that the builder would write is untouched
pub unread :
    (file edges edges' scratch cells rows pool : List ℕ) (d : ℕ) (symbols stamps : List ℕ) (reading : Reading)
    → ReadsRule file edges edges' reading
    → (reading.number ≡ 0 → ⊥)
    → Decides file edges edges' scratch scratch cells cells rows rows pool pool d symbols stamps
    (handed_on reading.number reading.place)
unfolding decide_refusal
unread file edges edges' scratch cells rows pool d symbols stamps reading p h =
    let f : Refusal = read_refusal file edges in
    let number : reading.number ≡ f.number = ap (λ (x : Reading). x.number) p.answer_is in
    let place : reading.place ≡ f.place = ap (λ (x : Reading). x.place) p.answer_is in
    let not_zero : f.number ≡ 0 → ⊥ = λ z. h (number ∙ z) in
    let stops : passes f ≡ false = ne_eqb f.number 0 not_zero in
    record {
      answer_is = rw (number, place, on_refused f _ not_zero) (handed_on_lem f _ not_zero);
      edges_are = p.edges_are;
      scratch_is = rw stops;
      cells_are = rw stops;
      rows_are = rw stops;
      pool_is = rw stops;
    }

-- the room does not refuse: what is left is the word
word_alone :
    (file scratch cells rows pool : List ℕ)
    → table_refusal (read_rule file).rule_is (length scratch) (length cells) (length rows) (length pool) ≡ fine
    → (word : Refusal)
    → (roomed_refusal file scratch cells rows pool ⨾ word) ≡ word
unfolding roomed_refusal
word_alone file scratch cells rows pool h word =
    on_pass (table_refusal (read_rule file).rule_is (length scratch) (length cells) (length rows) (length pool)) word
    (ap (λ (f : Refusal). f.number) h)

-- where only the word can be refused, the answer of the table is that of the runs
same_answer :
    (r : Rule) (t : Tables) (d : ℕ) (symbols stamps : List ℕ) → Answered r t d symbols stamps
    → answer_of (run_refusal t d symbols stamps) (one_if (table_accepts t d (events_of symbols stamps)))
    ≡ answer_of (word_refusal r.symbols d most_events symbols stamps) (one_if (accepts r d (events_of symbols stamps)))
same_answer r t d symbols stamps z =
    by_test (passes (word_refusal r.symbols d most_events symbols stamps))
    (λ e.
    let none : word_refusal r.symbols d most_events symbols stamps ≡ fine =
    among_zero (word_refusal r.symbols d most_events symbols stamps) (omega arith)
    (word_numbers r.symbols d most_events symbols stamps)
    (eqb-true (word_refusal r.symbols d most_events symbols stamps).number 0 e) in
    rw (z.refused_by_word, z.says none))
    (λ e. rw (z.refused_by_word, e))

module _
    (file edges edges' scratch scratch' cells cells' rows rows' pool pool' : List ℕ) (d : ℕ) (symbols stamps : List ℕ)
    (reading : Reading) (building : Building) (p : ReadsRule file edges edges' reading)
    (zero_read : reading.number ≡ 0)
    (q : BuildsTable reading.head edges' scratch scratch' cells cells' rows rows' pool pool' building) where
  abbrev r : Rule
  r = (read_rule file).rule_is

  left : Read file edges edges' reading
  left = read file edges edges' reading p zero_read

  reads : (read_refusal file edges).number ≡ 0
  reads = sym (ap (λ (x : Reading). x.number) p.answer_is) ∙ zero_read

  goes_on : passes (read_refusal file edges) ≡ true
  goes_on = eq-eqb (read_refusal file edges).number 0 reads

  same_refusal :
      build_refusal reading.head edges' scratch cells rows pool
      ≡ roomed_refusal file scratch cells rows pool
  unfolding roomed_refusal
  same_refusal = built_numbered reading.head edges' scratch cells rows pool r left.passes_both left.spells_it

  decided_so_far :
      decide_refusal file edges scratch cells rows pool d symbols stamps
      ≡ (roomed_refusal file scratch cells rows pool ⨾ word_refusal r.symbols d most_events symbols stamps)
  unfolding decide_refusal
  decided_so_far = on_pass (read_refusal file edges) _ reads

  -- the tables at exit, whatever the builder answers
  made_so_far :
      (answer : Answer)
      → answer
      ≡ answer_of (decide_refusal file edges scratch cells rows pool d symbols stamps)
      (one_if (accepts r d (events_of symbols stamps)))
      → Decides file edges edges' scratch scratch' cells cells' rows rows' pool pool' d symbols stamps answer
  made_so_far answer a = record {
    answer_is = a;
    edges_are = p.edges_are;
    scratch_is = rw (goes_on, ← same_refusal) q.scratch_is;
    cells_are = rw (goes_on, ← same_refusal, ← left.spells_it) q.cells_are;
    rows_are = rw (goes_on, ← same_refusal, ← left.spells_it) q.rows_are;
    pool_is = rw (goes_on, ← same_refusal, ← left.spells_it) q.pool_is;
  }

  -- the builder refuses
  pub unbuilt :
      (building.number ≡ 0 → ⊥)
      → Decides file edges edges' scratch scratch' cells cells' rows rows' pool pool' d symbols stamps
      (handed_on building.number building.place)
  unbuilt h =
      let f : Refusal = roomed_refusal file scratch cells rows pool in
      let number : building.number ≡ f.number =
      ap (λ (x : Building). x.number) q.answer_is ∙ ap (λ (x : Refusal). x.number) same_refusal in
      let place : building.place ≡ f.place =
      ap (λ (x : Building). x.place) q.answer_is ∙ ap (λ (x : Refusal). x.place) same_refusal in
      let not_zero : f.number ≡ 0 → ⊥ = λ z. h (number ∙ z) in
      made_so_far (handed_on building.number building.place)
      (rw (number, place, decided_so_far, on_refused f _ not_zero) (handed_on_lem f _ not_zero))

  -- the table runner answers
  pub decided :
      (answer : Answer) → building.number ≡ 0 → RunsTable building.built cells' rows' pool' d symbols stamps answer
      → Decides file edges edges' scratch scratch' cells cells' rows rows' pool pool' d symbols stamps answer
  decided answer zero_built u =
      let y : Made r scratch cells cells' rows rows' pool pool' building =
      made reading.head edges' scratch scratch' cells cells' rows rows' pool pool' building r
      left.passes_both
      left.spells_it
      q
      zero_built in
      let z : Answered r (tables building.built cells' rows' pool') d symbols stamps =
      subst (λ (t : Tables). Answered r t d symbols stamps) (sym y.tables_are)
      (answered r (length scratch) (length cells) (length rows) (length pool) d symbols stamps
      left.valid
      y.fits) in
      made_so_far answer
      (u.answer_is
      ∙ (same_answer r (tables building.built cells' rows' pool') d symbols stamps z
      ∙ ap (λ (f : Refusal). answer_of f (one_if (accepts r d (events_of symbols stamps))))
      (sym (decided_so_far ∙ word_alone file scratch cells rows pool y.fits
      (word_refusal r.symbols d most_events symbols stamps)))))
