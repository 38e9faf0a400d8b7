-- The reader, then the writer: what an accepted reading leaves, written, is the file less a ceiling, and bytes past it
-- are as they were; where there is no room for it, 27. What was written is read alike.
use mathlib.Core.Path.{◌≡◌, sym, ◌∙◌, ap}
use mathlib.Core.Bool.{Bool, true, false}
use mathlib.Core.List.{List}
use Prim.Native.Nat.{ℕ, ◌≤◌, ◌<◌}
use lib.Dec.{ltb}
use lib.ListN.{length}
use borrow.Author.Tests.{ltb-false, leb-true, leb-false, eq-eqb, le-ltb, lt-ltb, le-leb}
use Rattle.model.specs.declared.Head.{Head}
use Rattle.model.specs.declared.Answer.{Answer}
use Rattle.model.specs.declared.Reading.{Reading}
use Rattle.model.specs.Basics.{all_below, written, Refusal, refusal, fine, refuse, passes}
use Rattle.model.specs.Rules.{Rule}
use Rattle.model.specs.Runs.{accepts}
use Rattle.model.specs.Files.{read_rule, rule_bytes, less_ceiling}
use Rattle.model.specs.Layout.{edge_need, head_of, edge_table, rule_in, rule_refusal}
use Rattle.model.specs.Promises.{too_short, read_refusal, reading_of, edges_read, ReadsRule, write_refusal}
use Rattle.model.specs.Promises.{WritesRule}
use Rattle.model.specs.Demands.{ReadBack, CeilingGoes, Left, ReadThenWrite, ReadThenRefused, ReadAgain}
use Rattle.model.proofs.Refusals.{refused_false, first_passes, then_passes, both_fine, refuse_fine}
use Rattle.model.proofs.FileSteps.{read_settled}
use Rattle.model.proofs.FileSpelt.{spells_valid, less_bytes}
use Rattle.model.proofs.FileRead.{valid_is_spelt}
use Rattle.model.proofs.Readable.{spelled}

-- what a reading that is not refused leaves
pub record WasRead (file edges edges' : List ℕ) (reading : Reading) : Type 0 where
  pub room : edge_need ≤ length edges
  pub accepted : (read_rule file).refused ≡ fine
  pub head_is : reading.head ≡ head_of (read_rule file).rule_is
  pub edges_are : edges' ≡ edge_table (length edges) (read_rule file).rule_is

read_passes :
    (file edges : List ℕ) → (read_refusal file edges).number ≡ 0
    → (too_short edges ≡ false) × ((read_rule file).refused.number ≡ 0)
unfolding read_refusal
read_passes file edges z =
    let f : Refusal = refuse (too_short edges) 20 0 in
    let g : Refusal = (read_rule file).refused in
    (refused_false (too_short edges) 19 0 (first_passes f g z), then_passes f g z)

pub was_read :
    (file edges edges' : List ℕ) (reading : Reading) → ReadsRule file edges edges' reading → reading.number ≡ 0
    → WasRead file edges edges' reading
was_read file edges edges' reading h z =
    let number : (read_refusal file edges).number ≡ 0 = sym (ap (λ (x : Reading). x.number) h.answer_is) ∙ z in
    let both = read_passes file edges number in
    let pass : passes (read_refusal file edges) ≡ true = eq-eqb (read_refusal file edges).number 0 number in
    record {
      room = ltb-false (length edges) edge_need both.0;
      accepted = read_settled file both.1;
      head_is = ap (λ (x : Reading). x.head) h.answer_is ∙ rw pass;
      edges_are = h.edges_are ∙ rw (both.0, pass);
    }

-- what a rule becomes, written where there is room
write_passes :
    (h : Head) (t out : List ℕ) → rule_refusal h t ≡ fine → length (rule_bytes (rule_in h t)) ≤ length out
    → write_refusal h t out ≡ fine
unfolding write_refusal
write_passes h t out q room =
    let f : Bool = ltb (length out) (length (rule_bytes (rule_in h t))) in
    both_fine (rule_refusal h t) (refuse f 27 0) (ap (λ (x : Refusal). x.number) q)
    (refuse_fine f 27 0 (le-ltb (length out) (length (rule_bytes (rule_in h t))) room))

pub was_written :
    (h : Head) (t out out' : List ℕ) (answer : Answer) (file : List ℕ) → WritesRule h t out out' answer
    → rule_refusal h t ≡ fine → rule_bytes (rule_in h t) ≡ file → length file ≤ length out
    → (answer ≡ record { number = 0; place = 0; value = length file }) × (out' ≡ written file out)
was_written h t out out' answer file w q e room =
    let fits : length (rule_bytes (rule_in h t)) ≤ length out = rw e room in
    let pass : write_refusal h t out ≡ fine = write_passes h t out q fits in
    (w.answer_is ∙ rw (pass, e), w.out_is ∙ rw (pass, e))

write_short :
    (h : Head) (t out : List ℕ) → rule_refusal h t ≡ fine → length out < length (rule_bytes (rule_in h t))
    → write_refusal h t out ≡ refusal 27 0
unfolding write_refusal
write_short h t out q short = rw (q, lt-ltb (length out) (length (rule_bytes (rule_in h t))) short)

was_short :
    (h : Head) (t out out' : List ℕ) (answer : Answer) (file : List ℕ) → WritesRule h t out out' answer
    → rule_refusal h t ≡ fine → rule_bytes (rule_in h t) ≡ file → length out < length file
    → (answer ≡ record { number = 27; place = 0; value = 0 }) × (out' ≡ out)
was_short h t out out' answer file w q e short =
    let over : length out < length (rule_bytes (rule_in h t)) = rw e short in
    let refused : write_refusal h t out ≡ refusal 27 0 = write_short h t out q over in
    (w.answer_is ∙ rw refused, w.out_is ∙ rw refused)

-- what an accepted reading leaves for the writer
record ToWrite (file : List ℕ) (h : Head) (t : List ℕ) : Type 0 where
  passes_both : rule_refusal h t ≡ fine
  written_is : rule_bytes (rule_in h t) ≡ less_ceiling file

to_write :
    (file edges edges' : List ℕ) (reading : Reading) → all_below 256 file ≡ true → ReadsRule file edges edges' reading
    → reading.number ≡ 0
    → ToWrite file reading.head edges'
to_write file edges edges' reading bytes reads none =
    let r : Rule = (read_rule file).rule_is in
    let was : WasRead file edges edges' reading = was_read file edges edges' reading reads none in
    let left : Left r (head_of r) (edge_table (length edges) r) =
    spelled r (length edges) (spells_valid file was.accepted) (le-leb edge_need (length edges) was.room) in
    rw (was.head_is, was.edges_are)
    (record {
      passes_both = left.passes_both;
      written_is = ap rule_bytes left.spells ∙ less_bytes file bytes was.accepted;
    })

pub read_then_write : ReadThenWrite
read_then_write file edges edges' out out' reading answer bytes reads writes none lent =
    let left = to_write file edges edges' reading bytes reads none in
    was_written reading.head edges' out out' answer (less_ceiling file) writes left.passes_both left.written_is
    (leb-true (length (less_ceiling file)) (length out) lent)

pub read_then_refused : ReadThenRefused
read_then_refused file edges edges' out out' reading answer bytes reads writes none short =
    let left = to_write file edges edges' reading bytes reads none in
    was_short reading.head edges' out out' answer (less_ceiling file) writes left.passes_both left.written_is
    (leb-false (length (less_ceiling file)) (length out) short)

-- what is written of a file is accepted, spells the same rule and accepts the same words
pub ceiling_goes : CeilingGoes
ceiling_goes file bytes h =
    let r : Rule = (read_rule file).rule_is in
    let e : rule_bytes r ≡ less_ceiling file = less_bytes file bytes h in
    let back : ReadBack r (less_ceiling file) = rw e at (valid_is_spelt r (spells_valid file h)) in
    record {
      written_is = e;
      read_again = back;
      same_words = λ d vs. ap (λ (q : Rule). accepts q d vs) back.spells;
    }

-- two files with one rule and one refusal are read alike
read_alike :
    (f g edges : List ℕ) → (read_rule f).refused ≡ (read_rule g).refused → (read_rule f).rule_is ≡ (read_rule g).rule_is
    → (reading_of (read_refusal f edges) (read_rule f).rule_is ≡ reading_of (read_refusal g edges)
    (read_rule g).rule_is)
    × (edges_read f edges ≡ edges_read g edges)
unfolding read_refusal
read_alike f g edges p q = (rw (p, q), rw (p, q))

pub read_again : ReadAgain
read_again file edges edges' edges'' reading again bytes first second none =
    let was : WasRead file edges edges' reading = was_read file edges edges' reading first none in
    let back = (ceiling_goes file bytes was.accepted).read_again in
    let alike =
    read_alike (less_ceiling file) file edges (back.accepted ∙ sym was.accepted) back.spells in (
      second.answer_is ∙ (alike.0 ∙ sym first.answer_is),
      second.edges_are ∙ (alike.1 ∙ sym first.edges_are),
    )
