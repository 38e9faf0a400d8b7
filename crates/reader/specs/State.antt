-- A reading under way, and what each step of the code answers.
use Rattle.std.specs.Prelude.{◌≡◌, true, List, ℕ, ◌+◌, ◌≤◌, length, drop}
use Rattle.std.specs.Prelude.{Option, Some, None, Result, Ok, Err, is_ok}
use Rattle.model.specs.declared.Fault.{Fault}
use Rattle.model.specs.declared.Head.{Head}
use Rattle.model.specs.declared.Refused.{Refused}
use Rattle.model.specs.Basics.{zeros, Refusal, refusal, refuse, ◌⨾◌}
use Rattle.model.specs.Faults.{fault_number, reading_in}
use Rattle.model.specs.Rules.{Edge, Rule}
use Rattle.model.specs.Files.{kind_of, edge_from, no_rule, past_last}
use Rattle.model.specs.Files.{out_of_order, one_too_many, bad_sizes, out_of_range, not_pinned, record_refusal}
use Rattle.model.specs.Files.{with_record, Spelt, unspelt, at_end, read_rule}
use Rattle.model.specs.Layout.{edge_need, head_of, edge_table}
use Rattle.model.specs.Promises.{reading_of}
use Rattle.model.proofs.FileRecords.{Allowed}
use Rattle.model.proofs.FileOutcomes.{spelt}
use Rattle.model.proofs.FileSteps.{record_length, rule_after}
use Rattle.model.proofs.FileSoFar.{SoFar}
use Rattle.reader.specs.declared.cursor.Cursor.{Cursor}
use Rattle.reader.specs.declared.record.Record.{Record}
use Rattle.reader.specs.Records.{kind_number}

-- the head record that a cursor holds, and the edge that a record spells
abbrev pub head_in : Cursor → Head
head_in c = record {
  locations = c.sizes.locations;
  symbols = c.sizes.symbols;
  clocks = c.sizes.clocks;
  starts = c.initial.mask;
  ends = c.finals.mask;
  count = c.count;
}

abbrev pub edge_spelt : Record → Edge
edge_spelt x = edge_from (kind_number x.kind) (length x.body.now) x.body.now

-- 3 to 7, of a record that is whole and whose body has a length of its kind
unfoldable pub body_refusal : ℕ → ℕ → Rule → ℕ → ℕ → List ℕ → Refusal
body_refusal p last r kind n body =
    refuse (out_of_order last r kind body) 3 p ⨾ refuse (one_too_many r kind) 4 p ⨾ refuse (bad_sizes kind body) 5 p
    ⨾ refuse (out_of_range r kind n body) 6 p
    ⨾ refuse (not_pinned kind n body) 7 p

-- the cursor holds the rule read so far
pub record Holds (r : Rule) (c : Cursor) : Type 0 where
  pub so_far : SoFar (kind_number c.last) r
  pub head_is : head_in c ≡ head_of r
  pub start_is : c.initial.least ≡ past_last r.initial
  pub end_is : c.finals.least ≡ past_last r.final

-- there is none before the first record
abbrev pub HeldBy : Rule → Option Cursor → Type 0
HeldBy r None = r ≡ no_rule
HeldBy r (Some c) = Holds r c

abbrev pub last_in : Option Cursor → ℕ
last_in None = 0
last_in (Some c) = kind_number c.last

-- cursor and table hold the rule so far
pub record State (r : Rule) (c : Option Cursor) (t : List ℕ) : Type 0 where
  pub held : HeldBy r c
  pub long : edge_need ≤ length t
  pub table_is : t ≡ edge_table (length t) r

-- a record taken after one of kind `last`, or refused with 3 to 7
pub record Taken (last : ℕ) (r : Rule) (kind : ℕ) (body t' : List ℕ) (d : Cursor) : Type 0 where
  pub allowed : Allowed last r kind (length body) body
  pub last_is : kind_number d.last ≡ kind
  pub state : State (with_record r kind (length body) body) (Some d) t'

pub record NotTaken (last : ℕ) (r : Rule) (kind : ℕ) (body : List ℕ) (f : Fault) : Type 0 where
  pub refusal_is : (p : ℕ) → body_refusal p last r kind (length body) body ≡ refusal (fault_number f) p

abbrev pub TakenIs : ℕ → Rule → Record → List ℕ → Result Cursor Fault → Type 0
TakenIs last r x t' (Ok d) = Taken last r (kind_number x.kind) x.body.now t' d
TakenIs last r x t' (Err f) = NotTaken last r (kind_number x.kind) x.body.now f

-- what a step answers: the reading goes on past the record, or is refused at it
pub record GoesOn (s : List ℕ) (last : ℕ) (r : Rule) (t' : List ℕ) (d : Cursor) (after : List ℕ) : Type 0 where
  pub passes : (p : ℕ) → (record_refusal p last r s).number ≡ 0
  pub after_is : after ≡ drop (record_length s) s
  pub shorter : length after + record_length s ≡ length s
  pub last_is : kind_number d.last ≡ kind_of s
  pub state : State (rule_after r s) (Some d) t'

pub record Stops (s : List ℕ) (last : ℕ) (r : Rule) (f : Fault) : Type 0 where
  pub refusal_is : (p : ℕ) → record_refusal p last r s ≡ refusal (fault_number f) p

-- the outcome at the end of the file: refused, or the head record of the whole rule
abbrev pub EndsWith : Rule → Spelt → ℕ → Result Head Fault → Type 0
EndsWith r s p (Ok h) = (s ≡ spelt r) × (h ≡ head_of r)
EndsWith r s p (Err f) = s ≡ unspelt (refusal (fault_number f) p)

pub record Finishes (r : Rule) (x : Result Head Fault) : Type 0 where
  pub ends : (p : ℕ) → EndsWith r (at_end p r) p x

-- all records read into a table of zeros
pub record Cleared (t : List ℕ) : Type 0 where
  pub long : edge_need ≤ length t
  pub zero : t ≡ zeros (length t)

pub record ReadsRecords (file edges edges' : List ℕ) (x : Result Head Refused) : Type 0 where
  pub answer_is : reading_in x ≡ reading_of (read_rule file).refused (read_rule file).rule_is
  pub table_is : is_ok x ≡ true → edges' ≡ edge_table (length edges) (read_rule file).rule_is
