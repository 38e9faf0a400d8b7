-- What each of the three calls leaves for the next: the reader a rule that passes 20 and 21, the builder tables in
-- shape, the table runner the answer of the runs.
use mathlib.Core.Path.{◌≡◌, refl, sym, ◌∙◌, ap}
use mathlib.Core.Bool.{true, false}
use mathlib.Core.List.{List}
use Prim.Native.Nat.{ℕ, ◌≤◌}
use native.Mathlib.Omega.{arith}
use lib.Dec.{leb}
use lib.ListN.{length}
use borrow.Author.Tests.{le-leb, ltb-false}
use Rattle.model.specs.declared.Head.{Head}
use Rattle.model.specs.declared.Reading.{Reading}
use Rattle.model.specs.declared.Building.{Building}
use Rattle.model.specs.Basics.{within, Refusal, refusal, fine, refuse}
use Rattle.model.specs.Rules.{Rule, valid_rule}
use Rattle.model.specs.Words.{events_of, most_events, word_refusal}
use Rattle.model.specs.Runs.{accepts}
use Rattle.model.specs.Files.{read_rule}
use Rattle.model.specs.Layout.{edge_need, head_of, edge_table, rule_in, rule_refusal}
use Rattle.model.specs.Tables.{Tables, tables, built_of, tables_by, tables_of, table_refusal}
use Rattle.model.specs.Walks.{in_shape, shape_refusal, table_accepts}
use Rattle.model.specs.Promises.{too_short, read_refusal, ReadsRule, build_refusal, tables_made, BuildsTable}
use Rattle.model.specs.Promises.{run_refusal}
use Rattle.model.specs.Demands.{Left}
use Rattle.model.proofs.Logic.{and_both}
use Rattle.model.proofs.Refusals.{refused_false, first_passes, on_pass}
use Rattle.model.proofs.Agreement.{walk_agrees}
use Rattle.model.proofs.TableWalk.{table_walks}
use Rattle.model.proofs.Shape.{built_in_shape}
use Rattle.model.proofs.FileSpelt.{spells_valid}
use Rattle.model.proofs.Readable.{spelled}
use Rattle.model.proofs.Numbers.{among_zero, read_numbers, table_numbers}

-- a number within a range that it is said not to be in
pub outside : (low high n : ℕ) → within low high n ≡ false → low ≤ n → n ≤ high → ⊥
outside low high n h a b =
    let z : true ≡ false = sym (and_both (leb low n) (leb n high) (le-leb low n a) (le-leb n high b)) ∙ h in no_truth z
  where
    no_truth : true ≡ false → ⊥
    no_truth z = let y : ◌≡◌ {A = ℕ} 0 1 = cc in omega arith

-- the built record and tables that the builder leaves are those of the construction
pub same_tables :
    (r : Rule) (c n p : ℕ)
    → tables (built_of r) (tables_of r c n p).cells (tables_of r c n p).rows (tables_of r c n p).pool ≡ tables_of r c n
    p
unfolding built_of tables_by tables_of
same_tables r c n p = refl

pub read_numbered : (file edges : List ℕ) → too_short edges ≡ false → read_refusal file edges ≡ (read_rule file).refused
unfolding read_refusal
read_numbered file edges h = rw h

pub read_short : (file edges : List ℕ) → too_short edges ≡ true → read_refusal file edges ≡ refusal 20 0
unfolding read_refusal
read_short file edges h = rw h

pub read_long : (file edges : List ℕ) → (read_refusal file edges).number ≡ 0 → too_short edges ≡ false
unfolding read_refusal
read_long file edges h =
    refused_false (too_short edges) 19 0 (first_passes (refuse (too_short edges) 20 0) (read_rule file).refused h)

-- what the reader leaves of an accepted file
pub record Read (file edges edges' : List ℕ) (reading : Reading) : Type 0 where
  pub accepted : (read_rule file).refused ≡ fine
  pub valid : valid_rule (read_rule file).rule_is ≡ true
  pub head_is : reading.head ≡ head_of (read_rule file).rule_is
  pub passes_both : rule_refusal reading.head edges' ≡ fine
  pub spells_it : rule_in reading.head edges' ≡ (read_rule file).rule_is

-- what the builder leaves of it
pub record Made (r : Rule) (scratch cells cells' rows rows' pool pool' : List ℕ) (building : Building) : Type 0 where
  pub fits : table_refusal r (length scratch) (length cells) (length rows) (length pool) ≡ fine
  pub tables_are : tables building.built cells' rows' pool' ≡ tables_made r cells rows pool

pub built_numbered :
    (h : Head) (t scratch cells rows pool : List ℕ) (r : Rule) → rule_refusal h t ≡ fine → rule_in h t ≡ r
    → build_refusal h t scratch cells rows pool
    ≡ table_refusal r (length scratch) (length cells) (length rows) (length pool)
unfolding build_refusal
built_numbered h t scratch cells rows pool r f e =
    on_pass (rule_refusal h t) (table_refusal (rule_in h t) (length scratch) (length cells) (length rows) (length pool))
    (ap (λ (x : Refusal). x.number) f)
    ∙ ap (λ (x : Rule). table_refusal x (length scratch) (length cells) (length rows) (length pool)) e

pub made :
    (h : Head) (t scratch scratch' cells cells' rows rows' pool pool' : List ℕ) (building : Building) (r : Rule)
    → rule_refusal h t ≡ fine
    → rule_in h t ≡ r
    → BuildsTable h t scratch scratch' cells cells' rows rows' pool pool' building
    → building.number ≡ 0
    → Made r scratch cells cells' rows rows' pool pool' building
made h t scratch scratch' cells cells' rows rows' pool pool' building r f e p z =
    let numbered :
    build_refusal h t scratch cells rows pool
    ≡ table_refusal r (length scratch) (length cells) (length rows) (length pool) =
    built_numbered h t scratch cells rows pool r f e in
    let none : table_refusal r (length scratch) (length cells) (length rows) (length pool) ≡ fine =
    among_zero (table_refusal r (length scratch) (length cells) (length rows) (length pool)) (omega arith)
    (table_numbers r (length scratch) (length cells) (length rows) (length pool))
    (sym (ap (λ (x : Refusal). x.number) numbered) ∙ (sym (ap (λ (x : Building). x.number) p.answer_is) ∙ z)) in
    let refused : build_refusal h t scratch cells rows pool ≡ fine = numbered ∙ none in
    let built : building.built ≡ built_of r = ap (λ (x : Building). x.built) p.answer_is ∙ rw (refused, e) in
    let cells_are : cells' ≡ (tables_made r cells rows pool).cells = p.cells_are ∙ rw (refused, e) in
    let rows_are : rows' ≡ (tables_made r cells rows pool).rows = p.rows_are ∙ rw (refused, e) in
    let pool_is : pool' ≡ (tables_made r cells rows pool).pool = p.pool_is ∙ rw (refused, e) in
    record {
      fits = none;
      tables_are = rw (built, cells_are, rows_are, pool_is) (same_tables r (length cells) (length rows) (length pool));
    }

pub read :
    (file edges edges' : List ℕ) (reading : Reading) → ReadsRule file edges edges' reading → reading.number ≡ 0
    → Read file edges edges' reading
read file edges edges' reading p z =
    let none : (read_refusal file edges).number ≡ 0 = sym (ap (λ (x : Reading). x.number) p.answer_is) ∙ z in
    let long : too_short edges ≡ false = read_long file edges none in
    let fine_read : (read_rule file).refused ≡ fine =
    among_zero (read_rule file).refused (omega arith) (read_numbers file)
    (sym (ap (λ (f : Refusal). f.number) (read_numbered file edges long)) ∙ none) in
    let ok : valid_rule (read_rule file).rule_is ≡ true = spells_valid file fine_read in
    let refused : read_refusal file edges ≡ fine = read_numbered file edges long ∙ fine_read in
    let head : reading.head ≡ head_of (read_rule file).rule_is = ap (λ (x : Reading). x.head) p.answer_is
    ∙ rw refused in
    let table : edges' ≡ edge_table (length edges) (read_rule file).rule_is = p.edges_are ∙ rw (long, refused) in
    let left : Left (read_rule file).rule_is (head_of (read_rule file).rule_is)
    (edge_table (length edges) (read_rule file).rule_is) =
    spelled (read_rule file).rule_is (length edges) ok (le-leb edge_need (length edges)
    (ltb-false (length edges) edge_need long)) in
    record {
      accepted = fine_read;
      valid = ok;
      head_is = head;
      passes_both = rw (head, table) left.passes_both;
      spells_it = rw (head, table) left.spells;
    }

-- the table runner on what the builder left: only the word can be refused, and the answer is that of the runs
pub record Answered (r : Rule) (t : Tables) (d : ℕ) (symbols stamps : List ℕ) : Type 0 where
  pub refused_by_word : run_refusal t d symbols stamps ≡ word_refusal r.symbols d most_events symbols stamps
  pub says :
      word_refusal r.symbols d most_events symbols stamps ≡ fine
      → table_accepts t d (events_of symbols stamps) ≡ accepts r d (events_of symbols stamps)

run_numbered :
    (r : Rule) (c n p : ℕ) (d : ℕ) (symbols stamps : List ℕ) → in_shape (tables_of r c n p) ≡ true
    → run_refusal (tables_of r c n p) d symbols stamps ≡ word_refusal r.symbols d most_events symbols stamps
unfolding run_refusal shape_refusal tables_by tables_of
run_numbered r c n p d symbols stamps h = rw h

pub answered :
    (r : Rule) (scratch cells rows pool : ℕ) (d : ℕ) (symbols stamps : List ℕ) → valid_rule r ≡ true
    → table_refusal r scratch cells rows pool ≡ fine
    → Answered r (tables_of r cells rows pool) d symbols stamps
answered r scratch cells rows pool d symbols stamps v f = record {
  refused_by_word = run_numbered r cells rows pool d symbols stamps (built_in_shape r scratch cells rows pool v f);
  says = λ w. table_walks r scratch cells rows pool d most_events symbols stamps v f w
      ∙ walk_agrees r d most_events symbols stamps v w;
}
