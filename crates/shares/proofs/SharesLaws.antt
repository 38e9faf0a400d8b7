-- The answer for a batch: 40, 38, then the tables' refusal, all lines zero; else the lines and the greatest share.
use mathlib.Core.Path.{◌≡◌, refl, sym, ◌∙◌, ap}
use mathlib.Core.Bool.{true, false, not}
use mathlib.Core.List.{List, [], ◌∷◌}
use Prim.Native.Nat.{ℕ, suc, ◌*◌, ◌≤◌, ◌<◌}
use native.Mathlib.Omega.{arith}
use lib.Dec.{ltb, leb}
use lib.ListN.{length, take, drop}
use lib.Seq.{length-take-le}
use borrow.Author.Tests.{eqb-false, leb-true, le-leb, lt-leb, ne_eqb}
use Rattle.model.specs.declared.Built.{Built}
use Rattle.model.specs.declared.Answer.{Answer}
use Rattle.model.specs.declared.Batch.{Batch}
use Rattle.model.specs.Basics.{filled, Refusal, fine, refuse, ◌⨾◌}
use Rattle.model.specs.Tables.{Tables, row_width}
use Rattle.model.specs.Walks.{cell_need, in_shape}
use Rattle.model.specs.Lists.{most_listed_events, most_seconds, span_ok}
use Rattle.model.specs.Shares.{most_tables, line_width, lines_of, laid_out, batch_of, tables_refusal, shares_refusal}
use Rattle.model.specs.Shares.{most_words, words_for, greatest_of}
use Rattle.model.specs.Promises.{answer_of, CountsShares}
use Rattle.model.proofs.Logic.{and_left, in_within}
use Rattle.model.proofs.Answers.{number_is}
use Rattle.model.proofs.Refusals.{Settled, refuse_settled, then_settled}
use Rattle.std.specs.Prelude.{Err, ◌⊎◌}
use Rattle.std.proofs.Common.{inl, inr}
use Rattle.model.specs.declared.Fault.TheVariants.{BadBatch, BadSpan}
use Rattle.model.specs.declared.Refused.{Refused}
use Rattle.model.specs.Faults.{at_once, fault_number}
use Rattle.model.specs.declared.Fault.{Fault}
use Rattle.model.proofs.Faults.{refuses}
use Rattle.shares.specs.Batches.{Passed, greatest_in}
use Rattle.shares.specs.Outcome.{shares_in}
use Rattle.shares.proofs.GreatestLaws.{greatest_is}

-- no number, no place
tables_settled : (i : ℕ) (ts : List Tables) (m h : ℕ) → Settled (tables_refusal i ts m h)
tables_settled i [] m h = λ e. refl
tables_settled i (t ∷ ts) m h =
    let rest : Refusal = tables_refusal (suc i) ts m h in
    let long : Refusal = refuse (ltb most_words (words_for t h m)) 43 i in
    then_settled (refuse (not (in_shape t)) 25 i) (long ⨾ rest) (refuse_settled (not (in_shape t)) 24 i)
    (then_settled long rest (refuse_settled (ltb most_words (words_for t h m)) 42 i) (tables_settled (suc i) ts m h))

-- as many tables as counted
tables_many :
    (bs : List Built) (cells rows pool : List ℕ) → length (laid_out bs cells rows pool) ≡ length bs
tables_many [] cells rows pool = refl
tables_many (b ∷ bs) cells rows pool =
    ap suc (tables_many bs (drop (cell_need b) cells) (drop (row_width * b.rows) rows) (drop b.total pool))

-- a fault has a number
not_none : (f : Fault) → fault_number f ≡ 0 → ⊥
not_none f = eqb-false (fault_number f) 0 (refuses f 0)

-- 40 or 38, its lines zero
pub bad_batch :
    {x : Batch} {cells rows pool : List ℕ} {m h : ℕ} → (x.count < 1) ⊎ (most_tables < x.count)
    → CountsShares x cells rows pool m h (shares_in (Err (at_once BadBatch)))
unfolding shares_refusal
bad_batch {x} (inl l) = record { answer_is = rw (lt-leb 1 x.count l) }
bad_batch {x} (inr l) = record { answer_is = rw (le-leb 1 x.count (omega arith), lt-leb x.count most_tables l) }

module _
    (x : Batch) (cells rows pool : List ℕ) (m h : ℕ) (some : 1 ≤ x.count) (most : x.count ≤ most_tables) where
  pub bad_span : span_ok m h ≡ false → CountsShares x cells rows pool m h (shares_in (Err (at_once BadSpan)))
  unfolding shares_refusal
  bad_span s = record { answer_is = rw (in_within 1 most_tables x.count some most, s) }

  module _ (span : span_ok m h ≡ true) where
    by_tables : shares_refusal x cells rows pool m h ≡ tables_refusal 1 (batch_of x cells rows pool) m h
    unfolding shares_refusal
    by_tables = rw (in_within 1 most_tables x.count some most, span)

    pub bad_table :
        (r : Refused)
        → record { number = fault_number r.fault; place = r.place; value = 0 }
        ≡ answer_of (tables_refusal 1 (batch_of x cells rows pool) m h) 0
        → CountsShares x cells rows pool m h (shares_in (Err r))
    bad_table r c =
        let f : Refusal = tables_refusal 1 (batch_of x cells rows pool) m h in
        let number : fault_number r.fault ≡ f.number = ap (λ (y : Answer). y.number) c in
        let place : r.place ≡ f.place = ap (λ (y : Answer). y.place) c in
        let some_number : f.number ≡ 0 → ⊥ = λ z. not_none r.fault (number ∙ z) in
        record { answer_is = rw (by_tables, ne_eqb f.number 0 some_number, number, place) }

    -- no table is refused
    module _ (c :
        record { number = 0; place = 0; value = 0 }
        ≡ answer_of (tables_refusal 1 (batch_of x cells rows pool) m h) 0) where
      none_refused : tables_refusal 1 (batch_of x cells rows pool) m h ≡ fine
      none_refused =
          tables_settled 1 (batch_of x cells rows pool) m h
          (sym (number_is (tables_refusal 1 (batch_of x cells rows pool) m h) 0 c))

      pub passed : length x.tables ≡ most_tables → Passed (take x.count x.tables) cells rows pool m h
      passed long = record {
        count_most = omega (arith, length-take-le x.count x.tables (omega arith));
        tables_fine = none_refused;
      }

      pub counted :
          {greatest : ℕ} {lines : List ℕ} → length x.tables ≡ most_tables
          → lines ≡ filled (line_width * most_tables) (lines_of (batch_of x cells rows pool) m h)
          → greatest ≡ greatest_in x.count lines
          → CountsShares x cells rows pool m h (record { number = 0; place = 0; greatest = greatest; lines = lines })
      counted {greatest} {lines} long l g =
          let ts : List Tables = batch_of x cells rows pool in
          let many : length (batch_of x cells rows pool) ≡ x.count =
          tables_many (take x.count x.tables) cells rows pool ∙ length-take-le x.count x.tables (omega arith) in
          let few : m ≤ most_listed_events =
          leb-true m most_listed_events (and_left (leb m most_listed_events) (leb h most_seconds) span) in
          let best : greatest ≡ greatest_of (batch_of x cells rows pool) m h =
          g ∙ (ap (greatest_in x.count) l ∙ greatest_is ts m h x.count few many some) in
          record { answer_is = rw (by_tables, none_refused, best, l) }
