-- The whole reading: what goes on from the cursor is what the file spells, up to a refusal or the end of the file.
use Rattle.std.proofs.Common.{◌≡◌, ◌∙◌, refl, sym, ap, subst, true, false, List, ℕ, ◌+◌, ◌-◌, ◌≤◌, ◌<◌, arith, length}
use Rattle.std.proofs.Common.{Option, None, Some, Result, Ok, Err, is_ok}
use Rattle.std.specs.Result.{MatchResult, IsErrAnd}
use borrow.Author.Tests.{lt-ltb, le-ltb, eq-eqb}
use Rattle.model.specs.declared.Fault.{Fault}
use Rattle.model.specs.declared.Fault.TheVariants.{ShortEdges}
use Rattle.model.specs.declared.Head.{Head}
use Rattle.model.specs.declared.Reading.{Reading}
use Rattle.model.specs.declared.Refused.{Refused}
use Rattle.model.specs.Basics.{zeros, Refusal, refusal, passes}
use Rattle.model.specs.Faults.{fault_number, at_once, reading_in}
use Rattle.model.specs.Rules.{Rule}
use Rattle.model.specs.Files.{no_rule, Spelt, unspelt, record_refusal, at_end, read_rule}
use Rattle.model.specs.Layout.{edge_need, edges_numbers, edge_table}
use Rattle.model.specs.Promises.{read_refusal, reading_of, ReadsRule}
use Rattle.model.proofs.Faults.{refuses}
use Rattle.model.proofs.Logic.{no_way}
use Rattle.model.proofs.FileSteps.{record_length, rule_after, read_on, read_all, read_ends, read_goes_on, read_refuses}
use Rattle.reader.specs.declared.cursor.Cursor.{Cursor}
use Rattle.reader.specs.State.{last_in, State, GoesOn, Stops, EndsWith, Finishes, Cleared, ReadsRecords}

-- the loop: what goes on from the cursor, with the rule so far, is what the file spells
pub record Reads (file rest : List ℕ) (c : Option Cursor) (t : List ℕ) : Type 0 where
  pub rule : Rule
  pub state : State rule c t
  pub inside : length rest ≤ length file
  pub on : read_on (length file - length rest) (last_in c) rule rest ≡ read_rule file

no_table_is : (n : ℕ) → zeros n ≡ edge_table n no_rule
unfolding edge_table edges_numbers
no_table_is n = let e : n - 0 ≡ n = omega arith in rw e

pub reads_start : (file t : List ℕ) → Cleared t → Reads file file None t
reads_start file t q =
    let place : length file - length file ≡ 0 = omega arith in
    record {
      rule = no_rule;
      state = record { held = refl; long = q.long; table_is = q.zero ∙ no_table_is (length t) };
      inside = omega arith;
      on = rw place (sym (read_all file));
    }

-- the reading of a refused outcome
refused_reading :
    (f : Fault) (p : ℕ) {s : Spelt} → s ≡ unspelt (refusal (fault_number f) p)
    → reading_in (Err (record { fault = f; place = p })) ≡ reading_of s.refused s.rule_is
refused_reading f p e = rw (e, refuses f p)

-- a step that went on
pub went_on :
    {X : Type 0} (P : X → Type 0) (Q : Fault → Type 0) (o : Result X Fault) (x : X)
    → MatchResult o (λ y. ◌≡◌ {A = Result X Refused} (Ok x) (Ok y)) (λ f. ⊥)
    → MatchResult o P Q → P x
went_on P Q (Ok y) x e h = let is : y ≡ x = cc in subst P is h
went_on P Q (Err f) x e h = absurd e

module _ {file rest : List ℕ} {c : Option Cursor} {t : List ℕ} (inv : Reads file rest c t) where
  module _ (some : 0 < length rest) where
    pub reads_next :
        {t' after : List ℕ} {d : Cursor} → GoesOn rest (last_in c) inv.rule t' d after → Reads file after (Some d) t'
    reads_next {t'} {after} {d} g =
        let p : ℕ = length file - length rest in
        let place : length file - length after ≡ p + record_length rest = omega (arith, inv.inside, g.shorter) in
        record {
          rule = rule_after inv.rule rest;
          state = g.state;
          inside = omega (arith, inv.inside, g.shorter);
          on =
              rw (g.last_is, place, g.after_is)
              (sym (read_goes_on p (last_in c) inv.rule rest some (g.passes p)) ∙ inv.on);
        }

    stops_at :
        {f : Fault} {p : ℕ} (edges edges' : List ℕ) → p ≡ length file - length rest → Stops rest (last_in c) inv.rule f
        → ReadsRecords file edges edges' (Err (record { fault = f; place = p }))
    stops_at {f} {p} edges edges' p_is s =
        let q : ℕ = length file - length rest in
        let refused : Refusal = record_refusal q (last_in c) inv.rule rest in
        let stops : refused.number ≡ 0 → ⊥ = λ z.
        no_way (sym (refuses f q) ∙ eq-eqb (fault_number f) 0
        (sym (ap (λ (x : Refusal). x.number) (s.refusal_is q)) ∙ z)) in
        let is : read_rule file ≡ unspelt (refusal (fault_number f) q) =
        sym inv.on ∙ (read_refuses q (last_in c) inv.rule rest some stops ∙ ap unspelt (s.refusal_is q)) in
        record {
          answer_is = refused_reading f p (rw p_is is);
          table_is = λ z. no_way z;
        }

    -- the outcome of a step, with the place that the code gives it
    pub reads_stops :
        {X : Type 0} (P : X → Type 0) {p : ℕ} (edges edges' : List ℕ) → p ≡ length file - length rest
        → (R : Fault → Refused → Type 0) (o : Result X Fault) (y : Result X Refused)
        → MatchResult o (λ x. y ≡ Ok x) (λ f. IsErrAnd y (R f))
        → MatchResult o P (λ f. Stops rest (last_in c) inv.rule f)
        → (z : Refused) → y ≡ Err z
        → ((f : Fault) (w : Refused) → R f w → w ≡ record { fault = f; place = p })
        → ReadsRecords file edges edges' (Err z)
    reads_stops P edges edges' p_is R (Ok x) y e h z y_is placed = absurd (let none : ⊥ = cc in none)
    reads_stops P edges edges' p_is R (Err f) y e h z y_is placed =
        let at : R f z = rw y_is at e in rw (placed f z at) (stops_at edges edges' p_is h)

  -- the outcome at the end, with the place that the code gives it
  pub reads_ends :
      (edges : List ℕ) {p : ℕ} → p ≡ length file → length rest ≡ 0 → length t ≡ length edges
      → (R : Fault → Refused → Type 0) → ((f : Fault) (z : Refused) → R f z → z ≡ record { fault = f; place = p })
      → (x : Result Head Fault) (y : Result Head Refused) → Finishes inv.rule x
      → MatchResult x (λ h. y ≡ Ok h) (λ f. IsErrAnd y (R f))
      → ReadsRecords file edges t y
  reads_ends edges {p} p_is none long R placed x y q e =
      let is : read_rule file ≡ at_end p inv.rule =
      sym inv.on
      ∙ (read_ends (length file - length rest) (last_in c) inv.rule rest none
      ∙ ap (λ (n : ℕ). at_end n inv.rule) (omega arith)) in
      by_outcome x y (q.ends p) e is
    where
      by_outcome :
          (x : Result Head Fault) (y : Result Head Refused) → EndsWith inv.rule (at_end p inv.rule) p x
          → MatchResult x (λ h. y ≡ Ok h) (λ f. IsErrAnd y (R f))
          → read_rule file ≡ at_end p inv.rule → ReadsRecords file edges t y
      by_outcome (Ok h) y e same is = record {
        answer_is = rw (same, is, e.0, e.1);
        table_is = λ z. inv.state.table_is ∙ rw (long, is, e.0);
      }
      by_outcome (Err f) (Ok h) e other is = absurd other
      by_outcome (Err f) (Err z) e at is = record {
        answer_is = ap (λ (a : Refused). reading_in (Err a)) (placed f z at) ∙ refused_reading f p (is ∙ e);
        table_is = λ w. no_way w;
      }

-- the whole call
module _ (file edges : List ℕ) where
  pub reads_short : length edges < edge_need → ReadsRule file edges edges (reading_in (Err (at_once ShortEdges)))
  unfolding read_refusal
  reads_short h = record {
    answer_is = rw (lt-ltb (length edges) edge_need h);
    edges_are = rw (lt-ltb (length edges) edge_need h);
  }

  module _ (h : edge_need ≤ length edges) {t t' : List ℕ} {x : Result Head Refused} (long : length t ≡ length edges)
      (q : ReadsRecords file t t' x) where
    answer_known : reading_in x ≡ reading_of (read_refusal file edges) (read_rule file).rule_is
    unfolding read_refusal
    answer_known = q.answer_is ∙ rw (le-ltb (length edges) edge_need h)

    number_is : (reading_in x).number ≡ (read_rule file).refused.number
    number_is = ap (λ (y : Reading). y.number) q.answer_is

    passes_is : passes (read_rule file).refused ≡ is_ok x
    passes_is = ap (λ (n : ℕ). passes (refusal n 0)) (sym number_is) ∙ by_outcome x
      where
        by_outcome : (y : Result Head Refused) → passes (refusal (reading_in y).number 0) ≡ is_ok y
        by_outcome (Ok a) = refl
        by_outcome (Err r) = refuses r.fault 0

    pub reads_refused :
        {t'' : List ℕ} → is_ok x ≡ false → t'' ≡ zeros (length edges) → ReadsRule file edges t'' (reading_in x)
    unfolding read_refusal
    reads_refused is_not e = record {
      answer_is = answer_known;
      edges_are = rw (le-ltb (length edges) edge_need h, passes_is, is_not) e;
    }

    pub reads_rule : is_ok x ≡ true → ReadsRule file edges t' (reading_in x)
    unfolding read_refusal
    reads_rule is = record {
      answer_is = answer_known;
      edges_are = rw (le-ltb (length edges) edge_need h, passes_is, is) (q.table_is is ∙ rw long);
    }
