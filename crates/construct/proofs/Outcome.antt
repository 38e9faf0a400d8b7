-- What the builder leaves and answers, from how the filling ended: the tables of the rule's rows, or 23 or 24 and zero.
use mathlib.Core.Path.{◌≡◌, sym, ◌∙◌, ap, ap₂}
use mathlib.Core.Bool.{Bool, true, false, not}
use Rattle.std.specs.Prelude.{Ok, Err}
use Rattle.std.specs.Int.{div_ceil}
use mathlib.Core.List.{List, [], ◌++◌, append-nil}
use Prim.Native.Nat.{ℕ, ◌+◌, ◌/◌, ◌≤◌, ◌<◌}
use native.Mathlib.Omega.{arith}
use lib.Dec.{eqb, ltb, leb}
use lib.ListN.{length}
use borrow.Author.Tests.{lt-ltb, le-ltb, le-leb, lt-leb, ne_eqb, eqb-false}
use Rattle.model.specs.declared.Fault.{Fault}
use Rattle.model.specs.declared.Head.{Head}
use Rattle.model.specs.declared.Answer.{Answer}
use Rattle.model.specs.declared.Built.{Built}
use Rattle.model.specs.declared.Building.{Building}
use Rattle.model.specs.declared.Refused.{Refused}
use Rattle.model.specs.Basics.{zeros, filled, Refusal, refusal, fine, refuse}
use Rattle.model.specs.Rules.{Rule, pair_count}
use Rattle.model.specs.Construction.{rows_of}
use Rattle.model.specs.Layout.{edge_need, rule_in, is_readable, rule_refusal}
use Rattle.model.specs.Tables.{cell_numbers, row_numbers, pool_numbers, built_of, tables_by, tables_of, row_room}
use Rattle.model.specs.Tables.{fit_refusal, scratch_bits, scratch_need, table_refusal, no_built}
use Rattle.model.specs.Faults.{fault_number, answer_in}
use Rattle.model.proofs.Faults.{refuses}
use Rattle.model.specs.Walks.{any_final}
use Rattle.model.specs.Promises.{build_refusal, BuildsTable, ChecksRule}
use Rattle.model.proofs.Refusals.{on_pass, on_refused, refuse_fine, refuse_met}
use Rattle.model.proofs.Numbers.{Among, none, some, among_refuse, among_then}
use Rattle.codes.specs.declared.Scale.{Scale}
use Rattle.codes.specs.Codes.{Scaled}
use Rattle.codes.proofs.Agreement.{clocks_of}
use Rattle.construct.specs.declared.Progress.{Progress}
use Rattle.construct.specs.Rows.{rows_in, Held, Unfit}
use Rattle.construct.specs.Cells.{AllFilled}
use Rattle.construct.specs.Builds.{built_from}
use Rattle.construct.proofs.RowSearch.{rows_length}
use Rattle.construct.proofs.NewRow.{passes_held}
use Rattle.construct.proofs.SymbolFilling.{symbols_of}
use Rattle.construct.proofs.StartLaws.{locations_of, final_mask}
use Rattle.construct.proofs.RowVerdicts.{says_rule, numbers_say}

-- no table: a number and a place
abbrev not_built : ℕ → ℕ → Building
not_built number place = record { number = number; place = place; built = no_built }

-- the built record, field by field
same_built :
    {l l' s s' k k' c c' e e' n n' m m' : ℕ} → l ≡ l' → s ≡ s' → k ≡ k' → c ≡ c' → e ≡ e' → n ≡ n' → m ≡ m'
    → ◌≡◌ {A = Built}
    (record { locations = l; symbols = s; clocks = k; top = c; ends = e; rows = n; total = m })
    (record { locations = l'; symbols = s'; clocks = k'; top = c'; ends = e'; rows = n'; total = m' })
same_built p q r t u v w = rw (p, q, r, t, u, v, w)

-- what codes say by a head record and a scale
abbrev says_by_head : Head → Scale → List ℕ → Bool
says_by_head h z xs = any_final z.weight h.ends xs

-- the scratch that N pairs need
rounded_up : (n : ℕ) → div_ceil n 32 ≡ (n + 31) / 32
rounded_up n = omega arith

pub need_is : (r : Rule) (n : ℕ) → n ≡ pair_count r → div_ceil n scratch_bits ≡ scratch_need r
unfolding scratch_need
need_is r n e = rounded_up n ∙ rw e

-- The builder's refusal, where 20 and 21 pass.
module _ (h : Head) (t scratch cells rows pool : List ℕ) (passed : (rule_refusal h t).number ≡ 0) where
  table_next :
      build_refusal h t scratch cells rows pool
      ≡ table_refusal (rule_in h t) (length scratch) (length cells) (length rows) (length pool)
  unfolding build_refusal
  table_next =
      on_pass (rule_refusal h t)
      (table_refusal (rule_in h t) (length scratch) (length cells) (length rows) (length pool))
      passed

  -- 22: everything as it was
  pub builds_short :
      (n : ℕ) → n ≡ scratch_need (rule_in h t) → length scratch < n
      → BuildsTable h t scratch scratch cells cells rows rows pool pool (not_built 22 0)
  unfolding table_refusal
  builds_short n e l =
      let short : ltb (length scratch) (scratch_need (rule_in h t)) ≡ true =
      lt-ltb (length scratch) (scratch_need (rule_in h t)) (rw e at l) in
      let f : build_refusal h t scratch cells rows pool ≡ refusal 22 0 =
      table_next
      ∙ (on_refused (refuse (ltb (length scratch) (scratch_need (rule_in h t))) 22 0)
      (fit_refusal 0 (row_room (rule_in h t) (length cells) (length rows)) 0 (length pool) (rows_of (rule_in h t)))
      (λ q. let w : ◌≡◌ {A = ℕ} 22 0 = rw short at q in omega arith)
      ∙ refuse_met (ltb (length scratch) (scratch_need (rule_in h t))) 22 0 short) in
      record {
        answer_is = rw f;
        scratch_is = rw f;
        cells_are = rw f;
        rows_are = rw f;
        pool_is = rw f;
      }

  module _ (long : scratch_need (rule_in h t) ≤ length scratch) where
    fit_next :
        build_refusal h t scratch cells rows pool
        ≡ fit_refusal 0 (row_room (rule_in h t) (length cells) (length rows)) 0 (length pool) (rows_of (rule_in h t))
    unfolding table_refusal
    fit_next =
        let enough : ltb (length scratch) (scratch_need (rule_in h t)) ≡ false =
        le-ltb (length scratch) (scratch_need (rule_in h t)) long in
        table_next
        ∙ on_pass (refuse (ltb (length scratch) (scratch_need (rule_in h t))) 22 0)
        (fit_refusal 0 (row_room (rule_in h t) (length cells) (length rows)) 0 (length pool) (rows_of (rule_in h t)))
        (ap (λ (x : Refusal). x.number) (refuse_fine (ltb (length scratch) (scratch_need (rule_in h t))) 22 0 enough))

    module _ {z : Scale} {scratch₁ scratch' cells₁ cells' rows' pool' : List ℕ} (room : ℕ)
        (scaled : Scaled (rule_in h t) z) (is_room : room ≡ row_room (rule_in h t) (length cells) (length rows))
        (scratch_long : length scratch₁ ≡ length scratch) (cells_long : length cells₁ ≡ length cells)
        (rows_long : length rows' ≡ length rows) (pool_long : length pool' ≡ length pool) where
      -- all rows fit: the tables of the rule's rows
      module _ {p : Progress}
          (all_are : AllFilled (says_by_head h z) (rule_in h t) room scratch₁ scratch' cells₁ cells' rows' pool'
          (Ok p)) where
        held : Held (says_by_head h z) rows' pool' p
        held = all_are.all_filled.grown.held

        are : rows_in p.rows rows' pool' ≡ rows_of (rule_in h t)
        are = all_are.all_filled.grown.rows_are

        fits : build_refusal h t scratch cells rows pool ≡ fine
        unfolding fit_refusal
        fits =
            let same_room : p.room ≡ row_room (rule_in h t) (length cells) (length rows) =
            all_are.all_filled.grown.room_kept ∙ is_room in
            let rs : rows_in p.rows rows' pool' ++ [] ≡ rows_of (rule_in h t) =
            append-nil (rows_in p.rows rows' pool') ∙ are in
            fit_next
            ∙ (sym
            (ap₂
            (λ (n : ℕ) (x : List (List ℕ)). fit_refusal 0 n 0 (length pool') x)
            same_room
            rs
            ∙ ap
            (λ (n : ℕ).
            fit_refusal 0 (row_room (rule_in h t) (length cells) (length rows)) 0 n (rows_of (rule_in h t)))
            pool_long)
            ∙ passes_held held [])

        built_is : built_from h z p ≡ built_of (rule_in h t)
        unfolding built_of
        built_is =
            let count : p.rows ≡ length (rows_of (rule_in h t)) =
            sym (rows_length p.rows 0 rows' pool') ∙ ap length are in
            let total : p.total ≡ length (pool_numbers (rows_of (rule_in h t))) =
            held.total_is ∙ ap (λ (x : List (List ℕ)). length (pool_numbers x)) are in
            same_built (sym (locations_of h t)) (sym (symbols_of h t)) (sym (clocks_of h t)) scaled.top_is
            (final_mask h t passed)
            count
            total

        pub builds_done :
            (built : Built) → built ≡ built_from h z p
            → BuildsTable h t scratch scratch' cells cells' rows rows' pool pool'
            (record { number = 0; place = 0; built = built })
        unfolding tables_of tables_by
        builds_done built e =
            let f : build_refusal h t scratch cells rows pool ≡ fine = fits in
            record {
              answer_is = rw (f, e, built_is);
              scratch_is = rw f (all_are.marks_zero ∙ ap zeros scratch_long);
              cells_are =
                  rw f
                  (all_are.all_filled.cells_are
                  ∙ ap
                  (λ (n : ℕ). filled n (cell_numbers (rule_in h t) (rows_of (rule_in h t)) (rows_of (rule_in h t))))
                  cells_long);
              rows_are =
                  rw f
                  (held.rows_are
                  ∙ ap₂ filled rows_long
                  (ap (row_numbers (says_by_head h z) 0) are
                  ∙ numbers_say 0 (rows_of (rule_in h t)) (λ x. says_rule h t x passed scaled)));
              pool_is =
                  rw f
                  (held.pool_is ∙ ap₂ (λ (n : ℕ) (x : List (List ℕ)). filled n (pool_numbers x)) pool_long are);
            }

      -- 23 and 24: every table zero
      pub builds_unfit :
          {fault : Fault} (cells'' rows'' pool'' : List ℕ)
          → AllFilled (says_by_head h z) (rule_in h t) room scratch₁ scratch' cells₁ cells' rows' pool' (Err fault)
          → cells'' ≡ zeros (length cells)
          → rows'' ≡ zeros (length rows)
          → pool'' ≡ zeros (length pool)
          → BuildsTable h t scratch scratch' cells cells'' rows rows'' pool pool'' (not_built (fault_number fault) 0)
      builds_unfit {fault} cells'' rows'' pool'' all_are a b c =
          let n : ℕ = fault_number fault in
          let u : Unfit room (length pool') (rows_of (rule_in h t)) fault = all_are.all_filled in
          let f : build_refusal h t scratch cells rows pool ≡ refusal (fault_number fault) 0 =
          fit_next
          ∙ (sym
          (ap₂
          (λ (k : ℕ) (x : List (List ℕ)). fit_refusal 0 k 0 (length pool') x)
          is_room
          (append-nil (rows_of (rule_in h t)))
          ∙ ap
          (λ (k : ℕ).
          fit_refusal 0 (row_room (rule_in h t) (length cells) (length rows)) 0 k (rows_of (rule_in h t)))
          pool_long)
          ∙ u.refuses []) in
          let not_zero : eqb (fault_number fault) 0 ≡ false =
          ne_eqb (fault_number fault) 0 (λ q. omega (arith, q, u.least)) in
          let high : leb 23 (fault_number fault) ≡ true = le-leb 23 (fault_number fault) u.least in
          record {
            answer_is = rw (f, not_zero);
            scratch_is = rw (f, not_zero, high) (all_are.marks_zero ∙ ap zeros scratch_long);
            cells_are = rw (f, not_zero, high) a;
            rows_are = rw (f, not_zero, high) b;
            pool_is = rw (f, not_zero, high) c;
          }

-- 20 and 21: everything as it was
rule_numbers : (h : Head) (t : List ℕ) → Among 20 21 (rule_refusal h t)
unfolding rule_refusal
rule_numbers h t =
    among_then (refuse (ltb (length t) edge_need) 20 0) (refuse (not (is_readable h t)) 21 0)
    (among_refuse (ltb (length t) edge_need) 20 0 (omega arith) (omega arith))
    (among_refuse (not (is_readable h t)) 21 0 (omega arith) (omega arith))

low_number : (h : Head) (t : List ℕ) → (rule_refusal h t).number ≤ 21
low_number h t = elim (rule_numbers h t) [ none e ↦ rw e (omega arith) | some a b ↦ b ]

pub builds_unread :
    (h : Head) (t scratch cells rows pool : List ℕ) (r : Refused)
    → ChecksRule h t (answer_in (λ (u : Unit {0}). 0) (Err r))
    → BuildsTable h t scratch scratch cells cells rows rows pool pool (not_built (fault_number r.fault) r.place)
unfolding build_refusal
builds_unread h t scratch cells rows pool r checked =
    let number_is : fault_number r.fault ≡ (rule_refusal h t).number =
    ap (λ (x : Answer). x.number) checked.answer_is in
    let place_is : r.place ≡ (rule_refusal h t).place = ap (λ (x : Answer). x.place) checked.answer_is in
    let n : fault_number r.fault ≡ 0 → ⊥ = eqb-false (fault_number r.fault) 0 (refuses r.fault r.place) in
    let refused : (rule_refusal h t).number ≡ 0 → ⊥ = λ q. n (number_is ∙ q) in
    let f : build_refusal h t scratch cells rows pool ≡ rule_refusal h t =
    on_refused (rule_refusal h t)
    (table_refusal (rule_in h t) (length scratch) (length cells) (length rows) (length pool))
    refused in
    let not_zero : eqb (rule_refusal h t).number 0 ≡ false = ne_eqb (rule_refusal h t).number 0 refused in
    let low : leb 23 (rule_refusal h t).number ≡ false =
    lt-leb 23 (rule_refusal h t).number (omega (arith, low_number h t)) in
    record {
      answer_is = rw (f, not_zero, number_is, place_is);
      scratch_is = rw (f, not_zero, low);
      cells_are = rw (f, not_zero, low);
      rows_are = rw (f, not_zero, low);
      pool_is = rw (f, not_zero, low);
    }

pub rule_passes :
    (h : Head) (t : List ℕ) → ChecksRule h t (answer_in (λ (u : Unit {0}). 0) (Ok tt))
    → (rule_refusal h t).number ≡ 0
rule_passes h t checked = sym (ap (λ (x : Answer). x.number) checked.answer_is)
