-- From the head record to the start row: the scale of a rule that passed, the room for rows, and the start row marked
-- and given number 0.
use mathlib.Core.Path.{◌≡◌, refl, sym, ◌∙◌, ap, ap₂, subst}
use mathlib.Core.Bool.{Bool, true, false, not}
use mathlib.Core.List.{List, [], ◌∷◌, ◌++◌}
use Prim.Native.Nat.{ℕ, zero, suc, ◌+◌, ◌-◌, ◌*◌, ◌≤◌, ◌<◌}
use native.Mathlib.Omega.{arith}
use Rattle.std.specs.Prelude.{Result, Ok, Err}
use lib.Dec.{eqb, ltb}
use lib.ListN.{length}
use borrow.Author.Tests.{not-false, eqb-true, eqb-false}
use Rattle.model.specs.declared.Fault.{Fault}
use Rattle.model.specs.declared.Head.{Head}
use Rattle.model.specs.Basics.{pick, zeros, bit, bits_from, mask_of, refuse}
use Rattle.model.specs.Rules.{Rule, base_count, most_locations, pair_count}
use Rattle.model.specs.Construction.{digits_code, code_of, with_code, start_bases, start_codes, start_row}
use Rattle.model.specs.Layout.{edge_need, locations_in, rule_in, is_readable, rule_refusal}
use Rattle.model.proofs.Logic.{by_test, In, here, there}
use Rattle.model.proofs.Refusals.{refused_false, then_passes}
use Rattle.model.proofs.Valid.{Valid, valid_of}
use Rattle.model.proofs.Readable.{readable_of, passes_valid}
use Rattle.model.proofs.Rising.{rises_below}
use Rattle.model.proofs.Codes.{start_bases_lem, code_below}
use Rattle.codes.specs.declared.Scale.{Scale}
use Rattle.codes.specs.Codes.{Scaled}
use Rattle.codes.proofs.Agreement.{weight_is}
use Rattle.bits.specs.declared.Span.{Span}
use Rattle.bits.specs.Bits.{codes_in, MarksAre}
use Rattle.construct.specs.declared.Progress.{Progress}
use Rattle.construct.specs.Marks.{start_codes_by, CanStart, Enough}
use Rattle.construct.specs.Rows.{Held, Grown, Unfit, Numbered}
use Rattle.construct.specs.Builds.{RoomIn, StartPlaced}

-- the fields of the rule that a head record spells
pub locations_of : (h : Head) (t : List ℕ) → (rule_in h t).locations ≡ h.locations
unfolding rule_in
locations_of h t = refl

pub initial_of : (h : Head) (t : List ℕ) → (rule_in h t).initial ≡ locations_in h.starts
unfolding rule_in
initial_of h t = refl

pub final_mask : (h : Head) (t : List ℕ) → (rule_refusal h t).number ≡ 0 → h.ends ≡ mask_of (rule_in h t).final
unfolding rule_refusal
final_mask h t z =
    sym
    (readable_of h t
    (not-false (is_readable h t)
    (refused_false (not (is_readable h t)) 20 0
    (then_passes (refuse (ltb (length t) edge_need) 20 0) (refuse (not (is_readable h t)) 21 0) z)))
    ).ends_are

-- N from the scale
pub pairs_are :
    (h : Head) (t : List ℕ) (z : Scale) → Scaled (rule_in h t) z
    → h.locations * z.weight ≡ pair_count (rule_in h t)
unfolding pair_count
pairs_are h t z s = ap₂ ◌*◌ (sym (locations_of h t)) (weight_is s)

-- the start row, by the weight of a location
digits_zero : (m k : ℕ) → digits_code m (zeros k) ≡ 0
digits_zero m zero = refl
digits_zero m (suc k) = rw (digits_zero m k) (omega arith)

start_code : (r : Rule) (z : Scale) (l : ℕ) → Scaled r z → l * z.weight ≡ code_of r l (start_bases r)
unfolding code_of
start_code r z l s = rw (digits_zero (base_count r) r.clocks, weight_is s) (omega arith)

start_codes_lem : (r : Rule) (z : Scale) (ls : List ℕ) → Scaled r z → start_codes_by z.weight ls ≡ start_codes r ls
start_codes_lem r z [] s = refl
start_codes_lem r z (l ∷ ls) s = ap₂ with_code (start_code r z l s) (start_codes_lem r z ls s)

pub start_row_lem :
    (h : Head) (t : List ℕ) (z : Scale) → Scaled (rule_in h t) z
    → start_codes_by z.weight (locations_in h.starts) ≡ start_row (rule_in h t)
unfolding start_row
start_row_lem h t z s =
    start_codes_lem (rule_in h t) z (locations_in h.starts) s
    ∙ ap (start_codes (rule_in h t)) (sym (initial_of h t))

-- every initial location has a mark
in_later : (l : ℕ) (b : Bool) (i : ℕ) (xs : List ℕ) → In l xs → In l (pick b (i ∷ []) [] ++ xs)
in_later l true i xs h = there h
in_later l false i xs h = h

bits_have : (n i l mask : ℕ) → i ≤ l → l < i + n → bit l mask ≡ true → In l (bits_from n i mask)
unfolding bits_from
bits_have zero i l mask h g b = absurd (omega arith)
bits_have (suc n) i l mask h g b =
    by_test (eqb i l) (λ e. let q : i ≡ l = eqb-true i l e in rw (q, b) (here refl))
    (λ e.
    let q : i ≡ l → ⊥ = eqb-false i l e in
    in_later l (bit i mask) i (bits_from n (suc i) mask) (bits_have n (suc i) l mask (omega arith) (omega arith) b))

pub can_start :
    (h : Head) (t : List ℕ) (z : Scale) (marks : List ℕ) → (rule_refusal h t).number ≡ 0 → Scaled (rule_in h t) z
    → Enough (rule_in h t) marks
    → marks ≡ zeros (length marks)
    → CanStart marks h.starts z.weight
can_start h t z marks passed scaled enough zero_marks =
    let r : Rule = rule_in h t in
    let v : Valid r = valid_of r (passes_valid h t passed) in
    let below : (l : ℕ) → l < most_locations → bit l h.starts ≡ true → l * z.weight < pair_count r =
    λ l g b.
    rw (start_code r z l scaled)
    (code_below r l (start_bases r) (start_bases_lem r)
    (rises_below 0 r.locations r.initial l v.initial_rises
    (rw (initial_of h t) (bits_have most_locations 0 l h.starts (omega arith) (omega arith) b)))) in
    record {
      marks_zero = zero_marks;
      codes_below = λ l g b. omega (arith, below l g b, enough.marks_long);
      codes_most = λ l g b. omega (arith, below l g b, v.pairs_most);
    }

-- no row yet
pub held_none :
    {says : List ℕ → Bool} (rows pool : List ℕ) (room : ℕ) → rows ≡ zeros (length rows) → pool ≡ zeros (length pool)
    → RoomIn room rows
    → Held says rows pool (record { rows = 0; total = 0; room = room; last = 0; before = 0 })
held_none rows pool room a b c =
    let e : length rows - 0 ≡ length rows = omega arith in
    let f : length pool - 0 ≡ length pool = omega arith in
    record {
      rows_ascend = λ x i. elim i [ ];
      rows_apart = λ n h. absurd (omega arith);
      rows_are = rw e a;
      pool_is = rw f b;
      total_is = refl;
      in_room = omega arith;
      in_pool = omega arith;
      total_most = omega arith;
      room_most = c.most;
      room_fits = c.fits;
    }

pub start_placed :
    {says : List ℕ → Bool} (starts weight room : ℕ) {marks marks₁ marks' rows' pool' : List ℕ} {span : Span}
    (outcome : Result Progress Fault)
    → length marks₁ ≡ length marks
    → MarksAre (start_codes_by weight (locations_in starts)) marks₁ span
    → Numbered says room (codes_in marks₁ ∷ []) 0 rows' pool' outcome
    → marks' ≡ zeros (length marks₁)
    → StartPlaced says starts weight room marks marks' rows' pool' outcome
start_placed {says} starts weight room {rows' = rows'} {pool' = pool'} (Ok p) long m n z = record {
  marks_zero = z ∙ ap zeros long;
  start_placed = subst (λ (x : List ℕ). Grown says room (x ∷ []) rows' pool' p) m.codes_are n.grown;
}
start_placed {says} starts weight room {pool' = pool'} (Err fault) long m n z = record {
  marks_zero = z ∙ ap zeros long;
  start_placed = subst (λ (x : List ℕ). Unfit room (length pool') (x ∷ []) fault) m.codes_are n;
}
