-- The start row, marked from its highest location down; the same marks by another name.
use mathlib.Core.Path.{◌≡◌, ◌∙◌}
use mathlib.Core.Bool.{true, false}
use mathlib.Core.List.{List, [], ◌∷◌, ◌++◌}
use Prim.Native.Nat.{ℕ, suc, ◌+◌, ◌-◌, ◌*◌, ◌≤◌, ◌<◌}
use native.Mathlib.Omega.{arith}
use native.Mathlib.Numerals.{add-one}
use lib.ListN.{length}
use Rattle.model.specs.Basics.{pick, bit, bits_from}
use Rattle.model.specs.Layout.{locations_in}
use Rattle.model.specs.Rules.{most_locations}
use Rattle.model.specs.Construction.{with_code}
use Rattle.bits.specs.declared.Span.{Span}
use Rattle.bits.specs.Bits.{codes_in, CanMark, MarksAre}
use Rattle.construct.specs.Marks.{start_codes_by, CanStart}

-- the start row from the highest location down: the bits from `l` on are marked
pub record Starting (starts weight l : ℕ) (marks : List ℕ) (span : Span) : Type 0 where
  pub turns : l ≤ most_locations
  pub marks_are : MarksAre (start_codes_by weight (bits_from (most_locations - l) l starts)) marks span

pub starting :
    (starts weight : ℕ) {marks : List ℕ} {span : Span} → MarksAre [] marks span
    → Starting starts weight most_locations marks span
unfolding bits_from
starting starts weight m = record { turns = omega arith; marks_are = m }

bits_head :
    (l starts : ℕ) → l < most_locations
    → bits_from (most_locations - l) l starts
    ≡ pick (bit l starts) (l ∷ []) [] ++ bits_from (most_locations - (l + 1)) (l + 1) starts
unfolding bits_from
bits_head l starts h = let a : most_locations - l ≡ suc (most_locations - (l + 1)) = omega arith in rw (a, add-one l)

module _ {starts weight l : ℕ} {marks : List ℕ} {span : Span} (inv : Starting starts weight l marks span) where
  pub starting_can :
      {marks₀ : List ℕ} (k : ℕ) → CanStart marks₀ starts weight → length marks ≡ length marks₀ → k < most_locations
      → bit k starts ≡ true
      → CanMark marks span (k * weight)
  starting_can k can long h b = record {
    in_span = inv.marks_are.in_span;
    code_below = rw long (can.codes_below k h b);
    code_most = can.codes_most k h b;
  }

  pub starting_next :
      (k : ℕ) (marks' : List ℕ) (span' : Span) → 0 < l → k ≡ l - 1 → bit k starts ≡ true
      → MarksAre (with_code (k * weight) (codes_in marks)) marks' span'
      → Starting starts weight k marks' span'
  starting_next k marks' span' h q b m =
      let a : k + 1 ≡ l = omega arith in
      record {
        turns = omega (arith, inv.turns);
        marks_are = record {
          codes_are =
              m.codes_are
              ∙ (rw (inv.marks_are.codes_are, bits_head k starts (omega (arith, inv.turns)), b, a));
          in_span = m.in_span;
        };
      }

  pub starting_skip :
      (k : ℕ) (marks' : List ℕ) (span' : Span) → 0 < l → k ≡ l - 1 → bit k starts ≡ false → marks' ≡ marks
      → span' ≡ span
      → Starting starts weight k marks' span'
  starting_skip k marks' span' h q b e f =
      let a : k + 1 ≡ l = omega arith in
      rw (e, f)
      (record {
        turns = omega (arith, inv.turns);
        marks_are = record {
          codes_are = rw (bits_head k starts (omega (arith, inv.turns)), b, a) inv.marks_are.codes_are;
          in_span = inv.marks_are.in_span;
        };
      })

pub started :
    {starts weight l : ℕ} {marks : List ℕ} {span : Span} → Starting starts weight l marks span → l ≤ 0
    → MarksAre (start_codes_by weight (locations_in starts)) marks span
started {starts} {weight} {l} {marks} {span} inv h =
    let a : l ≡ 0 = omega arith in
    rw a at inv.marks_are

-- the same marks by another name
pub marks_again :
    {row marks : List ℕ} {span : Span} (marks' : List ℕ) (span' : Span) → MarksAre row marks span → marks' ≡ marks
    → span' ≡ span
    → MarksAre row marks' span'
marks_again marks' span' m e f = rw (e, f) m
