-- What is marked as a row: its codes ascend and are few, and they are laid into a part of the pool that just holds
-- them.
use mathlib.Core.Path.{◌≡◌, ◌∙◌, ap}
use mathlib.Core.List.{List, ◌++◌}
use Prim.Native.Nat.{ℕ, ◌+◌, ◌-◌, ◌≤◌}
use native.Mathlib.Omega.{arith}
use lib.ListN.{length, take, drop, length-take, length-drop}
use lib.Seq.{take_at, drop_at, drop-drop, length-take-le}
use Rattle.numbers.specs.Lent.{laid}
use Rattle.bits.specs.declared.Span.{Span}
use Rattle.bits.specs.Bits.{codes_in, InSpan}
use Rattle.bits.proofs.Sets.{codes_rise}
use Rattle.bits.proofs.Laying.{codes_few}
use Rattle.construct.specs.Rows.{CodeSet}

pub code_set : {marks : List ℕ} {span : Span} → InSpan marks span → CodeSet (codes_in marks)
unfolding codes_in
code_set {marks} in_span = record { ascends = codes_rise 0 marks; few = codes_few in_span }

-- the numbers from one place up to another, and a list with others put there
abbrev pub part_of : List ℕ → ℕ → ℕ → List ℕ
part_of pool at end = take (end - at) (drop at pool)

abbrev pub with_part : List ℕ → ℕ → ℕ → List ℕ → List ℕ
with_part pool at end out = take at pool ++ (out ++ drop (end - at) (drop at pool))

module _
    {marks : List ℕ} {span : Span} (in_span : InSpan marks span) (pool out : List ℕ) (at size : ℕ)
    (is_size : size ≡ span.count)
    (fits : at + size ≤ length pool)
    (lays : InSpan marks span → length (part_of pool at (at + size)) ≡ span.count → out ≡ codes_in marks) where
  lain : out ≡ codes_in marks
  lain = lays in_span (simp (length-take, length-drop) (omega arith))

  -- the pool with the row, and the row read back
  pub row_laid :
      (with_part pool at (at + size) out ≡ laid pool at (codes_in marks))
      × (part_of (with_part pool at (at + size) out) at (at + size) ≡ codes_in marks)
  row_laid =
      let rest : List ℕ = drop (at + size - at) (drop at pool) in
      let count : size ≡ length (codes_in marks) = is_size ∙ in_span.count_is in
      let long : length (codes_in marks) ≡ at + size - at = omega (arith, count) in
      let past : at + (at + size - at) ≡ at + length (codes_in marks) = omega (arith, count) in
      let there : drop at (take at pool ++ (out ++ rest)) ≡ out ++ rest =
      drop_at (take at pool) (out ++ rest) at (length-take-le at pool (omega arith)) in (
        rw (lain, drop-drop (at + size - at) at pool, past),
        ap (take (at + size - at)) there
            ∙ (ap (λ (l : List ℕ). take (at + size - at) (l ++ rest)) lain
            ∙ take_at (codes_in marks) rest (at + size - at) long),
      )
