-- Parts of a table: to its end, and of a length that may pass its end.
use mathlib.Core.Path.{◌≡◌, sym, ◌∙◌}
use mathlib.Core.List.{List}
use Prim.Native.Nat.{ℕ, ◌+◌, ◌-◌, ◌≤◌}
use native.Mathlib.Omega.{arith}
use lib.ListN.{length, take, drop, drop_of_length-le, length-drop}
use lib.Seq.{take_all, take-nil}

-- a part to the end is what lies past its start
pub part_rest : {A : Type 0} (i : ℕ) (t : List A) → take (length t - i) (drop i t) ≡ drop i t
part_rest i t = take_all (length t - i) (drop i t) (rw (length-drop i t) (omega arith))

-- past the end there is nothing
pub part_none : (t : List ℕ) (start count : ℕ) → length t ≤ start → take 0 (drop 0 t) ≡ take count (drop start t)
part_none t start count h = rw (drop_of_length-le t h, take-nil {A = ℕ} count)

-- all that is left
pub part_short :
    (t : List ℕ) (start count : ℕ) → length t - start ≤ count
    → take (length t - start) (drop start t) ≡ take count (drop start t)
part_short t start count h =
    part_rest start t ∙ sym (take_all count (drop start t) (omega (arith, length-drop start t)))

-- as many as asked for
pub part_whole :
    (t : List ℕ) (start count : ℕ) → take (start + count - start) (drop start t) ≡ take count (drop start t)
part_whole t start count =
    let n : start + count - start ≡ count = omega arith in
    rw n
