-- Rows of three numbers, one after another: what is left of them, and the numbers of the next one.
use Rattle.std.proofs.Common.{◌≡◌, ℕ, ◌+◌, ◌-◌, ◌*◌, ◌≤◌, ◌<◌, List, ◌++◌}
use Rattle.std.proofs.Common.{length, get_or, take, drop, sym, ◌∙◌, ap, arith}
use lib.ListN.{length-drop, length-append}
use lib.Seq.{length-take-le, drop-drop, get_or-drop, get_or-take}
use Rattle.std.proofs.Math.Seq.{drop-append_seam}
use Rattle.std.proofs.lemmas.List.{get_or_append_left}
use Rattle.model.specs.Tables.{row_width, row_start, row_length, row_verdict}

pub record Walked (count : ℕ) (xs rest : List ℕ) (size i : ℕ) : Type 0 where
  pub long : row_width * count ≤ length xs
  pub turns : i ≤ count
  pub size_is : size ≡ row_width
  pub rest_is : rest ≡ drop (row_width * i) (take (row_width * count) xs)

module _ {count : ℕ} {xs rest : List ℕ} {size i : ℕ} (w : Walked count xs rest size i) where
  rest_long : length rest ≡ row_width * count - row_width * i
  rest_long =
      let all = length-take-le (row_width * count) xs w.long in
      let left = length-drop (row_width * i) (take (row_width * count) xs) in
      ap length w.rest_is ∙ (left ∙ ap (λ (n : ℕ). n - row_width * i) all)

  pub walked_end : length rest < size → count ≤ i
  walked_end h = omega (arith, h, rest_long, w.size_is, w.turns)

  module _ (x rest' : List ℕ) (cut : rest ≡ x ++ rest') (len : length x ≡ size) where
    pub walked_more : i < count
    walked_more =
        let both : length rest ≡ length x + length rest' = ap length cut ∙ length-append x rest' in
        omega (arith, both, rest_long, w.size_is, w.turns, len)

    -- its numbers are those of row i
    walked_number : (k : ℕ) → k < row_width → get_or x k 0 ≡ get_or xs (row_width * i + k) 0
    walked_number k h =
        let before : k < length x = omega (arith, w.size_is, len) in
        let inside : row_width * i + k < row_width * count = omega (arith, walked_more) in
        sym (get_or_append_left x rest' 0 k before)
        ∙ (ap (λ (l : List ℕ). get_or l k 0) (sym cut ∙ w.rest_is)
        ∙ (get_or-drop (row_width * i) (take (row_width * count) xs) k 0
        ∙ get_or-take (row_width * count) xs (row_width * i + k) 0 inside))

    pub walked_start : get_or x 0 0 ≡ row_start xs i
    walked_start = walked_number 0 (omega arith) ∙ ap (λ (n : ℕ). get_or xs n 0) (omega arith)

    pub walked_length : get_or x 1 0 ≡ row_length xs i
    walked_length = walked_number 1 (omega arith)

    pub walked_verdict : get_or x 2 0 ≡ row_verdict xs i
    walked_verdict = walked_number 2 (omega arith)

    pub walked_next : {size' : ℕ} → size' ≡ size → Walked count xs rest' size' (i + 1)
    walked_next e = record {
      long = w.long;
      turns = omega (arith, walked_more);
      size_is = e ∙ w.size_is;
      rest_is =
          let past : drop row_width rest ≡ rest' =
          ap (drop row_width) cut
          ∙ (ap (λ (n : ℕ). drop n (x ++ rest')) (sym (len ∙ w.size_is)) ∙ drop-append_seam x rest') in
          let at : row_width * i + row_width ≡ row_width * (i + 1) = omega arith in
          let all = take (row_width * count) xs in
          sym past ∙ (ap (drop row_width) w.rest_is ∙ rw (drop-drop row_width (row_width * i) all, at));
    }
