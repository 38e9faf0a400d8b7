-- Stored verdicts: the loop over the codes of a row, and the loop over the rows.
use mathlib.Core.Path.{◌≡◌, refl, sym, ◌∙◌, ap}
use mathlib.Core.Bool.{Bool, true, false, ◌&&◌, ◌||◌}
use mathlib.Core.List.{List, [], ◌∷◌}
use Prim.Native.Nat.{ℕ, zero, suc, ◌+◌, ◌-◌, ◌*◌, ◌/◌, ◌≤◌, ◌<◌}
use native.Mathlib.Omega.{arith}
use native.Mathlib.Numerals.{add-one}
use native.Mathlib.Nat.{one-le-pow, mul-le-mul_right}
use mir.Val.{bool_byte}
use lib.Dec.{eqb, ltb, leb}
use lib.ListN.{length, get_or, take, drop, length-drop, drop_of_length-le}
use lib.Seq.{drop-cons, get_or-take, get_or-drop, length-take-le}
use borrow.Author.Tests.{ltb-true, leb-true, eq-eqb, ne_eqb}
use Rattle.model.specs.declared.Built.{Built}
use Rattle.model.specs.Basics.{one_if, bit, within, all_below}
use Rattle.model.specs.Rules.{most_pairs, most_constant, sizes_ok}
use Rattle.model.specs.Construction.{most_rows}
use Rattle.model.specs.Tables.{row_width, row_start, row_length, row_verdict, codes_at}
use Rattle.model.specs.Walks.{location_weight, built_pairs, rows_chain, any_final, codes_say, verdicts_ok}
use Rattle.model.proofs.Logic.{and_left, and_right, or_right, or_none}
use Rattle.model.proofs.Valid.{sizes_of}
use Rattle.model.proofs.ShapeCells.{row_ends}
use Rattle.shape.specs.Ranges.{sizes_in_range}
use Rattle.shape.specs.Verdicts.{whole, reciprocal, final_by, ProductsFit, Settled}
use Rattle.shape.proofs.Reciprocal.{by_reciprocal, product_fits}

-- Codes: what was found so far or is found among those to come is what is found in all.
pub record Said (m ends : ℕ) (xs : List ℕ) (says : Bool) (i : ℕ) : Type 0 where
  pub turns : i ≤ length xs
  pub rest_is : (says || final_by m ends (drop i xs)) ≡ final_by m ends xs

pub said_start : (m ends : ℕ) (xs : List ℕ) → Said m ends xs false 0
said_start m ends xs = record { turns = omega arith; rest_is = refl }

module _ {m ends : ℕ} {xs : List ℕ} {says : Bool} {i : ℕ} (inv : Said m ends xs says i) where
  pub said_end : length xs ≤ i → says ≡ final_by m ends xs
  said_end h =
      sym (or_none says)
      ∙ (ap (λ (l : List ℕ). says || final_by m ends l) (sym (drop_of_length-le xs h)) ∙ inv.rest_is)

  said_rest :
      i < length xs
      → final_by m ends xs ≡ (says || (bit (get_or xs i 0 * m / whole) ends || final_by m ends (drop (i + 1) xs)))
  said_rest h = sym inv.rest_is ∙ rw (drop-cons xs i 0 h, add-one i)

  pub said_no : i < length xs → bit (get_or xs i 0 * m / whole) ends ≡ false → Said m ends xs says (i + 1)
  said_no h e = record { turns = omega arith; rest_is = sym (said_rest h ∙ rw e) }

  pub said_yes : i < length xs → bit (get_or xs i 0 * m / whole) ends ≡ true → Said m ends xs true (i + 1)
  said_yes h e = record { turns = omega arith; rest_is = sym (said_rest h ∙ rw e (or_right says true refl)) }

-- Where all codes are below 65,536, the multiplication finds their locations.
abbrev pub Under : ℕ → List ℕ → Type 0
Under n xs = (k : ℕ) → k < length xs → get_or xs k 0 < n

module _ (w : ℕ) (pos : 0 < w) (most : w ≤ most_pairs) where
  pub final_by_lem :
      (ends : ℕ) (xs : List ℕ) → Under most_pairs xs → final_by (reciprocal w) ends xs ≡ any_final w ends xs
  final_by_lem ends [] u = refl
  final_by_lem ends (x ∷ xs) u =
      rw (by_reciprocal w x pos most (u 0 (omega arith)), final_by_lem ends xs (λ k h. u (suc k) (omega arith)))

  pub products_fit : (xs : List ℕ) → Under most_pairs xs → ProductsFit (reciprocal w) xs
  products_fit xs u k h = product_fits w (get_or xs k 0) pos most (u k h)

pub below_under : (n : ℕ) (xs : List ℕ) → all_below n xs ≡ true → Under n xs
below_under n [] e k h = absurd (omega arith)
below_under n (x ∷ xs) e zero h = ltb-true x n (and_left (ltb x n) (all_below n xs) e)
below_under n (x ∷ xs) e (suc k) h = below_under n xs (and_right (ltb x n) (all_below n xs) e) k (omega arith)

-- What is settled of a built record: N is at most 65,536, and so is the weight of a location.
module _ {b : Built} {rows pool : List ℕ} (s : Settled b rows pool) where
  pairs_most : built_pairs b ≤ most_pairs
  pairs_most =
      let pairs = leb (built_pairs b) most_pairs in
      leb-true (built_pairs b) most_pairs
      (and_right (sizes_in_range b) pairs
      (and_left (sizes_in_range b && pairs) (within 1 most_rows b.rows) s.sizes))

  pub weight_some : 0 < location_weight b
  weight_some = one-le-pow b.clocks (b.top + 2) (omega arith)

  pub weight_most : location_weight b ≤ most_pairs
  weight_most =
      let pairs = leb (built_pairs b) most_pairs in
      let sizes = sizes_ok b.locations b.symbols b.clocks in
      let some =
      sizes_of b.locations b.symbols b.clocks
      (and_left sizes (leb b.top most_constant)
      (and_left (sizes_in_range b) pairs
      (and_left (sizes_in_range b && pairs) (within 1 most_rows b.rows) s.sizes))) in
      omega (arith, pairs_most, mul-le-mul_right (location_weight b) some.locations_least)

  -- a row's codes lie in the first P numbers of the pool, and are below 65,536
  pub row_in_pool : (i : ℕ) → i < b.rows → row_start rows i + row_length rows i ≤ b.total
  row_in_pool i h =
      row_ends b.rows 0 rows b.total i
      (and_right (leb (row_width * b.rows) (length rows)) (rows_chain b.rows 0 rows b.total) s.chain) h

  pub row_under : (i : ℕ) → i < b.rows → Under most_pairs (codes_at rows pool i)
  row_under i h k l =
      let start = row_start rows i in
      let n = row_length rows i in
      let inside = row_in_pool i h in
      let long : n ≤ length (drop start pool) = omega (arith, inside, s.pool_long, length-drop start pool) in
      let below : k < n = omega (arith, l, length-take-le n (drop start pool) long) in
      let first : start + k < length (take b.total pool) =
      omega (arith, inside, length-take-le b.total pool s.pool_long) in
      let code = below_under (built_pairs b) (take b.total pool) s.codes (start + k) first in
      rw (get_or-take n (drop start pool) k 0 below, get_or-drop start pool k 0)
      (omega
      (arith, code, pairs_most, get_or-take b.total pool (start + k) 0 (omega (arith, inside))))

  -- a row in the pool, by its two numbers as read; `m` is the reciprocal of the weight `w`
  module _
      {i start n : ℕ} (h : i < b.rows) (start_is : start ≡ row_start rows i) (length_is : n ≡ row_length rows i)
    where
      pub part_fits : start + n ≤ length pool
      part_fits = omega (arith, row_in_pool i h, s.pool_long)

      part_is : take (start + n - start) (drop start pool) ≡ codes_at rows pool i
      part_is = let e : start + n - start ≡ n = omega arith in rw (e, start_is, length_is)

      module _ {m w : ℕ} (reciprocal_is : m ≡ reciprocal w) (weight_is : w ≡ location_weight b) where
        pub part_products : ProductsFit m (take (start + n - start) (drop start pool))
        part_products =
            rw (part_is, reciprocal_is, weight_is)
            (products_fit (location_weight b) weight_some weight_most (codes_at rows pool i) (row_under i h))

        -- what is found in it is what the row's codes say
        pub part_said :
            {r : Bool} → r ≡ final_by m b.ends (take (start + n - start) (drop start pool))
            → r ≡ codes_say b (codes_at rows pool i)
        part_said e =
            let codes = codes_at rows pool i in
            let said : final_by (reciprocal (location_weight b)) b.ends codes ≡ codes_say b codes =
            final_by_lem (location_weight b) weight_some weight_most b.ends codes (row_under i h) in
            e ∙ rw (part_is, reciprocal_is, weight_is, said)

-- a flag as the number that is stored for it
pub flag_number : (b : Bool) → bool_byte b ≡ one_if b
flag_number true = refl
flag_number false = refl

-- Rows: what holds of those to come is what holds of all.
pub record Checked (b : Built) (rows pool : List ℕ) (i : ℕ) : Type 0 where
  pub turns : i ≤ b.rows
  pub rest_is : verdicts_ok (b.rows - i) i b rows pool ≡ verdicts_ok b.rows 0 b rows pool

module _ {b : Built} {rows pool : List ℕ} {i : ℕ} (inv : Checked b rows pool i) where
  pub checked_end : b.rows ≤ i → true ≡ verdicts_ok b.rows 0 b rows pool
  checked_end h = let z : b.rows - i ≡ 0 = omega arith in rw z at inv.rest_is

  -- a turn of it: `r` is what the codes say, `v` the number stored
  module _
      (r v : ℕ) (h : i < b.rows) (says : r ≡ one_if (codes_say b (codes_at rows pool i)))
      (stored : v ≡ row_verdict rows i)
    where
      checked_rest :
          verdicts_ok b.rows 0 b rows pool ≡ (eqb v r && verdicts_ok (b.rows - (i + 1)) (i + 1) b rows pool)
      checked_rest =
          let a : b.rows - i ≡ suc (b.rows - (i + 1)) = omega arith in
          sym inv.rest_is ∙ rw (a, ← says, ← stored, add-one i)

      pub checked_next : r ≡ v → Checked b rows pool (i + 1)
      checked_next e = record {
        turns = omega arith;
        rest_is = sym (checked_rest ∙ rw (eq-eqb v r (sym e)));
      }

      pub checked_out : (r ≡ v → ⊥) → false ≡ verdicts_ok b.rows 0 b rows pool
      checked_out n = sym (checked_rest ∙ rw (ne_eqb v r (λ e. n (sym e))))
