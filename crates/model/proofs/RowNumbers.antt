-- Rows are numbered by discovery: a row is appended only where no equal row is present. So earlier rows keep their
-- place and their number, the number that a row is given is the one it keeps, and no two rows are equal.
use mathlib.Core.Path.{◌≡◌, refl, sym, ◌∙◌, ap}
use mathlib.Core.Bool.{Bool, true, false}
use mathlib.Core.List.{List, [], ◌∷◌, ◌++◌, append_assoc}
use Prim.Native.Nat.{ℕ, suc, ◌+◌, ◌≤◌, ◌<◌}
use native.Mathlib.Omega.{arith}
use lib.ListN.{length, length-append}
use lib.Seq.{get_or-append-add}
use borrow.Author.Tests.{lt-ltb, le-ltb}
use Rattle.model.specs.Basics.{same}
use Rattle.model.specs.Construction.{row_at, number_from, number_of, with_row}
use Rattle.model.proofs.Logic.{by_test, no_way, Two, two, less, least, In, here, there, in_at, same_equal}
use Rattle.model.proofs.Logic.{same_self, first_part}

-- the number of a row: its first place, or the count of rows
number_here : (n : ℕ) (x y : List ℕ) (ys : List (List ℕ)) → same x y ≡ true → number_from n x (y ∷ ys) ≡ n
number_here n x y ys e = cc

number_there :
    (n : ℕ) (x y : List ℕ) (ys : List (List ℕ))
    → same x y ≡ false
    → number_from n x (y ∷ ys) ≡ number_from (suc n) x ys
number_there n x y ys e = cc

-- where a row stands that is among the rows, numbers counted from n
pub record Stands (n : ℕ) (x : List ℕ) (rows : List (List ℕ)) : Type 0 where
  pub place : ℕ
  pub number_is : number_from n x rows ≡ n + place
  pub inside : place < length rows
  pub row_is : row_at rows place ≡ x

pub stands : (n : ℕ) (x : List ℕ) (rows : List (List ℕ)) → In x rows → Stands n x rows
stands n x [] h = elim h [ ]
stands n x (y ∷ ys) h = go (same x y) refl (stands (suc n) x ys) h
  where
    go : (t : Bool) → same x y ≡ t → (In x ys → Stands (suc n) x ys) → In x (y ∷ ys) → Stands n x (y ∷ ys)
    go true e k j = record {
      place = 0;
      number_is = number_here n x y ys e ∙ (omega arith);
      inside = omega arith;
      row_is = sym (same_equal x y e);
    }
    go false e k (here j) = no_way (sym e ∙ rw j (same_self y))
    go false e k (there j) =
        let m = k j in
        record {
          place = suc m.place;
          number_is = number_there n x y ys e ∙ (m.number_is ∙ (omega arith));
          inside = omega (arith, m.inside);
          row_is = m.row_is;
        }

-- a number below the count of rows is that of a row
pub number_in : (n : ℕ) (x : List ℕ) (rows : List (List ℕ)) → number_from n x rows < n + length rows → In x rows
number_in n x [] h = absurd (omega arith)
number_in n x (y ∷ ys) h = go (same x y) refl (number_in (suc n) x ys)
  where
    go : (t : Bool) → same x y ≡ t → (number_from (suc n) x ys < suc n + length ys → In x ys) → In x (y ∷ ys)
    go true e k = here (same_equal x y e)
    go false e k = there (k (omega (arith, number_there n x y ys e)))

pub number_most : (n : ℕ) (x : List ℕ) (rows : List (List ℕ)) → number_from n x rows ≤ n + length rows
number_most n x [] = omega arith
number_most n x (y ∷ ys) =
    by_test (same x y) (λ e. omega (arith, number_here n x y ys e))
    (λ e. omega (arith, number_there n x y ys e, number_most (suc n) x ys))

pub in_below : (x : List ℕ) (rows : List (List ℕ)) → In x rows → number_of x rows < length rows
in_below x rows h = let m = stands 0 x rows h in omega (arith, m.number_is, m.inside)

-- the number of a row that is present does not change as rows are appended
pub number_stays :
    (n : ℕ) (x : List ℕ) (rows more : List (List ℕ))
    → In x rows
    → number_from n x (rows ++ more) ≡ number_from n x rows
number_stays n x [] more h = elim h [ ]
number_stays n x (y ∷ ys) more h = go (same x y) refl (number_stays (suc n) x ys more) h
  where
    go :
        (t : Bool)
        → same x y ≡ t
        → (In x ys → number_from (suc n) x (ys ++ more) ≡ number_from (suc n) x ys)
        → In x (y ∷ ys)
        → number_from n x (y ∷ (ys ++ more)) ≡ number_from n x (y ∷ ys)
    go true e k j = number_here n x y (ys ++ more) e ∙ sym (number_here n x y ys e)
    go false e k (here j) = no_way (sym e ∙ rw j (same_self y))
    go false e k (there j) = number_there n x y (ys ++ more) e ∙ (k j ∙ sym (number_there n x y ys e))

-- nor does the number that a row is given change as it is itself appended
pub number_given :
    (n : ℕ) (x : List ℕ) (rows more : List (List ℕ))
    → number_from n x (rows ++ (x ∷ more)) ≡ number_from n x rows
number_given n x [] more = number_here n x x more (same_self x)
number_given n x (y ∷ ys) more =
    by_test (same x y) (λ e. number_here n x y (ys ++ (x ∷ more)) e ∙ sym (number_here n x y ys e))
    (λ e.
    number_there n x y (ys ++ (x ∷ more)) e ∙ (number_given (suc n) x ys more ∙ sym (number_there n x y ys e)))

-- Rows after some more were appended.
pub record Extends (rows after : List (List ℕ)) : Type 0 where
  pub added : List (List ℕ)
  pub after_is : after ≡ rows ++ added

append_nil : (rows : List (List ℕ)) → rows ≡ rows ++ []
append_nil [] = refl
append_nil (x ∷ xs) = ap (λ (ys : List (List ℕ)). x ∷ ys) (append_nil xs)

pub extends_self : (rows : List (List ℕ)) → Extends rows rows
extends_self rows = record { added = []; after_is = append_nil rows }

pub extends_twice : {rows mid after : List (List ℕ)} → Extends rows mid → Extends mid after → Extends rows after
extends_twice {rows} f g = record {
  added = f.added ++ g.added;
  after_is = g.after_is ∙ rw f.after_is (append_assoc rows f.added g.added);
}

pub extends_length : {rows after : List (List ℕ)} → Extends rows after → length rows ≤ length after
extends_length {rows} f = rw (f.after_is, length-append rows f.added) (omega arith)

pub extends_at :
    {rows after : List (List ℕ)} (n : ℕ)
    → Extends rows after
    → n < length rows
    → row_at after n ≡ row_at rows n
extends_at {rows} n f h = rw f.after_is (first_part [] rows f.added n h)

in_first : (x : List ℕ) (rows more : List (List ℕ)) → In x rows → In x (rows ++ more)
in_first x [] more x'' = elim x'' [ ]
in_first x (y ∷ ys) more (here h) = here h
in_first x (y ∷ ys) more (there h) = there (in_first x ys more h)

in_later : (x : List ℕ) (rows more : List (List ℕ)) → In x more → In x (rows ++ more)
in_later x [] more h = h
in_later x (y ∷ ys) more h = there (in_later x ys more h)

pub extends_in : {rows after : List (List ℕ)} (x : List ℕ) → Extends rows after → In x rows → In x after
extends_in {rows} x f h = rw f.after_is (in_first x rows f.added h)

-- A row is put in where no equal row is present; either way its number is the one that it had before.
pub with_present : (x : List ℕ) (rows : List (List ℕ)) → number_of x rows < length rows → with_row x rows ≡ rows
with_present x rows h = rw (lt-ltb (number_of x rows) (length rows) h)

pub with_new :
    (x : List ℕ) (rows : List (List ℕ))
    → length rows ≤ number_of x rows
    → with_row x rows ≡ rows ++ (x ∷ [])
with_new x rows h = rw (le-ltb (number_of x rows) (length rows) h)

-- which of the two it is
pub data Present (x : List ℕ) (rows : List (List ℕ)) : Type 0 where
  present : In x rows → with_row x rows ≡ rows → Present x rows
  absent : number_of x rows ≡ length rows → with_row x rows ≡ rows ++ (x ∷ []) → Present x rows

pub looked : (x : List ℕ) (rows : List (List ℕ)) → Present x rows
looked x rows = go (two (number_of x rows) (length rows))
  where
    go : Two (number_of x rows) (length rows) → Present x rows
    go (less l) = present (number_in 0 x rows (omega arith)) (with_present x rows l)
    go (least l) = absent (omega (arith, number_most 0 x rows)) (with_new x rows l)

pub with_extends : (x : List ℕ) (rows : List (List ℕ)) → Extends rows (with_row x rows)
with_extends x rows = go (looked x rows)
  where
    go : Present x rows → Extends rows (with_row x rows)
    go (present h e) = rw e (extends_self rows)
    go (absent h e) = record { added = x ∷ []; after_is = e }

pub with_has : (x : List ℕ) (rows : List (List ℕ)) → In x (with_row x rows)
with_has x rows = go (looked x rows)
  where
    go : Present x rows → In x (with_row x rows)
    go (present h e) = rw e h
    go (absent h e) = rw e (in_later x rows (x ∷ []) (here refl))

pub with_number : (x : List ℕ) (rows : List (List ℕ)) → number_of x (with_row x rows) ≡ number_of x rows
with_number x rows = go (looked x rows)
  where
    go : Present x rows → number_of x (with_row x rows) ≡ number_of x rows
    go (present h e) = ap (number_of x) e
    go (absent h e) = ap (number_of x) e ∙ number_given 0 x rows []

-- every row has its place for its number, so no two are equal
abbrev pub Placed : List (List ℕ) → Type 0
Placed rows = (n : ℕ) → n < length rows → number_of (row_at rows n) rows ≡ n

pub with_placed : (x : List ℕ) (rows : List (List ℕ)) → Placed rows → Placed (with_row x rows)
with_placed x rows placed = go (looked x rows)
  where
    end_row : row_at (rows ++ (x ∷ [])) (length rows) ≡ x
    end_row =
        let z : length rows + 0 ≡ length rows = omega arith in
        ap (λ (n : ℕ). row_at (rows ++ (x ∷ [])) n) (sym z) ∙ get_or-append-add rows (x ∷ []) 0 []

    at :
        number_of x rows ≡ length rows
        → (n : ℕ)
        → Two n (length rows)
        → n < length rows + 1
        → number_of (row_at (rows ++ (x ∷ [])) n) (rows ++ (x ∷ [])) ≡ n
    at e n (less l) h =
        rw (first_part [] rows (x ∷ []) n l)
        (number_stays 0 (row_at rows n) rows (x ∷ []) (in_at [] rows n l) ∙ placed n l)
    at e n (least l) h =
        let z : n ≡ length rows = omega arith in
        rw (z, end_row) (number_given 0 x rows [] ∙ e)

    go : Present x rows → Placed (with_row x rows)
    go (present h e) = rw e placed
    go (absent h e) = rw e (λ n l. at h n (two n (length rows)) (omega (arith, length-append rows (x ∷ []))))
