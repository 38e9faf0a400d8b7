-- Rows numbered so far, as the row table and the pool hold them, and the row that does not fit.
use Rattle.std.specs.Prelude.{◌≡◌, Result, MatchResult, Bool, ◌&&◌, List, [], ◌∷◌, ◌++◌, ℕ, zero, suc}
use Rattle.std.specs.Prelude.{◌+◌, ◌*◌, ◌≤◌, ◌<◌, ltb, length}
use Rattle.model.specs.declared.Fault.{Fault}
use Rattle.model.specs.Basics.{pick, same, zeros, filled, refusal}
use Rattle.model.specs.Rules.{most_pairs}
use Rattle.model.specs.Construction.{row_at, number_of, most_rows}
use Rattle.model.specs.Tables.{row_width, row_start, row_length, codes_at, row_numbers, pool_numbers, fit_refusal}
use Rattle.model.specs.Faults.{fault_number}
use Rattle.model.specs.Walks.{any_final}
use Rattle.model.proofs.Masks.{Asc}
use Rattle.model.proofs.Discovery.{Each}
use Rattle.model.proofs.RowNumbers.{Placed as Apart}
use Rattle.construct.specs.declared.Finals.{Finals}
use Rattle.construct.specs.declared.Found.{Found}
use Rattle.construct.specs.declared.Found.TheVariants.{At, Nothing}
use Rattle.construct.specs.declared.Plan.{Plan}
use Rattle.construct.specs.declared.Progress.{Progress}

-- n rows from number i on
abbrev pub rows_held : ℕ → ℕ → List ℕ → List ℕ → List (List ℕ)
rows_held zero i rows pool = []
rows_held (suc n) i rows pool = codes_at rows pool i ∷ rows_held n (suc i) rows pool

-- the first n rows
abbrev pub rows_in : ℕ → List ℕ → List ℕ → List (List ℕ)
rows_in n rows pool = rows_held n 0 rows pool

-- Does the row with this number hold exactly x?
abbrev pub is_at : ℕ → List ℕ → List (List ℕ) → Bool
is_at n x rows = ltb n (length rows) && same x (row_at rows n)

-- what codes say by the final locations
abbrev pub says_by : Finals → List ℕ → Bool
says_by f xs = any_final f.weight f.ends xs

-- the final locations that a build goes by
abbrev pub finals_of : Plan → Finals
finals_of plan = record { weight = plan.scale.weight; ends = plan.rule.head.ends }

-- What the search in some rows answers, the first of which has number n: the number of the first that is equal, or
-- nothing where none is.
abbrev pub found_from : ℕ → List ℕ → List (List ℕ) → Found
found_from n x [] = Nothing
found_from n x (y ∷ ys) = pick (same x y) (At n) (found_from (suc n) x ys)

-- What the search among all rows answers: the number of an equal row, or nothing where none has one.
abbrev pub found_in : List ℕ → List (List ℕ) → Found
found_in x rows = pick (ltb (number_of x rows) (length rows)) (At (number_of x rows)) Nothing

-- a set of codes: ascending, and not more than there are pairs
pub record CodeSet (codes : List ℕ) : Type 0 where
  pub ascends : Asc 0 codes
  pub few : length codes ≤ most_pairs

-- the rows lie in their tables, each ascending
pub record Within (count : ℕ) (rows pool : List ℕ) : Type 0 where
  pub rows_long : row_width * count ≤ length rows
  pub in_pool : (n : ℕ) → n < count → row_start rows n + row_length rows n ≤ length pool
  pub ascends : (n : ℕ) → n < count → Asc 0 (codes_at rows pool n)

-- The tables hold the rows numbered so far, each ascending and no two equal, and zero past them, and there is room for
-- what was put in. A row stores what its codes say.
pub record Held (says : List ℕ → Bool) (rows pool : List ℕ) (p : Progress) : Type 0 where
  pub rows_ascend : Each (Asc 0) (rows_in p.rows rows pool)
  pub rows_apart : Apart (rows_in p.rows rows pool)
  pub rows_are : rows ≡ filled (length rows) (row_numbers says 0 (rows_in p.rows rows pool))
  pub pool_is : pool ≡ filled (length pool) (pool_numbers (rows_in p.rows rows pool))
  pub total_is : p.total ≡ length (pool_numbers (rows_in p.rows rows pool))
  pub in_room : p.rows ≤ p.room
  pub in_pool : p.total ≤ length pool
  pub total_most : p.total ≤ most_pairs * p.rows
  pub room_most : p.room ≤ most_rows
  pub room_fits : row_width * p.room ≤ length rows

-- 23 or 24: some row is the first that does not fit, whatever rows come after
pub record Unfit (room pool : ℕ) (rows : List (List ℕ)) (fault : Fault) : Type 0 where
  pub least : 23 ≤ fault_number fault
  pub refuses : (more : List (List ℕ)) → fit_refusal 0 room 0 pool (rows ++ more) ≡ refusal (fault_number fault) 0

-- the rows are now these, and held
pub record Grown
    (says : List ℕ → Bool) (room : ℕ) (after : List (List ℕ)) (rows' pool' : List ℕ) (p : Progress) : Type 0 where
  pub held : Held says rows' pool' p
  pub rows_are : rows_in p.rows rows' pool' ≡ after
  pub room_kept : p.room ≡ room

-- a row has its number n, and is the one placed last
pub record HasNumber
    (says : List ℕ → Bool) (room : ℕ) (after : List (List ℕ)) (n : ℕ) (rows' pool' : List ℕ) (p : Progress) : Type 0
  where
    pub grown : Grown says room after rows' pool' p
    pub row_is : p.last ≡ n
    pub row_below : p.last < most_rows

-- a row was given its number n, or some row does not fit
abbrev pub Numbered :
    (List ℕ → Bool) → ℕ → List (List ℕ) → ℕ → List ℕ → List ℕ → Result Progress Fault → Type 0
Numbered says room after n rows' pool' outcome =
    MatchResult outcome (HasNumber says room after n rows' pool') (Unfit room (length pool') after)

-- the same of marks, which are then cleared
pub record MarksNumbered
    (says : List ℕ → Bool) (room : ℕ) (after : List (List ℕ)) (n : ℕ) (marks marks' rows' pool' : List ℕ)
    (outcome : Result Progress Fault) : Type 0 where
  pub numbered : Numbered says room after n rows' pool' outcome
  pub marks_zero : marks' ≡ zeros (length marks)
