-- Discovery puts in one successor after another. So rows are only appended, no two are equal, all are ascending, and
-- once every row was visited every successor of a row is a row. Over any rows so far and any fuel.
use mathlib.Core.Path.{◌≡◌, refl, sym, ◌∙◌, ap}
use mathlib.Core.Bool.{true}
use mathlib.Core.List.{List, [], ◌∷◌}
use mathlib.Core.Logic.{inl, inr}
use Prim.Native.Nat.{ℕ, zero, suc, ◌+◌, ◌-◌, ◌≤◌, ◌<◌}
use native.Mathlib.Omega.{arith}
use native.Mathlib.Numerals.{add-one}
use lib.ListN.{length, get_or-eq_default}
use borrow.Author.Tests.{ltb-true, lt-ltb, le-leb, lt-leb}
use Rattle.model.specs.Rules.{Rule}
use Rattle.model.specs.Construction.{width, start_row, next_row, row_at, number_of, with_row, by_intervals, by_symbols}
use Rattle.model.specs.Construction.{rows_from, most_rows, rows_of}
use Rattle.model.specs.Claims.{ascending, RowsAre}
use Rattle.model.proofs.Logic.{Two, two, less, least, In, here, there, not_in_nil, in_at, in_append}
use Rattle.model.proofs.Masks.{Asc}
use Rattle.model.proofs.RowsKeep.{ascending_of, start_ascends, next_ascends}
use Rattle.model.proofs.RowNumbers.{number_given, in_below, Extends, extends_self, extends_twice}
use Rattle.model.proofs.RowNumbers.{extends_length, extends_at, extends_in, Present, present, absent, looked}
use Rattle.model.proofs.RowNumbers.{with_extends, with_has, Placed, with_placed}

-- Rows, and rows after more successors were put in, one after another.
pub data Grows (r : Rule) (after : List (List ℕ)) : List (List ℕ) → Type 0 where
  as_they_are : {rows : List (List ℕ)} → rows ≡ after → Grows r after rows
  one_by_one :
      {rows : List (List ℕ)} (s i : ℕ) (x : List ℕ)
      → Grows r after (with_row (next_row r s i x) rows)
      → Grows r after rows

grows_twice : {r : Rule} {mid after rows : List (List ℕ)} → Grows r mid rows → Grows r after mid → Grows r after rows
grows_twice (as_they_are e) g = rw e g
grows_twice (one_by_one s i x f) g = one_by_one s i x (grows_twice f g)

pub grows_extends : {r : Rule} {after rows : List (List ℕ)} → Grows r after rows → Extends rows after
grows_extends {rows = rows} (as_they_are e) = rw (← e) (extends_self rows)
grows_extends {r = r} {rows = rows} (one_by_one s i x g) =
    extends_twice (with_extends (next_row r s i x) rows) (grows_extends g)

pub grows_placed : {r : Rule} {after rows : List (List ℕ)} → Grows r after rows → Placed rows → Placed after
grows_placed (as_they_are e) placed = rw (← e) placed
grows_placed {r = r} {rows = rows} (one_by_one s i x g) placed =
    grows_placed g (with_placed (next_row r s i x) rows placed)

-- what holds of all successors holds of all rows if it did of the rows so far
abbrev pub Each : (List ℕ → Type 0) → List (List ℕ) → Type 0
Each P rows = (x : List ℕ) → In x rows → P x

with_each : (P : List ℕ → Type 0) (y : List ℕ) (rows : List (List ℕ)) → P y → Each P rows → Each P (with_row y rows)
with_each P y rows p each = go (looked y rows)
  where
    go : Present y rows → Each P (with_row y rows)
    go (present h e) = rw e each
    go (absent h e) =
        rw e (λ x i. elim (in_append x y rows i) [ inl j ↦ each x j | inr q ↦ rw q p ])

pub grows_each :
    {r : Rule} {after rows : List (List ℕ)} (P : List ℕ → Type 0)
    → ((s i : ℕ) (x : List ℕ) → P (next_row r s i x))
    → Grows r after rows
    → Each P rows
    → Each P after
grows_each P next (as_they_are e) each = rw (← e) each
grows_each {r = r} {rows = rows} P next (one_by_one s i x g) each =
    grows_each P next g (with_each P (next_row r s i x) rows (next s i x) each)

-- the stages of discovery: the intervals of a symbol, the symbols of a row, the rows
pub intervals_grow :
    (n i : ℕ) (r : Rule) (s : ℕ) (x : List ℕ) (rows : List (List ℕ)) → Grows r (by_intervals n i r s x rows) rows
unfolding by_intervals
intervals_grow zero i r s x rows = as_they_are refl
intervals_grow (suc n) i r s x rows =
    one_by_one s i x (intervals_grow n (suc i) r s x (with_row (next_row r s i x) rows))

pub symbols_grow : (n s : ℕ) (r : Rule) (x : List ℕ) (rows : List (List ℕ)) → Grows r (by_symbols n s r x rows) rows
unfolding by_symbols
symbols_grow zero s r x rows = as_they_are refl
symbols_grow (suc n) s r x rows =
    grows_twice (intervals_grow (width r) 0 r s x rows)
    (symbols_grow n (suc s) r x (by_intervals (width r) 0 r s x rows))

pub rows_end :
    (fuel n : ℕ) (r : Rule) (rows : List (List ℕ)) → length rows ≤ n → rows_from (suc fuel) n r rows ≡ rows
unfolding rows_from
rows_end fuel n r rows h = rw (le-leb (length rows) n h, rows_from)

pub rows_on :
    (fuel n : ℕ) (r : Rule) (rows : List (List ℕ))
    → n < length rows
    → rows_from (suc fuel) n r rows ≡ rows_from fuel (suc n) r (by_symbols r.symbols 0 r (row_at rows n) rows)
unfolding rows_from
rows_on fuel n r rows h = rw (lt-leb (length rows) n h, rows_from)

pub rows_grow : (fuel n : ℕ) (r : Rule) (rows : List (List ℕ)) → Grows r (rows_from fuel n r rows) rows
unfolding rows_from
rows_grow zero n r rows = as_they_are refl
rows_grow (suc fuel) n r rows = go (two n (length rows)) (rows_grow fuel (suc n) r on)
  where
    on : List (List ℕ)
    on = by_symbols r.symbols 0 r (row_at rows n) rows

    go : Two n (length rows) → Grows r (rows_from fuel (suc n) r on) on → Grows r (rows_from (suc fuel) n r rows) rows
    go (less l) g =
        rw (rows_on fuel n r rows l)
        (grows_twice (symbols_grow r.symbols 0 r (row_at rows n) rows) g)
    go (least l) g = as_they_are (sym (rows_end fuel n r rows l))

-- every stage puts in the successors that it names
intervals_have :
    (n i : ℕ) (r : Rule) (s : ℕ) (x : List ℕ) (rows : List (List ℕ)) (k : ℕ)
    → i ≤ k
    → k < i + n
    → In (next_row r s k x) (by_intervals n i r s x rows)
unfolding by_intervals
intervals_have zero i r s x rows k h g = absurd (omega arith)
intervals_have (suc n) i r s x rows k h g = go (two i k) (intervals_have n (suc i) r s x on k)
  where
    on : List (List ℕ)
    on = with_row (next_row r s i x) rows

    go :
        Two i k
        → (suc i ≤ k → k < suc i + n → In (next_row r s k x) (by_intervals n (suc i) r s x on))
        → In (next_row r s k x) (by_intervals n (suc i) r s x on)
    go (less l) f = f l (omega arith)
    go (least l) f =
        let e : k ≡ i = omega arith in
        rw e
        (extends_in (next_row r s i x) (grows_extends (intervals_grow n (suc i) r s x on))
        (with_has (next_row r s i x) rows))

symbols_have :
    (n s : ℕ) (r : Rule) (x : List ℕ) (rows : List (List ℕ)) (k i : ℕ)
    → s ≤ k
    → k < s + n
    → i < width r
    → In (next_row r k i x) (by_symbols n s r x rows)
unfolding by_symbols
symbols_have zero s r x rows k i h g w = absurd (omega arith)
symbols_have (suc n) s r x rows k i h g w = go (two s k) (symbols_have n (suc s) r x on k i)
  where
    on : List (List ℕ)
    on = by_intervals (width r) 0 r s x rows

    go :
        Two s k
        → (suc s ≤ k → k < suc s + n → i < width r → In (next_row r k i x) (by_symbols n (suc s) r x on))
        → In (next_row r k i x) (by_symbols n (suc s) r x on)
    go (less l) f = f l (omega arith) w
    go (least l) f =
        let e : k ≡ s = omega arith in
        rw e
        (extends_in (next_row r s i x) (grows_extends (symbols_grow n (suc s) r x on))
        (intervals_have (width r) 0 r s x rows i (omega arith) (omega arith)))

-- the first n rows have their successors among the rows
abbrev pub Closed : Rule → ℕ → List (List ℕ) → Type 0
Closed r n rows =
    (m s i : ℕ) → m < n → s < r.symbols → i < width r → In (next_row r s i (row_at rows m)) rows

closed_on :
    (r : Rule) (n : ℕ) (rows : List (List ℕ))
    → n < length rows
    → Closed r n rows
    → Closed r (suc n) (by_symbols r.symbols 0 r (row_at rows n) rows)
closed_on r n rows h closed m s i l hs hi = go (two m n)
  where
    on : List (List ℕ)
    on = by_symbols r.symbols 0 r (row_at rows n) rows

    more : Extends rows on
    more = grows_extends (symbols_grow r.symbols 0 r (row_at rows n) rows)

    go : Two m n → In (next_row r s i (row_at on m)) on
    go (less q) =
        rw (extends_at m more (omega arith)) (extends_in (next_row r s i (row_at rows m)) more (closed m s i q hs hi))
    go (least q) =
        let e : m ≡ n = omega arith in
        rw (e, extends_at n more h)
        (symbols_have r.symbols 0 r (row_at rows n) rows s i (omega arith) (omega arith) hi)

pub rows_closed :
    (fuel n : ℕ) (r : Rule) (rows : List (List ℕ))
    → n ≤ length rows
    → Closed r n rows
    → length (rows_from fuel n r rows) < n + fuel
    → Closed r (length (rows_from fuel n r rows)) (rows_from fuel n r rows)
unfolding rows_from
rows_closed zero n r rows h closed l = absurd (omega arith)
rows_closed (suc fuel) n r rows h closed l = go (two n (length rows)) (rows_closed fuel (suc n) r on)
  where
    on : List (List ℕ)
    on = by_symbols r.symbols 0 r (row_at rows n) rows

    more : Extends rows on
    more = grows_extends (symbols_grow r.symbols 0 r (row_at rows n) rows)

    all_of : List (List ℕ)
    all_of = rows_from fuel (suc n) r on

    go :
        Two n (length rows)
        → (suc n ≤ length on → Closed r (suc n) on → length all_of < suc n + fuel → Closed r (length all_of) all_of)
        → Closed r (length (rows_from (suc fuel) n r rows)) (rows_from (suc fuel) n r rows)
    go (least q) f = rw (rows_end fuel n r rows q) (λ m s i k. closed m s i (omega arith))
    go (less q) f =
        rw (rows_on fuel n r rows q)
        (f (omega (arith, extends_length more)) (closed_on r n rows q closed)
        (omega (arith, ap length (rows_on fuel n r rows q))))

-- one turn of each stage, as a loop that counts up meets it
pub intervals_turn :
    (n i : ℕ) (r : Rule) (s : ℕ) (x : List ℕ) (rows : List (List ℕ))
    → i < n
    → by_intervals (n - i) i r s x rows ≡ by_intervals (n - (i + 1)) (i + 1) r s x (with_row (next_row r s i x) rows)
unfolding by_intervals
intervals_turn n i r s x rows h =
    let a : n - i ≡ suc (n - (i + 1)) = omega arith in
    rw (a, add-one i)

pub intervals_over :
    (n i : ℕ) (r : Rule) (s : ℕ) (x : List ℕ) (rows : List (List ℕ))
    → n ≤ i
    → by_intervals (n - i) i r s x rows ≡ rows
unfolding by_intervals
intervals_over n i r s x rows h = let a : n - i ≡ 0 = omega arith in rw a

pub symbols_turn :
    (n s : ℕ) (r : Rule) (x : List ℕ) (rows : List (List ℕ))
    → s < n
    → by_symbols (n - s) s r x rows ≡ by_symbols (n - (s + 1)) (s + 1) r x (by_intervals (width r) 0 r s x rows)
unfolding by_symbols
symbols_turn n s r x rows h =
    let a : n - s ≡ suc (n - (s + 1)) = omega arith in
    rw (a, add-one s)

pub symbols_over :
    (n s : ℕ) (r : Rule) (x : List ℕ) (rows : List (List ℕ)) → n ≤ s → by_symbols (n - s) s r x rows ≡ rows
unfolding by_symbols
symbols_over n s r x rows h = let a : n - s ≡ 0 = omega arith in rw a

-- The rows of a rule, discovered with this fuel.
pub record Discovered (fuel : ℕ) (r : Rule) (rows : List (List ℕ)) : Type 0 where
  pub start_is : row_at rows 0 ≡ start_row r
  pub some : 1 ≤ length rows
  pub placed : Placed rows
  pub closed : length rows < fuel → Closed r (length rows) rows

start_placed : (x : List ℕ) → Placed (x ∷ [])
start_placed x zero h = number_given 0 x [] []
start_placed x (suc n) h = absurd (omega arith)

discovered_by : (fuel : ℕ) (r : Rule) → Discovered fuel r (rows_from fuel 0 r (start_row r ∷ []))
discovered_by fuel r =
    let start : List (List ℕ) = start_row r ∷ [] in
    let grown : Grows r (rows_from fuel 0 r start) start = rows_grow fuel 0 r start in
    record {
      start_is = extends_at 0 (grows_extends grown) (omega arith);
      some = omega (arith, extends_length (grows_extends grown));
      placed = grows_placed grown (start_placed (start_row r));
      closed = λ h. rows_closed fuel 0 r start (omega arith) (λ m s i k. absurd (omega arith)) (omega arith);
    }

pub discovered : (r : Rule) → Discovered (suc most_rows) r (rows_of r)
unfolding rows_of
discovered r = discovered_by (suc most_rows) r

-- what holds of the start row and of all successors holds of all rows
each_by :
    (fuel : ℕ) (r : Rule) (P : List ℕ → Type 0)
    → P (start_row r)
    → ((s i : ℕ) (x : List ℕ) → P (next_row r s i x))
    → Each P (rows_from fuel 0 r (start_row r ∷ []))
each_by fuel r P start next =
    grows_each P next (rows_grow fuel 0 r (start_row r ∷ []))
    (λ x i. elim i [ here e ↦ rw e start | there j ↦ not_in_nil j ])

pub each_row :
    (r : Rule) (P : List ℕ → Type 0)
    → P (start_row r)
    → ((s i : ℕ) (x : List ℕ) → P (next_row r s i x))
    → Each P (rows_of r)
unfolding rows_of
each_row r P start next = each_by (suc most_rows) r P start next

-- The claim.
ascends_at : (rows : List (List ℕ)) → Each (Asc 0) rows → (n : ℕ) → ascending 0 (row_at rows n) ≡ true
ascends_at rows each n = go (two n (length rows))
  where
    go : Two n (length rows) → ascending 0 (row_at rows n) ≡ true
    go (less l) = ascending_of 0 (row_at rows n) (each (row_at rows n) (in_at [] rows n l))
    go (least l) = rw (get_or-eq_default rows [] l)

placed_distinct :
    (rows : List (List ℕ))
    → Placed rows
    → (m n : ℕ)
    → m < length rows
    → n < length rows
    → row_at rows m ≡ row_at rows n
    → m ≡ n
placed_distinct rows placed m n h g e = sym (placed m h) ∙ (ap (λ (x : List ℕ). number_of x rows) e ∙ placed n g)

pub rows_are : RowsAre
rows_are = record {
  ascend = λ r n. ascends_at (rows_of r) (each_row r (Asc 0) (start_ascends r) (next_ascends r)) n;
  distinct = λ r m n h g e.
      placed_distinct (rows_of r) (discovered r).placed m n (ltb-true m (length (rows_of r)) h)
      (ltb-true n (length (rows_of r)) g) e;
  closed = λ r n s i fits h hs hi.
      lt-ltb (number_of (next_row r s i (row_at (rows_of r) n)) (rows_of r)) (length (rows_of r))
      (in_below (next_row r s i (row_at (rows_of r) n)) (rows_of r)
      ((discovered r).closed (ltb-true (length (rows_of r)) 4097 fits) n s i (ltb-true n (length (rows_of r)) h)
      (ltb-true s r.symbols hs) (ltb-true i (width r) hi)));
  numbered = λ r n h. (discovered r).placed n (ltb-true n (length (rows_of r)) h);
}
