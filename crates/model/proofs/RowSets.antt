-- What is in a row: in the start row, and in the row that a row leads to; when the timer is reset, and only at even
-- intervals; when a row holds a final location. Each both ways.
use mathlib.Core.Path.{◌≡◌, refl, sym, ◌∙◌}
use mathlib.Core.Bool.{Bool, true, false, ◌&&◌}
use mathlib.Core.List.{List, [], ◌∷◌}
use mathlib.Core.Logic.{◌⊎◌, inl, inr}
use Prim.Native.Nat.{ℕ, ◌%◌, ◌≤◌}
use native.Mathlib.Omega.{arith}
use lib.Dec.{eqb, ltb, leb}
use borrow.Author.Tests.{leb-true, eqb-true, le-leb}
use Rattle.model.specs.Basics.{pick, is_in}
use Rattle.model.specs.Rules.{Edge, Rule, guard_of, cm}
use Rattle.model.specs.Construction.{regions_hold, code_of, location_of, bases_of, with_code, start_bases, start_codes}
use Rattle.model.specs.Construction.{start_row, allows, pair_resets, row_resets, target_of, pair_targets, row_targets}
use Rattle.model.specs.Construction.{next_row, holds_final}
use Rattle.model.proofs.Logic.{no_way, by_test, and_left, and_right, or_left, or_right, In, here, there}
use Rattle.model.proofs.Logic.{not_in_nil, Some, first_some, later_some, some_either, two, less, least}
use Rattle.model.proofs.Valid.{Valid, is_pinned_lem}
use Rattle.model.proofs.Texts.{guard_atoms}
use Rattle.model.proofs.Clocks.{even_guard}
use Rattle.model.proofs.Codes.{digits_length, code_bases}

-- a row with a code: the code, and what was in it
with_same : (x y : ℕ) (ys : List ℕ) → eqb x y ≡ true → with_code x (y ∷ ys) ≡ y ∷ ys
with_same x y ys e = rw (e, with_code)

with_before : (x y : ℕ) (ys : List ℕ) → eqb x y ≡ false → ltb x y ≡ true → with_code x (y ∷ ys) ≡ x ∷ y ∷ ys
with_before x y ys e f = rw (e, with_code, f)

with_after : (x y : ℕ) (ys : List ℕ) → eqb x y ≡ false → ltb x y ≡ false → with_code x (y ∷ ys) ≡ y ∷ with_code x ys
with_after x y ys e f = rw (e, with_code, f)

-- so it is one of three lists
pub data With (x y : ℕ) (ys : List ℕ) : Type 0 where
  is_head : x ≡ y → with_code x (y ∷ ys) ≡ y ∷ ys → With x y ys
  comes_first : with_code x (y ∷ ys) ≡ x ∷ y ∷ ys → With x y ys
  comes_later : with_code x (y ∷ ys) ≡ y ∷ with_code x ys → With x y ys

pub with_code_lem : (x y : ℕ) (ys : List ℕ) → With x y ys
with_code_lem x y ys =
    by_test (eqb x y) (λ e. is_head (eqb-true x y e) (with_same x y ys e))
    (λ e. by_test (ltb x y) (λ f. comes_first (with_before x y ys e f)) (λ f. comes_later (with_after x y ys e f)))

pub with_code_has : (x : ℕ) (ys : List ℕ) → In x (with_code x ys)
with_code_has x [] = here refl
with_code_has x (y ∷ ys) =
    elim (with_code_lem x y ys) [
      | is_head h e ↦ rw e (here h)
      | comes_first e ↦ rw e (here refl)
      | comes_later e ↦ rw e (there (with_code_has x ys))
    ]

pub with_code_keeps : (x z : ℕ) (ys : List ℕ) → In z ys → In z (with_code x ys)
with_code_keeps x z [] i = elim i [ ]
with_code_keeps x z (y ∷ ys) i = go (with_code_lem x y ys) i (with_code_keeps x z ys)
  where
    go : With x y ys → In z (y ∷ ys) → (In z ys → In z (with_code x ys)) → In z (with_code x (y ∷ ys))
    go (is_head h e) j k = rw e j
    go (comes_first e) j k = rw e (there j)
    go (comes_later e) (here h) k = rw e (here h)
    go (comes_later e) (there j) k = rw e (there (k j))

in_cases : {z y : ℕ} {ys : List ℕ} → In z (y ∷ ys) → (z ≡ y) ⊎ In z ys
in_cases (here h) = inl h
in_cases (there i) = inr i

pub with_code_of : (x z : ℕ) (ys : List ℕ) → In z (with_code x ys) → (z ≡ x) ⊎ In z ys
with_code_of x z [] i = in_cases i
with_code_of x z (y ∷ ys) i =
    elim (with_code_lem x y ys) [
      | is_head h e ↦ inr (rw e at i)
      | comes_first e ↦ in_cases (rw e at i)
      | comes_later e ↦
          elim (in_cases (rw e at i)) [
            | inl h ↦ inr (here h)
            | inr j ↦ elim (with_code_of x z ys j) [ inl h ↦ inl h | inr k ↦ inr (there k) ]
          ]
    ]

-- The successor row: the targets of its pairs by the edges that they allow.
module _ (r : Rule) (s i : ℕ) (timer : Bool) where
  -- the edge e leads from the pair x to the pair z
  pub record Leads (x z : ℕ) (e : Edge) : Type 0 where
    pub allowed : allows r s i x e ≡ true
    pub code_is : z ≡ target_of r i timer x e

  -- the row so far, after one more edge
  abbrev with_target : ℕ → Edge → List ℕ → List ℕ
  with_target x e row = pick (allows r s i x e) (with_code (target_of r i timer x e) row) row

  target_keeps : (x z : ℕ) (e : Edge) (row : List ℕ) → In z row → In z (with_target x e row)
  target_keeps x z e row j =
      by_test (allows r s i x e) (λ a. rw a (with_code_keeps (target_of r i timer x e) z row j)) (λ a. rw a j)

  target_has : (x z : ℕ) (e : Edge) (row : List ℕ) → Leads x z e → In z (with_target x e row)
  target_has x z e row m = rw (m.allowed, m.code_is) (with_code_has (target_of r i timer x e) row)

  target_of_lem : (x z : ℕ) (e : Edge) (row : List ℕ) → In z (with_target x e row) → Leads x z e ⊎ In z row
  target_of_lem x z e row j =
      by_test (allows r s i x e)
      (λ a. elim (with_code_of (target_of r i timer x e) z row (rw a at j)) [
        | inl h ↦ inl (record { allowed = a; code_is = h })
        | inr k ↦ inr k
      ])
      (λ a. inr (rw a at j))

  pair_keeps : (x z : ℕ) (es : List Edge) (row : List ℕ) → In z row → In z (pair_targets r s i timer x es row)
  pair_keeps x z [] row j = j
  pair_keeps x z (e ∷ es) row j = pair_keeps x z es (with_target x e row) (target_keeps x z e row j)

  pair_has :
      (x z : ℕ) (f : Edge) (es : List Edge) (row : List ℕ) → In f es → Leads x z f
      → In z (pair_targets r s i timer x es row)
  pair_has x z f [] row x3 m = elim x3 [ ]
  pair_has x z f (e ∷ es) row (here h) m = pair_keeps x z es (with_target x e row) (rw (← h) (target_has x z f row m))
  pair_has x z f (e ∷ es) row (there j) m = pair_has x z f es (with_target x e row) j m

  pair_of :
      (x z : ℕ) (es : List Edge) (row : List ℕ) → In z (pair_targets r s i timer x es row)
      → Some (Leads x z) es ⊎ In z row
  pair_of x z [] row j = inr j
  pair_of x z (e ∷ es) row j =
      elim (pair_of x z es (with_target x e row) j) [
        | inl m ↦ inl (later_some m)
        | inr k ↦ elim (target_of_lem x z e row k) [ inl m ↦ inl (first_some m) | inr n ↦ inr n ]
      ]

  -- some edge leads from the pair x to the pair z
  abbrev pub Reaches : ℕ → ℕ → Type 0
  Reaches z x = Some (Leads x z) r.edges

  row_keeps : (z : ℕ) (xs row : List ℕ) → In z row → In z (row_targets r s i timer xs row)
  row_keeps z [] row j = j
  row_keeps z (x ∷ xs) row j =
      row_keeps z xs (pair_targets r s i timer x r.edges row) (pair_keeps x z r.edges row j)

  row_has :
      (x z : ℕ) (xs row : List ℕ) → In x xs → Reaches z x → In z (row_targets r s i timer xs row)
  row_has x z [] row x3 m = elim x3 [ ]
  row_has x z (y ∷ xs) row (here h) m =
      row_keeps z xs (pair_targets r s i timer y r.edges row)
      (rw (← h) (pair_has x z m.member r.edges row m.is_in_lem m.such))
  row_has x z (y ∷ xs) row (there j) m = row_has x z xs (pair_targets r s i timer y r.edges row) j m

  row_of : (z : ℕ) (xs row : List ℕ) → In z (row_targets r s i timer xs row) → Some (Reaches z) xs ⊎ In z row
  row_of z [] row j = inr j
  row_of z (x ∷ xs) row j =
      elim (row_of z xs (pair_targets r s i timer x r.edges row) j) [
        | inl m ↦ inl (later_some m)
        | inr k ↦ elim (pair_of x z r.edges row k) [ inl m ↦ inl (first_some m) | inr n ↦ inr n ]
      ]

module _ (r : Rule) (s i : ℕ) (xs : List ℕ) where
  pub next_has :
      (x z : ℕ) → In x xs → Reaches r s i (row_resets r s i xs) z x → In z (next_row r s i xs)
  unfolding next_row
  next_has x z j m = row_has r s i (row_resets r s i xs) x z xs [] j m

  pub next_of : (z : ℕ) → In z (next_row r s i xs) → Some (Reaches r s i (row_resets r s i xs) z) xs
  unfolding next_row
  next_of z j = elim (row_of r s i (row_resets r s i xs) z xs [] j) [ inl m ↦ m | inr n ↦ not_in_nil n ]

-- The timer reset: some pair of the row allows an edge that resets a clock.
module _ (r : Rule) (s i : ℕ) where
  pub record ResetsBy (x : ℕ) (e : Edge) : Type 0 where
    pub allowed : allows r s i x e ≡ true
    pub some_clock : 1 ≤ e.resets

  pair_resets_lem : (x : ℕ) (f : Edge) (es : List Edge) → In f es → ResetsBy x f → pair_resets r s i x es ≡ true
  pair_resets_lem x f [] x3 m = elim x3 [ ]
  pair_resets_lem x f (e ∷ es) (here h) m = rw (← h, m.allowed, le-leb 1 f.resets m.some_clock)
  pair_resets_lem x f (e ∷ es) (there j) m =
      or_right (leb 1 e.resets && allows r s i x e) (pair_resets r s i x es) (pair_resets_lem x f es j m)

  pair_resets_of : (x : ℕ) (es : List Edge) → pair_resets r s i x es ≡ true → Some (ResetsBy x) es
  pair_resets_of x [] h = no_way h
  pair_resets_of x (e ∷ es) h =
      some_either (leb 1 e.resets && allows r s i x e) (pair_resets r s i x es) h
      (λ q. record {
        allowed = and_right (leb 1 e.resets) (allows r s i x e) q;
        some_clock = leb-true 1 e.resets (and_left (leb 1 e.resets) (allows r s i x e) q);
      })
      (pair_resets_of x es)

  pub reset_has : (x : ℕ) (xs : List ℕ) → In x xs → Some (ResetsBy x) r.edges → row_resets r s i xs ≡ true
  unfolding row_resets
  reset_has x [] x3 m = elim x3 [ ]
  reset_has x (y ∷ xs) (here h) m =
      or_left (pair_resets r s i y r.edges) (row_resets r s i xs)
      (rw (← h) (pair_resets_lem x m.member r.edges m.is_in_lem m.such))
  reset_has x (y ∷ xs) (there j) m =
      or_right (pair_resets r s i y r.edges) (row_resets r s i xs) (reset_has x xs j m)

  pub reset_of : (xs : List ℕ) → row_resets r s i xs ≡ true → Some (λ x. Some (ResetsBy x) r.edges) xs
  unfolding row_resets
  reset_of [] h = no_way h
  reset_of (x ∷ xs) h =
      some_either (pair_resets r s i x r.edges) (row_resets r s i xs) h (pair_resets_of x r.edges) (reset_of xs)

  -- no timer reset: no allowed edge resets a clock
  pub no_reset :
      (x : ℕ) (e : Edge) (xs : List ℕ) → In x xs → In e r.edges → allows r s i x e ≡ true
      → row_resets r s i xs ≡ false
      → e.resets ≡ 0
  no_reset x e xs j k a f =
      elim (two 0 e.resets) [
        | less h ↦
            no_way
            (sym f
            ∙ reset_has x xs j (record { member = e; is_in_lem = k; such = record { allowed = a; some_clock = h } }))
        | least h ↦ omega arith
      ]

  -- where the guard of an allowed edge holds
  pub guard_of_lem : (x : ℕ) (e : Edge) → allows r s i x e ≡ true
      → regions_hold (cm r) i (bases_of r x) (guard_of e) ≡ true
  unfolding allows
  guard_of_lem x e a =
      and_right (eqb e.source (location_of r x) && eqb e.symbol s)
      (regions_hold (cm r) i (bases_of r x) (guard_of e))
      a

  -- integer resets: only at even intervals
  pub even_reset : (xs : List ℕ) → Valid r → row_resets r s i xs ≡ true → i % 2 ≡ 0
  even_reset xs v h =
      let m = (reset_of xs h).such in
      let e : Edge = m.member in
      even_guard (cm r) i (bases_of r (reset_of xs h).member) (guard_of e)
      (λ a j.
      rw (digits_length (code_bases r (reset_of xs h).member))
      ((v.edges_in e m.is_in_lem).atoms_in a (guard_atoms e a j)).clock_below)
      (is_pinned_lem e (v.edges_in e m.is_in_lem).pinned m.such.some_clock)
      (guard_of_lem (reset_of xs h).member e m.such.allowed)

-- a row holds a final location
pub final_has :
    (r : Rule) (x : ℕ) (xs : List ℕ) → In x xs → is_in (location_of r x) r.final ≡ true → holds_final r xs ≡ true
unfolding holds_final
final_has r x [] x3 f = elim x3 [ ]
final_has r x (y ∷ xs) (here h) f = or_left (is_in (location_of r y) r.final) (holds_final r xs) (rw (← h) f)
final_has r x (y ∷ xs) (there h) f =
    or_right (is_in (location_of r y) r.final) (holds_final r xs) (final_has r x xs h f)

pub final_of :
    (r : Rule) (xs : List ℕ) → holds_final r xs ≡ true → Some (λ x. is_in (location_of r x) r.final ≡ true) xs
unfolding holds_final
final_of r [] h = no_way h
final_of r (x ∷ xs) h =
    some_either (is_in (location_of r x) r.final) (holds_final r xs) h (λ q. q) (final_of r xs)

-- The start row: every initial location with bases 0.
starts_have : (r : Rule) (l : ℕ) (ls : List ℕ) → In l ls → In (code_of r l (start_bases r)) (start_codes r ls)
starts_have r l [] x' = elim x' [ ]
starts_have r l (k ∷ ls) (here h) = rw (← h) (with_code_has (code_of r l (start_bases r)) (start_codes r ls))
starts_have r l (k ∷ ls) (there h) =
    with_code_keeps (code_of r k (start_bases r)) (code_of r l (start_bases r)) (start_codes r ls)
    (starts_have r l ls h)

starts_of : (r : Rule) (x : ℕ) (ls : List ℕ) → In x (start_codes r ls) → Some (λ l. x ≡ code_of r l (start_bases r)) ls
starts_of r x [] h = not_in_nil h
starts_of r x (l ∷ ls) h =
    elim (with_code_of (code_of r l (start_bases r)) x (start_codes r ls) h) [
      | inl e ↦ first_some e
      | inr i ↦ later_some (starts_of r x ls i)
    ]

pub start_has : (r : Rule) (l : ℕ) → In l r.initial → In (code_of r l (start_bases r)) (start_row r)
unfolding start_row
start_has r l i = starts_have r l r.initial i

pub start_of : (r : Rule) (x : ℕ) → In x (start_row r) → Some (λ l. x ≡ code_of r l (start_bases r)) r.initial
unfolding start_row
start_of r x i = starts_of r x r.initial i
