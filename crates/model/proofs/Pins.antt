-- What pins a guard, and that a pinned guard holds only where some clock reads its constant.
use mathlib.Core.Path.{◌≡◌, refl, ◌∙◌, ap}
use mathlib.Core.Bool.{Bool, true, ◌&&◌}
use mathlib.Core.List.{List, [], ◌∷◌}
use mathlib.Core.Logic.{inl, inr}
use Prim.Native.Nat.{ℕ, ◌*◌}
use native.Mathlib.Omega.{arith}
use lib.Dec.{eqb, leb}
use lib.ListN.{length, get_or}
use borrow.Author.Tests.{eqb-true, leb-true, ltb-true, eq-eqb, lt-ltb}
use Rattle.model.specs.Texts.{Atom, Members, outer}
use Rattle.model.specs.Rules.{at_most, equal, at_least, has_atom, pins, any_pins, is_pinned}
use Rattle.model.specs.Guards.{related, meets, guard, is_met}
use Rattle.model.specs.Claims.{no_atom, Pinned, by_equality, from_both_sides, PinsAre}
use Rattle.model.proofs.Logic.{no_way, and_left, and_right, and_both, or_left, or_right, or_cases, In, here}
use Rattle.model.proofs.Logic.{there, in_at, in_number, Some, some_either}
use Rattle.model.proofs.Guards.{met_each}

-- an atom with that clock, relation and constant
record Is (clock relation constant : ℕ) (a : Atom) : Type 0 where
  clock_is : a.clock ≡ clock
  relation_is : a.relation ≡ relation
  constant_is : a.constant ≡ constant

is_atom :
    (k r c : ℕ) (a : Atom) → (eqb a.clock k && eqb a.relation r && eqb a.constant c) ≡ true → Is k r c a
is_atom k r c a h =
    let p : Bool = eqb a.clock k in
    let q : Bool = eqb a.relation r in
    let s : Bool = eqb a.constant c in
    record {
      clock_is = eqb-true a.clock k (and_left p q (and_left (p && q) s h));
      relation_is = eqb-true a.relation r (and_right p q (and_left (p && q) s h));
      constant_is = eqb-true a.constant c (and_right (p && q) s h);
    }

found_atom : (k r c : ℕ) (xs : List Atom) → has_atom k r c xs ≡ true → Some (Is k r c) xs
found_atom k r c [] h = no_way h
found_atom k r c (a ∷ xs) h =
    some_either (eqb a.clock k && eqb a.relation r && eqb a.constant c) (has_atom k r c xs) h (is_atom k r c a)
    (found_atom k r c xs)

atom_found : (a : Atom) (xs : List Atom) → In a xs → has_atom a.clock a.relation a.constant xs ≡ true
atom_found a [] x' = elim x' [ ]
atom_found a (x ∷ xs) (here e) =
    rw (e, eq-eqb x.clock x.clock refl, eq-eqb x.relation x.relation refl)
    (rw (eq-eqb x.constant x.constant refl))
atom_found a (x ∷ xs) (there i) =
    or_right (eqb x.clock a.clock && eqb x.relation a.relation && eqb x.constant a.constant)
    (has_atom a.clock a.relation a.constant xs) (atom_found a xs i)

-- the members that pin
data Pin (xs : List Atom) : Type 0 where
  equality : (a : Atom) → In a xs → a.relation ≡ equal → Pin xs
  sides :
      (low high : Atom) → In low xs → In high xs → low.relation ≡ at_least → Is low.clock at_most low.constant high
      → Pin xs

pin_in : (all xs : List Atom) → any_pins all xs ≡ true → Some (λ a. pins all a ≡ true) xs
pin_in all [] h = no_way h
pin_in all (a ∷ xs) h = some_either (pins all a) (any_pins all xs) h (λ q. q) (pin_in all xs)

pin_of : (xs : List Atom) → is_pinned xs ≡ true → Pin xs
pin_of xs h =
    let p = pin_in xs xs h in
    let a : Atom = p.member in
    let lower_side : Bool = eqb a.relation at_least in
    let partner : Bool = has_atom a.clock at_most a.constant xs in
    elim (or_cases (eqb a.relation equal) (lower_side && partner) p.such) [
      | inl e ↦ equality a p.is_in_lem (eqb-true a.relation equal e)
      | inr e ↦
          let q = found_atom a.clock at_most a.constant xs (and_right lower_side partner e) in
          sides a q.member p.is_in_lem q.is_in_lem (eqb-true a.relation at_least (and_left lower_side partner e))
          q.such
    ]

pin_any : (all : List Atom) (a : Atom) (xs : List Atom) → In a xs → pins all a ≡ true → any_pins all xs ≡ true
pin_any all a [] x'' p = elim x'' [ ]
pin_any all a (x ∷ xs) (here e) p = or_left (pins all x) (any_pins all xs) (rw (← e) p)
pin_any all a (x ∷ xs) (there i) p = or_right (pins all x) (any_pins all xs) (pin_any all a xs i p)

-- members by their positions
positioned : (xs : List Atom) → Pin xs → Pinned xs
positioned xs (equality a i e) =
    let n = in_number no_atom a xs i in
    by_equality
    (record {
      position = n.number;
      inside = lt-ltb n.number (length xs) n.number_below;
      relation_is = ap (λ (x : Atom). x.relation) n.at_number ∙ e;
    })
positioned xs (sides low high i j e is) =
    let m = in_number no_atom low xs i in
    let n = in_number no_atom high xs j in
    from_both_sides
    (record {
      low = m.number;
      high = n.number;
      low_inside = lt-ltb m.number (length xs) m.number_below;
      high_inside = lt-ltb n.number (length xs) n.number_below;
      low_is = ap (λ (x : Atom). x.relation) m.at_number ∙ e;
      high_is = ap (λ (x : Atom). x.relation) n.at_number ∙ is.relation_is;
      one_clock = rw (m.at_number, n.at_number) is.clock_is;
      one_constant = rw (m.at_number, n.at_number) is.constant_is;
    })

-- the atom at a position pins
pinned_there : (xs : List Atom) → Pinned xs → is_pinned xs ≡ true
pinned_there xs (by_equality q) =
    let a : Atom = get_or xs q.position no_atom in
    pin_any xs a xs (in_at no_atom xs q.position (ltb-true q.position (length xs) q.inside))
    (or_left (eqb a.relation equal) (eqb a.relation at_least && has_atom a.clock at_most a.constant xs)
    (eq-eqb a.relation equal q.relation_is))
pinned_there xs (from_both_sides q) =
    let a : Atom = get_or xs q.low no_atom in
    let b : Atom = get_or xs q.high no_atom in
    let partner : has_atom a.clock at_most a.constant xs ≡ true =
    rw (q.one_clock, q.high_is, q.one_constant) at
    (atom_found b xs (in_at no_atom xs q.high (ltb-true q.high (length xs) q.high_inside))) in
    pin_any xs a xs (in_at no_atom xs q.low (ltb-true q.low (length xs) q.low_inside))
    (or_right (eqb a.relation equal) (eqb a.relation at_least && has_atom a.clock at_most a.constant xs)
    (and_both (eqb a.relation at_least) (has_atom a.clock at_most a.constant xs)
    (eq-eqb a.relation at_least q.low_is) partner))

-- what a guard that holds says of the clock of each atom on its outermost level
module _ (unit : ℕ) (readings : List ℕ) (m : Members) (met : is_met (guard unit readings m) ≡ true) where
  abbrev xs : List Atom
  xs = outer m

  says : (a : Atom) → In a xs → related a.relation (get_or readings a.clock 0) (a.constant * unit) ≡ true
  says = met_each 0 (meets unit readings) m met

  -- an equality; at least and at most the same
  pin_reads : Pin xs → Some (λ a. get_or readings a.clock 0 ≡ a.constant * unit) xs
  pin_reads (equality a i e) =
      record {
        member = a;
        is_in_lem = i;
        such = eqb-true (get_or readings a.clock 0) (a.constant * unit) (rw e at (says a i));
      }
  pin_reads (sides low high i j e is) =
      let value : ℕ = get_or readings low.clock 0 in
      let limit : ℕ = low.constant * unit in
      let above : leb limit value ≡ true = rw e at (says low i) in
      let below : leb value limit ≡ true =
      rw (is.relation_is, is.clock_is, is.constant_is) at (says high j) in
      record {
        member = low;
        is_in_lem = i;
        such = omega (arith, leb-true limit value above, leb-true value limit below);
      }

  pub pinned_reads : is_pinned xs ≡ true → Some (λ a. get_or readings a.clock 0 ≡ a.constant * unit) xs
  pinned_reads h = pin_reads (pin_of xs h)

pub pins_are : PinsAre
pins_are = record {
  pinned = λ xs h. positioned xs (pin_of xs h);
  pins = pinned_there;
  at_constant = λ unit readings m h met.
      let xs : List Atom = outer m in
      let p = pinned_reads unit readings m met h in
      let n = in_number no_atom p.member xs p.is_in_lem in
      record {
        position = n.number;
        inside = lt-ltb n.number (length xs) n.number_below;
        reads = rw n.at_number p.such;
      };
}
