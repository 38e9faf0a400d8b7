-- Numbers of joint states: their sizes, one table's half waiting or taking an event, both halves put together and
-- taken apart again.
use mathlib.Core.Path.{◌≡◌, sym, ◌∙◌, ap, ap₂, subst}
use mathlib.Core.Bool.{true, false}
use mathlib.Core.List.{[]}
use Prim.Native.Nat.{ℕ, ◌+◌, ◌*◌, ◌/◌, ◌%◌, ◌≤◌, ◌<◌}
use native.Mathlib.Omega.{arith}
use native.Mathlib.Nat.{mul-le-mul, div-lt_iff_lt-mul, mod-lt}
use lib.Arith.{digits_lt, digits_div, digits_mod}
use lib.Dec.{ltb}
use borrow.Author.Tests.{lt-ltb, le-ltb}
use Rattle.model.specs.declared.Built.{Built}
use Rattle.model.specs.Rules.{most_constant}
use Rattle.model.specs.Construction.{most_rows, interval_count, top_interval}
use Rattle.model.specs.Walks.{built_width}
use Rattle.model.specs.Inclusion.{state_count, joint_count}
use Rattle.model.specs.JointStates.{State, state, start_state, waited, waits}
use Rattle.inclusion.specs.declared.sides.Joint.{Joint}
use Rattle.inclusion.specs.Numbers.{state_number, state_of, packed, first_state, second_state}
use Rattle.inclusion.specs.Numbers.{Sized, Inside, bare, first_in, second_in, Is, InBoth, Stands, Apart}

-- a state that a table has
abbrev pub InState : Built → State → Type 0
InState b x = Inside b x.row x.age

pub width_most : {b : Built} → Sized b → built_width b ≤ interval_count most_constant
width_most s = omega (arith, s.top_most)

-- no table has more states
abbrev pub most_states : ℕ
most_states = most_rows * interval_count most_constant

pub states_most : {b : Built} → Sized b → state_count b ≤ most_states
states_most {b} s = omega (arith, mul-le-mul s.rows_most (width_most s))

pub states_some : {b : Built} → Sized b → 1 ≤ state_count b
states_some {b} s =
    let w : 1 ≤ built_width b = omega arith in
    omega (arith, mul-le-mul s.rows_some w)

pub counted :
    {b : Built} → Sized b → (r w : ℕ) → r ≡ b.rows → w ≡ built_width b → (r * w ≡ state_count b) × (1 ≤ r * w)
counted {b} s r w e f =
    let g : r * w ≡ state_count b = ap₂ ◌*◌ e f in
    (g, omega (arith, states_some s))

-- one table
pub row_below : (b : Built) (q : ℕ) → q < state_count b → q / built_width b < b.rows
row_below b q h =
    let w : 0 < built_width b = omega arith in
    (div-lt_iff_lt-mul w).1 h

pub age_below : (b : Built) (q : ℕ) → q % built_width b < built_width b
age_below b q = let w : 0 < built_width b = omega arith in mod-lt q w

-- a state inside goes to its number and back
pub number_below : (b : Built) (x : State) → InState b x → state_number b x < state_count b
number_below b x i = digits_lt i.row_in i.age_in

state_again : (b : Built) (x : State) → InState b x → state_of b (state_number b x) ≡ x
state_again b x i = ap₂ state (digits_div x.row i.age_in) (digits_mod x.row i.age_in)

pub numbered :
    {b : Built} {row age : ℕ} → Inside b row age → (w : ℕ) → w ≡ built_width b
    → (row * w + age ≡ state_number b (state row age)) × (row * w + age < state_count b)
numbered {b} {row} {age} i w e =
    let n : row * w + age ≡ state_number b (state row age) = ap (λ (z : ℕ). row * z + age) e in
    (n, omega (arith, n, number_below b (state row age) i))

-- an age that waits
pub age_more :
    (b : Built) (age w : ℕ) → w ≡ built_width b → age + 1 < w
    → (age + 1 ≡ waited b.top age) × (age + 1 < built_width b)
age_more b age w e h =
    let t : ltb age (top_interval b.top) ≡ true = lt-ltb age (top_interval b.top) (omega (arith, e, h)) in
    (rw t (omega arith), omega (arith, e, h))

pub age_stays :
    (b : Built) (age w : ℕ) → w ≡ built_width b → age < built_width b → w ≤ age + 1
    → (age ≡ waited b.top age) × (age < built_width b)
age_stays b age w e g h =
    let t : ltb age (top_interval b.top) ≡ false = le-ltb age (top_interval b.top) (omega (arith, e, h)) in
    (rw t, g)

-- both
pub first_below : (a b : Built) (x m : ℕ) → Sized b → m ≡ state_count b → x < joint_count a b → x / m < state_count a
first_below a b x m s e h =
    let p : 0 < state_count b = states_some s in
    rw e ((div-lt_iff_lt-mul p).1 h)

pub second_below : (b : Built) (x m : ℕ) → Sized b → m ≡ state_count b → x % m < state_count b
second_below b x m s e = let p : 0 < state_count b = states_some s in rw e (mod-lt x p)

-- two halves put together again: the number, which is below R · W · R' · W'
pub joined_below :
    (a b : Built) (q p : ℕ) → q < state_count a → p < state_count b → q * state_count b + p < joint_count a b
joined_below a b q p h g = digits_lt {q = q} {m = state_count a} {r = p} {c = state_count b} h g

pub joined_fits :
    (a b : Built) (q p m : ℕ) → m ≡ state_count b → q < state_count a → p < state_count b → q * m + p < joint_count a b
joined_fits a b q p m e h g = subst (λ (z : ℕ). q * z + p < joint_count a b) (sym e) (joined_below a b q p h g)

pub put_together :
    (b : Built) (m q p f g : ℕ) → m ≡ state_count b → q ≡ f → p ≡ g → q * m + p ≡ f * state_count b + g
put_together b m q p f g e h k = rw (h, k, e)

-- two states put together, and the number taken apart again
pub first_back :
    (a b : Built) (x y : State) → InState a x → InState b y → first_state a b (packed a b x y) ≡ x
first_back a b x y i j = ap (state_of a) (digits_div (state_number a x) (number_below b y j)) ∙ state_again a x i

pub second_back : (a b : Built) (x y : State) → InState b y → second_state a b (packed a b x y) ≡ y
second_back a b x y j = ap (state_of b) (digits_mod (state_number a x) (number_below b y j)) ∙ state_again b y j

pub packed_apart :
    {a b : Built} {n : ℕ} {j : Joint} → InBoth a b j
    → n ≡ packed a b (first_in j) (second_in j)
    → Apart a b n j
packed_apart {a} {b} {n} {j} i e = record {
  first_is = sym (ap (first_state a b) e ∙ first_back a b (first_in j) (second_in j) i.first_in_lem i.second_in_lem);
  second_is = sym (ap (second_state a b) e ∙ second_back a b (first_in j) (second_in j) i.second_in_lem);
  inside = i;
}

-- the start is state 0
pub start_inside : {b : Built} → Sized b → InState b start_state
start_inside s = record { row_in = s.rows_some; age_in = omega arith }

pub start_packed : (a b : Built) → packed a b start_state start_state ≡ 0
start_packed a b =
    let e : state_number a start_state ≡ 0 = omega arith in
    let f : state_number b start_state ≡ 0 = omega arith in
    ap₂ (λ (q r : ℕ). q * state_count b + r) e f ∙ omega arith

-- a number's two states wait, and are put together again
pub waits_packed :
    {a b : Built} {j r : Joint} (n m : ℕ) → Apart a b n j
    → Stands a b r (waits (bare a []) (first_in j)) (waits (bare b []) (second_in j))
    → m ≡ packed a b (first_in r) (second_in r)
    → m ≡ packed a b (waits (bare a []) (first_state a b n)) (waits (bare b []) (second_state a b n))
waits_packed {a} {b} n m k w e =
    e
    ∙ ap₂ (packed a b) (w.first_is ∙ ap (waits (bare a [])) k.first_is)
    (w.second_is ∙ ap (waits (bare b [])) k.second_is)

-- one table's number taken apart
pub apart_is :
    (b : Built) (q w : ℕ) → w ≡ built_width b → q < state_count b
    → Is b (record { row = q / w; age = q % w }) (state_of b q)
apart_is b q w e h = record {
  is = rw e;
  inside = record { row_in = rw e (row_below b q h); age_in = rw e (age_below b q) };
}
