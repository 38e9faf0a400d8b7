-- Plain laws that every proof here uses: tests and what they show, membership, two lists, the larger of two.
use mathlib.Core.Path.{◌≡◌, refl, sym, ap₂}
use mathlib.Core.Bool.{Bool, true, false, ◌&&◌, ◌||◌}
use mathlib.Core.List.{List, [], ◌∷◌, ◌++◌}
use mathlib.Core.Logic.{◌⊎◌, inl, inr}
use Prim.Native.Nat.{ℕ, zero, suc, ◌/◌, ◌%◌, ◌≤◌, ◌<◌}
use native.Mathlib.Omega.{arith}
use lib.Dec.{eqb, ltb, leb}
use lib.ListN.{length, get_or}
use borrow.Author.Tests.{ltb-true, ltb-false, leb-true, leb-false, eqb-true, lt-ltb, le-leb, eq-eqb}
use Rattle.model.specs.Basics.{one_if, larger, lesser, within, quotient, remainder, is_in, same, zeros}

-- false is not true
pub no_way : {A : Type 0} → false ≡ true → A
no_way h = absurd (let z : ◌≡◌ {A = ℕ} 0 1 = cc in omega arith)

-- by a test, with its equation
pub by_test : {P : Type 0} (t : Bool) → (t ≡ true → P) → (t ≡ false → P) → P
by_test true f g = f refl
by_test false f g = g refl

pub same_truth : (a b : Bool) → (a ≡ true → b ≡ true) → (b ≡ true → a ≡ true) → a ≡ b
same_truth true b f g = sym (f refl)
same_truth false true f g = g refl
same_truth false false f g = refl

pub eqb_suc : (a b : ℕ) → eqb (suc a) (suc b) ≡ eqb a b
eqb_suc a b =
    same_truth (eqb (suc a) (suc b)) (eqb a b) (λ e. eq-eqb a b (omega (arith, eqb-true (suc a) (suc b) e)))
    (λ e. eq-eqb (suc a) (suc b) (omega (arith, eqb-true a b e)))

pub ltb_suc : (a b : ℕ) → ltb (suc a) (suc b) ≡ ltb a b
ltb_suc a b =
    same_truth (ltb (suc a) (suc b)) (ltb a b) (λ e. lt-ltb a b (omega (arith, ltb-true (suc a) (suc b) e)))
    (λ e. lt-ltb (suc a) (suc b) (omega (arith, ltb-true a b e)))

pub eqb_swap : (a b : ℕ) → eqb a b ≡ eqb b a
eqb_swap a b =
    same_truth (eqb a b) (eqb b a) (λ e. eq-eqb b a (sym (eqb-true a b e))) (λ e. eq-eqb a b (sym (eqb-true b a e)))

pub zeros_at : (n i : ℕ) → get_or (zeros n) i 0 ≡ 0
zeros_at zero i = refl
zeros_at (suc n) zero = refl
zeros_at (suc n) (suc i) = zeros_at n i

-- what a count by a test tells
pub most_one : (b : Bool) → one_if b ≤ 1
most_one true = omega arith
most_one false = omega arith

pub is_one : (b : Bool) → 1 ≤ one_if b → b ≡ true
is_one true h = refl
is_one false h = absurd (omega arith)

pub and_left : (a b : Bool) → (a && b) ≡ true → a ≡ true
and_left true b h = refl
and_left false b h = h

pub and_right : (a b : Bool) → (a && b) ≡ true → b ≡ true
and_right true b h = h
and_right false b h = no_way h

pub and_both : (a b : Bool) → a ≡ true → b ≡ true → (a && b) ≡ true
and_both a b p q = rw (p, q)

pub or_left : (a b : Bool) → a ≡ true → (a || b) ≡ true
or_left a b h = rw h

pub or_right : (a b : Bool) → b ≡ true → (a || b) ≡ true
or_right true b h = refl
or_right false b h = h

pub or_none : (a : Bool) → (a || false) ≡ a
or_none true = refl
or_none false = refl

pub or_cases : (a b : Bool) → (a || b) ≡ true → (a ≡ true) ⊎ (b ≡ true)
or_cases true b h = inl refl
or_cases false b h = inr h

pub neither_left : (a b : Bool) → (a || b) ≡ false → a ≡ false
neither_left true b h = h
neither_left false b h = refl

pub neither_right : (a b : Bool) → (a || b) ≡ false → b ≡ false
neither_right true b h = no_way (sym h)
neither_right false b h = h

pub within_least : (a b x : ℕ) → within a b x ≡ true → a ≤ x
within_least a b x h = leb-true a x (and_left (leb a x) (leb x b) h)

pub within_most : (a b x : ℕ) → within a b x ≡ true → x ≤ b
within_most a b x h = leb-true x b (and_right (leb a x) (leb x b) h)

pub in_within : (a b x : ℕ) → a ≤ x → x ≤ b → within a b x ≡ true
in_within a b x p q = rw (le-leb a x p, le-leb x b q)

-- how two numbers stand to each other
pub data Cmp (a b : ℕ) : Type 0 where
  is_lt : a < b → Cmp a b
  is_eq : a ≡ b → Cmp a b
  is_gt : b < a → Cmp a b

pub cmp : (a b : ℕ) → Cmp a b
cmp a b =
    by_test (ltb a b) (λ e. is_lt (ltb-true a b e))
    (λ e. by_test (ltb b a) (λ f. is_gt (ltb-true b a f)) (λ f. is_eq (omega (arith, ltb-false))))

pub data Two (a b : ℕ) : Type 0 where
  less : a < b → Two a b
  least : b ≤ a → Two a b

pub two : (a b : ℕ) → Two a b
two a b = by_test (ltb a b) (λ e. less (ltb-true a b e)) (λ e. least (ltb-false a b e))

pub larger_left : (a b : ℕ) → a ≤ larger a b
larger_left a b = by_test (leb a b) (λ e. rw e (leb-true a b e)) (λ e. rw e (omega arith))

pub larger_right : (a b : ℕ) → b ≤ larger a b
larger_right a b = by_test (leb a b) (λ e. rw e (omega arith)) (λ e. rw e (omega (arith, leb-false a b e)))

pub larger_most : (a b m : ℕ) → a ≤ m → b ≤ m → larger a b ≤ m
larger_most a b m p q = by_test (leb a b) (λ e. rw e q) (λ e. rw e p)

-- the larger of three, in either order
pub larger_three : (a b c : ℕ) → larger (larger a b) c ≡ larger a (larger b c)
larger_three a b c =
    let up : larger (larger a b) c ≤ larger a (larger b c) =
    larger_most (larger a b) c (larger a (larger b c))
    (larger_most a b (larger a (larger b c)) (larger_left a (larger b c))
    (omega (arith, larger_left b c, larger_right a (larger b c))))
    (omega (arith, larger_right b c, larger_right a (larger b c))) in
    let down : larger a (larger b c) ≤ larger (larger a b) c =
    larger_most a (larger b c) (larger (larger a b) c)
    (omega (arith, larger_left a b, larger_left (larger a b) c))
    (larger_most b c (larger (larger a b) c) (omega (arith, larger_right a b, larger_left (larger a b) c))
    (larger_right (larger a b) c)) in
    omega (arith, up, down)

pub larger_none : (a : ℕ) → larger a 0 ≡ a
larger_none a = by_test (leb a 0) (λ e. rw e (omega (arith, leb-true a 0 e))) (λ e. rw e)

pub lesser_left : (a b : ℕ) → lesser a b ≤ a
lesser_left a b = by_test (leb a b) (λ e. rw e (omega arith)) (λ e. rw e (omega (arith, leb-false a b e)))

pub lesser_right : (a b : ℕ) → lesser a b ≤ b
lesser_right a b = by_test (leb a b) (λ e. rw e (leb-true a b e)) (λ e. rw e (omega arith))

-- division by a number that is not 0
pub quotient_is : (a b : ℕ) → 0 < b → quotient a b ≡ a / b
quotient_is a zero h = absurd (omega arith)
quotient_is a (suc b) h = refl

pub remainder_is : (a b : ℕ) → 0 < b → remainder a b ≡ a % b
remainder_is a zero h = absurd (omega arith)
remainder_is a (suc b) h = refl

-- membership
pub data In {A : Type 0} (x : A) : List A → Type 0 where
  here : {y : A} {xs : List A} → x ≡ y → In x (y ∷ xs)
  there : {y : A} {xs : List A} → In x xs → In x (y ∷ xs)

pub not_in_nil : {A : Type 0} {x : A} {B : Type 0} → In x [] → B
not_in_nil h = elim h [ ]

pub is_in_lem : (x : ℕ) (xs : List ℕ) → In x xs → is_in x xs ≡ true
is_in_lem x [] x'' = elim x'' [ ]
is_in_lem x (y ∷ ys) (here h) = rw (eq-eqb x y h)
is_in_lem x (y ∷ ys) (there h) = or_right (eqb x y) (is_in x ys) (is_in_lem x ys h)

pub in_is : (x : ℕ) (xs : List ℕ) → is_in x xs ≡ true → In x xs
in_is x [] h = no_way h
in_is x (y ∷ ys) h =
    elim (or_cases (eqb x y) (is_in x ys) h) [ inl e ↦ here (eqb-true x y e) | inr e ↦ there (in_is x ys e) ]

pub in_append : {A : Type 0} (e f : A) (es : List A) → In e (es ++ (f ∷ [])) → In e es ⊎ (e ≡ f)
in_append e f [] (here h) = inr h
in_append e f [] (there h) = not_in_nil h
in_append e f (g ∷ es) (here h) = inl (here h)
in_append e f (g ∷ es) (there h) = elim (in_append e f es h) [ inl i ↦ inl (there i) | inr q ↦ inr q ]

pub in_left : {A : Type 0} (x : A) (xs ys : List A) → In x xs → In x (xs ++ ys)
in_left {A = A} x [] ys x'' = elim x'' [ ]
in_left x (y ∷ xs) ys (here h) = here h
in_left x (y ∷ xs) ys (there h) = there (in_left x xs ys h)

pub in_right : {A : Type 0} (x : A) (xs ys : List A) → In x ys → In x (xs ++ ys)
in_right x [] ys h = h
in_right x (y ∷ xs) ys h = there (in_right x xs ys h)

pub in_at : {A : Type 0} (d : A) (xs : List A) (n : ℕ) → n < length xs → In (get_or xs n d) xs
in_at d [] n h = absurd (omega arith)
in_at d (x ∷ xs) zero h = here refl
in_at d (x ∷ xs) (suc n) h = there (in_at d xs n (omega arith))

-- a member has a number
pub record Numbered {A : Type 0} (d : A) (xs : List A) (x : A) : Type 0 where
  pub number : ℕ
  pub number_below : number < length xs
  pub at_number : get_or xs number d ≡ x

pub in_number : {A : Type 0} (d x : A) (xs : List A) → In x xs → Numbered d xs x
in_number {A = A} d x [] x'' = elim x'' [ ]
in_number d x (y ∷ ys) (here h) = record { number = 0; number_below = omega arith; at_number = sym h }
in_number d x (y ∷ ys) (there i) =
    let n = in_number d x ys i in
    record { number = suc n.number; number_below = omega arith; at_number = n.at_number }

-- some member of a list is such that P
pub record Some {A : Type 0} (P : A → Type 0) (xs : List A) : Type 0 where
  pub member : A
  pub is_in_lem : In member xs
  pub such : P member

pub first_some : {A : Type 0} {P : A → Type 0} {x : A} {xs : List A} → P x → Some P (x ∷ xs)
first_some {x = x} p = record { member = x; is_in_lem = here refl; such = p }

pub later_some : {A : Type 0} {P : A → Type 0} {x : A} {xs : List A} → Some P xs → Some P (x ∷ xs)
later_some m = record { member = m.member; is_in_lem = there m.is_in_lem; such = m.such }

-- as a test of a list finds one: at its head, or further on
pub some_either :
    {A : Type 0} {P : A → Type 0} {x : A} {xs : List A} (a b : Bool) → (a || b) ≡ true → (a ≡ true → P x)
    → (b ≡ true → Some P xs)
    → Some P (x ∷ xs)
some_either a b h f g = elim (or_cases a b h) [ inl p ↦ first_some (f p) | inr q ↦ later_some (g q) ]

-- two lists that are the same number by number are equal
pub same_equal : (xs ys : List ℕ) → same xs ys ≡ true → xs ≡ ys
same_equal [] [] h = refl
same_equal [] (y ∷ ys) h = no_way h
same_equal (x ∷ xs) [] h = no_way h
same_equal (x ∷ xs) (y ∷ ys) h =
    ap₂ ◌∷◌ (eqb-true x y (and_left (eqb x y) (same xs ys) h)) (same_equal xs ys (and_right (eqb x y) (same xs ys) h))

pub same_self : (xs : List ℕ) → same xs xs ≡ true
same_self [] = refl
same_self (x ∷ xs) = rw (eq-eqb x x refl, same_self xs)

-- one list before another
pub first_part : {A : Type 0} (d : A) (xs ys : List A) (n : ℕ) → n < length xs → get_or (xs ++ ys) n d ≡ get_or xs n d
first_part d [] ys n h = absurd (omega arith)
first_part d (x ∷ xs) ys zero h = refl
first_part d (x ∷ xs) ys (suc n) h = first_part d xs ys n (omega arith)
