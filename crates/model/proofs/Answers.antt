-- Answers of checks in a row: an answer that refuses is the answer of all, and one that does not leaves it to the next.
use mathlib.Core.Path.{◌≡◌, sym, ◌∙◌, ap}
use mathlib.Core.Bool.{false}
use Prim.Native.Nat.{ℕ}
use lib.Dec.{eqb}
use borrow.Author.Tests.{ne_eqb}
use Rattle.model.specs.declared.Answer.{Answer}
use Rattle.model.specs.Basics.{Refusal, fine, ◌⨾◌}
use Rattle.model.specs.Promises.{answer_of}
use Rattle.model.proofs.Refusals.{on_pass, on_refused}

-- the number of an answer is its refusal's
pub number_is : {a : Answer} (f : Refusal) (v : ℕ) → a ≡ answer_of f v → a.number ≡ f.number
number_is f v e = ap (λ (x : Answer). x.number) e

-- a refusal hides the value
pub refuses : {a : Answer} (f : Refusal) (v w : ℕ) → a ≡ answer_of f v → (a.number ≡ 0 → ⊥) → a ≡ answer_of f w
refuses f v w e n =
    let met : eqb f.number 0 ≡ false = ne_eqb f.number 0 (λ z. n (number_is f v e ∙ z)) in
    e ∙ rw met

-- the first of two refuses
pub first_refuses :
    {a : Answer} (f g : Refusal) (v w : ℕ) → a ≡ answer_of f v → (a.number ≡ 0 → ⊥) → a ≡ answer_of (f ⨾ g) w
first_refuses f g v w e n =
    refuses f v w e n ∙ ap (λ (x : Refusal). answer_of x w) (sym (on_refused f g (λ z. n (number_is f v e ∙ z))))

-- the first passes and the second refuses
pub second_refuses :
    {a : Answer} (f g : Refusal) (v w : ℕ) → f.number ≡ 0 → a ≡ answer_of g v → (a.number ≡ 0 → ⊥)
    → a ≡ answer_of (f ⨾ g) w
second_refuses f g v w p e n = refuses g v w e n ∙ ap (λ (x : Refusal). answer_of x w) (sym (on_pass f g p))

-- none refuses: the value
pub answers : (f : Refusal) (v : ℕ) → f ≡ fine → record { number = 0; place = 0; value = v } ≡ answer_of f v
answers f v e = rw e
