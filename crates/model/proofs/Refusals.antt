-- Laws of refusals in order: what passes both, and which of two is met.
use mathlib.Core.Path.{◌≡◌, refl, sym, ◌∙◌, ap}
use mathlib.Core.Bool.{Bool, true, false}
use Prim.Native.Nat.{ℕ, suc}
use native.Mathlib.Omega.{arith}
use lib.Dec.{eqb}
use borrow.Author.Tests.{eqb-true, eq-eqb, ne_eqb}
use Rattle.model.specs.Basics.{Refusal, refusal, fine, refuse, ◌⨾◌}
use Rattle.model.proofs.Logic.{by_test}

-- a test that refuses does not pass
pub refused_false : (test : Bool) (n p : ℕ) → (refuse test (suc n) p).number ≡ 0 → test ≡ false
refused_false true n p h = absurd (omega arith)
refused_false false n p h = refl

pub refuse_fine : (test : Bool) (n p : ℕ) → test ≡ false → refuse test n p ≡ fine
refuse_fine test n p h = rw h

pub refuse_met : (test : Bool) (n p : ℕ) → test ≡ true → refuse test n p ≡ refusal n p
refuse_met test n p h = rw h

-- where the first passes the second is met, else the first
pub on_pass : (f g : Refusal) → f.number ≡ 0 → (f ⨾ g) ≡ g
on_pass f g h = rw (eq-eqb f.number 0 h)

pub on_refused : (f g : Refusal) → (f.number ≡ 0 → ⊥) → (f ⨾ g) ≡ f
on_refused f g h = rw (ne_eqb f.number 0 h)

-- both pass where the two in a row pass
pub first_passes : (f g : Refusal) → (f ⨾ g).number ≡ 0 → f.number ≡ 0
first_passes f g h = by_test (eqb f.number 0) (λ e. eqb-true f.number 0 e) (λ e. rw e at h)

pub then_passes : (f g : Refusal) → (f ⨾ g).number ≡ 0 → g.number ≡ 0
then_passes f g h = sym (ap (λ (x : Refusal). x.number) (on_pass f g (first_passes f g h))) ∙ h

-- the same of whole refusals
pub fine_number : {f : Refusal} → f ≡ fine → f.number ≡ 0
fine_number h = ap (λ (x : Refusal). x.number) h

pub both_fine : (f g : Refusal) → f.number ≡ 0 → g ≡ fine → (f ⨾ g) ≡ fine
both_fine f g p q = on_pass f g p ∙ q

-- no number, no place: every refusal made of these is settled
abbrev pub Settled : Refusal → Type 0
Settled f = f.number ≡ 0 → f ≡ fine

pub refuse_settled : (test : Bool) (n p : ℕ) → Settled (refuse test (suc n) p)
refuse_settled true n p h = absurd (omega arith)
refuse_settled false n p h = refl

pub then_settled : (f g : Refusal) → Settled f → Settled g → Settled (f ⨾ g)
then_settled f g a b h = on_pass f g (first_passes f g h) ∙ b (then_passes f g h)
