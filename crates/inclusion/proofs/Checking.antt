-- The whole: refused, or searched in rooms that were cleared.
use mathlib.Core.Path.{◌≡◌, refl, sym, ◌∙◌, ap, ap₂, subst}
use mathlib.Core.Bool.{false}
use mathlib.Core.List.{List}
use Prim.Native.Nat.{ℕ, ◌≤◌}
use native.Mathlib.Omega.{arith}
use lib.ListN.{length}
use Rattle.std.proofs.Common.{Err}
use Rattle.model.specs.declared.Refused.{Refused}
use Rattle.model.specs.declared.Inclusion.{Inclusion}
use Rattle.model.specs.Basics.{lesser, zeros, filled, Refusal, passes}
use Rattle.model.specs.Tables.{Tables}
use Rattle.model.specs.Words.{most_events}
use Rattle.model.specs.Lists.{symbols_of, stamps_of}
use Rattle.model.specs.Promises.{inclusion, Searched, holds, shown, too_long, ChecksInclusion}
use Rattle.model.proofs.Logic.{no_way}
use Rattle.model.proofs.Faults.{refuses}
use Rattle.inclusion.specs.Judging.{Admitted, Judges, inclusion_in}
use Rattle.inclusion.proofs.Zeros.{cleared_self}
use Rattle.inclusion.proofs.Refusing.{admitted_fine}

pub checks_refused :
    (t u : Tables) (scratch symbols stamps : List ℕ) (r : Refused) → Judges t u (length scratch) (Err r)
    → ChecksInclusion t u scratch scratch symbols symbols stamps stamps (inclusion_in (Err r))
checks_refused t u scratch symbols stamps r j = record {
  refused = λ k. (ap (λ (f : Refusal). inclusion f false 0) j.refusal_is, refl, refl, refl);
  searched = λ k. no_way (sym (refuses r.fault r.place) ∙ (ap passes j.refusal_is ∙ k));
}

-- only the rooms' lengths matter
pub searched_as :
    {t u : Tables} {symbols₁ symbols' stamps₁ stamps' : List ℕ} {answer : Inclusion} (symbols stamps : List ℕ)
    → length symbols₁ ≡ length symbols
    → length stamps₁ ≡ length stamps
    → Searched t u symbols₁ symbols' stamps₁ stamps' answer
    → Searched t u symbols symbols' stamps stamps' answer
searched_as symbols stamps e f (holds a i x y) = holds a i (x ∙ ap zeros e) (y ∙ ap zeros f)
searched_as {t} {u} {symbols₁} {symbols'} {stamps₁} symbols stamps e f (shown vs a h b o n x y) =
    shown vs a (subst (λ (m : ℕ). length vs ≤ m) (ap₂ (λ (i j : ℕ). lesser most_events (lesser i j)) e f) h) b o n
    (x ∙ ap (λ (m : ℕ). filled m (symbols_of vs)) e)
    (y ∙ ap (λ (m : ℕ). filled m (stamps_of vs)) f)
searched_as {t} {u} symbols stamps e f (too_long a s n x y) =
    too_long a s (λ d vs o. omega (arith, n d vs o, ap₂ (λ (i j : ℕ). lesser most_events (lesser i j)) e f))
    (x ∙ ap zeros e)
    (y ∙ ap zeros f)

pub checks_searched :
    (t u : Tables) (scratch scratch' symbols symbols' stamps stamps' : List ℕ) (answer : Inclusion) (n : ℕ)
    → Admitted t u (length scratch)
    → scratch' ≡ zeros n
    → length scratch' ≡ length scratch
    → Searched t u symbols symbols' stamps stamps' answer
    → ChecksInclusion t u scratch scratch' symbols symbols' stamps stamps' answer
checks_searched t u scratch scratch' symbols symbols' stamps stamps' answer n a e l r = record {
  refused = λ k. no_way (sym k ∙ ap passes (admitted_fine t u (length scratch) a));
  searched = λ k. (cleared_self n e ∙ ap zeros l, r);
}
