-- What a delay and an edge do to the ages of the first k clocks: as the definitions say, where no age reaches the cap.
-- An age is at most the stamp at which it is read, so with stamps of 32 bits none does.
use mathlib.Core.Path.{◌≡◌, refl, sym, ◌∙◌, ap, ap₂}
use mathlib.Core.List.{List, [], ◌∷◌}
use Prim.Native.Nat.{ℕ, zero, suc, ◌+◌, ◌-◌, ◌^◌, ◌≤◌, ◌<◌}
use native.Mathlib.Omega.{arith}
use lib.ListN.{take}
use Rattle.model.specs.Basics.{lesser, zeros}
use Rattle.model.specs.Rules.{Edge, most_clocks}
use Rattle.model.specs.Runs.{older, zeroed}
use Rattle.model.proofs.Ages.{AtMost, take_zeroed, take_zeros}
use Rattle.ages.specs.declared.Ages.{Ages}
use Rattle.ages.specs.declared.Configuration.{Configuration}
use Rattle.ages.specs.Ages.{numbers_of, ages_of, most_age, older_capped, Waited, Moved}
use Rattle.ages.proofs.Laws.{under_cap}

take_capped : (k delay : ℕ) (ages : List ℕ) → take k (older_capped delay ages) ≡ older_capped delay (take k ages)
take_capped zero delay ages = refl
take_capped (suc k) delay [] = refl
take_capped (suc k) delay (a ∷ ages) = ap (λ (l : List ℕ). lesser (a + delay) most_age ∷ l) (take_capped k delay ages)

capped_exact :
    (m delay : ℕ) (ages : List ℕ) → AtMost m ages → m + delay ≤ most_age → older_capped delay ages ≡ older delay ages
capped_exact m delay [] h g = refl
capped_exact m delay (a ∷ ages) h g =
    ap₂ ◌∷◌ (sym (under_cap (a + delay) (omega (arith, h.0)))) (capped_exact m delay ages h.1 g)

-- ages of at most m, and a delay that keeps them below the cap
pub waited_ages :
    (k m : ℕ) {delay : ℕ} {from to : Configuration} → Waited delay from to → AtMost m (ages_of k from.ages)
    → m + delay ≤ most_age
    → ages_of k to.ages ≡ older delay (ages_of k from.ages)
waited_ages k m {delay} {from} {to} w h g =
    ap (take k) w.ages_are
    ∙ (take_capped k delay (numbers_of from.ages.of) ∙ capped_exact m delay (ages_of k from.ages) h g)

-- from one stamp to the next
pub waited_until :
    (k last now : ℕ) {delay : ℕ} {from to : Configuration} → Waited delay from to → delay ≡ now - last
    → AtMost last (ages_of k from.ages)
    → last ≤ now
    → now < 2 ^ 32
    → ages_of k to.ages ≡ older (now - last) (ages_of k from.ages)
waited_until k last now {from = from} w e m h g =
    waited_ages k last w m (omega arith) ∙ ap (λ (n : ℕ). older n (ages_of k from.ages)) e

pub moved_ages :
    (k : ℕ) {e : Edge} {from to : Configuration} → Moved e from to
    → ages_of k to.ages ≡ zeroed e.resets (ages_of k from.ages)
moved_ages k {e} {from} {to} m = ap (take k) m.ages_are ∙ take_zeroed k 0 e.resets (numbers_of from.ages.of)

pub start_ages_lem :
    (k : ℕ) (ages : Ages) → numbers_of ages.of ≡ zeros most_clocks → k ≤ most_clocks → ages_of k ages ≡ zeros k
start_ages_lem k ages e h = ap (take k) e ∙ take_zeros k most_clocks h
