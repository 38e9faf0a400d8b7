-- Guards, member by member: tests that agree on a guard's atoms give one answer; a guard holds exactly if its outermost
-- level does, and then each atom of that level.
use Rattle.std.specs.Prelude.{Option, Some}
use mathlib.Core.Path.{◌≡◌, refl, ap, ap₂}
use mathlib.Core.Bool.{Bool, true, false, ◌&&◌, not}
use mathlib.Core.List.{List}
use Prim.Native.Nat.{ℕ, suc, ◌*◌}
use lib.ListN.{get_or}
use Rattle.model.specs.Basics.{pick}
use Rattle.model.specs.Texts.{Atom, Members, end, atom, group, outer}
use Rattle.model.specs.Guards.{related, meets, together, level_holds, first_failing, guard, is_met}
use Rattle.model.proofs.Logic.{and_left, and_right, In, here, there, not_in_nil}
use Rattle.model.proofs.Texts.{Within, this, after_atom, inside, after_group}

-- atoms that two tests decide alike
pub same_level :
    (all : Bool) (t u : Atom → Bool) (m : Members) → ((a : Atom) → Within a m → t a ≡ u a)
    → level_holds all t m ≡ level_holds all u m
same_level all t u end h = refl
same_level all t u (atom a m) h =
    ap₂ (together all) (h a (this refl)) (same_level all t u m (λ x i. h x (after_atom i)))
same_level all t u (group g m) h =
    ap₂ (together all) (same_level (not all) t u g (λ x i. h x (inside i)))
    (same_level all t u m (λ x i. h x (after_group i)))

pub same_tests :
    (n : ℕ) (t u : Atom → Bool) (m : Members) → ((a : Atom) → Within a m → t a ≡ u a)
    → first_failing n t m ≡ first_failing n u m
same_tests n t u end h = refl
same_tests n t u (atom a m) h =
    ap₂ (λ (b : Bool) (g : Option ℕ). pick b g (Some n)) (h a (this refl))
    (same_tests (suc n) t u m (λ x i. h x (after_atom i)))
same_tests n t u (group g m) h =
    ap₂ (λ (b : Bool) (k : Option ℕ). pick b k (Some n)) (same_level false t u g (λ x i. h x (inside i)))
    (same_tests (suc n) t u m (λ x i. h x (after_group i)))

-- readings that are alike on the clocks of the atoms give one answer
pub same_readings :
    (unit : ℕ) (readings others : List ℕ) (m : Members)
    → ((a : Atom) → Within a m → get_or readings a.clock 0 ≡ get_or others a.clock 0)
    → guard unit readings m ≡ guard unit others m
same_readings unit readings others m h =
    same_tests 0 (meets unit readings) (meets unit others) m
    (λ a i. ap (λ (value : ℕ). related a.relation value (a.constant * unit)) (h a i))

-- the answer of one member and the rest
met_either : (met : Bool) (g : Option ℕ) (n : ℕ) (b : Bool) → is_met g ≡ b → is_met (pick met g (Some n)) ≡ (met && b)
met_either true g n b e = e
met_either false g n b e = refl

-- a guard holds exactly if its outermost level does, wherever positions are counted from
pub guard_holds : (n : ℕ) (t : Atom → Bool) (m : Members) → is_met (first_failing n t m) ≡ level_holds true t m
guard_holds n t end = refl
guard_holds n t (atom a m) =
    met_either (t a) (first_failing (suc n) t m) n (level_holds true t m) (guard_holds (suc n) t m)
guard_holds n t (group g m) =
    met_either (level_holds false t g) (first_failing (suc n) t m) n (level_holds true t m) (guard_holds (suc n) t m)

-- where a guard holds, each atom of its outermost level does
level_each : (t : Atom → Bool) (m : Members) → level_holds true t m ≡ true → (a : Atom) → In a (outer m) → t a ≡ true
level_each t end h a i = not_in_nil i
level_each t (atom x m) h a (here e) = rw e (and_left (t x) (level_holds true t m) h)
level_each t (atom x m) h a (there i) = level_each t m (and_right (t x) (level_holds true t m) h) a i
level_each t (group g m) h a i = level_each t m (and_right (level_holds false t g) (level_holds true t m) h) a i

pub met_each :
    (n : ℕ) (t : Atom → Bool) (m : Members) → is_met (first_failing n t m) ≡ true → (a : Atom) → In a (outer m)
    → t a ≡ true
met_each n t m h a i = level_each t m (rw (guard_holds n t m) at h) a i
