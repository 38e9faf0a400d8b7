-- An all-of holds exactly if each of its members does, an any-of exactly if some member does.
use mathlib.Core.Path.{◌≡◌, refl, sym, ◌∙◌}
use mathlib.Core.Bool.{Bool, true, false}
use mathlib.Core.Logic.{inl, inr}
use Prim.Native.Nat.{ℕ, zero, suc}
use native.Mathlib.Omega.{arith}
use lib.Dec.{ltb}
use borrow.Author.Tests.{ltb-true, lt-ltb}
use Rattle.model.specs.Texts.{Atom, Members, end, atom, group}
use Rattle.model.specs.Guards.{level_holds}
use Rattle.model.specs.Claims.{member_count, member_holds, SomeMember, LevelsAre}
use Rattle.model.proofs.Logic.{no_way, and_left, and_right, and_both, or_left, or_right, or_cases, ltb_suc}

first_inside : (n : ℕ) → ltb 0 (suc n) ≡ true
first_inside n = lt-ltb 0 (suc n) (omega arith)

module _ (t : Atom → Bool) where
  all_hold :
      (m : Members) (n : ℕ) → level_holds true t m ≡ true → ltb n (member_count m) ≡ true
      → member_holds true n t m ≡ true
  all_hold end n h l = absurd (omega (arith, ltb-true n 0 l))
  all_hold (atom a m) zero h l = and_left (t a) (level_holds true t m) h
  all_hold (atom a m) (suc n) h l =
      all_hold m n (and_right (t a) (level_holds true t m) h) (sym (ltb_suc n (member_count m)) ∙ l)
  all_hold (group g m) zero h l = and_left (level_holds false t g) (level_holds true t m) h
  all_hold (group g m) (suc n) h l =
      all_hold m n (and_right (level_holds false t g) (level_holds true t m) h) (sym (ltb_suc n (member_count m)) ∙ l)

  all_held :
      (m : Members) → ((n : ℕ) → ltb n (member_count m) ≡ true → member_holds true n t m ≡ true)
      → level_holds true t m ≡ true
  all_held end h = refl
  all_held (atom a m) h =
      and_both (t a) (level_holds true t m) (h 0 (first_inside (member_count m)))
      (all_held m (λ n l. h (suc n) (ltb_suc n (member_count m) ∙ l)))
  all_held (group g m) h =
      and_both (level_holds false t g) (level_holds true t m) (h 0 (first_inside (member_count m)))
      (all_held m (λ n l. h (suc n) (ltb_suc n (member_count m) ∙ l)))

  -- a member further on
  further : (more m : Members) → member_count more ≡ suc (member_count m)
      → ((n : ℕ) → member_holds false (suc n) t more ≡ member_holds false n t m)
      → SomeMember t m
      → SomeMember t more
  further more m count later s = record {
    position = suc s.position;
    inside = rw count (ltb_suc s.position (member_count m) ∙ s.inside);
    holds_there = later s.position ∙ s.holds_there;
  }

  some_holds : (m : Members) → level_holds false t m ≡ true → SomeMember t m
  some_holds end h = no_way h
  some_holds (atom a m) h =
      elim (or_cases (t a) (level_holds false t m) h) [
        | inl e ↦ record { position = 0; inside = first_inside (member_count m); holds_there = e }
        | inr e ↦ further (atom a m) m refl (λ n. refl) (some_holds m e)
      ]
  some_holds (group g m) h =
      elim (or_cases (level_holds true t g) (level_holds false t m) h) [
        | inl e ↦ record { position = 0; inside = first_inside (member_count m); holds_there = e }
        | inr e ↦ further (group g m) m refl (λ n. refl) (some_holds m e)
      ]

  held_at :
      (m : Members) (n : ℕ) → ltb n (member_count m) ≡ true → member_holds false n t m ≡ true
      → level_holds false t m ≡ true
  held_at end n l h = absurd (omega (arith, ltb-true n 0 l))
  held_at (atom a m) zero l h = or_left (t a) (level_holds false t m) h
  held_at (atom a m) (suc n) l h =
      or_right (t a) (level_holds false t m) (held_at m n (sym (ltb_suc n (member_count m)) ∙ l) h)
  held_at (group g m) zero l h = or_left (level_holds true t g) (level_holds false t m) h
  held_at (group g m) (suc n) l h =
      or_right (level_holds true t g) (level_holds false t m) (held_at m n (sym (ltb_suc n (member_count m)) ∙ l) h)

pub levels_are : LevelsAre
levels_are = record {
  all_hold = λ t m n h l. all_hold t m n h l;
  all_held = λ t m h. all_held t m h;
  some_holds = λ t m h. some_holds t m h;
  some_held = λ t m s. held_at t m s.position s.inside s.holds_there;
}
