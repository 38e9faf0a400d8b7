-- For the scale of a rule, pairs are the construction's: the edges that the pair of a code allows, and their targets.
use mathlib.Core.Path.{◌≡◌, refl, sym, ◌∙◌, ap, ap₂}
use mathlib.Core.Bool.{Bool, true, false, ◌&&◌}
use mathlib.Core.List.{List, [], ◌∷◌}
use Prim.Native.Nat.{ℕ, zero, suc, ◌<◌}
use lib.Dec.{eqb}
use lib.ListN.{take}
use lib.Seq.{get_or-take}
use Rattle.model.specs.Basics.{pick, bit}
use Rattle.model.specs.Texts.{Atom, Members}
use Rattle.model.specs.Rules.{Edge, Rule, guard_of, cm}
use Rattle.model.specs.Runs.{zeroed_from, zeroed}
use Rattle.model.specs.Guards.{guard, is_met}
use Rattle.model.specs.Construction.{region_of, regions_of, regions_hold, code_of, bases_of, allows, advanced}
use Rattle.model.specs.Construction.{target_of}
use Rattle.model.proofs.Texts.{Within, guard_atoms}
use Rattle.model.proofs.Guards.{same_readings}
use Rattle.model.proofs.Valid.{EdgeIn}
use Rattle.codes.specs.declared.Scale.{Scale}
use Rattle.codes.specs.Codes.{Scaled, unpacked}
use Rattle.codes.proofs.Agreement.{location_is, bases_are, code_is}
use Rattle.pairs.specs.declared.Input.{Input}
use Rattle.pairs.specs.Pairs.{moved_bases, pair_allows, pair_target}

-- bases are moved one by one
take_zeroed : (k i mask : ℕ) (bs : List ℕ) → take k (zeroed_from i mask bs) ≡ zeroed_from i mask (take k bs)
take_zeroed zero i mask bs = refl
take_zeroed (suc k) i mask [] = refl
take_zeroed (suc k) i mask (b ∷ bs) = ap (λ (l : List ℕ). pick (bit i mask) 0 b ∷ l) (take_zeroed k (suc i) mask bs)

take_advanced : (k c i : ℕ) (bs : List ℕ) → take k (advanced c i bs) ≡ advanced c i (take k bs)
take_advanced zero c i bs = refl
take_advanced (suc k) c i [] = refl
take_advanced (suc k) c i (b ∷ bs) = ap₂ ◌∷◌ refl (take_advanced k c i bs)

take_moved :
    (k mask : ℕ) (timer : Bool) (c i : ℕ) (bs : List ℕ)
    → take k (moved_bases mask timer c i bs) ≡ moved_bases mask timer c i (take k bs)
take_moved k mask true c i bs = take_zeroed k 0 mask (advanced c i bs) ∙ ap (zeroed mask) (take_advanced k c i bs)
take_moved k mask false c i bs = take_zeroed k 0 mask bs

take_regions : (k c i : ℕ) (bs : List ℕ) → take k (regions_of c i bs) ≡ regions_of c i (take k bs)
take_regions zero c i bs = refl
take_regions (suc k) c i [] = refl
take_regions (suc k) c i (b ∷ bs) = ap (λ (l : List ℕ). region_of c b i ∷ l) (take_regions k c i bs)

-- a guard looks only at the clocks of its atoms
guard_take :
    (k c i : ℕ) (bs : List ℕ) (m : Members) → ((a : Atom) → Within a m → a.clock < k)
    → guard 2 (regions_of c i bs) m ≡ guard 2 (regions_of c i (take k bs)) m
guard_take k c i bs m h =
    same_readings 2 (regions_of c i bs) (regions_of c i (take k bs)) m
    (λ a j. rw (← take_regions k c i bs) (sym (get_or-take k (regions_of c i bs) a.clock 0 (h a j))))

module _ {r : Rule} {z : Scale} (scaled : Scaled r z) where
  pub allows_is :
      (at : Input) (x : ℕ) (e : Edge) → EdgeIn r e
      → pair_allows z.top at (unpacked z x) e ≡ allows r at.symbol at.interval x e
  unfolding allows
  allows_is at x e v =
      let holds : ℕ → List ℕ → Bool = λ c bs. regions_hold c at.interval bs (guard_of e) in
      let g : holds z.top (unpacked z x).bases ≡ holds (cm r) (bases_of r x) =
      ap is_met
      (guard_take r.clocks z.top at.interval (unpacked z x).bases (guard_of e)
      (λ a i. (v.atoms_in a (guard_atoms e a i)).clock_below))
      ∙ ap₂ holds scaled.top_is (bases_are scaled x) in
      ap₂ (λ (l : ℕ) (t : Bool). eqb e.source l && eqb e.symbol at.symbol && t) (location_is scaled x) g

  pub target_is :
      (i : ℕ) (timer : Bool) (x : ℕ) (e : Edge) → pair_target z i timer (unpacked z x) e ≡ target_of r i timer x e
  unfolding target_of
  target_is i timer x e =
      let bases : List ℕ = (unpacked z x).bases in
      code_is scaled e.target (moved_bases e.resets timer z.top i bases)
      ∙ ap (code_of r e.target)
      (take_moved r.clocks e.resets timer z.top i bases
      ∙ ap₂ (λ (c : ℕ) (bs : List ℕ). moved_bases e.resets timer c i bs) scaled.top_is (bases_are scaled x))
