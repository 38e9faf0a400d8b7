-- Ages below the cap, ages as lists, and the locations of a set.
use mathlib.Core.Path.{◌≡◌, refl, sym, ◌∙◌, ap}
use mathlib.Core.Bool.{Bool, true, false}
use mathlib.Core.List.{List, [], ◌∷◌, map}
use Prim.Native.Nat.{ℕ, zero, suc, ◌≤◌, ◌<◌}
use native.Mathlib.Omega.{arith}
use lib.Dec.{ltb}
use lib.ListN.{length, get_or, take, drop}
use borrow.Author.Tests.{le-leb, le-ltb}
use Rattle.model.specs.declared.Age.{Age}
use Rattle.model.specs.Basics.{lesser, bit, is_in}
use Rattle.model.specs.Rules.{most_locations}
use Rattle.model.specs.Layout.{locations_in}
use Rattle.model.proofs.Ages.{bits_in, bits_high}
use Rattle.ages.specs.declared.Ages.{Ages}
use Rattle.ages.specs.declared.Configuration.{Configuration}
use Rattle.ages.specs.Ages.{numbers_of, ages_of, takes, most_age}
use Rattle.edges.specs.Leaving.{leaves_on}
use Rattle.model.specs.Guards.{guard, is_met}
use Rattle.model.specs.Rules.{Edge, guard_of}

-- owning an array of ages tells the length of the list of what they hold, and so of the list
pub length_mapped : (X Y : Type 0) (f : X → Y) (xs : List X) (n : ℕ) → length (map f xs) ≡ n → length xs ≡ n
length_mapped X Y f [] n h = h
length_mapped X Y f (x ∷ xs) zero h = absurd (omega arith)
length_mapped X Y f (x ∷ xs) (suc n) h = ap suc (length_mapped X Y f xs n (omega arith))

pub numbers_length : (xs : List Age) → length (numbers_of xs) ≡ length xs
numbers_length [] = refl
numbers_length (x ∷ xs) = ap suc (numbers_length xs)

pub numbers_at : (xs : List Age) (i : ℕ) → get_or (numbers_of xs) i 0 ≡ (get_or xs i (record { 0 = 0 })).0
numbers_at [] i = refl
numbers_at (x ∷ xs) zero = refl
numbers_at (x ∷ xs) (suc i) = numbers_at xs i

-- what the first k clocks read
pub read_ages :
    (k : ℕ) (ages : Ages) (read by : List ℕ) → read ≡ numbers_of ages.of → by ≡ take k (drop 0 read)
    → by ≡ ages_of k ages
read_ages k ages read by e h = h ∙ ap (take k) e

pub under_cap : (sum : ℕ) → sum ≤ most_age → sum ≡ lesser sum most_age
under_cap sum h = rw (le-leb sum most_age h)

-- the locations of a set are its bits, as far as a rule may have locations
pub location_past : (set l : ℕ) → most_locations ≤ l → ltb l most_locations ≡ is_in l (locations_in set)
location_past set l h = le-ltb l most_locations h ∙ sym (bits_high most_locations 0 set l (omega arith))

pub location_bit :
    (set l : ℕ) (r : Bool) → l < most_locations → r ≡ bit l set → r ≡ is_in l (locations_in set)
location_bit set l r h b = b ∙ sym (bits_in most_locations 0 set l (omega arith) (omega arith))

-- an edge that leaves is tested by its guard
module _ (d k symbol : ℕ) (from : Configuration) (e : Edge) (r : Bool)
    (t : r ≡ leaves_on from.location symbol e) where
  pub not_leaving : r ≡ false → r ≡ takes d k symbol from e
  not_leaving f = f ∙ rw (sym t ∙ f)

  pub guard_decides :
      (g : Bool) (by : List ℕ) → r ≡ true → by ≡ ages_of k from.ages → g ≡ is_met (guard d by (guard_of e))
      → g ≡ takes d k symbol from e
  guard_decides g by f b h = rw (sym t ∙ f) (h ∙ ap (λ (ages : List ℕ). is_met (guard d ages (guard_of e))) b)
