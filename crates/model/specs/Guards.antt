-- Guards: what an atom asks of a clock, all-of and any-of (2.9), and the first member that does not hold (2.1).
use Rattle.std.specs.Prelude.{Option, Some, None}
use Rattle.std.specs.Prelude.{Bool, true, false, ◌&&◌, ◌||◌, not, List, ℕ, suc, ◌*◌, eqb, ltb, leb, get_or}
use Rattle.model.specs.Basics.{pick}
use Rattle.model.specs.Texts.{Atom, Members, end, atom, group}
use Rattle.model.specs.Rules.{less, at_most, equal, at_least, greater}

-- what each relation asks of a value and a limit
abbrev pub related : ℕ → ℕ → ℕ → Bool
related relation value limit =
    pick (eqb relation less) (ltb value limit)
    (pick (eqb relation at_most) (leb value limit)
    (pick (eqb relation equal) (eqb value limit)
    (pick (eqb relation at_least) (leb limit value)
    (pick (eqb relation greater) (ltb limit value) (not (eqb value limit))))))

-- an atom over what the clocks read: ages, where one of a constant is `unit` = D, or regions, where it is 2
abbrev pub meets : ℕ → List ℕ → Atom → Bool
meets unit readings a = related a.relation (get_or readings a.clock 0) (a.constant * unit)

-- a member and the others: all of them, or any of them
abbrev pub together : Bool → Bool → Bool → Bool
together true a b = a && b
together false a b = a || b

-- does a level hold, an all-of or an any-of? A group in it is of the other kind. An empty all-of holds, an empty any-of
-- does not.
abbrev pub level_holds : Bool → (Atom → Bool) → Members → Bool
level_holds all test end = all
level_holds all test (atom a m) = together all (test a) (level_holds all test m)
level_holds all test (group g m) = together all (level_holds (not all) test g) (level_holds all test m)

-- the first member of an all-of, an atom or an any-of group, by position counted from n, that does not hold
abbrev pub first_failing : ℕ → (Atom → Bool) → Members → Option ℕ
first_failing n test end = None
first_failing n test (atom a m) = pick (test a) (first_failing (suc n) test m) (Some n)
first_failing n test (group g m) = pick (level_holds false test g) (first_failing (suc n) test m) (Some n)

-- a guard's answer: it holds, or the first member of its outermost level, by position from 0, that does not
abbrev pub guard : ℕ → List ℕ → Members → Option ℕ
guard unit readings m = first_failing 0 (meets unit readings) m

-- document 02's values for the two cases of the answer: whether the guard holds, and the position that its no names
abbrev pub is_met : Option ℕ → Bool
is_met None = true
is_met (Some n) = false

abbrev pub failing_position : Option ℕ → ℕ
failing_position None = 0
failing_position (Some n) = n
