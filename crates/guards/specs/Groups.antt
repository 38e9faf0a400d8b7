-- What an all-of or an any-of group answers, from past its opening mark.
use Rattle.std.specs.Prelude.{◌≡◌, Bool, List, ℕ, ◌≤◌, length, drop}
use Rattle.model.specs.Texts.{Atom, rest, levels, members_in}
use Rattle.model.specs.Guards.{level_holds}
use Rattle.guards.specs.declared.groups.Group.{Group}

-- whether it holds, and where the level around it goes on
pub record Evaluated (all : Bool) (test : Atom → Bool) (text : List ℕ) (r : Group) : Type 0 where
  pub holds_is : r.holds ≡ level_holds all test (members_in text)
  pub goes_on : levels (drop r.past text) ≡ rest (levels text)
  pub in_reach : r.past ≤ length text
