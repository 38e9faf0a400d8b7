-- What held a rule back: edges that leave no initial location on the first symbol are passed, so the answer is what the
-- edges still to come give; and what the clocks read at the first event.
use Rattle.std.specs.Prelude.{Option, None}
use mathlib.Core.Path.{◌≡◌, refl, sym, ◌∙◌, ap}
use mathlib.Core.Bool.{Bool, true, false, ◌&&◌}
use mathlib.Core.List.{List, [], ◌∷◌}
use Prim.Native.Nat.{ℕ, ◌+◌, ◌-◌, ◌*◌, ◌^◌, ◌≤◌, ◌<◌}
use native.Mathlib.Omega.{arith}
use lib.Dec.{eqb}
use lib.ListN.{length, get_or, take, drop}
use Rattle.model.specs.declared.Head.{Head}
use Rattle.model.specs.Basics.{pick, is_in, zeros}
use Rattle.model.specs.Rules.{Edge, guard_of, most_clocks}
use Rattle.model.specs.Words.{events_of}
use Rattle.model.specs.Guards.{guard}
use Rattle.model.specs.Runs.{older, start_ages, accepts, lowest_leaving, held_back}
use Rattle.model.specs.Layout.{edge_width, edge_at, edges_in, locations_in, rule_in}
use Rattle.model.proofs.EdgeTable.{edges_rest}
use Rattle.model.proofs.LeastRun.{runs_are}
use Rattle.model.proofs.Ages.{zeros_most}
use Rattle.ages.specs.declared.Configuration.{Configuration}
use Rattle.ages.specs.Ages.{numbers_of, ages_of, Waited}
use Rattle.ages.proofs.Laws.{read_ages}
use Rattle.ages.proofs.Moves.{waited_until, start_ages_lem}
use Rattle.branch.specs.Branches.{least_of}

-- an edge that leaves a location of a set on a symbol
abbrev leaves_some : List ℕ → ℕ → Edge → Bool
leaves_some initial s e = is_in e.source initial && eqb e.symbol s

-- The edges from number e on are left, over what the clocks read.
module _ (starts symbol count d : ℕ) (edges by : List ℕ) where
  abbrev pub lowest_from : ℕ → Option ℕ
  lowest_from e =
      lowest_leaving (locations_in starts) symbol d by (edges_in (count - e) (drop (edge_width * e) edges))

  pub record Asking (e : ℕ) : Type 0 where
    pub turns : e ≤ count
    pub rest_is : lowest_from e ≡ lowest_from 0

  pub asking : Asking 0
  asking = record { turns = omega arith; rest_is = refl }

  module _
      {e : ℕ} (inv : Asking e) (h : e < count) (edge : Edge) (edge_is : edge ≡ edge_at e edges) (r : Bool)
      (tested : r ≡ leaves_some (locations_in starts) symbol edge)
    where
      ask_step : pick r (guard d by (guard_of edge)) (lowest_from (e + 1)) ≡ lowest_from 0
      ask_step =
          rw (tested, edge_is)
          (sym (ap (lowest_leaving (locations_in starts) symbol d by) (edges_rest count e edges h))
          ∙ inv.rest_is)

      pub asking_next : r ≡ false → Asking (e + 1)
      asking_next f = record { turns = omega arith; rest_is = rw f at ask_step }

      pub asking_found :
          (g : Option ℕ) → r ≡ true → g ≡ guard d by (guard_of edge) → g ≡ lowest_from 0
      asking_found g f k = k ∙ (rw f at ask_step)

  pub asking_none : {e : ℕ} → Asking e → count ≤ e → None ≡ lowest_from 0
  asking_none {e} inv h = let z : count - e ≡ 0 = omega arith in rw z at inv.rest_is

-- the first event's ages: all were 0, and the delay is its stamp
module _ (head : Head) (edges : List ℕ) (d symbol stamp : ℕ) where
  first_ages :
      (delay : ℕ) (from now : Configuration) → head.clocks ≤ most_clocks → stamp < 2 ^ 32
      → numbers_of from.ages.of ≡ zeros most_clocks
      → delay ≡ stamp - 0
      → Waited delay from now
      → ages_of head.clocks now.ages ≡ older stamp (zeros head.clocks)
  first_ages delay from now k b z e w =
      let none : ages_of head.clocks from.ages ≡ zeros head.clocks =
      start_ages_lem head.clocks from.ages z k in
      let whole : stamp - 0 ≡ stamp = omega arith in
      waited_until head.clocks 0 stamp w e (rw none (zeros_most 0 head.clocks)) (omega arith) b ∙ rw (whole, none)

  pub lowest_is :
      (count clocks delay : ℕ) (from now : Configuration) (read by : List ℕ) (g : Option ℕ) → head.clocks ≤ most_clocks
      → stamp < 2 ^ 32
      → numbers_of from.ages.of ≡ zeros most_clocks
      → delay ≡ stamp - 0
      → Waited delay from now
      → read ≡ numbers_of now.ages.of
      → clocks ≡ head.clocks
      → by ≡ take clocks (drop 0 read)
      → count ≡ head.count
      → g ≡ lowest_from head.starts symbol count d edges by 0
      → g
      ≡ lowest_leaving (rule_in head edges).initial symbol d (older stamp (start_ages (rule_in head edges)))
      (rule_in head edges).edges
  unfolding rule_in
  lowest_is count clocks delay from now read by g k b z e w r c p n h =
      let all : count - 0 ≡ head.count = omega (arith, n) in
      let ages : by ≡ older stamp (zeros head.clocks) =
      read_ages head.clocks now.ages read by r (rw c at p) ∙ first_ages delay from now k b z e w in
      h ∙ rw (all, ages)

-- With a run nothing held the rule back, and nothing without events; else it is the lowest edge's guard.
module _ (head : Head) (edges : List ℕ) (d : ℕ) where
  found_is : (symbols stamps : List ℕ) → (least_of head edges d symbols stamps).found
      ≡ accepts (rule_in head edges) d (events_of symbols stamps)
  found_is symbols stamps = runs_are.found_is (rule_in head edges) d (events_of symbols stamps)

  pub held_none :
      (symbols stamps : List ℕ) → (least_of head edges d symbols stamps).found ≡ true
      → None ≡ held_back (rule_in head edges) d (events_of symbols stamps)
  unfolding held_back
  held_none [] stamps t = refl
  held_none (x ∷ symbols) [] t = refl
  held_none (x ∷ symbols) (s ∷ stamps) t = rw (sym (found_is (x ∷ symbols) (s ∷ stamps)) ∙ t)

  pub held_empty :
      (symbols stamps : List ℕ) → length symbols ≡ 0
      → None ≡ held_back (rule_in head edges) d (events_of symbols stamps)
  unfolding held_back
  held_empty [] stamps h = refl
  held_empty (x ∷ symbols) stamps h = absurd (omega arith)

  pub held_by :
      (symbols stamps : List ℕ) (g : Option ℕ) → (least_of head edges d symbols stamps).found ≡ false
      → (length symbols ≡ 0 → ⊥)
      → length symbols ≡ length stamps
      → g
      ≡ lowest_leaving (rule_in head edges).initial (get_or symbols 0 0) d
      (older (get_or stamps 0 0) (start_ages (rule_in head edges)))
      (rule_in head edges).edges
      → g ≡ held_back (rule_in head edges) d (events_of symbols stamps)
  unfolding held_back
  held_by [] stamps g f n c h = absurd (n refl)
  held_by (x ∷ symbols) [] g f n c h = absurd (omega arith)
  held_by (x ∷ symbols) (s ∷ stamps) g f n c h = rw (sym (found_is (x ∷ symbols) (s ∷ stamps)) ∙ f) h
