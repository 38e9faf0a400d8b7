-- Runs over a word, ages exact in D-ths of a second (document 000, section 2).
use Rattle.std.specs.Prelude.{Option, None}
use Rattle.std.specs.Prelude.{Bool, true, false, ◌&&◌, ◌||◌, List, [], ◌∷◌, ◌++◌, ℕ, suc, ◌-◌, ◌+◌, eqb, ltb, length}
use Rattle.std.specs.Prelude.{get_or}
use Rattle.model.specs.Basics.{pick, is_in, same, zeros, bit, Refusal, refusal, refuse}
use Rattle.model.specs.Texts.{Members}
use Rattle.model.specs.Rules.{Edge, Rule, guard_of}
use Rattle.model.specs.Words.{Event}
use Rattle.model.specs.Guards.{guard, is_met}

-- a guard over ages, each age compared with constant · D
abbrev pub holds : ℕ → List ℕ → Members → Bool
holds d ages m = is_met (guard d ages m)

-- the delay is added to every age
abbrev pub older : ℕ → List ℕ → List ℕ
older delay [] = []
older delay (a ∷ ages) = (a + delay) ∷ older delay ages

-- the clocks of the mask are zeroed; clock numbers count from i
abbrev pub zeroed_from : ℕ → ℕ → List ℕ → List ℕ
zeroed_from i mask [] = []
zeroed_from i mask (a ∷ ages) = pick (bit i mask) 0 a ∷ zeroed_from (suc i) mask ages

abbrev pub zeroed : ℕ → List ℕ → List ℕ
zeroed mask ages = zeroed_from 0 mask ages

-- an edge that leaves the location, with the event's symbol, whose guard holds
abbrev pub can_take : ℕ → ℕ → List ℕ → Event → Edge → Bool
can_take d l ages v e = eqb e.source l && eqb e.symbol v.symbol && holds d ages (guard_of e)

-- all ages are 0 at time 0
abbrev pub start_ages : Rule → List ℕ
start_ages r = zeros r.clocks

-- A run, as the paper has it: a start location and one edge for each event, by number. `last` is the stamp before.
abbrev pub no_edge : Edge
no_edge = record { kind = 0; source = 0; target = 0; symbol = 0; resets = 0; text = [] }

abbrev pub run_ends_final : Rule → ℕ → List Event → ℕ → ℕ → List ℕ → List ℕ → Bool
run_ends_final r d [] last l ages [] = is_in l r.final
run_ends_final r d [] last l ages (n ∷ ns) = false
run_ends_final r d (v ∷ vs) last l ages [] = false
run_ends_final r d (v ∷ vs) last l ages (n ∷ ns) =
    let now_are = older (v.stamp - last) ages in
    let e = get_or r.edges n no_edge in
    ltb n (length r.edges) && can_take d l now_are v e
    && run_ends_final r d vs v.stamp e.target (zeroed e.resets now_are) ns

-- over all events, from an initial to a final location
unfoldable pub is_accepting_run : Rule → ℕ → List Event → ℕ → List ℕ → Bool
is_accepting_run r d vs l ns = is_in l r.initial && run_ends_final r d vs 0 l (start_ages r) ns

-- The word is accepted when some run is accepting: at each event some edge, from some initial location.
abbrev pub some_edge : List Edge → ℕ → ℕ → List ℕ → Event → (ℕ → List ℕ → Bool) → Bool
some_edge [] d l ages v on = false
some_edge (e ∷ es) d l ages v on =
    can_take d l ages v e && on e.target (zeroed e.resets ages) || some_edge es d l ages v on

unfoldable pub accepts_from : Rule → ℕ → List Event → ℕ → ℕ → List ℕ → Bool
accepts_from r d [] last l ages = is_in l r.final
accepts_from r d (v ∷ vs) last l ages =
    some_edge r.edges d l (older (v.stamp - last) ages) v (λ to ages_to. accepts_from r d vs v.stamp to ages_to)

unfoldable pub accepts_from_some : Rule → ℕ → List Event → List ℕ → Bool
accepts_from_some r d vs [] = false
accepts_from_some r d vs (l ∷ ls) = accepts_from r d vs 0 l (start_ages r) || accepts_from_some r d vs ls

unfoldable pub accepts : Rule → ℕ → List Event → Bool
accepts r d vs = accepts_from_some r d vs r.initial

-- The accepting run that is least by start, then edge by edge; `found` is false where there is none.
pub record Path : Type 0 where
  pub found : Bool
  pub start : ℕ
  pub taken : List ℕ

abbrev pub path : Bool → ℕ → List ℕ → Path
path f s t = record { found = f; start = s; taken = t }

abbrev pub no_path : Path
no_path = path false 0 []

abbrev pub least_edge : ℕ → List Edge → ℕ → ℕ → List ℕ → Event → (ℕ → List ℕ → Path) → Path
least_edge n [] d l ages v on = no_path
least_edge n (e ∷ es) d l ages v on =
    let p = pick (can_take d l ages v e) (on e.target (zeroed e.resets ages)) no_path in
    pick p.found (path true 0 (n ∷ p.taken)) (least_edge (suc n) es d l ages v on)

unfoldable pub least_from : Rule → ℕ → List Event → ℕ → ℕ → List ℕ → Path
least_from r d [] last l ages = path (is_in l r.final) 0 []
least_from r d (v ∷ vs) last l ages =
    least_edge 0 r.edges d l (older (v.stamp - last) ages) v (λ to ages_to. least_from r d vs v.stamp to ages_to)

unfoldable pub least_start : Rule → ℕ → List Event → List ℕ → Path
least_start r d vs [] = no_path
least_start r d vs (l ∷ ls) =
    let p = least_from r d vs 0 l (start_ages r) in
    pick p.found (path true l p.taken) (least_start r d vs ls)

unfoldable pub least_run : Rule → ℕ → List Event → Path
least_run r d vs = least_start r d vs r.initial

-- What held the rule back (2.1): with at least one event and no accepting run, the guard of the lowest edge that leaves
-- an initial location on the first symbol, by the first event's ages; nothing where there is no such edge.
abbrev pub lowest_leaving : List ℕ → ℕ → ℕ → List ℕ → List Edge → Option ℕ
lowest_leaving initial s d ages [] = None
lowest_leaving initial s d ages (e ∷ es) =
    pick (is_in e.source initial && eqb e.symbol s) (guard d ages (guard_of e)) (lowest_leaving initial s d ages es)

unfoldable pub held_back : Rule → ℕ → List Event → Option ℕ
held_back r d [] = None
held_back r d (v ∷ vs) =
    pick (accepts r d (v ∷ vs)) None
    (lowest_leaving r.initial v.symbol d (older v.stamp (start_ages r)) r.edges)

-- All distinct configurations (location, ages) after each event, in the order in which they are found.
pub record Config : Type 0 where
  pub location : ℕ
  pub ages : List ℕ

abbrev pub config : ℕ → List ℕ → Config
config l ages = record { location = l; ages = ages }

abbrev pub has_config : Config → List Config → Bool
has_config c [] = false
has_config c (x ∷ xs) = eqb c.location x.location && same c.ages x.ages || has_config c xs

abbrev pub with_config : Config → List Config → List Config
with_config c cs = pick (has_config c cs) cs (cs ++ (c ∷ []))

unfoldable pub by_edges : ℕ → Event → ℕ → List ℕ → List Edge → List Config → List Config
by_edges d v l ages [] cs = cs
by_edges d v l ages (e ∷ es) cs =
    by_edges d v l ages es
    (pick (can_take d l ages v e) (with_config (config e.target (zeroed e.resets ages)) cs) cs)

unfoldable pub by_configs : Rule → ℕ → Event → ℕ → List Config → List Config → List Config
by_configs r d v delay [] new = new
by_configs r d v delay (c ∷ cs) new =
    by_configs r d v delay cs (by_edges d v c.location (older delay c.ages) r.edges new)

abbrev pub start_configs : Rule → List ℕ → List Config
start_configs r [] = []
start_configs r (l ∷ ls) = config l (start_ages r) ∷ start_configs r ls

-- 26: more configurations than room after event i; place i, 0 before the first event
unfoldable pub room_refusal_from : Rule → ℕ → ℕ → ℕ → ℕ → List Config → List Event → Refusal
room_refusal_from r d room i last cs [] = refuse (ltb room (length cs)) 26 i
room_refusal_from r d room i last cs (v ∷ vs) =
    elim (ltb room (length cs)) [
      | true ↦ refusal 26 i
      | false ↦ room_refusal_from r d room (suc i) v.stamp (by_configs r d v (v.stamp - last) cs []) vs
    ]

unfoldable pub room_refusal : Rule → ℕ → ℕ → List Event → Refusal
room_refusal r d room vs = room_refusal_from r d room 0 0 (start_configs r r.initial) vs
