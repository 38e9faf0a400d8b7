-- A word over which some run is accepting is accepted; LeastRun has the run of a word that is. And acceptance taken
-- apart, both ways: by the first event's edge, and by the initial location.
use mathlib.Core.Path.{◌≡◌, refl, ◌∙◌}
use mathlib.Core.Bool.{Bool, true, ◌&&◌}
use mathlib.Core.List.{List, [], ◌∷◌}
use Prim.Native.Nat.{ℕ, ◌-◌, ◌<◌}
use lib.Dec.{ltb}
use lib.ListN.{length, get_or}
use borrow.Author.Tests.{ltb-true}
use Rattle.model.specs.Basics.{is_in}
use Rattle.model.specs.Rules.{Edge, Rule}
use Rattle.model.specs.Words.{Event}
use Rattle.model.specs.Runs.{older, zeroed, can_take, start_ages, no_edge, run_ends_final, is_accepting_run, some_edge}
use Rattle.model.specs.Runs.{accepts_from, accepts_from_some, accepts}
use Rattle.model.proofs.Logic.{no_way, in_is, in_at, and_left, and_right, or_left, or_right, In, here, there}
use Rattle.model.proofs.Logic.{Some, some_either}

-- An event: some edge can be taken and what is left is accepted from where it leads.
module _ (d l : ℕ) (ages : List ℕ) (v : Event) (on : ℕ → List ℕ → Bool) where
  pub record Takes (e : Edge) : Type 0 where
    pub can : can_take d l ages v e ≡ true
    pub goes_on : on e.target (zeroed e.resets ages) ≡ true

  pub edge_has : (e : Edge) (es : List Edge) → In e es → Takes e → some_edge es d l ages v on ≡ true
  edge_has e [] x'' t = elim x'' [ ]
  edge_has e (f ∷ es) (here h) t = rw (← h, t.can, t.goes_on)
  edge_has e (f ∷ es) (there i) t =
      or_right (can_take d l ages v f && on f.target (zeroed f.resets ages)) (some_edge es d l ages v on)
      (edge_has e es i t)

  pub edge_of_lem : (es : List Edge) → some_edge es d l ages v on ≡ true → Some Takes es
  edge_of_lem [] h = no_way h
  edge_of_lem (e ∷ es) h =
      let can_take_lem : Bool = can_take d l ages v e in
      let goes : Bool = on e.target (zeroed e.resets ages) in
      some_either (can_take_lem && goes) (some_edge es d l ages v on) h
      (λ q. record { can = and_left can_take_lem goes q; goes_on = and_right can_take_lem goes q })
      (edge_of_lem es)

-- From a configuration, by the events that are left.
module _ (r : Rule) (d : ℕ) where
  -- what is left is accepted from where an edge leads
  abbrev pub Moves : Event → List Event → ℕ → ℕ → List ℕ → Edge → Type 0
  Moves v vs last l ages e =
      Takes d l (older (v.stamp - last) ages) v (λ to ages_to. accepts_from r d vs v.stamp to ages_to) e

  pub final_accepts : (last l : ℕ) (ages : List ℕ) → accepts_from r d [] last l ages ≡ is_in l r.final
  unfolding accepts_from
  final_accepts last l ages = refl

  pub moves_accept :
      (v : Event) (vs : List Event) (last l : ℕ) (ages : List ℕ) (e : Edge) → In e r.edges
      → Moves v vs last l ages e
      → accepts_from r d (v ∷ vs) last l ages ≡ true
  unfolding accepts_from
  moves_accept v vs last l ages e i m =
      edge_has d l (older (v.stamp - last) ages) v (λ to ages_to. accepts_from r d vs v.stamp to ages_to) e
      r.edges
      i
      m

  pub accepts_moves :
      (v : Event) (vs : List Event) (last l : ℕ) (ages : List ℕ) → accepts_from r d (v ∷ vs) last l ages ≡ true
      → Some (Moves v vs last l ages) r.edges
  unfolding accepts_from
  accepts_moves v vs last l ages h =
      edge_of_lem d l (older (v.stamp - last) ages) v (λ to ages_to. accepts_from r d vs v.stamp to ages_to) r.edges h

  -- from the initial locations, all ages 0
  abbrev pub AcceptsAt : List Event → ℕ → Type 0
  AcceptsAt vs l = accepts_from r d vs 0 l (start_ages r) ≡ true

  from_has : (vs : List Event) (k : ℕ) (ls : List ℕ) → In k ls → AcceptsAt vs k → accepts_from_some r d vs ls ≡ true
  unfolding accepts_from_some
  from_has vs k [] x'' a = elim x'' [ ]
  from_has vs k (l ∷ ls) (here h) a =
      or_left (accepts_from r d vs 0 l (start_ages r)) (accepts_from_some r d vs ls) (rw (← h) a)
  from_has vs k (l ∷ ls) (there i) a =
      or_right (accepts_from r d vs 0 l (start_ages r)) (accepts_from_some r d vs ls) (from_has vs k ls i a)

  from_of : (vs : List Event) (ls : List ℕ) → accepts_from_some r d vs ls ≡ true → Some (AcceptsAt vs) ls
  unfolding accepts_from_some
  from_of vs [] h = no_way h
  from_of vs (l ∷ ls) h =
      some_either (accepts_from r d vs 0 l (start_ages r)) (accepts_from_some r d vs ls) h (λ q. q) (from_of vs ls)

  pub start_accepts : (vs : List Event) (l : ℕ) → In l r.initial → AcceptsAt vs l → accepts r d vs ≡ true
  unfolding accepts
  start_accepts vs l i a = from_has vs l r.initial i a

  pub accepts_start : (vs : List Event) → accepts r d vs ≡ true → Some (AcceptsAt vs) r.initial
  unfolding accepts
  accepts_start vs h = from_of vs r.initial h

  -- A run that ends final: its first edge can be taken, and the rest is such a run from where the edge leads.
  pub record RunStep (v : Event) (vs : List Event) (last l : ℕ) (ages : List ℕ) (n : ℕ) (ns : List ℕ) : Type 0 where
    pub number_below : n < length r.edges
    pub can_take_lem : can_take d l (older (v.stamp - last) ages) v (get_or r.edges n no_edge) ≡ true
    pub rest_ends :
        run_ends_final r d vs v.stamp (get_or r.edges n no_edge).target
        (zeroed (get_or r.edges n no_edge).resets (older (v.stamp - last) ages))
        ns
        ≡ true

  pub run_step :
      (v : Event) (vs : List Event) (last l : ℕ) (ages : List ℕ) (n : ℕ) (ns : List ℕ)
      → run_ends_final r d (v ∷ vs) last l ages (n ∷ ns) ≡ true
      → RunStep v vs last l ages n ns
  run_step v vs last l ages n ns h =
      let old : List ℕ = older (v.stamp - last) ages in
      let e : Edge = get_or r.edges n no_edge in
      let is_edge_lem : Bool = ltb n (length r.edges) in
      let can : Bool = can_take d l old v e in
      let ends : Bool = run_ends_final r d vs v.stamp e.target (zeroed e.resets old) ns in
      let first : (is_edge_lem && can) ≡ true = and_left (is_edge_lem && can) ends h in
      record {
        number_below = ltb-true n (length r.edges) (and_left is_edge_lem can first);
        can_take_lem = and_right is_edge_lem can first;
        rest_ends = and_right (is_edge_lem && can) ends h;
      }

  -- so it is accepted from where it begins
  pub run_from :
      (vs : List Event) (last l : ℕ) (ages ns : List ℕ) → run_ends_final r d vs last l ages ns ≡ true
      → accepts_from r d vs last l ages ≡ true
  run_from [] last l ages [] h = final_accepts last l ages ∙ h
  run_from [] last l ages (n ∷ ns) h = no_way h
  run_from (v ∷ vs) last l ages [] h = no_way h
  run_from (v ∷ vs) last l ages (n ∷ ns) h =
      let e : Edge = get_or r.edges n no_edge in
      let m = run_step v vs last l ages n ns h in
      let ages_to : List ℕ = zeroed e.resets (older (v.stamp - last) ages) in
      let onward = run_from vs v.stamp e.target ages_to ns m.rest_ends in
      moves_accept v vs last l ages e (in_at no_edge r.edges n m.number_below)
      (record { can = m.can_take_lem; goes_on = onward })

  pub run_accepts :
      (vs : List Event) (l : ℕ) (ns : List ℕ) → is_accepting_run r d vs l ns ≡ true → accepts r d vs ≡ true
  unfolding is_accepting_run
  run_accepts vs l ns h =
      let starts : Bool = is_in l r.initial in
      let ends : Bool = run_ends_final r d vs 0 l (start_ages r) ns in
      start_accepts vs l (in_is l r.initial (and_left starts ends h))
      (run_from vs 0 l (start_ages r) ns (and_right starts ends h))
