-- The configurations that are kept after some events are exactly those that some run over these events reaches.
use mathlib.Core.Path.{◌≡◌, refl, sym, ◌∙◌, ap}
use mathlib.Core.Bool.{Bool, true, ◌&&◌, ◌||◌}
use mathlib.Core.List.{List, [], ◌∷◌}
use Prim.Native.Nat.{ℕ, ◌-◌}
use lib.Dec.{eqb, ltb}
use lib.ListN.{length, get_or}
use borrow.Author.Tests.{eqb-true, ltb-true, lt-ltb}
use Rattle.model.specs.Basics.{is_in, same}
use Rattle.model.specs.Rules.{Edge, Rule}
use Rattle.model.specs.Words.{Event}
use Rattle.model.specs.Runs.{older, zeroed, can_take, start_ages, no_edge, run_ends_final, some_edge}
use Rattle.model.specs.Runs.{Config, config, has_config, by_configs, start_configs}
use Rattle.model.specs.Claims.{run_ends_at, Reached, configs_after, configs_of}
use Rattle.model.proofs.Logic.{no_way, and_left, and_right, or_right, In, here}
use Rattle.model.proofs.Logic.{there, is_in_lem, in_is, in_at, in_number, Some, some_either}
use Rattle.model.proofs.Runs.{edge_has, edge_of_lem}
use Rattle.model.proofs.Configs.{some_config, configs_some}

-- One configuration: to be among those kept after the events is to be led to, edge by edge, from one of those before.
module _ (c : Config) (r : Rule) (d : ℕ) where
  abbrev is_it : Config → Bool
  is_it x = eqb c.location x.location && same c.ages x.ages

  has_some : (cs : List Config) → has_config c cs ≡ some_config is_it cs
  has_some [] = refl
  has_some (x ∷ cs) = ap (λ (b : Bool). is_it x || b) (has_some cs)

  leads_to : List Event → ℕ → ℕ → List ℕ → Bool
  leads_to [] last l ages = is_it (config l ages)
  leads_to (v ∷ vs) last l ages =
      some_edge r.edges d l (older (v.stamp - last) ages) v (λ to ages_to. leads_to vs v.stamp to ages_to)

  after_leads :
      (last : ℕ) (cs : List Config) (vs : List Event)
      → some_config is_it (configs_after r d last cs vs) ≡ some_config (λ x. leads_to vs last x.location x.ages) cs
  unfolding configs_after leads_to
  after_leads last cs [] = refl
  after_leads last cs (v ∷ vs) =
      after_leads v.stamp (by_configs r d v (v.stamp - last) cs []) vs
      ∙ configs_some (λ x. leads_to vs v.stamp x.location x.ages) r d v (v.stamp - last) cs []

  -- edge by edge is by a run
  record Leads (vs : List Event) (last l : ℕ) (ages : List ℕ) : Type 0 where
    taken : List ℕ
    ends_there : run_ends_at c r d vs last l ages taken ≡ true

  leads_run :
      (vs : List Event) (last l : ℕ) (ages : List ℕ) → leads_to vs last l ages ≡ true → Leads vs last l ages
  unfolding leads_to
  leads_run [] last l ages h = record { taken = []; ends_there = h }
  leads_run (v ∷ vs) last l ages h =
      let old : List ℕ = older (v.stamp - last) ages in
      let m =
      edge_of_lem d l old v (λ to ages_to. leads_to vs v.stamp to ages_to) r.edges h in
      let e : Edge = m.member in
      let n = in_number no_edge e r.edges m.is_in_lem in
      let on = leads_run vs v.stamp e.target (zeroed e.resets old) m.such.goes_on in
      record {
        taken = n.number ∷ on.taken;
        ends_there =
            rw (n.at_number, lt-ltb n.number (length r.edges) n.number_below, m.such.can) on.ends_there;
      }

  run_leads :
      (vs : List Event) (last l : ℕ) (ages ns : List ℕ) → run_ends_at c r d vs last l ages ns ≡ true
      → leads_to vs last l ages ≡ true
  unfolding leads_to
  run_leads [] last l ages [] h = h
  run_leads [] last l ages (n ∷ ns) h = no_way h
  run_leads (v ∷ vs) last l ages [] h = no_way h
  run_leads (v ∷ vs) last l ages (n ∷ ns) h =
      let old : List ℕ = older (v.stamp - last) ages in
      let e : Edge = get_or r.edges n no_edge in
      let is_edge_lem : Bool = ltb n (length r.edges) in
      let can : Bool = can_take d l old v e in
      let ends : Bool = run_ends_at c r d vs v.stamp e.target (zeroed e.resets old) ns in
      let first : (is_edge_lem && can) ≡ true = and_left (is_edge_lem && can) ends h in
      edge_has d l old v (λ to ages_to. leads_to vs v.stamp to ages_to) e r.edges
      (in_at no_edge r.edges n (ltb-true n (length r.edges) (and_left is_edge_lem can first)))
      (record {
        can = and_right is_edge_lem can first;
        goes_on =
            run_leads vs v.stamp e.target (zeroed e.resets old) ns (and_right (is_edge_lem && can) ends h);
      })

  -- from the initial locations, all ages 0
  abbrev from_start : List Event → Config → Bool
  from_start vs x = leads_to vs 0 x.location x.ages

  start_leads :
      (vs : List Event) (l : ℕ) (ls : List ℕ) → In l ls → leads_to vs 0 l (start_ages r) ≡ true
      → some_config (from_start vs) (start_configs r ls) ≡ true
  start_leads vs l [] x'' h = elim x'' [ ]
  start_leads vs l (k ∷ ls) (here e) h = rw (← e, h)
  start_leads vs l (k ∷ ls) (there i) h =
      or_right (leads_to vs 0 k (start_ages r)) (some_config (from_start vs) (start_configs r ls))
      (start_leads vs l ls i h)

  leads_start :
      (vs : List Event) (ls : List ℕ) → some_config (from_start vs) (start_configs r ls) ≡ true
      → Some (λ l. leads_to vs 0 l (start_ages r) ≡ true) ls
  leads_start vs [] h = no_way h
  leads_start vs (l ∷ ls) h =
      some_either (leads_to vs 0 l (start_ages r)) (some_config (from_start vs) (start_configs r ls)) h (λ q. q)
      (leads_start vs ls)

  has_is :
      (vs : List Event) → has_config c (configs_of r d vs) ≡ some_config (from_start vs) (start_configs r r.initial)
  unfolding configs_of
  has_is vs =
      let start : List Config = start_configs r r.initial in
      has_some (configs_after r d 0 start vs) ∙ after_leads 0 start vs

  pub is_reached : (vs : List Event) → has_config c (configs_of r d vs) ≡ true → Reached r d vs c
  is_reached vs h =
      let m = leads_start vs r.initial (sym (has_is vs) ∙ h) in
      let run = leads_run vs 0 m.member (start_ages r) m.such in
      record {
        start = m.member;
        taken = run.taken;
        initial = is_in_lem m.member r.initial m.is_in_lem;
        ends_there = run.ends_there;
      }

  pub is_kept : (vs : List Event) → Reached r d vs c → has_config c (configs_of r d vs) ≡ true
  is_kept vs m =
      has_is vs
      ∙ start_leads vs m.start r.initial (in_is m.start r.initial m.initial)
      (run_leads vs 0 m.start (start_ages r) m.taken m.ends_there)

  -- a run that ends in c ends final exactly if c is at a final location
  pub ends_final :
      (vs : List Event) (last l : ℕ) (ages ns : List ℕ) → run_ends_at c r d vs last l ages ns ≡ true
      → run_ends_final r d vs last l ages ns ≡ is_in c.location r.final
  ends_final [] last l ages [] h =
      let e : c.location ≡ l = eqb-true c.location l (and_left (eqb c.location l) (same c.ages ages) h) in
      rw e
  ends_final [] last l ages (n ∷ ns) h = no_way h
  ends_final (v ∷ vs) last l ages [] h = no_way h
  ends_final (v ∷ vs) last l ages (n ∷ ns) h =
      let old : List ℕ = older (v.stamp - last) ages in
      let e : Edge = get_or r.edges n no_edge in
      let first : Bool = ltb n (length r.edges) && can_take d l old v e in
      let ends : Bool = run_ends_at c r d vs v.stamp e.target (zeroed e.resets old) ns in
      rw (and_left first ends h)
      (ends_final vs v.stamp e.target (zeroed e.resets old) ns (and_right first ends h))
