-- The least run: where the word is accepted it is an accepting run, and no accepting run comes before it.
use mathlib.Core.Path.{◌≡◌, refl, sym, ◌∙◌}
use mathlib.Core.Bool.{Bool, true, false, ◌&&◌}
use mathlib.Core.List.{List, [], ◌∷◌}
use Prim.Native.Nat.{ℕ, zero, suc, ◌+◌, ◌-◌, ◌≤◌, ◌<◌}
use native.Mathlib.Omega.{arith}
use lib.Dec.{eqb, ltb}
use lib.ListN.{length, get_or}
use borrow.Author.Tests.{eq-eqb, lt-ltb}
use Rattle.model.specs.Basics.{is_in}
use Rattle.model.specs.Rules.{Edge, Rule, rising, valid_rule}
use Rattle.model.specs.Words.{Event}
use Rattle.model.specs.Runs.{older, zeroed, can_take, start_ages, no_edge, run_ends_final, is_accepting_run, some_edge}
use Rattle.model.specs.Runs.{accepts_from, accepts_from_some, accepts, Path, path, least_edge, least_from}
use Rattle.model.specs.Runs.{least_start, least_run}
use Rattle.model.specs.Claims.{not_after, RunsAre}
use Rattle.model.proofs.Logic.{no_way, by_test, and_left, and_right, and_both, or_right, Cmp, cmp, is_lt}
use Rattle.model.proofs.Logic.{is_eq, is_gt, In, here, there, is_in_lem, in_is}
use Rattle.model.proofs.Valid.{valid_of}
use Rattle.model.proofs.Rising.{rising_rest, rises_least}
use Rattle.model.proofs.Runs.{RunStep, run_step, run_from, run_accepts}

-- An event: the first edge, by number, that serves, which is to say that it can be taken and a run is found from there.
module _ (d l : ℕ) (ages : List ℕ) (v : Event) (on : ℕ → List ℕ → Path) where
  abbrev onward : Edge → Path
  onward e = on e.target (zeroed e.resets ages)

  abbrev serves : Edge → Bool
  serves e = can_take d l ages v e && (onward e).found

  edge_yes :
      (n : ℕ) (e : Edge) (es : List Edge) → serves e ≡ true
      → least_edge n (e ∷ es) d l ages v on ≡ path true 0 (n ∷ (onward e).taken)
  edge_yes n e es h =
      rw (and_left (can_take d l ages v e) (onward e).found h, and_right (can_take d l ages v e) (onward e).found h)

  edge_no :
      (n : ℕ) (e : Edge) (es : List Edge) → serves e ≡ false
      → least_edge n (e ∷ es) d l ages v on ≡ least_edge (suc n) es d l ages v on
  edge_no n e es h =
      by_test (can_take d l ages v e)
      (λ c. let f : (onward e).found ≡ false = rw c at h in rw (c, f))
      (λ c. rw c)

  -- a run is found exactly if some edge serves
  edge_found :
      (test : ℕ → List ℕ → Bool) → ((to : ℕ) (ages_to : List ℕ) → (on to ages_to).found ≡ test to ages_to)
      → (n : ℕ) (es : List Edge)
      → (least_edge n es d l ages v on).found ≡ some_edge es d l ages v test
  edge_found test same_on n [] = refl
  edge_found test same_on n (e ∷ es) =
      let q = same_on e.target (zeroed e.resets ages) in
      by_test (serves e)
      (λ h. rw (edge_yes n e es h, ← q, h))
      (λ h. rw (edge_no n e es h, ← q, h) (edge_found test same_on (suc n) es))

  -- the first of es that serves, their numbers counted from n
  record First (n : ℕ) (es : List Edge) : Type 0 where
    number : ℕ
    number_below : number < length es
    it_serves : serves (get_or es number no_edge) ≡ true
    none_before : (m : ℕ) → m < number → serves (get_or es m no_edge) ≡ false
    taken_is : (least_edge n es d l ages v on).taken ≡ (n + number) ∷ (onward (get_or es number no_edge)).taken

  edge_first : (n : ℕ) (es : List Edge) → (least_edge n es d l ages v on).found ≡ true → First n es
  edge_first n [] h = no_way h
  edge_first n (e ∷ es) h =
      by_test (serves e)
      (λ q. record {
        number = 0;
        number_below = omega arith;
        it_serves = q;
        none_before = λ m k. absurd (omega arith);
        taken_is = let z : n + 0 ≡ n = omega arith in rw (edge_yes n e es q, z);
      })
      (λ q. further q (edge_first (suc n) es (rw (edge_no n e es q) at h)))
    where
      before :
          (k : ℕ) → serves e ≡ false → ((m : ℕ) → m < k → serves (get_or es m no_edge) ≡ false)
          → (m : ℕ)
          → m < suc k
          → serves (get_or (e ∷ es) m no_edge) ≡ false
      before k q none zero h = q
      before k q none (suc m) h = none m (omega arith)

      further : serves e ≡ false → First (suc n) es → First n (e ∷ es)
      further q f = record {
        number = suc f.number;
        number_below = omega arith;
        it_serves = f.it_serves;
        none_before = before f.number q f.none_before;
        taken_is =
            let z : n + suc f.number ≡ suc n + f.number = omega arith in
            rw (edge_no n e es q, z) f.taken_is;
      }

-- From a configuration, by the events that are left.
module _ (r : Rule) (d : ℕ) where
  abbrev least_on : Event → List Event → ℕ → List ℕ → Path
  least_on v vs to ages_to = least_from r d vs v.stamp to ages_to

  from_found :
      (vs : List Event) (last l : ℕ) (ages : List ℕ)
      → (least_from r d vs last l ages).found ≡ accepts_from r d vs last l ages
  unfolding least_from accepts_from
  from_found [] last l ages = refl
  from_found (v ∷ vs) last l ages =
      edge_found d l (older (v.stamp - last) ages) v (least_on v vs)
      (λ to ages_to. accepts_from r d vs v.stamp to ages_to)
      (λ to ages_to. from_found vs v.stamp to ages_to)
      0
      r.edges

  -- the edge that is taken first
  abbrev FirstEdge : Event → List Event → ℕ → ℕ → List ℕ → Type 0
  FirstEdge v vs last l ages = First d l (older (v.stamp - last) ages) v (least_on v vs) 0 r.edges

  first_edge :
      (v : Event) (vs : List Event) (last l : ℕ) (ages : List ℕ) → (least_from r d (v ∷ vs) last l ages).found ≡ true
      → FirstEdge v vs last l ages
  unfolding least_from
  first_edge v vs last l ages h =
      edge_first d l (older (v.stamp - last) ages) v (least_on v vs) 0 r.edges h

  taken_first :
      (v : Event) (vs : List Event) (last l : ℕ) (ages : List ℕ) (f : FirstEdge v vs last l ages)
      → let e = get_or r.edges f.number no_edge in
      (least_from r d (v ∷ vs) last l ages).taken
      ≡ f.number ∷ (least_on v vs e.target (zeroed e.resets (older (v.stamp - last) ages))).taken
  unfolding least_from
  taken_first v vs last l ages f = let z : 0 + f.number ≡ f.number = omega arith in f.taken_is ∙ rw z

  -- what is taken is a run that ends final
  from_runs :
      (vs : List Event) (last l : ℕ) (ages : List ℕ) → (least_from r d vs last l ages).found ≡ true
      → run_ends_final r d vs last l ages (least_from r d vs last l ages).taken ≡ true
  unfolding least_from
  from_runs [] last l ages h = h
  from_runs (v ∷ vs) last l ages h =
      let old : List ℕ = older (v.stamp - last) ages in
      let f = first_edge v vs last l ages h in
      let e : Edge = get_or r.edges f.number no_edge in
      let on : Path = least_on v vs e.target (zeroed e.resets old) in
      rw (
        taken_first v vs last l ages f,
        lt-ltb f.number (length r.edges) f.number_below,
        and_left (can_take d l old v e) on.found f.it_serves,
      )
      (from_runs vs v.stamp e.target (zeroed e.resets old)
      (and_right (can_take d l old v e) on.found f.it_serves))

  -- the first edge of a run that ends final serves
  step_serves :
      (v : Event) (vs : List Event) (last l : ℕ) (ages : List ℕ) (n : ℕ) (ns : List ℕ)
      → RunStep r d v vs last l ages n ns
      → serves d l (older (v.stamp - last) ages) v (least_on v vs) (get_or r.edges n no_edge) ≡ true
  step_serves v vs last l ages n ns m =
      let old : List ℕ = older (v.stamp - last) ages in
      let e : Edge = get_or r.edges n no_edge in
      let ages_to : List ℕ = zeroed e.resets old in
      and_both (can_take d l old v e) (least_on v vs e.target ages_to).found m.can_take_lem
      (from_found vs v.stamp e.target ages_to
      ∙ run_from r d vs v.stamp e.target ages_to ns m.rest_ends)

  -- so no run that ends final comes before what is taken
  from_least :
      (vs : List Event) (last l : ℕ) (ages ns : List ℕ) → run_ends_final r d vs last l ages ns ≡ true
      → not_after (least_from r d vs last l ages).taken ns ≡ true
  unfolding least_from
  from_least [] last l ages [] h = refl
  from_least [] last l ages (n ∷ ns) h = no_way h
  from_least (v ∷ vs) last l ages [] h = no_way h
  from_least (v ∷ vs) last l ages (n ∷ ns) h =
      let found = from_found (v ∷ vs) last l ages ∙ run_from r d (v ∷ vs) last l ages (n ∷ ns) h in
      let f = first_edge v vs last l ages found in
      let m = run_step r d v vs last l ages n ns h in
      let e : Edge = get_or r.edges n no_edge in
      let ages_to : List ℕ = zeroed e.resets (older (v.stamp - last) ages) in
      let rest = from_least vs v.stamp e.target ages_to ns m.rest_ends in
      rw (taken_first v vs last l ages f)
      (by_number f (cmp f.number n) rest (step_serves v vs last l ages n ns m))
    where
      old : List ℕ
      old = older (v.stamp - last) ages

      edge : ℕ → Edge
      edge k = get_or r.edges k no_edge

      on : ℕ → List ℕ
      on k = (least_on v vs (edge k).target (zeroed (edge k).resets old)).taken

      by_number :
          (f : FirstEdge v vs last l ages) → Cmp f.number n → not_after (on n) ns ≡ true
          → serves d l old v (least_on v vs) (edge n) ≡ true
          → not_after (f.number ∷ on f.number) (n ∷ ns) ≡ true
      by_number f (is_lt q) rest s = rw (lt-ltb f.number n q)
      by_number f (is_eq q) rest s =
          rw q (or_right (ltb n n) (eqb n n && not_after (on n) ns) (rw (eq-eqb n n refl) rest))
      by_number f (is_gt q) rest s = no_way (sym (f.none_before n q) ∙ s)

-- From the initial locations: the first, in the rule's order, from which a run is found.
module _ (r : Rule) (d : ℕ) (vs : List Event) where
  abbrev least_at : ℕ → Path
  least_at l = least_from r d vs 0 l (start_ages r)

  start_yes :
      (l : ℕ) (ls : List ℕ) → (least_at l).found ≡ true → least_start r d vs (l ∷ ls) ≡ path true l (least_at l).taken
  unfolding least_start
  start_yes l ls h = rw h

  start_no : (l : ℕ) (ls : List ℕ) → (least_at l).found ≡ false → least_start r d vs (l ∷ ls) ≡ least_start r d vs ls
  unfolding least_start
  start_no l ls h = rw h

  start_found : (ls : List ℕ) → (least_start r d vs ls).found ≡ accepts_from_some r d vs ls
  unfolding least_start accepts_from_some
  start_found [] = refl
  start_found (l ∷ ls) =
      let q = from_found r d vs 0 l (start_ages r) in
      by_test (least_at l).found (λ h. rw (h, ← q, h)) (λ h. rw (h, ← q, h) (start_found ls))

  -- the path p starts in one of ls, and goes on from there by the least run
  record StartsIn (ls : List ℕ) (p : Path) : Type 0 where
    start_in : In p.start ls
    start_serves : (least_at p.start).found ≡ true
    taken_is : p.taken ≡ (least_at p.start).taken

  starts_in : (ls : List ℕ) → (least_start r d vs ls).found ≡ true → StartsIn ls (least_start r d vs ls)
  unfolding least_start
  starts_in [] h = no_way h
  starts_in (l ∷ ls) h =
      by_test (least_at l).found
      (λ q. rw (start_yes l ls q) (record { start_in = here refl; start_serves = q; taken_is = refl }))
      (λ q.
      let s = starts_in ls (rw (start_no l ls q) at h) in
      rw (start_no l ls q)
      (record { start_in = there s.start_in; start_serves = s.start_serves; taken_is = s.taken_is }))

  -- where they rise, no other such location is below it
  start_lowest :
      (least most : ℕ) (ls : List ℕ) (k : ℕ) → rising least most ls ≡ true → In k ls → (least_at k).found ≡ true
      → (least_start r d vs ls).start ≤ k
  start_lowest least most [] k rises x3 s = elim x3 [ ]
  start_lowest least most (l ∷ ls) k rises (here e) s = rw (start_yes l ls (rw e at s)) (omega arith)
  start_lowest least most (l ∷ ls) k rises (there i) s =
      let on = rising_rest least most l ls rises in
      by_test (least_at l).found
      (λ q. rw (start_yes l ls q) (omega (arith, rises_least (suc l) most ls k on i)))
      (λ q. rw (start_no l ls q) (start_lowest (suc l) most ls k on i s))

  run_found : accepts r d vs ≡ true → (least_start r d vs r.initial).found ≡ true
  unfolding accepts
  run_found h = start_found r.initial ∙ h

  pub accepts_run :
      accepts r d vs ≡ true → is_accepting_run r d vs (least_run r d vs).start (least_run r d vs).taken ≡ true
  unfolding least_run is_accepting_run
  accepts_run h =
      let p : Path = least_start r d vs r.initial in
      let s = starts_in r.initial (run_found h) in
      and_both (is_in p.start r.initial) (run_ends_final r d vs 0 p.start (start_ages r) p.taken)
      (is_in_lem p.start r.initial s.start_in)
      (rw s.taken_is (from_runs r d vs 0 p.start (start_ages r) s.start_serves))

  pub found_is : (least_run r d vs).found ≡ accepts r d vs
  unfolding least_run accepts
  found_is = start_found r.initial

  -- a path that starts in the lowest location that serves, against an accepting run from l
  path_least :
      (p : Path) (l : ℕ) (ns : List ℕ) → StartsIn r.initial p → p.start ≤ l
      → run_ends_final r d vs 0 l (start_ages r) ns ≡ true
      → not_after (p.start ∷ p.taken) (l ∷ ns) ≡ true
  path_least p l ns s below ends = go (cmp p.start l)
    where
      go : Cmp p.start l → not_after (p.start ∷ p.taken) (l ∷ ns) ≡ true
      go (is_lt q) = rw (lt-ltb p.start l q)
      go (is_eq q) =
          rw (s.taken_is, q)
          (or_right (ltb l l) (eqb l l && not_after (least_at l).taken ns)
          (rw (eq-eqb l l refl) (from_least r d vs 0 l (start_ages r) ns ends)))
      go (is_gt q) = absurd (omega arith)

  pub least :
      (l : ℕ) (ns : List ℕ) → valid_rule r ≡ true → is_accepting_run r d vs l ns ≡ true
      → not_after ((least_run r d vs).start ∷ (least_run r d vs).taken) (l ∷ ns) ≡ true
  unfolding least_run is_accepting_run
  least l ns valid h =
      let starts : Bool = is_in l r.initial in
      let ends : Bool = run_ends_final r d vs 0 l (start_ages r) ns in
      let i = in_is l r.initial (and_left starts ends h) in
      let e = and_right starts ends h in
      let serves_l = from_found r d vs 0 l (start_ages r) ∙ run_from r d vs 0 l (start_ages r) ns e in
      path_least (least_start r d vs r.initial) l ns
      (starts_in r.initial (run_found (run_accepts r d vs l ns h)))
      (start_lowest 0 r.locations r.initial l (valid_of r valid).initial_rises i serves_l)
      e

pub runs_are : RunsAre
runs_are = record { run_accepts = run_accepts; accepts_run = accepts_run; found_is = found_is; least = least }
