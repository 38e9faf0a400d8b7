-- The configurations that 26 counts: those that some run over the events so far reaches, each once. 26 comes at the
-- first place where they are more than there is room for, and only there.
use mathlib.Core.Path.{◌≡◌, refl, ◌∙◌, ap}
use mathlib.Core.Bool.{Bool, true, false, ◌&&◌, ◌||◌, not}
use mathlib.Core.List.{List, [], ◌∷◌, ◌++◌}
use Prim.Native.Nat.{ℕ, zero, suc, ◌+◌, ◌-◌, ◌≤◌, ◌<◌}
use native.Mathlib.Omega.{arith}
use lib.Dec.{eqb, ltb}
use lib.ListN.{length, take}
use borrow.Author.Tests.{leb-true, ne_eqb, lt-ltb, le-leb, not-true}
use Rattle.model.specs.Basics.{is_in, same, refusal, fine}
use Rattle.model.specs.Rules.{Edge, Rule}
use Rattle.model.specs.Words.{Event}
use Rattle.model.specs.Runs.{older, zeroed, can_take, start_ages, is_accepting_run}
use Rattle.model.specs.Runs.{Config, config, has_config, with_config, by_edges, by_configs, start_configs}
use Rattle.model.specs.Runs.{room_refusal_from, room_refusal}
use Rattle.model.specs.Claims.{any_at_final, configs_after, configs_of, each_once, ConfigsAre}
use Rattle.model.proofs.Logic.{by_test, same_truth, eqb_swap, and_left, and_right}
use Rattle.model.proofs.Logic.{same_equal, same_self, neither_left, neither_right}
use Rattle.model.proofs.Masks.{Asc}
use Rattle.model.proofs.Valid.{valid_of}
use Rattle.model.proofs.Rising.{rising_asc}
use Rattle.model.proofs.Configs.{some_final, accepted_by_configs}
use Rattle.model.proofs.Reaching.{is_reached, is_kept, ends_final}

-- Each once: a configuration is added only where it is not kept yet.
same_swap : (xs ys : List ℕ) → same xs ys ≡ same ys xs
same_swap xs ys =
    same_truth (same xs ys) (same ys xs) (λ h. rw (same_equal xs ys h) (same_self ys))
    (λ h. rw (same_equal ys xs h) (same_self xs))

has_append :
    (x c : Config) (cs : List Config) → has_config x cs ≡ false
    → (eqb c.location x.location && same c.ages x.ages) ≡ false
    → has_config x (cs ++ (c ∷ [])) ≡ false
has_append x c [] h e = rw (eqb_swap x.location c.location, same_swap x.ages c.ages, e)
has_append x c (y ∷ cs) h e =
    let it : Bool = eqb x.location y.location && same x.ages y.ages in
    rw (neither_left it (has_config x cs) h) (has_append x c cs (neither_right it (has_config x cs) h) e)

once_append :
    (c : Config) (cs : List Config) → has_config c cs ≡ false → each_once cs ≡ true → each_once (cs ++ (c ∷ [])) ≡ true
once_append c [] h o = refl
once_append c (x ∷ cs) h o =
    let it : Bool = eqb c.location x.location && same c.ages x.ages in
    let new : has_config x cs ≡ false = not-true (has_config x cs) (and_left (not (has_config x cs)) (each_once cs) o)
    in
    rw (has_append x c cs new (neither_left it (has_config c cs) h))
    (once_append c cs (neither_right it (has_config c cs) h) (and_right (not (has_config x cs)) (each_once cs) o))

once_with : (c : Config) (cs : List Config) → each_once cs ≡ true → each_once (with_config c cs) ≡ true
once_with c cs o = by_test (has_config c cs) (λ h. rw h o) (λ h. rw h (once_append c cs h o))

once_edges :
    (d : ℕ) (v : Event) (l : ℕ) (ages : List ℕ) (es : List Edge) (cs : List Config) → each_once cs ≡ true
    → each_once (by_edges d v l ages es cs) ≡ true
unfolding by_edges
once_edges d v l ages [] cs o = o
once_edges d v l ages (e ∷ es) cs o =
    let to : Config = config e.target (zeroed e.resets ages) in
    by_test (can_take d l ages v e) (λ h. rw h (once_edges d v l ages es (with_config to cs) (once_with to cs o)))
    (λ h. rw h (once_edges d v l ages es cs o))

once_configs :
    (r : Rule) (d : ℕ) (v : Event) (delay : ℕ) (cs new : List Config) → each_once new ≡ true
    → each_once (by_configs r d v delay cs new) ≡ true
unfolding by_configs
once_configs r d v delay [] new o = o
once_configs r d v delay (c ∷ cs) new o =
    let now_are : List ℕ = older delay c.ages in
    once_configs r d v delay cs (by_edges d v c.location now_are r.edges new)
    (once_edges d v c.location now_are r.edges new o)

once_after :
    (r : Rule) (d last : ℕ) (cs : List Config) (vs : List Event) → each_once cs ≡ true
    → each_once (configs_after r d last cs vs) ≡ true
unfolding configs_after
once_after r d last cs [] o = o
once_after r d last cs (v ∷ vs) o =
    once_after r d v.stamp (by_configs r d v (v.stamp - last) cs []) vs
    (once_configs r d v (v.stamp - last) cs [] refl)

start_new :
    (r : Rule) (n l : ℕ) (ls : List ℕ) → l < n → Asc n ls
    → has_config (config l (start_ages r)) (start_configs r ls) ≡ false
start_new r n l [] h a = refl
start_new r n l (k ∷ ls) h a =
    rw (ne_eqb l k (omega (arith, a.0))) (start_new r (suc k) l ls (omega (arith, a.0)) a.1)

start_once : (r : Rule) (n : ℕ) (ls : List ℕ) → Asc n ls → each_once (start_configs r ls) ≡ true
start_once r n [] a = refl
start_once r n (l ∷ ls) a =
    rw (start_new r (suc l) l ls (omega arith) a.1) (start_once r (suc l) ls a.1)

-- 26 at place k + i: the first i lists have room, the next has not
module _ (r : Rule) (d room : ℕ) where
  abbrev over : ℕ → List Config → List Event → Bool
  over last cs vs = ltb room (length (configs_after r d last cs vs))

  full_from :
      (vs : List Event) (k last : ℕ) (cs : List Config) (i : ℕ) → i ≤ length vs → over last cs (take i vs) ≡ true
      → ((j : ℕ) → j < i → over last cs (take j vs) ≡ false)
      → room_refusal_from r d room k last cs vs ≡ refusal 26 (k + i)
  unfolding configs_after room_refusal_from
  full_from [] k last cs zero h o before = let z : k + 0 ≡ k = omega arith in rw (z, o)
  full_from [] k last cs (suc i) h o before = absurd (omega arith)
  full_from (v ∷ vs) k last cs zero h o before = let z : k + 0 ≡ k = omega arith in rw (z, room_refusal_from, o)
  full_from (v ∷ vs) k last cs (suc i) h o before =
      let z : k + suc i ≡ suc k + i = omega arith in
      rw (room_refusal_from, before 0 (omega arith), z)
      (full_from vs (suc k) v.stamp (by_configs r d v (v.stamp - last) cs []) i (omega arith) o
      (λ j l. before (suc j) (omega arith)))

  roomy_from :
      (vs : List Event) (k last : ℕ) (cs : List Config)
      → ((i : ℕ) → i ≤ length vs → over last cs (take i vs) ≡ false)
      → room_refusal_from r d room k last cs vs ≡ fine
  unfolding configs_after room_refusal_from
  roomy_from [] k last cs h = rw (h 0 (omega arith))
  roomy_from (v ∷ vs) k last cs h =
      rw (room_refusal_from, h 0 (omega arith))
      (roomy_from vs (suc k) v.stamp (by_configs r d v (v.stamp - last) cs []) (λ i l. h (suc i) (omega arith)))

-- accepted is to be at a final location
some_at_final : (r : Rule) (cs : List Config) → some_final r cs ≡ any_at_final r cs
some_at_final r [] = refl
some_at_final r (c ∷ cs) = ap (λ (b : Bool). is_in c.location r.final || b) (some_at_final r cs)

-- The claim.
pub configs_are : ConfigsAre
unfolding configs_of room_refusal is_accepting_run
configs_are = record {
  reached = λ r d vs c h. is_reached c r d vs h;
  reaches = λ r d vs c m. is_kept c r d vs m;
  once = λ r d vs v.
      once_after r d 0 (start_configs r r.initial) vs
      (start_once r 0 r.initial (rising_asc 0 r.locations r.initial (valid_of r v).initial_rises));
  full = λ r d room vs i h o before.
      full_from r d room vs 0 0 (start_configs r r.initial) i (leb-true i (length vs) h) o
      (λ j l. before j (lt-ltb j i l))
      ∙ (let z : 0 + i ≡ i = omega arith in rw z);
  roomy = λ r d room vs h.
      roomy_from r d room vs 0 0 (start_configs r r.initial) (λ i l. h i (le-leb i (length vs) l));
  ends_final = λ r d vs c m.
      rw m.initial (ends_final c r d vs 0 m.start (start_ages r) m.taken m.ends_there);
  accepted = λ r d vs. accepted_by_configs r d vs ∙ some_at_final r (configs_of r d vs);
}
