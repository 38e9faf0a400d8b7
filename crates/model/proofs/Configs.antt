-- With all distinct configurations kept, the word is accepted exactly if some configuration after the last event is
-- at a final location; configurations are only ever added, and no age exceeds the last stamp.
use mathlib.Core.Path.{◌≡◌, refl, sym, ◌∙◌, ap, ap₂}
use mathlib.Core.Bool.{Bool, true, false, ◌&&◌, ◌||◌}
use mathlib.Core.List.{List, [], ◌∷◌, ◌++◌}
use mathlib.Core.Logic.{◌⊎◌, inl, inr}
use Prim.Native.Nat.{ℕ, ◌-◌, ◌≤◌}
use native.Mathlib.Omega.{arith}
use lib.Dec.{eqb}
use lib.ListN.{length, length-append}
use borrow.Author.Tests.{eqb-true}
use Rattle.model.specs.Basics.{pick, is_in, same}
use Rattle.model.specs.Rules.{Edge, Rule}
use Rattle.model.specs.Words.{Event}
use Rattle.model.specs.Runs.{older, zeroed, can_take, start_ages, some_edge, accepts_from, accepts_from_some}
use Rattle.model.specs.Runs.{accepts, Config, config, has_config, with_config, by_edges, by_configs, start_configs}
use Rattle.model.specs.Claims.{configs_after, configs_of}
use Rattle.model.proofs.Ages.{AtMost, older_most, zeroed_most, zeros_most}
use Rattle.model.proofs.Logic.{no_way, by_test, and_left, and_right, or_left, or_right, or_none, or_cases}
use Rattle.model.proofs.Logic.{same_equal}

-- some configuration passes a test
abbrev pub some_config : (Config → Bool) → List Config → Bool
some_config f [] = false
some_config f (c ∷ cs) = f c || some_config f cs

or_three : (a b c : Bool) → ((a || b) || c) ≡ (a || (b || c))
or_three true b c = refl
or_three false b c = refl

or_kept : (a b : Bool) → (b ≡ true → a ≡ true) → a ≡ (a || b)
or_kept true b h = refl
or_kept false true h = h refl
or_kept false false h = refl

module _ (f : Config → Bool) where
  some_append : (xs ys : List Config) → some_config f (xs ++ ys) ≡ (some_config f xs || some_config f ys)
  some_append [] ys = refl
  some_append (x ∷ xs) ys = rw (some_append xs ys) (sym (or_three (f x) (some_config f xs) (some_config f ys)))

  -- a configuration that is there already passes where it stands
  some_has : (c : Config) (cs : List Config) → has_config c cs ≡ true → f c ≡ true → some_config f cs ≡ true
  some_has c [] h e = no_way h
  some_has c (x ∷ xs) h e = go (or_cases here_is (has_config c xs) h) (some_has c xs)
    where
      here_is : Bool
      here_is = eqb c.location x.location && same c.ages x.ages

      go :
          (here_is ≡ true) ⊎ (has_config c xs ≡ true) → (has_config c xs ≡ true → f c ≡ true → some_config f xs ≡ true)
          → (f x || some_config f xs) ≡ true
      go (inl q) k =
          let l : c.location ≡ x.location =
          eqb-true c.location x.location
          (and_left (eqb c.location x.location) (same c.ages x.ages) q) in
          let a : c.ages ≡ x.ages =
          same_equal c.ages x.ages
          (and_right (eqb c.location x.location) (same c.ages x.ages) q) in
          or_left (f x) (some_config f xs) (sym (ap f (ap₂ config l a)) ∙ e)
      go (inr q) k = or_right (f x) (some_config f xs) (k q e)

  pub with_some : (c : Config) (cs : List Config) → some_config f (with_config c cs) ≡ (some_config f cs || f c)
  with_some c cs =
      by_test (has_config c cs)
      (λ h. rw h (or_kept (some_config f cs) (f c) (some_has c cs h)))
      (λ h. rw h (some_append cs (c ∷ []) ∙ ap (λ (b : Bool). some_config f cs || b) (or_none (f c))))

  -- the configurations that the edges lead to
  abbrev leads : Event → ℕ → ℕ → List ℕ → List Edge → Bool
  leads v d l ages es = some_edge es d l ages v (λ to ages_to. f (config to ages_to))

  edges_some :
      (d : ℕ) (v : Event) (l : ℕ) (ages : List ℕ) (es : List Edge) (cs : List Config)
      → some_config f (by_edges d v l ages es cs) ≡ (some_config f cs || leads v d l ages es)
  unfolding by_edges
  edges_some d v l ages [] cs = sym (or_none (some_config f cs))
  edges_some d v l ages (e ∷ es) cs =
      let to : Config = config e.target (zeroed e.resets ages) in
      by_test (can_take d l ages v e)
      (λ h.
      rw h
      (edges_some d v l ages es (with_config to cs)
      ∙ rw (with_some to cs) (or_three (some_config f cs) (f to) (leads v d l ages es))))
      (λ h. rw h (edges_some d v l ages es cs))

  pub configs_some :
      (r : Rule) (d : ℕ) (v : Event) (delay : ℕ) (cs new : List Config)
      → some_config f (by_configs r d v delay cs new)
      ≡ (some_config f new || some_config (λ c. leads v d c.location (older delay c.ages) r.edges) cs)
  unfolding by_configs
  configs_some r d v delay [] new = sym (or_none (some_config f new))
  configs_some r d v delay (c ∷ cs) new =
      let now_are : List ℕ = older delay c.ages in
      configs_some r d v delay cs (by_edges d v c.location now_are r.edges new)
      ∙ rw (edges_some d v c.location now_are r.edges new)
      (or_three (some_config f new) (leads v d c.location now_are r.edges)
      (some_config (λ x. leads v d x.location (older delay x.ages) r.edges) cs))

-- From some of these configurations, after the stamp `last`, the events that are left are accepted.
abbrev pub accepts_some : Rule → ℕ → List Event → ℕ → List Config → Bool
accepts_some r d vs last cs = some_config (λ c. accepts_from r d vs last c.location c.ages) cs

-- one event: the configurations that it leads to stand for those before
pub event_some :
    (r : Rule) (d : ℕ) (v : Event) (vs : List Event) (last : ℕ) (cs : List Config)
    → accepts_some r d vs v.stamp (by_configs r d v (v.stamp - last) cs []) ≡ accepts_some r d (v ∷ vs) last cs
unfolding accepts_from
event_some r d v vs last cs =
    configs_some (λ c. accepts_from r d vs v.stamp c.location c.ages) r d v (v.stamp - last) cs []

pub start_some :
    (r : Rule) (d : ℕ) (vs : List Event) → accepts_some r d vs 0 (start_configs r r.initial) ≡ accepts r d vs
unfolding accepts accepts_from_some
start_some r d vs = go r.initial
  where
    go : (ls : List ℕ) → accepts_some r d vs 0 (start_configs r ls) ≡ accepts_from_some r d vs ls
    go [] = refl
    go (l ∷ ls) = ap (λ (b : Bool). accepts_from r d vs 0 l (start_ages r) || b) (go ls)

-- after the last event: at a final location
abbrev pub some_final : Rule → List Config → Bool
some_final r cs = some_config (λ c. is_in c.location r.final) cs

pub end_some : (r : Rule) (d last : ℕ) (cs : List Config) → accepts_some r d [] last cs ≡ some_final r cs
unfolding accepts_from
end_some r d last cs = refl

after_some :
    (r : Rule) (d last : ℕ) (cs : List Config) (vs : List Event)
    → some_final r (configs_after r d last cs vs) ≡ accepts_some r d vs last cs
unfolding configs_after
after_some r d last cs [] = sym (end_some r d last cs)
after_some r d last cs (v ∷ vs) =
    after_some r d v.stamp (by_configs r d v (v.stamp - last) cs []) vs ∙ event_some r d v vs last cs

pub accepted_by_configs : (r : Rule) (d : ℕ) (vs : List Event) → accepts r d vs ≡ some_final r (configs_of r d vs)
unfolding configs_of
accepted_by_configs r d vs = sym (after_some r d 0 (start_configs r r.initial) vs ∙ start_some r d vs)

-- Configurations are only added.
pub with_grows : (c : Config) (cs : List Config) → length cs ≤ length (with_config c cs)
with_grows c cs =
    by_test (has_config c cs) (λ h. rw h (omega arith)) (λ h. rw (h, length-append cs (c ∷ [])) (omega arith))

pub edges_grow :
    (d : ℕ) (v : Event) (l : ℕ) (ages : List ℕ) (es : List Edge) (cs : List Config)
    → length cs ≤ length (by_edges d v l ages es cs)
unfolding by_edges
edges_grow d v l ages [] cs = omega arith
edges_grow d v l ages (e ∷ es) cs =
    let to : Config = config e.target (zeroed e.resets ages) in
    by_test (can_take d l ages v e)
    (λ h. rw h (omega (arith, with_grows to cs, edges_grow d v l ages es (with_config to cs))))
    (λ h. rw h (edges_grow d v l ages es cs))

pub configs_grow :
    (r : Rule) (d : ℕ) (v : Event) (delay : ℕ) (cs new : List Config)
    → length new ≤ length (by_configs r d v delay cs new)
unfolding by_configs
configs_grow r d v delay [] new = omega arith
configs_grow r d v delay (c ∷ cs) new =
    let made : List Config = by_edges d v c.location (older delay c.ages) r.edges new in
    omega
    (arith, edges_grow d v c.location (older delay c.ages) r.edges new, configs_grow r d v delay cs made)

-- Only the event's symbol decides which edges can be taken.
edges_symbol :
    (d : ℕ) (v w : Event) (l : ℕ) (ages : List ℕ) (es : List Edge) (cs : List Config) → v.symbol ≡ w.symbol
    → by_edges d v l ages es cs ≡ by_edges d w l ages es cs
unfolding by_edges
edges_symbol d v w l ages [] cs h = refl
edges_symbol d v w l ages (e ∷ es) cs h =
    let to : Config = config e.target (zeroed e.resets ages) in
    edges_symbol d v w l ages es (pick (can_take d l ages v e) (with_config to cs) cs) h
    ∙ rw h

pub configs_symbol :
    (r : Rule) (d : ℕ) (v w : Event) (delay : ℕ) (cs new : List Config) → v.symbol ≡ w.symbol
    → by_configs r d v delay cs new ≡ by_configs r d w delay cs new
unfolding by_configs
configs_symbol r d v w delay [] new h = refl
configs_symbol r d v w delay (c ∷ cs) new h =
    let now_are : List ℕ = older delay c.ages in
    ap (by_configs r d v delay cs) (edges_symbol d v w c.location now_are r.edges new h)
    ∙ configs_symbol r d v w delay cs (by_edges d w c.location now_are r.edges new) h

-- All ages of all configurations at most m: after an event they are at most its stamp.
abbrev pub Aged : ℕ → List Config → Type 0
Aged m [] = Unit {0}
Aged m (c ∷ cs) = AtMost m c.ages × Aged m cs

aged_append : (m : ℕ) (cs : List Config) (c : Config) → Aged m cs → AtMost m c.ages → Aged m (cs ++ (c ∷ []))
aged_append m [] c h a = (a, tt)
aged_append m (x ∷ cs) c h a = (h.0, aged_append m cs c h.1 a)

aged_with : (m : ℕ) (c : Config) (cs : List Config) → Aged m cs → AtMost m c.ages → Aged m (with_config c cs)
aged_with m c cs h a = by_test (has_config c cs) (λ e. rw e h) (λ e. rw e (aged_append m cs c h a))

aged_edges :
    (m d : ℕ) (v : Event) (l : ℕ) (ages : List ℕ) (es : List Edge) (cs : List Config) → AtMost m ages → Aged m cs
    → Aged m (by_edges d v l ages es cs)
unfolding by_edges
aged_edges m d v l ages [] cs a h = h
aged_edges m d v l ages (e ∷ es) cs a h =
    let to : Config = config e.target (zeroed e.resets ages) in
    by_test (can_take d l ages v e)
    (λ t.
    rw t
    (aged_edges m d v l ages es (with_config to cs) a (aged_with m to cs h (zeroed_most m 0 e.resets ages a))))
    (λ t. rw t (aged_edges m d v l ages es cs a h))

pub aged_configs :
    (r : Rule) (d : ℕ) (v : Event) (last stamp : ℕ) (cs new : List Config) → last ≤ stamp → Aged last cs → Aged
    stamp new
    → Aged stamp (by_configs r d v (stamp - last) cs new)
unfolding by_configs
aged_configs r d v last stamp [] new h a b = b
aged_configs r d v last stamp (c ∷ cs) new h a b =
    let now_are : List ℕ = older (stamp - last) c.ages in
    aged_configs r d v last stamp cs (by_edges d v c.location now_are r.edges new) h a.1
    (aged_edges stamp d v c.location now_are r.edges new (older_most last stamp c.ages a.0 h) b)

pub aged_start : (r : Rule) (m : ℕ) (ls : List ℕ) → Aged m (start_configs r ls)
aged_start r m [] = tt
aged_start r m (l ∷ ls) = (zeros_most m r.clocks, aged_start r m ls)
