-- A way to every state found: symbols, the pause before each and one at the end, in all no more half seconds than there
-- are places before it. So a word that leads to a goal has stamps of 32 bits.
use mathlib.Core.Path.{◌≡◌, refl, sym, ◌∙◌, ap}
use mathlib.Core.Bool.{true}
use mathlib.Core.List.{List, [], ◌∷◌, ◌++◌}
use Prim.Native.Nat.{ℕ, zero, suc, ◌+◌, ◌^◌, ◌≤◌, ◌<◌}
use native.Mathlib.Omega.{arith}
use lib.Dec.{ltb}
use lib.ListN.{length, length-append}
use borrow.Author.Tests.{ltb-true, lt-ltb}
use Rattle.model.specs.Basics.{all_below}
use Rattle.model.specs.Words.{events_of}
use Rattle.model.specs.Tables.{Tables}
use Rattle.model.specs.Inclusion.{most_joint_states, stamps_fit}
use Rattle.model.proofs.Logic.{and_left, and_right}
use Rattle.model.proofs.Lists.{stamps_back}
use Rattle.inclusion.specs.Graphs.{Graph, graph_of, Paired}
use Rattle.inclusion.proofs.Graphs.{waits_below, takes_below, waits_goal}
use Rattle.inclusion.specs.Parts.{low}
use Rattle.inclusion.specs.Scans.{Came, began, waited, taken}
use Rattle.inclusion.specs.Trails.{waits_on, led_by, sum_of, sums}
use Rattle.inclusion.proofs.Steps.{pause_below}
use Rattle.inclusion.proofs.Words.{sums_length}

-- one event, one pause more
sum_more : (ps : List ℕ) (q : ℕ) → sum_of (ps ++ (q ∷ [])) ≡ sum_of ps + q
sum_more [] q = omega arith
sum_more (p ∷ ps) q = omega (arith, sum_more ps q)

below_more : (m : ℕ) (xs : List ℕ) (a : ℕ) → all_below m xs ≡ true → a < m → all_below m (xs ++ (a ∷ [])) ≡ true
below_more m [] a b h = rw (lt-ltb a m h)
below_more m (x ∷ xs) a b h =
    rw (and_left (ltb x m) (all_below m xs) b) (below_more m xs a (and_right (ltb x m) (all_below m xs) b) h)

led_more :
    (g : Graph) (xs ps : List ℕ) (a q x : ℕ) → length ps ≡ length xs
    → led_by g (xs ++ (a ∷ [])) (ps ++ (q ∷ [])) x ≡ g.takes_to a (waits_on g q (led_by g xs ps x))
led_more g [] [] a q x e = refl
led_more g [] (p ∷ ps) a q x e = absurd (omega (arith, e))
led_more g (y ∷ xs) [] a q x e = absurd (omega (arith, e))
led_more g (y ∷ xs) (p ∷ ps) a q x e = led_more g xs ps a q (g.takes_to y (waits_on g p x)) (omega (arith, e))

waits_more : (g : Graph) (n x : ℕ) → g.waits_to (waits_on g n x) ≡ waits_on g (suc n) x
waits_more g zero x = refl
waits_more g (suc n) x = waits_more g n (g.waits_to x)

-- the way to the state at place k
pub record Way (g : Graph) (s : List ℕ) (k : ℕ) : Type 0 where
  pub symbols : List ℕ
  pub pauses : List ℕ
  pub rest : ℕ
  pub as_many : length pauses ≡ length symbols
  pub inside : all_below g.symbols symbols ≡ true
  pub leads : waits_on g rest (led_by g symbols pauses 0) ≡ low s k
  pub total : sum_of pauses + rest ≤ k

way_from :
    (g : Graph) (s : List ℕ) (level : ℕ → ℕ) (k : ℕ) → ((j : ℕ) → j < k → Way g s j) → Came g s level k → Way g s k
way_from g s level k back (began e f v) = record {
  symbols = [];
  pauses = [];
  rest = 0;
  as_many = refl;
  inside = refl;
  leads = sym f;
  total = omega arith;
}
way_from g s level k back (waited j e f v i) =
    let w : Way g s j = back j (omega (arith, e)) in
    record {
      symbols = w.symbols;
      pauses = w.pauses;
      rest = suc w.rest;
      as_many = w.as_many;
      inside = w.inside;
      leads = sym (waits_more g w.rest (led_by g w.symbols w.pauses 0)) ∙ ap g.waits_to w.leads ∙ sym f;
      total = omega (arith, e, w.total);
    }
way_from g s level k back (taken a p b c f v i) =
    let w : Way g s p = back p b in
    let more : length (w.pauses ++ (w.rest ∷ [])) ≡ length (w.symbols ++ (a ∷ [])) =
    omega (
      arith,
      length-append w.pauses (w.rest ∷ []),
      length-append w.symbols (a ∷ []),
      w.as_many,
    ) in
    record {
      symbols = w.symbols ++ (a ∷ []);
      pauses = w.pauses ++ (w.rest ∷ []);
      rest = 0;
      as_many = more;
      inside = below_more g.symbols w.symbols a w.inside c;
      leads = led_more g w.symbols w.pauses a w.rest 0 w.as_many ∙ ap (g.takes_to a) w.leads ∙ sym f;
      total = omega (arith, sum_more w.pauses w.rest, w.total, b);
    }

pub way_to :
    (g : Graph) (s : List ℕ) (level : ℕ → ℕ) (tail : ℕ) → ((k : ℕ) → k < tail → Came g s level k)
    → (k : ℕ) → k < tail → Way g s k
way_to g s level tail came k h = go (suc k) k (omega arith) h
  where
    go : (b k : ℕ) → k < b → k < tail → Way g s k
    go zero k a h = absurd (omega (arith, a))
    go (suc b) k a h =
        way_from g s level k (λ j c. go b j (omega (arith, a, c)) (omega (arith, c, h))) (came k h)

-- stamps never pass the pauses' sum
sums_fit : (m k : ℕ) (ps : List ℕ) → k + sum_of ps < m → all_below m (sums k ps) ≡ true
sums_fit m k [] h = refl
sums_fit m k (p ∷ ps) h = rw (lt-ltb (k + p) m (omega (arith, h))) (sums_fit m (k + p) ps (omega (arith, h)))

pub word_fits :
    (xs ps : List ℕ) → length ps ≡ length xs → sum_of ps ≤ most_joint_states
    → stamps_fit (events_of xs (sums 0 ps)) ≡ true
word_fits xs ps e h =
    ap (all_below (2 ^ 32)) (stamps_back xs (sums 0 ps) (sym e ∙ sym (sums_length 0 ps)))
    ∙ sums_fit (2 ^ 32) 0 ps (omega (arith, h))

-- a way stays inside, and waiting at its end leads to a goal only from one
module _ (t u : Tables) {n : ℕ} (c : Paired t.built t.cells u.built u.cells n) where
  abbrev g : Graph
  g = graph_of t u

  pub led_below : (xs ps : List ℕ) (x : ℕ) → x < n → all_below t.built.symbols xs ≡ true → led_by g xs ps x < n
  unfolding graph_of
  led_below [] ps x h b = h
  led_below (a ∷ xs) [] x h b = h
  led_below (a ∷ xs) (p ∷ ps) x h b =
      let known : ℕ = t.built.symbols in
      led_below xs ps (g.takes_to a (waits_on g p x))
      (takes_below t u c a (waits_on g p x) (ltb-true a known (and_left (ltb a known) (all_below known xs) b))
      (pause_below t u c p x h))
      (and_right (ltb a known) (all_below known xs) b)

  pub goal_still : (k x : ℕ) → x < n → (graph_of t u).goal (waits_on g k x) ≡ (graph_of t u).goal x
  unfolding graph_of
  goal_still zero x h = refl
  goal_still (suc k) x h = goal_still k (g.waits_to x) (waits_below t u c x h) ∙ waits_goal t u c x h
