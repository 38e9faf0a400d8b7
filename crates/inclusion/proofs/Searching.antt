-- The whole search: from nothing found to all found, or to a goal.
use mathlib.Core.Path.{◌≡◌, refl, sym, ◌∙◌, ap, subst}
use mathlib.Core.Bool.{true, false}
use mathlib.Core.List.{List}
use Prim.Native.Nat.{ℕ, zero, suc, ◌+◌, ◌≤◌, ◌<◌}
use native.Mathlib.Omega.{arith}
use native.Mathlib.Nat.{mul-le-mul}
use native.Mathlib.Numerals.{add-one}
use lib.ListN.{length, get_or}
use Rattle.model.specs.declared.Built.{Built}
use Rattle.model.specs.Basics.{zeros}
use Rattle.model.specs.Tables.{Tables}
use Rattle.model.specs.Inclusion.{most_joint_states}
use Rattle.model.specs.JointStates.{start_state}
use Rattle.model.proofs.Logic.{no_way, zeros_at}
use Rattle.inclusion.specs.Numbers.{packed}
use Rattle.inclusion.specs.Graphs.{Graph, graph_of, Paired}
use Rattle.inclusion.proofs.JointLaws.{states_some, start_packed}
use Rattle.inclusion.proofs.Graphs.{paired_as}
use Rattle.inclusion.specs.Parts.{Laid, unmarked}
use Rattle.inclusion.specs.Scans.{Progress, Place, Scan, first, ReachedBy, Reaches, Expands, Searches}
use Rattle.inclusion.proofs.Expanding.{graph_wins}

none_marked : (n : ℕ) → unmarked (zeros n) ≡ n
none_marked zero = refl
none_marked (suc n) = omega (arith, none_marked n)

pub empty_laid : (s : List ℕ) → s ≡ zeros (length s) → length s ≤ most_joint_states → Laid s 0
empty_laid s e h = record {
  small = h;
  counted = omega (arith, ap unmarked e, none_marked (length s));
  past = λ k b. omega (arith, at k);
  states_below = λ k b. absurd (omega (arith, b));
  marked = λ k b. absurd (omega (arith, b));
  marks_most = λ x. omega (arith, at x);
}
  where
    at : (k : ℕ) → get_or s k 0 ≡ 0
    at k = ap (λ (l : List ℕ). get_or l k 0) e ∙ zeros_at (length s) k

empty_scan : (g : Graph) (s : List ℕ) → s ≡ zeros (length s) → length s ≤ most_joint_states → Scan g s 0 0 0 0
empty_scan g s e h = record {
  laid = empty_laid s e h;
  level = λ k. 0;
  done_most = omega arith;
  from_most = omega arith;
  now_below = λ b. absurd (omega (arith, b));
  found = λ x b. absurd (omega (arith, b, ap (λ (l : List ℕ). get_or l x 0) e, zeros_at (length s) x));
  rising = λ j k a b. absurd (omega (arith, b));
  most = λ k a b. absurd (omega (arith, b));
  level_mark_lem = λ k b. absurd (omega (arith, b));
  came = λ k b. absurd (omega (arith, b));
  waits_found = λ k b. absurd (omega (arith, b));
  no_goal = λ k b. absurd (omega (arith, b));
  takes_found = λ k a b d. absurd (omega (arith, b));
  takes_now = λ a b. absurd (omega (arith, b));
}

pub some_state : {a b : Built} {cells cells2 : List ℕ} {n : ℕ} → Paired a cells b cells2 n → 0 < n
some_state p = omega (arith, p.size_is, mul-le-mul (states_some p.first.sized) (states_some p.second.sized))

-- the loop over the states found: those below `from` have their events found
pub record Searching (t u : Tables) (s₀ s : List ℕ) (tail from : ℕ) : Type 0 where
  pub paired : Paired t.built t.cells u.built u.cells (length s)
  pub scan : Scan (graph_of t u) s tail tail from 0
  pub some : 1 ≤ tail
  pub same_length : length s ≡ length s₀

module _
    (t u : Tables) (s s' : List ℕ) (p : Progress)
    (k : Paired t.built t.cells u.built u.cells (length s))
    (e : s ≡ zeros (length s))
    (r : Reaches t.built u.built t.rows u.rows s 0
    (packed t.built u.built start_state start_state) 1 s' p)
  where
    started : ReachedBy (graph_of t u) s' 0 0 0 p
    started =
        subst (λ (y : ℕ). ReachedBy (graph_of t u) s' 0 0 y p) (start_packed t.built u.built)
        (r.scans (graph_of t u) 0 0 0 (graph_wins t u (length s) k) (empty_scan (graph_of t u) s e k.size_most)
        (first refl refl (start_packed t.built u.built) refl refl))

    pub search_start : p.goal ≡ false → Searching t u s' s' p.tail 0
    search_start o = record {
      paired = paired_as r.keeps.same_length k;
      scan = (started.goes o).0;
      some = let f : Place s' p.tail 0 = (started.goes o).0.found 0 (started.goes o).1 in omega (arith, f.below);
      same_length = refl;
    }

    pub search_first : p.goal ≡ true → Searches (graph_of t u) s s' p
    search_first o = record {
      same_length = r.keeps.same_length;
      some = omega (arith, (started.wins o).tail_is);
      goes = λ v. no_way (sym v ∙ o);
      wins = λ v. started.wins v;
    }

pub search_next :
    {t u : Tables} {s₀ s : List ℕ} {tail from : ℕ} (w : Searching t u s₀ s tail from) (s' : List ℕ) (p : Progress)
    → Expands (graph_of t u) s from s' p
    → p.goal ≡ false
    → Searching t u s₀ s' p.tail (from + 1)
search_next {t} {u} {s₀} {s} {tail} {from} w s' p r o =
    subst (λ (n : ℕ). Searching t u s₀ s' p.tail n) (sym (add-one from)) (record {
      paired = paired_as r.same_length w.paired;
      scan = r.goes o;
      some = omega (arith, (r.goes o).from_most);
      same_length = r.same_length ∙ w.same_length;
    })

pub search_won :
    {t u : Tables} {s₀ s : List ℕ} {tail from : ℕ} (w : Searching t u s₀ s tail from) (s' : List ℕ) (p : Progress)
    → Expands (graph_of t u) s from s' p
    → p.goal ≡ true
    → Searches (graph_of t u) s₀ s' p
search_won w s' p r o = record {
  same_length = r.same_length ∙ w.same_length;
  some = omega (arith, (r.wins o).tail_is);
  goes = λ v. no_way (sym v ∙ o);
  wins = λ v. r.wins v;
}

pub search_end :
    {t u : Tables} {s₀ s : List ℕ} {tail from : ℕ} → Searching t u s₀ s tail from → tail ≤ from
    → Searches (graph_of t u) s₀ s (record { tail = tail; goal = false })
search_end {t} {u} {s₀} {s} {tail} {from} w h = record {
  same_length = w.same_length;
  some = w.some;
  goes = λ v.
      let e : from ≡ tail = omega (arith, h, w.scan.from_most) in
      subst (λ (n : ℕ). Scan (graph_of t u) s tail tail n 0) e w.scan;
  wins = λ v. no_way v;
}

pub searches_from :
    {g : Graph} {s s₁ s' : List ℕ} {p : Progress} → length s₁ ≡ length s → Searches g s₁ s' p → Searches g s s' p
searches_from e r = record { same_length = r.same_length ∙ e; some = r.some; goes = r.goes; wins = r.wins }
