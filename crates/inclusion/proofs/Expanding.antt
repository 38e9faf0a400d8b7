-- All events of one state: the loop over the symbols.
use mathlib.Core.Path.{◌≡◌, refl, sym, ◌∙◌, ap, ap₂, subst}
use mathlib.Core.Bool.{true, false}
use mathlib.Core.List.{List}
use Prim.Native.Nat.{ℕ, suc, ◌+◌, ◌-◌, ◌*◌, ◌/◌, ◌%◌, ◌≤◌, ◌<◌}
use native.Mathlib.Omega.{arith}
use native.Mathlib.Numerals.{add-one}
use lib.ListN.{length}
use Rattle.model.specs.Tables.{Tables}
use Rattle.model.specs.JointStates.{State, takes}
use Rattle.model.proofs.Logic.{no_way}
use Rattle.inclusion.specs.declared.sides.Joint.{Joint}
use Rattle.inclusion.specs.Numbers.{packed, first_in, second_in, Apart}
use Rattle.inclusion.specs.Graphs.{graph_of, Paired}
use Rattle.inclusion.proofs.Graphs.{graph_symbols, paired_as, waits_goal}
use Rattle.inclusion.specs.Parts.{ways, level_marks, most_mark, low, high, level_mark}
use Rattle.inclusion.specs.Scans.{Progress, Scan, Next, event, WinsAs, ReachedBy, Reaches, Expands}
use Rattle.inclusion.proofs.Scanning.{take_scan, move_scan}

pub graph_wins :
    (t u : Tables) (n : ℕ) → Paired t.built t.cells u.built u.cells n
    → WinsAs t.built u.built t.rows u.rows n (graph_of t u)
unfolding graph_of
graph_wins t u n p = record {
  waits_as = record { waits_is = λ x h. refl; waits_goal = λ x h. waits_goal t u p x h };
  goal_is = λ x h. refl;
}

-- a number taken apart takes an event
abbrev pub taken_from : Tables → Tables → ℕ → Joint → ℕ
taken_from t u s j =
    packed t.built u.built (takes t s (first_in j)) (takes u s (second_in j))

pub graph_takes :
    (t u : Tables) (x s y : ℕ) (j : Joint) → Apart t.built u.built x j → y ≡ taken_from t u s j
    → y ≡ (graph_of t u).takes_to s x
unfolding graph_of
graph_takes t u x s y j k e =
    e ∙ ap₂ (λ (v w : State). packed t.built u.built (takes t s v) (takes u s w)) k.first_is k.second_is

-- the loop over the symbols of the state x at place `from`: those below `symbol` are taken
pub record Expanding (t u : Tables) (s₀ s : List ℕ) (from x base : ℕ) (j : Joint) (at symbol : ℕ) : Type 0 where
  pub paired : Paired t.built t.cells u.built u.cells (length s)
  pub scan : Scan (graph_of t u) s at at from symbol
  pub from_below : from < at
  pub state_is : low s from ≡ x
  pub apart : Apart t.built u.built x j
  pub base_is : base ≡ 2 + ways * ((level_mark s x + 1) % level_marks)
  pub symbols_in : symbol ≤ t.built.symbols
  pub same_length : length s ≡ length s₀

pub expanding_start :
    (t u : Tables) (s : List ℕ) (tail from x level : ℕ) (j : Joint)
    → Paired t.built t.cells u.built u.cells (length s)
    → Scan (graph_of t u) s tail tail from 0
    → from < tail
    → x ≡ low s from
    → level ≡ high s x
    → Apart t.built u.built x j
    → Expanding t u s s from x (2 + ways * (((level - 1) / ways + 1) % level_marks)) j tail 0
expanding_start t u s tail from x level j p z h e f k = record {
  paired = p;
  scan = z;
  from_below = h;
  state_is = sym e;
  apart = k;
  base_is = ap (λ (y : ℕ). 2 + ways * (((y - 1) / ways + 1) % level_marks)) f;
  symbols_in = omega arith;
  same_length = refl;
}

module _
    {t u : Tables} {s₀ s : List ℕ} {from x base : ℕ} {j : Joint} {at symbol : ℕ}
    (w : Expanding t u s₀ s from x base j at symbol)
  where
    pub base_small : symbol < t.built.symbols → (1 ≤ base + symbol) × (base + symbol ≤ most_mark)
    base_small h = (omega (arith, w.base_is), omega (arith, w.base_is, h, w.paired.first.sized.symbols_most))

    pub expanding_end :
        t.built.symbols ≤ symbol → Expands (graph_of t u) s₀ from s (record { tail = at; goal = false })
    expanding_end h = record {
      same_length = w.same_length;
      goes = λ v. move_scan w.scan w.from_below (omega (arith, h, graph_symbols t u));
      wins = λ v. no_way v;
    }

    -- one symbol more is taken, and the state it leads to is reached
    module _
        (h : symbol < t.built.symbols) (y : ℕ) (e : y ≡ taken_from t u symbol j) (s' : List ℕ) (p : Progress)
        (r : Reaches t.built u.built t.rows u.rows s at y (base + symbol) s' p)
      where
        taken_is : (v : ℕ) → v ≡ x → y ≡ (graph_of t u).takes_to symbol v
        taken_is v f =
            graph_takes t u x symbol y j w.apart e ∙ ap (λ (i : ℕ). (graph_of t u).takes_to symbol i) (sym f)

        next : Next (graph_of t u) s w.scan.level at from y (base + symbol) (suc (w.scan.level from))
        next =
            let l : level_mark s (low s from) ≡ w.scan.level from % level_marks =
            w.scan.level_mark_lem from w.from_below in
            let m : level_mark s (low s from) ≡ level_mark s x = ap (λ (v : ℕ). level_mark s v) w.state_is in
            event symbol w.from_below (omega (arith, h, graph_symbols t u))
            (omega (arith, h, w.paired.first.sized.symbols_most))
            (taken_is (low s from) w.state_is)
            refl
            (omega (arith, w.base_is, l, m))

        reached : ReachedBy (graph_of t u) s' from symbol y p
        reached =
            r.scans (graph_of t u) from symbol (suc (w.scan.level from)) (graph_wins t u (length s) w.paired)
            w.scan
            next

        same_state : low s' from ≡ x
        same_state = r.keeps.low_kept from w.from_below ∙ w.state_is

        same_mark : high s' x ≡ high s x
        same_mark =
            ap (λ (v : ℕ). high s' v) (sym w.state_is) ∙ r.keeps.high_kept from w.from_below
            ∙ ap (λ (v : ℕ). high s v) w.state_is

        pub expanding_next : p.goal ≡ false → Expanding t u s₀ s' from x base j p.tail (symbol + 1)
        expanding_next o =
            subst (λ (n : ℕ). Expanding t u s₀ s' from x base j p.tail n) (sym (add-one symbol)) (record {
              paired = paired_as r.keeps.same_length w.paired;
              scan = take_scan (reached.goes o).0 (omega (arith, w.from_below, r.later))
                  (subst (λ (n : ℕ). 1 ≤ high s' n) (taken_is (low s' from) same_state) (reached.goes o).1);
              from_below = omega (arith, w.from_below, r.later);
              state_is = same_state;
              apart = w.apart;
              base_is = w.base_is ∙ ap (λ (v : ℕ). 2 + ways * (((v - 1) / ways + 1) % level_marks)) (sym same_mark);
              symbols_in = h;
              same_length = r.keeps.same_length ∙ w.same_length;
            })

        pub expanding_won : p.goal ≡ true → Expands (graph_of t u) s₀ from s' p
        expanding_won o = record {
          same_length = r.keeps.same_length ∙ w.same_length;
          goes = λ v. no_way (sym v ∙ o);
          wins = λ v. reached.wins v;
        }
