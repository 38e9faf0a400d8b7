-- The loop that follows waiting from the last state found: what holds at each turn, at its start and at its end.
use mathlib.Core.Path.{◌≡◌, refl, sym, ◌∙◌, ap, subst}
use mathlib.Core.Bool.{false}
use mathlib.Core.List.{List, []}
use Prim.Native.Nat.{ℕ, suc, ◌+◌, ◌-◌, ◌*◌, ◌/◌, ◌%◌, ◌≤◌, ◌<◌}
use native.Mathlib.Omega.{arith}
use native.Mathlib.Numerals.{add-one}
use lib.ListN.{length}
use Rattle.model.specs.declared.Built.{Built}
use Rattle.model.specs.Inclusion.{joint_count}
use Rattle.model.specs.JointStates.{waits}
use Rattle.inclusion.specs.Numbers.{packed, first_state, second_state, bare}
use Rattle.inclusion.specs.Graphs.{Graph}
use Rattle.inclusion.specs.Parts.{ways, level_marks, most_mark, low, high, noted, Laid, Keeps}
use Rattle.inclusion.specs.Scans.{Placed, Scan, Next, waiting, WaitsAs, Extends}
use Rattle.inclusion.proofs.Parts.{noted_length, tail_below, Noting, Grown, noted_grown, grown_laid, grown_keeps}
use Rattle.inclusion.proofs.Parts.{keeps_same, keeps_on}
use Rattle.inclusion.proofs.Scanning.{grown_scan, grown_level_new, grown_level_old, close_scan, close_level}
use Rattle.inclusion.proofs.Scanning.{close_last}

abbrev waited_on : Built → Built → ℕ → ℕ
waited_on a b x = packed a b (waits (bare a []) (first_state a b x)) (waits (bare b []) (second_state a b x))

-- the scan, its last state at place `at` not followed, and the state x that waiting leads to from it
pub record Along (g : Graph) (s : List ℕ) (at from m mark x : ℕ) : Type 0 where
  pub scan : Scan g s (suc at) at from m
  pub next_is : x ≡ g.waits_to (low s at)
  pub no_goal : g.goal (low s at) ≡ false
  pub mark_is : mark ≡ 1 + ways * (scan.level at % level_marks)

pub record Following (a b : Built) (s₀ : List ℕ) (last mark : ℕ) (s : List ℕ) (at x : ℕ) : Type 0 where
  pub size_is : length s ≡ joint_count a b
  pub state_below : x < length s
  pub laid : Laid s (suc at)
  pub keeps : Keeps s₀ (suc last) s
  pub later : last ≤ at
  pub mark_some : 1 ≤ mark
  pub mark_most : mark ≤ most_mark
  pub scans :
      (g : Graph) (from m : ℕ) → WaitsAs a b (length s₀) g → from ≤ last → Scan g s₀ (suc last) last from m
      → g.goal (low s₀ last) ≡ false
      → Along g s at from m mark x

pub following_start :
    (a b : Built) (s : List ℕ) (last state mark x : ℕ) → length s ≡ joint_count a b → Laid s (suc last)
    → state ≡ low s last
    → mark ≡ 1 + ways * ((high s state - 1) / ways)
    → x ≡ waited_on a b (low s last)
    → x < joint_count a b
    → Following a b s last mark s last x
following_start a b s last state mark x e l f u v w =
    let q : high s state ≤ most_mark = l.marks_most state in
    record {
      size_is = e;
      state_below = omega (arith, e, w);
      laid = l;
      keeps = keeps_same s (suc last);
      later = omega arith;
      mark_some = omega (arith, u);
      mark_most = omega (arith, u, q);
      scans = λ g from m k b z o. record {
        scan = z;
        next_is = v ∙ sym (k.waits_is (low s last) (l.states_below last (omega arith)));
        no_goal = o;
        mark_is =
            let d : (high s (low s last) - 1) / ways ≡ z.level last % level_marks =
            z.level_mark_lem last (omega arith) in
            let c : (high s state - 1) / ways ≡ (high s (low s last) - 1) / ways =
            ap (λ (y : ℕ). (high s y - 1) / ways) f in
            omega (arith, u, d, c);
      };
    }

along_next :
    {a b : Built} {g : Graph} {s s' : List ℕ} {at from m mark x : ℕ} (n : ℕ) → WaitsAs a b n g → length s ≡ n
    → from ≤ at
    → Along g s at from m mark x
    → x < length s
    → high s x ≡ 0
    → Grown s (suc at) x mark s'
    → (x' : ℕ) → x' ≡ waited_on a b x → Along g s' (suc at) from m mark x'
along_next {a} {b} {g} {s} {s'} {at} {from} {m} {mark} {x} n k e f w h z r x' v =
    with_scan (grown_scan w.scan s' x mark (w.scan.level at) r h z nx)
    (grown_level_new w.scan s' x mark (w.scan.level at) r h z nx)
    (grown_level_old w.scan s' x mark (w.scan.level at) r h z nx at (omega arith))
  where
    nx : Next g s w.scan.level (suc at) from x mark (w.scan.level at)
    nx = waiting at refl (omega (arith, f)) w.next_is refl w.mark_is

    with_scan :
        (y : Scan g s' (suc (suc at)) at from m) → y.level (suc at) ≡ w.scan.level at
        → y.level at ≡ w.scan.level at
        → Along g s' (suc at) from m mark x'
    with_scan y c d =
        let o : g.goal (low s' at) ≡ false = ap g.goal (r.low_old at (omega arith)) ∙ w.no_goal in
        let q : at < suc (suc at) = omega arith in
        let p : Placed s' (suc (suc at)) y.level (g.waits_to (low s' at)) (y.level at) =
        record {
          place = suc at;
          below = omega arith;
          state_is = r.low_new ∙ w.next_is ∙ ap g.waits_to (sym (r.low_old at (omega arith)));
          level_most = omega (arith, c, d);
        } in
        record {
          scan = close_scan y q p o;
          next_is = v ∙ sym (k.waits_is x (omega (arith, e, h))) ∙ ap g.waits_to (sym r.low_new);
          no_goal =
              ap g.goal r.low_new ∙ ap g.goal w.next_is
              ∙ k.waits_goal (low s at) (omega (arith, e, w.scan.laid.states_below at (omega arith)))
              ∙ w.no_goal;
          mark_is = w.mark_is ∙ ap (λ (i : ℕ). 1 + ways * (i % level_marks)) (sym (close_level y q p o (suc at) ∙ c));
        }

module _
    {a b : Built} {s₀ : List ℕ} {last mark : ℕ} {s : List ℕ} {at x : ℕ} (w : Following a b s₀ last mark s at x)
  where
    pub laid_next : Laid s (at + 1)
    laid_next = subst (λ (n : ℕ). Laid s n) (sym (add-one at)) w.laid

    -- fewer places are left at each turn
    pub following_less :
        high s x ≡ 0 → (s' : List ℕ) → s' ≡ noted s (at + 1) x mark → length s' - (at + 1) < length s - at
    following_less z s' e =
        omega (arith, tail_below w.laid x w.state_below z, ap length e, noted_length s (at + 1) x mark)

    -- the loop goes on from a state that waiting leads to and that was not found
    pub following_next :
        high s x ≡ 0 → (s' : List ℕ) → s' ≡ noted s (at + 1) x mark → (x' : ℕ) → x' ≡ waited_on a b x
        → x' < joint_count a b
        → Following a b s₀ last mark s' (at + 1) x'
    following_next z s' e x' v q =
        subst (λ (n : ℕ). Following a b s₀ last mark s' n x') (sym (add-one at)) (record {
          size_is = r.length_is ∙ w.size_is;
          state_below = omega (arith, r.length_is, w.size_is, q);
          laid = grown_laid noting r;
          keeps = keeps_on (omega (arith, w.later)) w.keeps (grown_keeps w.laid z r);
          later = omega (arith, w.later);
          mark_some = w.mark_some;
          mark_most = w.mark_most;
          scans = λ g from m k f y o.
              along_next (length s₀) k w.keeps.same_length (omega (arith, f, w.later))
              (w.scans g from m k f y o)
              w.state_below
              z
              r
              x'
              v;
        })
      where
        noting : Noting s (suc at) x mark
        noting = record {
          laid = w.laid;
          state_below = w.state_below;
          not_found = z;
          mark_some = w.mark_some;
          mark_most = w.mark_most;
        }

        r : Grown s (suc at) x mark s'
        r = noted_grown noting s' (e ∙ ap (λ (n : ℕ). noted s n x mark) (add-one at))

    pub following_end : 1 ≤ high s x → Extends a b s₀ last s (at + 1)
    following_end z =
        subst (λ (n : ℕ). Extends a b s₀ last s n) (sym (add-one at)) (record {
          laid = w.laid;
          keeps = w.keeps;
          later = omega (arith, w.later);
          scans = λ g from m k f y o.
              let l : Along g s at from m mark x = w.scans g from m k f y o in
              close_last l.scan (subst (λ (i : ℕ). 1 ≤ high s i) l.next_is z) l.no_goal;
        })
