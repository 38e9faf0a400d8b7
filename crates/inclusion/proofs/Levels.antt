-- Levels read off a scratch: they rise one at a time, so counting the changes of the mark counts the events.
use mathlib.Core.Path.{◌≡◌, sym, ◌∙◌, ap, subst}
use mathlib.Core.List.{List}
use Prim.Native.Nat.{ℕ, suc, ◌+◌, ◌-◌, ◌/◌, ◌%◌, ◌≤◌, ◌<◌}
use native.Mathlib.Omega.{arith}
use native.Mathlib.Numerals.{add-one}
use lib.ListN.{length}
use Rattle.model.proofs.Logic.{Cmp, is_lt, is_eq, is_gt, cmp}
use Rattle.inclusion.specs.Graphs.{Graph}
use Rattle.inclusion.specs.Parts.{low, high, level_mark, ways, level_marks}
use Rattle.inclusion.specs.Scans.{Came, began, waited, taken}
use Rattle.inclusion.specs.Trails.{Standing, Trail}

-- a mark as the program reads it
pub mark_some : (s : List ℕ) (k x m : ℕ) → x ≡ low s k → m ≡ high s x → 1 ≤ high s (low s k) → 1 ≤ m
mark_some s k x m e f h = omega (arith, f, ap (high s) e, h)

pub mark_is : (s : List ℕ) (k x m : ℕ) → x ≡ low s k → m ≡ high s x → (m - 1) / ways ≡ level_mark s (low s k)
mark_is s k x m e f = ap (λ (v : ℕ). (v - 1) / ways) (f ∙ ap (high s) e)

-- a place below the count
pub standing_at :
    {s : List ℕ} {n : ℕ} → Standing s n → (k : ℕ) → k < n
    → (k < length s) × (low s k < length s) × (1 ≤ high s (low s k))
standing_at w k h = (omega (arith, w.short, h), w.states_below k h, w.marked k h)

pub standing_less : {s : List ℕ} {n m : ℕ} → Standing s n → m ≤ n → Standing s m
standing_less w h = record {
  short = omega (arith, w.short, h);
  states_below = λ k b. w.states_below k (omega (arith, b, h));
  marked = λ k b. w.marked k (omega (arith, b, h));
}

-- the start is at place 0, at level 0; one place further the level is the same or one more
pub came_first : {g : Graph} {s : List ℕ} {level : ℕ → ℕ} → Came g s level 0 → (level 0 ≡ 0) × (low s 0 ≡ 0)
came_first (began e f u) = (u, f)
came_first (waited j e f u v) = absurd (omega (arith, e))
came_first (taken a p q u f v i) = absurd (omega (arith, q))

pub level_first : {g : Graph} {s : List ℕ} {last n : ℕ} (w : Trail g s last n) → (w.level 0 ≡ 0) × (low s 0 ≡ 0)
level_first w = came_first (w.came 0 (omega arith))

level_near :
    {g : Graph} {s : List ℕ} {last n : ℕ} (w : Trail g s last n) (k : ℕ) → k < last
    → (w.level k ≤ w.level (suc k)) × (w.level (suc k) ≤ suc (w.level k))
level_near {g} {s} {last} w k h =
    (w.rising k (suc k) (omega arith) (omega arith), by_came (w.came (suc k) (omega arith)))
  where
    by_came : Came g s w.level (suc k) → w.level (suc k) ≤ suc (w.level k)
    by_came (began e f u) = absurd (omega (arith, e))
    by_came (waited j e f u v) =
        let i : j ≡ k = omega (arith, e) in
        omega (arith, u, ap w.level i)
    by_came (taken a p q u f v i) = omega (arith, v, w.rising p k (omega (arith, q)) (omega (arith, h)))

-- the count is the level of place k
pub record Counting (s : List ℕ) (last n k : ℕ) : Type 0 where
  pub place_most : k ≤ last
  pub count_most : n ≤ k
  pub level_is : (g : Graph) (e : ℕ) (w : Trail g s last e) → n ≡ w.level k

pub counting_start : (s : List ℕ) (last : ℕ) → Counting s last 0 0
counting_start s last = record {
  place_most = omega arith;
  count_most = omega arith;
  level_is = λ g e w. sym (level_first w).0;
}

module _
    {s : List ℕ} {last n k : ℕ} (w : Counting s last n k) (h : k < last) (here next : ℕ)
    (a : here ≡ level_mark s (low s k))
    (b : next ≡ level_mark s (low s (k + 1)))
  where
    -- the two levels as the trail has them
    record Levels (m m' m'' : ℕ) : Type 0 where
      count_is : n ≡ m
      here_is : here ≡ m % level_marks
      next_is : next ≡ m' % level_marks
      rises : m ≤ m'
      by_one : m' ≤ suc m
      same : m'' ≡ m'

    levels : {g : Graph} {e : ℕ} (y : Trail g s last e) → Levels (y.level k) (y.level (suc k)) (y.level (k + 1))
    levels {g} {e} y =
        let l = level_near y k h in
        let at_next = b ∙ ap (λ (v : ℕ). level_mark s (low s v)) (add-one k) in
        record {
          count_is = w.level_is g e y;
          here_is = a ∙ y.level_mark_lem k (omega (arith, h));
          next_is = at_next ∙ y.level_mark_lem (suc k) (omega (arith, h));
          rises = l.0;
          by_one = l.1;
          same = ap y.level (add-one k);
        }

    -- the marks differ: one level more
    risen : {m m' m'' : ℕ} → Levels m m' m'' → (here ≡ next → ⊥) → n + 1 ≡ m''
    risen {m} {m'} {m''} v d = by_cmp (cmp m m')
      where
        by_cmp : Cmp m m' → n + 1 ≡ m''
        by_cmp (is_lt z) = omega (arith, z, v.by_one, v.count_is, v.same)
        by_cmp (is_eq z) = absurd (d (v.here_is ∙ ap (λ (o : ℕ). o % level_marks) z ∙ sym v.next_is))
        by_cmp (is_gt z) = absurd (omega (arith, z, v.rises))

    pub counting_more : (here ≡ next → ⊥) → Counting s last (n + 1) (k + 1)
    counting_more d = record {
      place_most = omega (arith, h);
      count_most = omega (arith, w.count_most);
      level_is = λ g e y. risen (levels y) d;
    }

    -- they do not: the same level
    stayed : {m m' m'' : ℕ} → Levels m m' m'' → here ≡ next → n ≡ m''
    stayed v d = omega (arith, v.count_is, v.here_is, v.next_is, v.rises, v.by_one, v.same, d)

    pub counting_same : here ≡ next → Counting s last n (k + 1)
    counting_same d = record {
      place_most = omega (arith, h);
      count_most = omega (arith, w.count_most);
      level_is = λ g e y. stayed (levels y) d;
    }

pub counting_end :
    {s : List ℕ} {last n k : ℕ} → Counting s last n k → last ≤ k
    → (n ≤ last) × ((g : Graph) (e : ℕ) → Trail g s last e → n ≡ e)
counting_end {s} {last} {n} {k} w h = (
  omega (arith, w.count_most, w.place_most),
  λ g e y.
      let i : k ≡ last = omega (arith, h, w.place_most) in
      w.level_is g e y ∙ ap y.level i ∙ y.level_is,
)

pub counting_to : {s : List ℕ} {last n n' k : ℕ} → n' ≡ n → Counting s last n k → Counting s last n' k
counting_to {s} {last} {n} {n'} {k} e w = subst (λ (m : ℕ). Counting s last m k) (sym e) w
