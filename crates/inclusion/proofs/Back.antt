-- The loop that goes back from the goal, one wait or one event at a turn.
use mathlib.Core.Path.{◌≡◌, refl, sym, ◌∙◌, ap, ap₂, subst}
use mathlib.Core.Bool.{true}
use mathlib.Core.List.{List, [], ◌∷◌}
use Prim.Native.Nat.{ℕ, zero, suc, ◌+◌, ◌-◌, ◌/◌, ◌%◌, ◌≤◌, ◌<◌}
use native.Mathlib.Omega.{arith}
use native.Mathlib.Numerals.{add-one}
use lib.Dec.{ltb}
use lib.ListN.{length, get_or, set, drop, length-set}
use lib.Seq.{drop-cons, drop-set-lt, drop-length, lt-length-set, get_or-set_same, get_or-set_other}
use borrow.Author.Tests.{lt-ltb}
use Rattle.model.specs.Basics.{all_below, zeros}
use Rattle.model.proofs.Logic.{Cmp, is_lt, is_eq, is_gt, cmp, Two, less, least, two, and_both, zeros_at}
use Rattle.inclusion.specs.Graphs.{Graph}
use Rattle.inclusion.specs.Parts.{low, high, level_mark, way, level_marks, ways}
use Rattle.inclusion.specs.Scans.{Came, began, waited, taken}
use Rattle.inclusion.specs.Trails.{Trail, Source, Nearest, waits_on, led_by, sum_of, Retraced}
use Rattle.inclusion.proofs.Levels.{level_first}

-- the mark of the level before; the way and the symbol that a mark of the scratch names
abbrev mark_before : ℕ → ℕ
mark_before m = (m + (level_marks - 1)) % level_marks

abbrev how_of : ℕ → ℕ
how_of m = (m - 1) % ways

abbrev symbol_of : ℕ → ℕ
symbol_of m = how_of m - 1

-- back at place k, the symbols and pauses behind `left` lead from its state to the last one
pub record Retracing (g : Graph) (s : List ℕ) (last events : ℕ) (symbols stamps : List ℕ) (k left : ℕ) : Type 0 where
  pub trail : Trail g s last events
  pub place_most : k ≤ last
  pub level_is : trail.level k ≡ left
  pub left_most : left ≤ events
  pub symbols_length : length symbols ≡ events
  pub stamps_length : length stamps ≡ events
  pub zero_below : (i : ℕ) → i < left → get_or stamps i 0 ≡ 0
  pub path : led_by g (drop left symbols) (drop left stamps) (low s k) ≡ low s last
  pub total : sum_of (drop left stamps) + k ≤ last
  pub inside : all_below g.symbols (drop left symbols) ≡ true
  pub near : left ≡ events → k ≡ last
  pub last_way : 1 ≤ last → 1 ≤ way s (low s last)

pub retracing_start :
    (g : Graph) (s : List ℕ) (last : ℕ) (symbols stamps : List ℕ) → Trail g s last (length symbols)
    → length stamps ≡ length symbols
    → stamps ≡ zeros (length stamps)
    → (1 ≤ last → 1 ≤ way s (low s last))
    → Retracing g s last (length symbols) symbols stamps last (length symbols)
retracing_start g s last symbols stamps w e z h =
    let d : drop (length symbols) symbols ≡ [] = drop-length symbols in
    let f : drop (length symbols) stamps ≡ [] = ap (λ (n : ℕ). drop n stamps) (sym e) ∙ drop-length stamps in
    record {
      trail = w;
      place_most = omega arith;
      level_is = w.level_is;
      left_most = omega arith;
      symbols_length = refl;
      stamps_length = e;
      zero_below = λ i b. ap (λ (l : List ℕ). get_or l i 0) z ∙ zeros_at (length stamps) i;
      path = rw d;
      total = rw f (omega arith);
      inside = rw d;
      near = λ i. refl;
      last_way = h;
    }

-- the level mark one level back
one_back : (level m n n' : ℕ) → level ≡ mark_before m → m ≡ n' % level_marks → n' ≡ suc n → n % level_marks ≡ level
one_back level m n n' e u i = omega (arith, e, u, i)

-- a list from the place that was written
drop_set : (l : List ℕ) (i v : ℕ) → i < length l → drop i (set l i v) ≡ v ∷ drop (suc i) l
drop_set l i v h =
    drop-cons (set l i v) i 0 (lt-length-set l i v h)
    ∙ ap₂ (λ (y : ℕ) (m : List ℕ). y ∷ m) (get_or-set_same l i v 0 h) (drop-set-lt (suc i) l i v (omega arith))

-- the wait before place k
record Waited (g : Graph) (s : List ℕ) (level : ℕ → ℕ) (k : ℕ) : Type 0 where
  j : ℕ
  next : k ≡ suc j
  state_is : low s k ≡ g.waits_to (low s j)
  level_is : level k ≡ level j

-- the event before place k
record Took (g : Graph) (s : List ℕ) (level : ℕ → ℕ) (k a : ℕ) : Type 0 where
  p : ℕ
  below : p < k
  symbol_in : a < g.symbols
  state_is : low s k ≡ g.takes_to a (low s p)
  level_is : level k ≡ suc (level p)

module _
    {g : Graph} {s : List ℕ} {last events : ℕ} {symbols stamps : List ℕ} {k left : ℕ}
    (w : Retracing g s last events symbols stamps k left)
    (h : 0 < k)
  where
    abbrev level : ℕ → ℕ
    level = w.trail.level

    was_waited : way s (low s k) ≡ 0 → Waited g s level k
    was_waited z = by_came (w.trail.came k (omega (arith, w.place_most)))
      where
        by_came : Came g s level k → Waited g s level k
        by_came (began e f u) = absurd (omega (arith, e, h))
        by_came (waited j e f u v) = record { j = j; next = e; state_is = f; level_is = u }
        by_came (taken a p q u f v i) = absurd (omega (arith, i, z))

    was_taken : (a : ℕ) → way s (low s k) ≡ suc a → Took g s level k a
    was_taken a z = by_came (w.trail.came k (omega (arith, w.place_most)))
      where
        by_came : Came g s level k → Took g s level k a
        by_came (began e f u) = absurd (omega (arith, e, h))
        by_came (waited j e f u v) = absurd (omega (arith, v, z))
        by_came (taken b p q u f v i) =
            let c : b ≡ a = omega (arith, i, z) in
            record {
              p = p;
              below = q;
              symbol_in = omega (arith, u, c);
              state_is = f ∙ ap (λ (y : ℕ). g.takes_to y (low s p)) c;
              level_is = v;
            }

    -- a wait: there is an event after it, whose pause is one more
    abbrev paused : List ℕ
    paused = set stamps left (get_or stamps left 0 + 1)

    left_below : way s (low s k) ≡ 0 → left < events
    left_below z = by_cmp (cmp left events)
      where
        by_cmp : Cmp left events → left < events
        by_cmp (is_lt b) = b
        by_cmp (is_eq b) =
            let e : k ≡ last = w.near b in
            let l : 1 ≤ way s (low s last) = w.last_way (omega (arith, e, h)) in
            let v : way s (low s k) ≡ way s (low s last) = ap (λ (y : ℕ). way s (low s y)) e in
            absurd (omega (arith, l, v, z))
        by_cmp (is_gt b) = absurd (omega (arith, b, w.left_most))

    pause_split : left < events → drop left stamps ≡ get_or stamps left 0 ∷ drop (suc left) stamps
    pause_split b = drop-cons stamps left 0 (omega (arith, w.stamps_length, b))

    wait_back : way s (low s k) ≡ 0 → Retracing g s last events symbols paused (k - 1) left
    wait_back z =
        let q = was_waited z in
        let b : left < events = left_below z in
        let i : k - 1 ≡ q.j = omega (arith, q.next) in
        let d : drop left stamps ≡ get_or stamps left 0 ∷ drop (suc left) stamps = pause_split b in
        let d' : drop left paused ≡ (get_or stamps left 0 + 1) ∷ drop (suc left) stamps =
        drop_set stamps left (get_or stamps left 0 + 1) (omega (arith, w.stamps_length, b)) in
        let x : drop left symbols ≡ get_or symbols left 0 ∷ drop (suc left) symbols =
        drop-cons symbols left 0 (omega (arith, w.symbols_length, b)) in
        record {
          trail = w.trail;
          place_most = omega (arith, w.place_most);
          level_is = ap level i ∙ sym q.level_is ∙ w.level_is;
          left_most = w.left_most;
          symbols_length = w.symbols_length;
          stamps_length = length-set stamps left (get_or stamps left 0 + 1) ∙ w.stamps_length;
          zero_below = λ m o.
              get_or-set_other stamps left m (get_or stamps left 0 + 1) 0 (λ r. absurd (omega (arith, r, o)))
              ∙ w.zero_below m o;
          path =
              earlier (get_or symbols left 0) (drop (suc left) symbols) (get_or stamps left 0) (drop (suc left) stamps)
              x d d' q.j (ap (low s) i) q.state_is;
          total = omega (arith, ap sum_of d', ap sum_of d, w.total, h);
          inside = w.inside;
          near = λ r. absurd (omega (arith, r, b));
          last_way = w.last_way;
        }
      where
        earlier :
            (a : ℕ) (xs : List ℕ) (p : ℕ) (ps : List ℕ) → drop left symbols ≡ a ∷ xs → drop left stamps ≡ p ∷ ps
            → drop left paused ≡ (p + 1) ∷ ps
            → (j : ℕ) → low s (k - 1) ≡ low s j → low s k ≡ g.waits_to (low s j)
            → led_by g (drop left symbols) (drop left paused) (low s (k - 1)) ≡ low s last
        earlier a xs p ps x d d' j i v =
            let y : led_by g (a ∷ xs) (p ∷ ps) (low s k) ≡ low s last =
            ap₂ (λ (l m : List ℕ). led_by g l m (low s k)) (sym x) (sym d) ∙ w.path in
            ap₂ (λ (l m : List ℕ). led_by g l m (low s (k - 1))) x d'
            ∙ ap (λ (m : ℕ). led_by g xs ps (g.takes_to a (waits_on g m (low s (k - 1))))) (add-one p)
            ∙ ap (λ (m : ℕ). led_by g xs ps (g.takes_to a (waits_on g p m))) (ap g.waits_to i ∙ sym v)
            ∙ y

    -- an event
    module _ (a mark : ℕ) (z : way s (low s k) ≡ suc a) (e : mark ≡ mark_before (level_mark s (low s k))) where
      took : Took g s level k a
      took = was_taken a z

      level_mark_lem : (j : ℕ) → j ≤ k → level_mark s (low s j) ≡ level j % level_marks
      level_mark_lem j b = w.trail.level_mark_lem j (omega (arith, b, w.place_most))

      level_before : level took.p % level_marks ≡ mark
      level_before =
          one_back mark (level_mark s (low s k)) (level took.p) (level k) e (level_mark_lem k (omega arith))
          took.level_is

      mark_before_lem : level_mark s (low s took.p) ≡ mark
      mark_before_lem = level_mark_lem took.p (omega (arith, took.below)) ∙ level_before

      left_some : 1 ≤ left
      left_some = omega (arith, took.level_is, w.level_is)

      event_source : Source g s k (low s k) a mark
      event_source = record {
        from = took.p;
        below = took.below;
        level_is = mark_before_lem;
        takes_is = sym took.state_is;
      }

      event_back :
          (r l : ℕ) → Nearest g s k (low s k) a mark r → left ≡ suc l
          → Retracing g s last events (set symbols l a) stamps r l
      event_back r l o i =
          let m : took.p ≤ r = no_nearer (two r took.p) in
          let b : level took.p ≤ level r = w.trail.rising took.p r m (omega (arith, o.below, w.place_most)) in
          let d : level r ≤ level k = w.trail.rising r k (omega (arith, o.below)) (omega (arith, w.place_most)) in
          let t : level r % level_marks ≡ mark = sym (level_mark_lem r (omega (arith, o.below))) ∙ o.level_is in
          let x : drop l (set symbols l a) ≡ a ∷ drop left symbols =
          drop_set symbols l a (omega (arith, w.symbols_length, w.left_most, i))
          ∙ ap (λ (n : ℕ). a ∷ drop n symbols) (sym i) in
          let y : drop l stamps ≡ 0 ∷ drop left stamps =
          drop-cons stamps l 0 (omega (arith, w.stamps_length, w.left_most, i))
          ∙ ap₂ (λ (v n : ℕ). v ∷ drop n stamps) (w.zero_below l (omega (arith, i))) (sym i) in
          record {
            trail = w.trail;
            place_most = omega (arith, o.below, w.place_most);
            level_is =
                the_level (level r) (level took.p) (level k) b d t level_before took.level_is w.level_is;
            left_most = omega (arith, w.left_most, i);
            symbols_length = length-set symbols l a ∙ w.symbols_length;
            stamps_length = w.stamps_length;
            zero_below = λ j h. w.zero_below j (omega (arith, h, i));
            path =
                ap₂ (λ (b c : List ℕ). led_by g b c (low s r)) x y
                ∙ ap (led_by g (drop left symbols) (drop left stamps)) o.takes_is
                ∙ w.path;
            total = omega (arith, ap sum_of y, w.total, o.below);
            inside =
                ap (all_below g.symbols) x
                ∙ and_both (ltb a g.symbols) (all_below g.symbols (drop left symbols))
                (lt-ltb a g.symbols took.symbol_in) w.inside;
            near = λ j. absurd (omega (arith, j, i, w.left_most));
            last_way = w.last_way;
          }
        where
          no_nearer : Two r took.p → took.p ≤ r
          no_nearer (less b) =
              absurd (o.none_nearer took.p b took.below mark_before_lem (sym took.state_is))
          no_nearer (least b) = b

          the_level :
              (n m n' : ℕ) → m ≤ n → n ≤ n' → n % level_marks ≡ mark → m % level_marks ≡ mark → n' ≡ suc m
              → n' ≡ left
              → n ≡ l
          the_level n m n' b d t c q v = omega (arith, b, d, t, c, q, v, i)

pub retracing_end :
    {g : Graph} {s : List ℕ} {last events : ℕ} {symbols stamps : List ℕ} {k left : ℕ}
    → Retracing g s last events symbols stamps k left
    → k ≤ 0
    → Retraced g s last symbols stamps
retracing_end {g} {s} {last} {events} {symbols} {stamps} {k} {left} w h =
    let e : k ≡ 0 = omega (arith, h) in
    let z = level_first w.trail in
    let f : left ≡ 0 = sym w.level_is ∙ ap w.trail.level e ∙ z.0 in
    let p : led_by g (drop left symbols) (drop left stamps) (low s k) ≡ led_by g symbols stamps 0 =
    ap₂ (λ (m n : ℕ). led_by g (drop m symbols) (drop m stamps) n) f (ap (low s) e ∙ z.1) in
    record {
      path = sym p ∙ w.path;
      total = omega (arith, w.total, ap (λ (m : ℕ). sum_of (drop m stamps)) f);
      inside = ap (λ (m : ℕ). all_below g.symbols (drop m symbols)) (sym f) ∙ w.inside;
    }

-- what the program reads at place k: the state x there and its mark m
pub record Read
    (g : Graph) (s : List ℕ) (last events : ℕ) (symbols stamps : List ℕ) (k left x m : ℕ) : Type 0 where
  pub retracing : Retracing g s last events symbols stamps k left
  pub some : 0 < k
  pub state_is : x ≡ low s k
  pub mark_is : m ≡ high s x

module _
    {g : Graph} {s : List ℕ} {last events : ℕ} {symbols stamps : List ℕ} {k left x m : ℕ}
    (v : Read g s last events symbols stamps k left x m)
  where
    abbrev w : Retracing g s last events symbols stamps k left
    w = v.retracing

    same_mark : m ≡ high s (low s k)
    same_mark = v.mark_is ∙ ap (high s) v.state_is

    pub read_some : 1 ≤ m
    read_some = omega (arith, same_mark, w.trail.standing.marked k (omega (arith, w.place_most)))

    -- it is a wait
    module _ (z : how_of m ≡ 0) where
      is_wait : way s (low s k) ≡ 0
      is_wait = ap how_of (sym same_mark) ∙ z

      pub pause_in : left < length stamps
      pause_in = omega (arith, left_below w v.some is_wait, w.stamps_length)

      pub pause_small : get_or stamps left 0 ≤ last
      pause_small = omega (arith, w.total, ap sum_of (pause_split w v.some (left_below w v.some is_wait)))

      pub back_wait : Retracing g s last events symbols (set stamps left (get_or stamps left 0 + 1)) (k - 1) left
      back_wait = wait_back w v.some is_wait

    -- it is an event
    module _ (z : how_of m ≡ 0 → ⊥) where
      is_event : way s (low s k) ≡ suc (symbol_of m)
      is_event = ap how_of (sym same_mark) ∙ up (how_of m) z
        where
          up : (n : ℕ) → (n ≡ 0 → ⊥) → n ≡ suc (n - 1)
          up zero z = absurd (z refl)
          up (suc n) z = omega arith

      level_read : mark_before ((m - 1) / ways) ≡ mark_before (level_mark s (low s k))
      level_read = ap (λ (n : ℕ). mark_before ((n - 1) / ways)) same_mark

      pub symbol_known : symbol_of m < g.symbols
      symbol_known = (was_taken w v.some (symbol_of m) is_event).symbol_in

      pub event_left : 1 ≤ left
      event_left = left_some w v.some (symbol_of m) (mark_before ((m - 1) / ways)) is_event level_read

      pub symbol_in : left - 1 < length symbols
      symbol_in = omega (arith, event_left, w.left_most, w.symbols_length)

      pub source_read : Source g s k x (symbol_of m) (mark_before ((m - 1) / ways))
      source_read =
          subst (λ (y : ℕ). Source g s k y (symbol_of m) (mark_before ((m - 1) / ways))) (sym v.state_is)
          (event_source w v.some (symbol_of m) (mark_before ((m - 1) / ways)) is_event level_read)

      pub back_event :
          (r : ℕ) → Nearest g s k x (symbol_of m) (mark_before ((m - 1) / ways)) r
          → Retracing g s last events (set symbols (left - 1) (symbol_of m)) stamps r (left - 1)
      back_event r n =
          event_back w v.some (symbol_of m) (mark_before ((m - 1) / ways)) is_event level_read r (left - 1)
          (subst (λ (y : ℕ). Nearest g s k y (symbol_of m) (mark_before ((m - 1) / ways)) r) v.state_is n)
          (omega (arith, event_left))
