-- The least run edge by edge: what the edges passed and those still to try give together.
use Rattle.std.specs.Prelude.{Some, None}
use mathlib.Core.Path.{◌≡◌, refl, sym, ◌∙◌, ap, ap₂}
use mathlib.Core.Bool.{Bool, true, false}
use mathlib.Core.List.{List, [], ◌∷◌, ◌++◌}
use Prim.Native.Nat.{ℕ, zero, suc, ◌+◌, ◌-◌, ◌*◌, ◌^◌, ◌≤◌, ◌<◌}
use native.Mathlib.Omega.{arith}
use native.Mathlib.Numerals.{add-one}
use lib.ListN.{length, get_or, set, take, drop, length-replicate, replicate-append-replicate}
use lib.Seq.{set_at}
use Rattle.model.specs.declared.Head.{Head}
use Rattle.model.specs.Basics.{pick, is_in, zeros, filled}
use Rattle.model.specs.Rules.{Edge}
use Rattle.model.specs.Words.{most_branch_events, events_of}
use Rattle.model.specs.Runs.{zeroed, Path, path, no_path, least_edge, least_from}
use Rattle.model.specs.Layout.{edge_width, edge_at, edges_in, locations_in, rule_in}
use Rattle.model.proofs.EdgeTable.{edges_rest}
use Rattle.model.proofs.Events.{event_at, events_rest, events_end}
use Rattle.model.proofs.Inputs.{ordered_rest}
use Rattle.model.proofs.Ages.{AtMost, older_most, zeroed_most}
use Rattle.ages.specs.declared.Configuration.{Configuration}
use Rattle.ages.specs.Ages.{numbers_of, ages_of, takes, Waited, Moved}
use Rattle.ages.proofs.Laws.{read_ages}
use Rattle.ages.proofs.Moves.{waited_until, moved_ages}
use Rattle.edges.specs.declared.StoredEdge.{StoredEdge}
use Rattle.edges.specs.Views.{edge_of}
use Rattle.branch.specs.Branches.{placed, least_at, Ready}

zeros_then : (k : ℕ) (xs : List ℕ) → zeros k ++ (0 ∷ xs) ≡ zeros (suc k) ++ xs
zeros_then zero xs = refl
zeros_then (suc k) xs = ap (λ (l : List ℕ). 0 ∷ l) (zeros_then k xs)

-- edge e at place `depth`, before a run from the next place on
edge_before :
    (depth after e : ℕ) (xs : List ℕ) → depth < most_branch_events → after ≡ depth + 1
    → set (zeros after ++ filled (most_branch_events - after) xs) depth e
    ≡ zeros depth ++ filled (most_branch_events - depth) (e ∷ xs)
edge_before depth after e xs h a =
    let k : most_branch_events - suc depth - length xs ≡ most_branch_events - depth - suc (length xs) = omega arith in
    rw (a ∙ add-one depth)
    (ap (λ (l : List ℕ). set l depth e) (sym (zeros_then depth (filled (most_branch_events - suc depth) xs)))
    ∙ (set_at (zeros depth) 0 (filled (most_branch_events - suc depth) xs) e depth (length-replicate depth 0)
    ∙ ap (λ (j : ℕ). zeros depth ++ (e ∷ (xs ++ zeros j))) k))

-- with no events left
pub at_end_lem :
    (head : Head) (edges : List ℕ) (d : ℕ) (symbols stamps : List ℕ) (depth last : ℕ) (from : Configuration)
    → length symbols ≤ depth
    → least_at head edges d symbols stamps depth last from ≡ path (is_in from.location (locations_in head.ends)) 0 []
unfolding least_from rule_in
at_end_lem head edges d symbols stamps depth last from h = rw (events_end symbols stamps depth h)

pub end_found :
    (head : Head) (edges : List ℕ) (d : ℕ) (symbols stamps : List ℕ) (depth last : ℕ) (from : Configuration) (t : Bool)
    → Ready head symbols stamps depth last from
    → length symbols ≤ depth
    → t ≡ is_in from.location (locations_in head.ends)
    → t ≡ true
    → Some (zeros most_branch_events) ≡ placed depth (least_at head edges d symbols stamps depth last from)
end_found head edges d symbols stamps depth last from t ready h f y =
    let n : depth + (most_branch_events - depth - 0) ≡ most_branch_events =
    omega (arith, ready.depth_in, ready.events_most) in
    let z : zeros depth ++ filled (most_branch_events - depth) [] ≡ zeros most_branch_events =
    replicate-append-replicate depth (most_branch_events - depth - 0) 0 ∙ ap (λ (j : ℕ). zeros j) n in
    rw (at_end_lem head edges d symbols stamps depth last from h, sym f ∙ y, z)

pub end_none :
    (head : Head) (edges : List ℕ) (d : ℕ) (symbols stamps : List ℕ) (depth last : ℕ) (from : Configuration) (t : Bool)
    → length symbols ≤ depth
    → t ≡ is_in from.location (locations_in head.ends)
    → t ≡ false
    → None ≡ placed depth (least_at head edges d symbols stamps depth last from)
end_none head edges d symbols stamps depth last from t h f y =
    rw (at_end_lem head edges d symbols stamps depth last from h, sym f ∙ y)

-- a run in its places, by whether there is one
pub placed_none : (depth : ℕ) (p : Path) (t : Bool) → p.found ≡ t → None ≡ placed depth p → t ≡ false
placed_none depth p true f e =
    let k : None ≡ Some (zeros depth ++ filled (most_branch_events - depth) p.taken) = rw f at e in absurd (cc)
placed_none depth p false f e = refl

pub placed_some :
    (depth : ℕ) (p : Path) (t : Bool) (es : List ℕ) → p.found ≡ t → Some es ≡ placed depth p
    → (t ≡ true) × (es ≡ zeros depth ++ filled (most_branch_events - depth) p.taken)
placed_some depth p true es f e =
    let k : Some es ≡ Some (zeros depth ++ filled (most_branch_events - depth) p.taken) = rw f at e in (refl, cc)
placed_some depth p false es f e = let k : Some es ≡ None = rw f at e in absurd (cc)

-- one event: v is the event, `now` the configuration after the delay
module _ (head : Head) (edges : List ℕ) (d : ℕ) (symbols stamps : List ℕ) (depth : ℕ) (now : Configuration) where
  abbrev pub onward : ℕ → List ℕ → Path
  onward to ages =
      least_from (rule_in head edges) d (events_of (drop (depth + 1) symbols) (drop (depth + 1) stamps))
      (get_or stamps depth 0)
      to
      ages

  -- the edges from number e on are left
  abbrev pub try_from : ℕ → Path
  try_from e =
      least_edge e (edges_in (head.count - e) (drop (edge_width * e) edges)) d now.location
      (ages_of head.clocks now.ages)
      (event_at symbols stamps depth)
      onward

  -- what edge e leads to
  abbrev pub by_edge : ℕ → Path
  by_edge e =
      pick (takes d head.clocks (get_or symbols depth 0) now (edge_at e edges))
      (onward (edge_at e edges).target (zeroed (edge_at e edges).resets (ages_of head.clocks now.ages)))
      no_path

  pub record Trying (by : List ℕ) (e : ℕ) : Type 0 where
    pub turns : e ≤ head.count
    pub clocks_read : by ≡ ages_of head.clocks now.ages
    pub rest_is : try_from e ≡ try_from 0

  pub trying_start :
      (by read : List ℕ) (clocks : ℕ) → clocks ≡ head.clocks → read ≡ numbers_of now.ages.of
      → by ≡ take clocks (drop 0 read)
      → Trying by 0
  trying_start by read clocks k h p = record {
    turns = omega arith;
    clocks_read = read_ages head.clocks now.ages read by h (rw k at p);
    rest_is = refl;
  }

  try_step :
      (e : ℕ) → e < head.count
      → try_from e ≡ pick (by_edge e).found (path true 0 (e ∷ (by_edge e).taken)) (try_from (e + 1))
  try_step e h =
      ap
      (λ (es : List Edge). least_edge e es d now.location (ages_of head.clocks now.ages)
      (event_at symbols stamps depth) onward)
      (edges_rest head.count e edges h)
      ∙ rw (add-one e)

  module _
      {by : List ℕ} {e : ℕ} (inv : Trying by e) (h : e < head.count) (edge : Edge) (edge_is : edge ≡ edge_at e edges)
    where
      skip : (by_edge e).found ≡ false → Trying by (e + 1)
      skip f = record {
        turns = omega arith;
        clocks_read = inv.clocks_read;
        rest_is = (rw f at (sym (try_step e h))) ∙ inv.rest_is;
      }

      -- an edge that cannot be taken
      pub trying_other :
          (r : Bool) → r ≡ takes d head.clocks (get_or symbols depth 0) now edge → r ≡ false → Trying by (e + 1)
      trying_other r t f = skip (rw (sym (rw edge_is at t) ∙ f))

      -- the next event is at place `after`
      module _
          (next : Configuration) (moved : Moved edge now next) (after : ℕ) (a : after ≡ depth + 1) (r : Bool)
          (t : r ≡ takes d head.clocks (get_or symbols depth 0) now edge) (y : r ≡ true)
        where
          -- what edge e leads to, by the configuration that it reaches
          reached : by_edge e ≡ least_at head edges d symbols stamps after (get_or stamps depth 0) next
          reached =
              let m : Moved (edge_at e edges) now next = rw edge_is at moved in
              rw (sym (rw edge_is at t) ∙ y, a) (ap₂ onward (sym m.location_is) (sym (moved_ages head.clocks m)))

          -- no accepting run that way
          pub trying_stuck :
              None ≡ placed after (least_at head edges d symbols stamps after (get_or stamps depth 0) next)
              → Trying by (e + 1)
          trying_stuck p =
              let q : Path = least_at head edges d symbols stamps after (get_or stamps depth 0) next in
              skip (ap (λ (x : Path). x.found) reached ∙ placed_none after q q.found refl p)

          pub trying_found :
              (run : List ℕ) → depth < most_branch_events
              → Some run ≡ placed after (least_at head edges d symbols stamps after (get_or stamps depth 0) next)
              → Some (set run depth e) ≡ placed depth (try_from 0)
          trying_found run b p =
              let q : Path = least_at head edges d symbols stamps after (get_or stamps depth 0) next in
              let some = placed_some after q q.found run refl p in
              let whole : try_from 0 ≡ path true 0 (e ∷ q.taken) =
              sym inv.rest_is ∙ (try_step e h ∙ rw (reached, some.0)) in
              rw (some.1, whole, edge_before depth after e q.taken b a)

  pub trying_none : {by : List ℕ} {e : ℕ} → Trying by e → head.count ≤ e → try_from 0 ≡ no_path
  trying_none {e = e} inv h = let z : head.count - e ≡ 0 = omega arith in sym inv.rest_is ∙ rw z

-- an edge of a stored rule is the one with its number
pub edge_by :
    (edge : StoredEdge) (e : ℕ) (edges : List ℕ) → (edge.table.now ≡ edges) × (edge.number ≡ e)
    → edge_of edge ≡ edge_at e edges
edge_by edge e edges q = rw (q.0, q.1)

-- the least run from before the delay is that over all edges after it
pub at_event :
    (head : Head) (edges : List ℕ) (d : ℕ) (symbols stamps : List ℕ) (depth last delay : ℕ) (from now : Configuration)
    → Ready head symbols stamps depth last from
    → depth < length symbols
    → get_or stamps depth 0 < 2 ^ 32
    → delay ≡ get_or stamps depth 0 - last
    → Waited delay from now
    → least_at head edges d symbols stamps depth last from ≡ try_from head edges d symbols stamps depth now 0
unfolding least_from rule_in
at_event head edges d symbols stamps depth last delay from now ready h b e w =
    let order = ordered_rest last symbols stamps depth h ready.counts_equal ready.stamps_ordered in
    let z : head.count - 0 ≡ head.count = omega arith in
    let aged = waited_until head.clocks last (get_or stamps depth 0) w e ready.ages_most order.0 b in
    rw (events_rest symbols stamps depth h (omega (arith, ready.counts_equal)), z, aged, w.location_is)

-- the next event is ready too
pub next_ready :
    (head : Head) (symbols stamps : List ℕ) (depth after last delay : ℕ) (edge : Edge)
    (from now next : Configuration)
    → Ready head symbols stamps depth last from
    → depth < length symbols
    → after ≡ depth + 1
    → get_or stamps depth 0 < 2 ^ 32
    → delay ≡ get_or stamps depth 0 - last
    → Waited delay from now
    → Moved edge now next
    → Ready head symbols stamps after (get_or stamps depth 0) next
next_ready head symbols stamps depth after last delay edge from now next ready h a b q w m =
    let order = ordered_rest last symbols stamps depth h ready.counts_equal ready.stamps_ordered in
    let aged = waited_until head.clocks last (get_or stamps depth 0) w q ready.ages_most order.0 b in
    let most : AtMost (get_or stamps depth 0) (ages_of head.clocks now.ages) =
    rw aged
    (older_most last (get_or stamps depth 0) (ages_of head.clocks from.ages) ready.ages_most order.0) in
    record {
      depth_in = omega arith;
      counts_equal = ready.counts_equal;
      events_most = ready.events_most;
      edges_most = ready.edges_most;
      stamps_ordered = rw a order.1;
      ages_most =
          rw (moved_ages head.clocks m)
          (zeroed_most (get_or stamps depth 0) 0 edge.resets (ages_of head.clocks now.ages) most);
    }
