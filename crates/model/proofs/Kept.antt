-- What the reader, the writer, the builder and the follower leave, told by the number of the answer, for all inputs.
use mathlib.Core.Path.{◌≡◌, sym, ◌∙◌, ap}
use mathlib.Core.Bool.{true, false}
use mathlib.Core.List.{List}
use Prim.Native.Nat.{ℕ, ◌≤◌, ◌<◌}
use native.Mathlib.Omega.{arith}
use lib.Dec.{eqb, ltb, leb}
use lib.ListN.{length, replicate}
use borrow.Author.Tests.{eq-eqb, ne_eqb, lt-ltb, le-ltb, le-leb, lt-leb}
use Rattle.model.specs.declared.Stamp.{Stamp}
use Rattle.model.specs.declared.Head.{Head}
use Rattle.model.specs.declared.Built.{Built}
use Rattle.model.specs.declared.Answer.{Answer}
use Rattle.model.specs.declared.Reading.{Reading}
use Rattle.model.specs.declared.Building.{Building}
use Rattle.model.specs.declared.Follower.{Follower}
use Rattle.model.specs.declared.Followed.{Followed}
use Rattle.model.specs.declared.Moved.{Moved}
use Rattle.model.specs.Basics.{Refusal, passes}
use Rattle.model.specs.Files.{read_rule}
use Rattle.model.specs.Layout.{edge_need}
use Rattle.model.specs.Tables.{tables}
use Rattle.model.specs.Walks.{follow_refusal}
use Rattle.model.specs.Promises.{read_refusal, ReadsRule, write_refusal, WritesRule, build_refusal, BuildsTable}
use Rattle.model.specs.Promises.{event, followed}
use Rattle.model.specs.Promises.{FollowsEvent, FollowsInPlace}
use Rattle.model.proofs.Cases.{zero_head, zero_built}

-- The reader: 20 exactly where the table is too short, and then it is untouched; any other refusal zeroes it.
pub read_short :
    (file t t' : List ℕ) (a : Reading) → ReadsRule file t t' a → length t < edge_need
    → (a ≡ record { number = 20; place = 0; head = zero_head }) × (t' ≡ t)
unfolding read_refusal
read_short file t t' a p h =
    let short : ltb (length t) edge_need ≡ true = lt-ltb (length t) edge_need h in
    (p.answer_is ∙ rw short, p.edges_are ∙ rw short)

pub read_zeroed :
    (file t t' : List ℕ) (a : Reading) → ReadsRule file t t' a → edge_need ≤ length t → (a.number ≡ 0 → ⊥)
    → (a.head ≡ zero_head) × (t' ≡ replicate (length t) 0)
unfolding read_refusal
read_zeroed file t t' a p h n =
    let long : ltb (length t) edge_need ≡ false = le-ltb (length t) edge_need h in
    let number : a.number ≡ (read_rule file).refused.number =
    ap (λ (x : Reading). x.number) p.answer_is ∙ rw long in
    let stops : eqb (read_rule file).refused.number 0 ≡ false =
    ne_eqb (read_rule file).refused.number 0 (λ z. n (number ∙ z)) in
    (ap (λ (x : Reading). x.head) p.answer_is ∙ rw (long, stops), p.edges_are ∙ rw (long, stops))

-- The writer: a refusal leaves the output untouched.
pub write_kept :
    (h : Head) (t o o' : List ℕ) (a : Answer) → WritesRule h t o o' a → (a.number ≡ 0 → ⊥) → (a.value ≡ 0) × (o' ≡ o)
write_kept h t o o' a p n =
    let r : Refusal = write_refusal h t o in
    let number : a.number ≡ r.number = ap (λ (x : Answer). x.number) p.answer_is in
    let stops : passes r ≡ false = ne_eqb r.number 0 (λ z. n (number ∙ z)) in
    (ap (λ (x : Answer). x.value) p.answer_is ∙ rw stops, p.out_is ∙ rw stops)

-- The builder: untouched up to 22, zero from 23 on; the scratch is zero on success too.
module _
    (h : Head) (t s s' c c' n n' m m' : List ℕ) (a : Building) (p : BuildsTable h t s s' c c' n n' m m' a)
  where
    r : Refusal
    r = build_refusal h t s c n m

    number_is : a.number ≡ r.number
    unfolding r
    number_is = ap (λ (x : Building). x.number) p.answer_is

    pub build_kept :
        (a.number ≡ 0 → ⊥) → a.number < 23
        → (a.built ≡ zero_built) × (s' ≡ s) × (c' ≡ c) × (n' ≡ n) × (m' ≡ m)
    unfolding r
    build_kept z l =
        let stops : passes r ≡ false = ne_eqb r.number 0 (λ q. z (number_is ∙ q)) in
        let early : leb 23 r.number ≡ false = lt-leb 23 r.number (omega (arith, number_is)) in (
          ap (λ (x : Building). x.built) p.answer_is ∙ rw stops,
          p.scratch_is ∙ rw (stops, early),
          p.cells_are ∙ rw (stops, early),
          p.rows_are ∙ rw (stops, early),
          p.pool_is ∙ rw (stops, early),
        )

    pub build_zeroed :
        23 ≤ a.number
        → (a.built ≡ zero_built) × (s' ≡ replicate (length s) 0) × (c' ≡ replicate (length c) 0)
        × (n' ≡ replicate (length n) 0)
        × (m' ≡ replicate (length m) 0)
    unfolding r
    build_zeroed l =
        let stops : passes r ≡ false = ne_eqb r.number 0 (λ q. absurd (omega (arith, number_is))) in
        let late : leb 23 r.number ≡ true = le-leb 23 r.number (omega (arith, number_is)) in (
          ap (λ (x : Building). x.built) p.answer_is ∙ rw stops,
          p.scratch_is ∙ rw (stops, late),
          p.cells_are ∙ rw (stops, late),
          p.rows_are ∙ rw (stops, late),
          p.pool_is ∙ rw (stops, late),
        )

    pub build_scratch : a.number ≡ 0 → s' ≡ replicate (length s) 0
    unfolding r
    build_scratch z = p.scratch_is ∙ rw (eq-eqb r.number 0 (sym number_is ∙ z))

-- The follower: a refused event leaves it as it was; in place the same is done as by value.
pub follow_kept :
    (f : Follower) (b : Built) (c n m : List ℕ) (s : ℕ) (t : Stamp) (a : Followed)
    → FollowsEvent f b c n m s t a
    → (a.number ≡ 0 → ⊥)
    → (a.yes ≡ false) × (a.follower ≡ f)
unfolding followed
follow_kept f b c n m s t a p h =
    let r : Refusal = follow_refusal (tables b c n m) f (event s t) in
    let number : a.number ≡ r.number = ap (λ (x : Followed). x.number) p.answer_is in
    let stops : passes r ≡ false = ne_eqb r.number 0 (λ z. h (number ∙ z)) in (
      ap (λ (x : Followed). x.yes) p.answer_is ∙ rw stops,
      ap (λ (x : Followed). x.follower) p.answer_is ∙ rw stops,
    )

pub in_place_same :
    (f f' : Follower) (b : Built) (c n m : List ℕ) (s : ℕ) (t : Stamp) (x : Followed) (a : Moved)
    → FollowsEvent f b c n m s t x
    → FollowsInPlace f f' b c n m s t a
    → (a ≡ record { number = x.number; place = x.place; yes = x.yes }) × (f' ≡ x.follower)
in_place_same f f' b c n m s t x a p q = (q.answer_is ∙ rw p.answer_is, q.follower_is ∙ rw p.answer_is)
