-- A search that marks joint states by level, closed under waiting and under events into the next level, has marked
-- every state that a word of so many events reaches, so it finds a shortest word that only the first accepts, or none.
use mathlib.Core.Path.{◌≡◌, sym, ◌∙◌, ap}
use mathlib.Core.Bool.{Bool, true, false, ◌&&◌, not}
use mathlib.Core.List.{List}
use Prim.Native.Nat.{ℕ, suc, ◌≤◌, ◌<◌}
use native.Mathlib.Omega.{arith}
use lib.ListN.{length}
use lib.Dec.{ltb}
use borrow.Author.Tests.{ltb-true, ltb-false}
use Rattle.model.specs.Words.{Event}
use Rattle.model.specs.Tables.{Tables}
use Rattle.model.specs.Walks.{verdict, table_accepts}
use Rattle.model.specs.Lists.{list_grain}
use Rattle.model.specs.Alike.{in_halves}
use Rattle.model.specs.Claims.{HalvesRefute}
use Rattle.model.specs.Inclusion.{Comparable, Included, OnlyFirst, NoneBelow}
use Rattle.model.specs.JointStates.{State, start_state, waits, takes, walked, JointReached, begin, wait, take}
use Rattle.model.proofs.Logic.{by_test, no_way, and_both}
use Rattle.model.proofs.JointWalk.{keeps_of, half_seconds_suffice, reaches, walk_is}

-- a joint state that only the first table accepts
abbrev pub target : Tables → Tables → State → State → Bool
target t u x y = verdict t x.row && not (verdict u y.row)

-- marked by level, for levels below n: closed under waiting, and under events into the next level
pub record Marked (t u : Tables) (n : ℕ) (By : ℕ → State → State → Type 0) : Type 1 where
  pub start : By 0 start_state start_state
  pub waiting : (k : ℕ) (x y : State) → k < n → By k x y → By k (waits t x) (waits u y)
  pub taking :
      (k : ℕ) (x y : State) (s : ℕ) → suc k < n → s < t.built.symbols → By k x y
      → By (suc k) (takes t s x) (takes u s y)

module _ (t u : Tables) (n : ℕ) (By : ℕ → State → State → Type 0) (m : Marked t u n By) where
  covers : (k : ℕ) (x y : State) → k < n → JointReached t u k x y → By k x y
  covers k x y h begin = m.start
  covers k x y h (wait {x = x'} {y = y'} r) = m.waiting k x' y' h (covers k x' y' h r)
  covers k x y h (take {n = j} {x = x'} {y = y'} s b r) =
      m.taking j x' y' s h b (covers j x' y' (omega arith) r)

word_target :
    (t u : Tables) (vs : List Event) → OnlyFirst t u list_grain vs
    → target t u (walked t 0 vs start_state) (walked u 0 vs start_state) ≡ true
word_target t u vs o =
    let k = keeps_of t.built.symbols list_grain vs o.keeps in
    and_both (verdict t (walked t 0 vs start_state).row) (not (verdict u (walked u 0 vs start_state).row))
    (sym (walk_is t vs k.ordered) ∙ o.accepted)
    (ap not (sym (walk_is u vs k.ordered) ∙ o.not_accepted))

-- no target below level n: no shorter word
pub none_below :
    (t u : Tables) (n : ℕ) (By : ℕ → State → State → Type 0) → Marked t u n By
    → Comparable t u
    → ((k : ℕ) (x y : State) → k < n → By k x y → target t u x y ≡ false)
    → NoneBelow n t u
none_below t u n By m c misses d vs o =
    let h : HalvesRefute t u d vs = half_seconds_suffice t u d vs c o in
    let ws : List Event = in_halves d vs in
    by_length (length ws) (length vs) h.as_long
    (λ short.
    no_way (sym (misses (length ws) (walked t 0 ws start_state) (walked u 0 ws start_state) short
    (covers t u n By m (length ws) (walked t 0 ws start_state) (walked u 0 ws start_state) short
    (reaches t u ws h.only.keeps)))
    ∙ word_target t u ws h.only))
  where
    by_length : (a b : ℕ) → a ≡ b → (a < n → ⊥) → n ≤ b
    by_length a b e f = by_test (ltb a n) (λ z. absurd (f (ltb-true a n z))) (λ z. omega (arith, e, ltb-false a n z))

-- no target at any level: included
pub none_at_all :
    (t u : Tables) (By : ℕ → State → State → Type 0) → ((n : ℕ) → Marked t u n By)
    → Comparable t u
    → ((k : ℕ) (x y : State) → By k x y → target t u x y ≡ false)
    → Included t u
none_at_all t u By m c misses d vs k a = by_test (table_accepts u d vs) (λ e. e) (λ e. absurd (never e))
  where
    never : table_accepts u d vs ≡ false → ⊥
    never e =
        let o : OnlyFirst t u d vs = record { keeps = k; accepted = a; not_accepted = e } in
        let b : suc (length vs) ≤ length vs =
        none_below t u (suc (length vs)) By (m (suc (length vs))) c (λ j x y h. misses j x y) d vs o in
        omega (arith, b)
