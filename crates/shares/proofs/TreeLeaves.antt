-- The words one event below a node, counted at one place that held nothing: they are few, so that it has room. Of two
-- counts they raise the second, as a walk of the node would.
use mathlib.Core.Path.{◌≡◌, refl, ◌∙◌, ap}
use mathlib.Core.List.{List, [], ◌∷◌}
use Prim.Native.Nat.{ℕ, zero, suc, ◌+◌, ◌-◌, ◌*◌, ◌/◌, ◌%◌, ◌≤◌, ◌<◌}
use native.Mathlib.Omega.{arith}
use lib.Dec.{eqb}
use lib.ListN.{length, get_or, set, length-set}
use lib.Seq.{get_or-set_same}
use Rattle.model.specs.Basics.{pick}
use Rattle.model.specs.Rules.{most_symbols}
use Rattle.model.specs.Tables.{Tables}
use Rattle.model.specs.Walks.{verdict, step_all}
use Rattle.model.specs.Lists.{words_from}
use Rattle.model.specs.Shares.{most_words}
use Rattle.model.proofs.Lists.{grown, words_empty}
use Rattle.model.proofs.ShareCounts.{count_most}
use Rattle.shares.specs.Tree.{Sized, Node, Roomy, Tallied, standing, tree_count}
use Rattle.shares.proofs.TreeLaws.{below, left}
use Rattle.shares.proofs.TreeCounts.{tail, back, tail_long, tail_at, settled, Kept, kept_as}
use Rattle.shares.proofs.TreeCounts.{EventRead, child_roomy, symbol_more, end_tallied}

-- one place, nothing in it
abbrev pub empty : List ℕ
empty = 0 ∷ []

words_most : (s k x : ℕ) → s ≤ most_symbols → length (words_from s 1 k x) ≤ k * most_symbols
unfolding words_from
words_most s zero x h = omega arith
words_most s (suc k) x h =
    omega (arith, grown s 0 k x 1 (words_empty s (suc k) x), words_most s k (suc x) h)

module _ (t : Tables) (stamps row reset from : ℕ) where
  leaves_most :
      Sized t.built → Node t.built stamps row reset from
      → tree_count t row reset 1 (stamps - from) from ≤ most_words
  unfolding tree_count
  leaves_most z d =
      let s : ℕ = t.built.symbols in
      omega (
        arith,
        count_most (λ w. verdict t (step_all t (standing row reset) w).row) (words_from s 1 (stamps - from) from),
        words_most s (stamps - from) from z.symbols_most,
        d.stamps_most,
      )

  pub leaves_roomy : Sized t.built → Node t.built stamps row reset from → Roomy t stamps row reset from empty
  leaves_roomy z d = record { some = omega arith; room = at_place }
    where
      at_place :
          (n : ℕ) → n < length empty
          → get_or empty n 0 + tree_count t row reset (suc n) (stamps - from) from ≤ most_words
      at_place zero h = omega (arith, leaves_most z d)
      at_place (suc n) h = absurd (omega arith)

  pub leaves_end :
      {here x : ℕ} → stamps ≤ x
      → Kept empty 0 (below t stamps row reset from) empty here (below t stamps row reset x)
      → here ≡ tree_count t row reset 1 (stamps - from) from
  leaves_end {x = x} end k = omega (arith, (end_tallied t stamps row reset from x end k).added 0 (omega arith))

-- place 1 raised
abbrev pub raised : List ℕ → ℕ → List ℕ
raised counts r = set counts 1 (get_or counts 1 0 + r)

raised_back : (counts : List ℕ) (r : ℕ) → length counts ≡ 2 → raised counts r ≡ back counts (settled (tail counts) r)
raised_back [] r h = absurd (omega arith)
raised_back (a ∷ []) r h = absurd (omega arith)
raised_back (a ∷ b ∷ []) r h = refl
raised_back (a ∷ b ∷ c ∷ counts) r h = absurd (omega arith)

raised_tallied :
    (t : Tables) (stamps row reset x : ℕ) (counts : List ℕ) (r : ℕ) → length counts ≡ 2
    → r ≡ tree_count t row reset 1 (stamps - x) x
    → Tallied t stamps row reset x (tail counts) (settled (tail counts) r)
raised_tallied t stamps row reset x counts r two e =
    let xs : List ℕ = tail counts in
    record { same_length = length-set xs 0 (get_or xs 0 0 + r); added = at_place }
  where
    at_place :
        (n : ℕ) → n < length (tail counts)
        → get_or (settled (tail counts) r) n 0
        ≡ get_or (tail counts) n 0 + tree_count t row reset (suc n) (stamps - x) x
    at_place zero h =
        get_or-set_same (tail counts) 0 (get_or (tail counts) 0 0 + r) 0 h
        ∙ ap (λ (z : ℕ). get_or (tail counts) 0 0 + z) e
    at_place (suc n) h = absurd (omega (arith, tail_long counts))

-- after an event, at the last length but one: r words one event below the child
module _ (t : Tables) (stamps row reset : ℕ) {x i interval cell v : ℕ}
    (e : EventRead t stamps row reset x i interval cell v)
    {counts₀ counts : List ℕ} {here₀ here : ℕ} {rest₀ : ℕ → ℕ}
    (k : Kept counts₀ here₀ rest₀ counts here (left t stamps row reset x i))
    {s r : ℕ}
    (since_is : s ≡ pick (eqb (cell % 2) 1) x reset)
    (two : length counts ≡ 2)
    (leaves_are : r ≡ tree_count t (cell / 2) s 1 (stamps - x) x) where
  pub raised_most : get_or counts 1 0 + r ≤ most_words
  raised_most =
      omega (
        arith,
        (child_roomy t stamps row reset e k since_is (omega arith)).room 0 (omega (arith, tail_long counts)),
        tail_at counts 0,
      )

  pub symbol_two : Kept counts₀ here₀ rest₀ (raised counts r) (here + v) (left t stamps row reset x (i + 1))
  symbol_two =
      kept_as (raised_back counts r two)
      (symbol_more t stamps row reset e k since_is (omega arith)
      (raised_tallied t stamps (cell / 2) s x counts r two leaves_are))
