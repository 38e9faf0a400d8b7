-- One outcome for one call: what a promise says settles the answer and every lent cell at exit.
use mathlib.Core.Path.{◌≡◌, sym, ◌∙◌}
use mathlib.Core.List.{List}
use Prim.Native.Nat.{ℕ}
use Rattle.model.specs.declared.Stamp.{Stamp}
use Rattle.model.specs.declared.Head.{Head}
use Rattle.model.specs.declared.Built.{Built}
use Rattle.model.specs.declared.Answer.{Answer}
use Rattle.model.specs.declared.Reading.{Reading}
use Rattle.model.specs.declared.Building.{Building}
use Rattle.model.specs.declared.Branch.{Branch}
use Rattle.model.specs.declared.Follower.{Follower}
use Rattle.model.specs.declared.Started.{Started}
use Rattle.model.specs.declared.Followed.{Followed}
use Rattle.model.specs.declared.Moved.{Moved}
use Rattle.model.specs.declared.Size.{Size}
use Rattle.model.specs.declared.Listed.{Listed}
use Rattle.model.specs.declared.Next.{Next}
use Rattle.model.specs.declared.Batch.{Batch}
use Rattle.model.specs.declared.Shares.{Shares}
use Rattle.model.specs.Promises.{ChecksRule, ChecksWord, ChecksTable, ReadsRule, WritesRule, BuildsTable}
use Rattle.model.specs.Promises.{RunsExact, RunsBranches, RunsTable, StartsFollower, FollowsEvent}
use Rattle.model.specs.Promises.{FollowsInPlace, Decides, GivesNext, CountsShares}

-- two things that equal a third
both : {A : Type 0} {x y z : A} → x ≡ z → y ≡ z → x ≡ y
both p q = p ∙ sym q

pub one_check_rule :
    (h : Head) (t : List ℕ) (x y : Answer) → ChecksRule h t x → ChecksRule h t y → x ≡ y
one_check_rule h t x y p q = both p.answer_is q.answer_is

pub one_check_word :
    (s d most : ℕ) (xs ts : List ℕ) (x y : Answer) → ChecksWord s d most xs ts x → ChecksWord s d most xs ts y → x ≡ y
one_check_word s d most xs ts x y p q = both p.answer_is q.answer_is

pub one_check_table :
    (b : Built) (c n m : List ℕ) (x y : Answer) → ChecksTable b c n m x → ChecksTable b c n m y → x ≡ y
one_check_table b c n m x y p q = both p.answer_is q.answer_is

pub one_reading :
    (s t t' u' : List ℕ) (x y : Reading) → ReadsRule s t t' x → ReadsRule s t u' y → (x ≡ y) × (t' ≡ u')
one_reading s t t' u' x y p q = (both p.answer_is q.answer_is, both p.edges_are q.edges_are)

pub one_writing :
    (h : Head) (t o o' u' : List ℕ) (x y : Answer) → WritesRule h t o o' x → WritesRule h t o u' y
    → (x ≡ y) × (o' ≡ u')
one_writing h t o o' u' x y p q = (both p.answer_is q.answer_is, both p.out_is q.out_is)

pub one_building :
    (h : Head) (t s s₁ s₂ c c₁ c₂ n n₁ n₂ m m₁ m₂ : List ℕ) (x y : Building) → BuildsTable h t s s₁ c c₁ n n₁ m m₁ x
    → BuildsTable h t s s₂ c c₂ n n₂ m m₂ y
    → (x ≡ y) × (s₁ ≡ s₂) × (c₁ ≡ c₂) × (n₁ ≡ n₂) × (m₁ ≡ m₂)
one_building h t s s₁ s₂ c c₁ c₂ n n₁ n₂ m m₁ m₂ x y p q = (
  both p.answer_is q.answer_is,
  both p.scratch_is q.scratch_is,
  both p.cells_are q.cells_are,
  both
      p.rows_are
      q.rows_are,
  both p.pool_is q.pool_is,
)

pub one_exact_run :
    (h : Head) (t : List ℕ) (d : ℕ) (xs ts s s₁ s₂ : List ℕ) (x y : Answer) → RunsExact h t d xs ts s s₁ x
    → RunsExact h t d xs ts s s₂ y
    → (x ≡ y) × (s₁ ≡ s₂)
one_exact_run h t d xs ts s s₁ s₂ x y p q = (both p.answer_is q.answer_is, both p.scratch_is q.scratch_is)

pub one_branch_run :
    (h : Head) (t : List ℕ) (d : ℕ) (xs ts : List ℕ) (x y : Branch) → RunsBranches h t d xs ts x
    → RunsBranches h t d xs ts y
    → x ≡ y
one_branch_run h t d xs ts x y p q = both p.answer_is q.answer_is

pub one_table_run :
    (b : Built) (c n m : List ℕ) (d : ℕ) (xs ts : List ℕ) (x y : Answer) → RunsTable b c n m d xs ts x
    → RunsTable b c n m d xs ts y
    → x ≡ y
one_table_run b c n m d xs ts x y p q = both p.answer_is q.answer_is

pub one_start : (d : ℕ) (x y : Started) → StartsFollower d x → StartsFollower d y → x ≡ y
one_start d x y p q = both p.answer_is q.answer_is

pub one_step :
    (f : Follower) (b : Built) (c n m : List ℕ) (s : ℕ) (t : Stamp) (x y : Followed) → FollowsEvent f b c n m s t x
    → FollowsEvent f b c n m s t y
    → x ≡ y
one_step f b c n m s t x y p q = both p.answer_is q.answer_is

pub one_step_in_place :
    (f f₁ f₂ : Follower) (b : Built) (c n m : List ℕ) (s : ℕ) (t : Stamp) (x y : Moved)
    → FollowsInPlace f f₁ b c n m s t x
    → FollowsInPlace f f₂ b c n m s t y
    → (x ≡ y) × (f₁ ≡ f₂)
one_step_in_place f f₁ f₂ b c n m s t x y p q =
    (both p.answer_is q.answer_is, both p.follower_is q.follower_is)

pub one_decision :
    (a e e₁ e₂ s s₁ s₂ c c₁ c₂ n n₁ n₂ m m₁ m₂ : List ℕ) (d : ℕ) (xs ts : List ℕ) (x y : Answer)
    → Decides a e e₁ s s₁ c c₁ n n₁ m m₁ d xs ts x
    → Decides a e e₂ s s₂ c c₂ n n₂ m m₂ d xs ts y
    → (x ≡ y) × (e₁ ≡ e₂) × (s₁ ≡ s₂) × (c₁ ≡ c₂) × (n₁ ≡ n₂) × (m₁ ≡ m₂)
one_decision a e e₁ e₂ s s₁ s₂ c c₁ c₂ n n₁ n₂ m m₁ m₂ d xs ts x y p q = (
  both p.answer_is q.answer_is,
  both p.edges_are q.edges_are,
  both p.scratch_is q.scratch_is,
  both
      p.cells_are
      q.cells_are,
  both p.rows_are q.rows_are,
  both p.pool_is q.pool_is,
)

pub one_next_word : (z : Size) (w : Listed) (x y : Next) → GivesNext z w x → GivesNext z w y → x ≡ y
one_next_word z w x y p q = both p.answer_is q.answer_is

pub one_count :
    (b : Batch) (c n p : List ℕ) (m h : ℕ) (x y : Shares) → CountsShares b c n p m h x → CountsShares b c n p m h y
    → x ≡ y
one_count b c n p m h x y k j = both k.answer_is j.answer_is
