-- What a step and its verdict come to looks at no pool.
use Rattle.std.proofs.Common.{◌≡◌, List, ℕ, refl}
use Rattle.model.specs.declared.Built.{Built}
use Rattle.model.specs.declared.Follower.{Follower}
use Rattle.model.specs.Basics.{Refusal}
use Rattle.model.specs.Words.{Event}
use Rattle.model.specs.Tables.{tables}
use Rattle.model.specs.Walks.{step, verdict}
use Rattle.model.specs.Promises.{followed_by}

pub any_pool :
    (f : Refusal) (b : Built) (cells rows one other : List ℕ) (was : Follower) (v : Event)
    → followed_by f (tables b cells rows one) was v ≡ followed_by f (tables b cells rows other) was v
unfolding step verdict
any_pool f b cells rows one other was v = refl
