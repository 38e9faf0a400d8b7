-- `follower::follow_event` meets its contract: 25, then the event.
use Rattle.std.proofs.Common.{rules}
use Rattle.model.specs.Walks.{follow_refusal, shape_refusal}
use Rattle.model.specs.Promises.{followed}
use Rattle.follower.proofs.follow_event.Goals as goal

pub returns-then-not-in_shape : goal.returns-then-not-in_shape
unfolding followed follow_refusal shape_refusal
returns-then-not-in_shape c = search rules

pub returns : goal.returns
unfolding followed follow_refusal shape_refusal
returns c = search rules
