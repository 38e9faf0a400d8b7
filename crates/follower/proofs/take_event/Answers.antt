-- `follower::take_event` meets its contract: by the table lent, and so whatever its pool is.
use Rattle.std.proofs.Common.{rules, ◌≡◌, ◌∙◌}
use Rattle.model.specs.declared.Followed.{Followed}
use Rattle.model.specs.Tables.{tables}
use Rattle.model.specs.Promises.{event, followed_by}
use Rattle.follower.specs.Checks.{event_checks}
use Rattle.follower.proofs.AnyPool.{any_pool}
use Rattle.follower.proofs.take_event.Goals as goal

pub returns : goal.returns
returns c pool =
    let a = c.args in
    let t = a.table in
    let own :
    ◌≡◌ {A = Followed}
    record { number = 0; place = 0; yes = c.verdict-yes.result; follower = c.moved-next.result }
    (followed_by (event_checks t.built a.follower (event a.symbol a.stamp))
    (tables t.built t.cells.now t.rows.now t.pool.now) a.follower (event a.symbol a.stamp)) =
    search rules
    in
    own ∙ any_pool _ t.built t.cells.now t.rows.now t.pool.now pool a.follower _
