-- The checks of one event, the table's shape aside: what `follow_refusal` asks after 25.
use Rattle.std.specs.Prelude.{not, suc, eqb, ltb, leb}
use Rattle.model.specs.declared.Built.{Built}
use Rattle.model.specs.declared.Follower.{Follower}
use Rattle.model.specs.Basics.{Refusal, refuse, ◌⨾◌}
use Rattle.model.specs.Words.{Event, most_events, grain_ok}
use Rattle.model.specs.Walks.{strayed}

-- 30, 34, 31, 32, 33
abbrev pub event_checks : Built → Follower → Event → Refusal
event_checks b f v =
    refuse (not (grain_ok f.grain)) 30 0 ⨾ refuse (strayed b.rows f) 34 0 ⨾ refuse (eqb f.count most_events) 31 0
    ⨾ refuse (leb b.symbols v.symbol) 32 (suc f.count)
    ⨾ refuse (ltb v.stamp f.last.0) 33 (suc f.count)
