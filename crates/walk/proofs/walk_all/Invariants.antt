-- `walk::walk_all` meets its contract: the walk stands where the follower's steps over the events so far lead.
use Rattle.tables.specs.Views.{table_in}
use Rattle.walk.specs.Steps.{Walked}
use Rattle.walk.proofs.walk_all.Given as goal

abbrev pub invariant-loop-i : goal.invariant-loop-i
invariant-loop-i l = Walked (table_in l.table) l.grain l.events.symbols.now l.events.stamps.now l.walk l.i
