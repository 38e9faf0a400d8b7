-- `lists::in_list` meets its contract: the count, then the unused places, then the events.
use Rattle.std.proofs.Common.{sym, ◌∙◌, arith}
use Rattle.model.proofs.Flags.{is_true}
use Rattle.lists.proofs.Places.{six}
use Rattle.lists.proofs.Fitting.{over_six, too_long, not_zero, events_decide}
use Rattle.lists.proofs.in_list.Goals.{then-word-gt-MOST_LISTED_EVENTS-via-then-word-gt-MOST_LISTED_EVENTS}
use Rattle.lists.proofs.in_list.Goals.{
  then-word-gt-MOST_LISTED_EVENTS-via-else-word-gt-MOST_LISTED_EVENTS+then-size-word,
}
use Rattle.lists.proofs.in_list.Goals as goal

pub returns-then-word-gt-MOST_LISTED_EVENTS : goal.returns-then-word-gt-MOST_LISTED_EVENTS
returns-then-word-gt-MOST_LISTED_EVENTS c =
    elim c.then-word-gt-MOST_LISTED_EVENTS.branch [
      | then-word-gt-MOST_LISTED_EVENTS-via-then-word-gt-MOST_LISTED_EVENTS w ↦
          over_six _ _ (six _ _ c.well_formed.1.0) (omega arith)
      | then-word-gt-MOST_LISTED_EVENTS-via-else-word-gt-MOST_LISTED_EVENTS+then-size-word w ↦
          too_long _ _ (six _ _ c.well_formed.1.0) (omega arith) (omega arith)
    ]

pub returns-then-rest_zero : goal.returns-then-rest_zero
returns-then-rest_zero c =
    events_decide _ _ (six _ _ c.well_formed.1.0) (omega arith) (omega arith)
    (is_true c.rest_zero.ensures c.if-rest_zero.true)
    _
    c.events_fit.ensures

pub returns-else-rest_zero : goal.returns-else-rest_zero
returns-else-rest_zero c =
    c.if-rest_zero.false
    ∙ not_zero _ _ (six _ _ c.well_formed.1.0) (omega arith) (omega arith)
    (sym c.rest_zero.ensures ∙ c.if-rest_zero.false)
