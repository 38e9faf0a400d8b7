-- `lists::events_fit` meets its contract: what is left fits from the last stamp on exactly if all events fit.
use Rattle.std.proofs.Common.{◌≡◌, length, length-append, take, arith, rules}
use Rattle.std.proofs.lemmas.Slice.Zip.{zip_turn, zip_end}
use Rattle.lists.proofs.Places.{six}
use Rattle.lists.proofs.Fitting.{Seen, seen, seen_all, fit_symbol, fit_falls, fit_late, fit_turn, fit_end}
use Rattle.lists.proofs.events_fit.Goals.{then-size-from-via-then-size-from}
use Rattle.lists.proofs.events_fit.Goals.{then-size-from-via-else-size-from+then-stamp-last}
use Rattle.lists.proofs.events_fit.Goals.{then-size-from-via-else-size-from+else-stamp-last+then-top-stamp}
use Rattle.lists.proofs.events_fit.Goals.{In-Some}
use Rattle.lists.proofs.events_fit.Goals as goal

-- the event that a turn sees
turn : (c : In-Some) → Seen c.args.word (length c.loop-symbol.yielded) c.in-Some.symbol.now c.in-Some.stamp.now
turn c =
    let w = c.args.word in
    let first : c.into_iter-symbol-iterator.result.a.rest.now ≡ take w.count w.symbols = cc in
    let second : c.into_iter-symbol-iterator.result.b.rest.now ≡ take w.count w.stamps =
    cc (c.zip-symbol-items.ensures.second.0) in
    seen w (six _ _ c.well_formed.1.0) c.requires
    (zip_turn (take w.count w.symbols) (take w.count w.stamps) c.loop-symbol.yielded
    c.into_iter-symbol-iterator.result c.loop-symbol.symbol-iterator c.next.new.self c.next.result first second
    c.loop-symbol.yielded_by (c.in-Some.symbol, c.in-Some.stamp) c.in-Some.is c.next.ensures.steps)

pub returns-then-size-from : goal.returns-then-size-from
returns-then-size-from c =
    let fit = c.loop-symbol.invariant.2 in
    let f = six _ _ c.well_formed.1.0 in
    let e = turn (goal.at.returns-then-size-from c).In-Some in
    elim c.then-size-from.branch [
      | then-size-from-via-then-size-from w ↦ fit_symbol fit f c.requires e (omega arith)
      | then-size-from-via-else-size-from+then-stamp-last w ↦
          fit_falls fit f c.requires e (omega arith) (omega arith)
      | then-size-from-via-else-size-from+else-stamp-last+then-top-stamp w ↦
          fit_late fit f c.requires e (omega arith) (omega arith) (omega arith)
    ]

pub loop-symbol-preserved : goal.loop-symbol-preserved
loop-symbol-preserved c = (
  search rules,
  search rules,
  fit_turn c.loop-symbol.invariant.2 (six _ _ c.well_formed.1.0) c.requires
      (turn (goal.at.loop-symbol-preserved c).In-Some) (omega arith) (omega arith)
      (length-append c.loop-symbol.yielded _) (omega arith),
)

pub returns : goal.returns
returns c =
    let w = c.args.word in
    let f = six _ _ c.well_formed.1.0 in
    let first : c.into_iter-symbol-iterator.result.a.rest.now ≡ take w.count w.symbols = cc in
    let second : c.into_iter-symbol-iterator.result.b.rest.now ≡ take w.count w.stamps =
    cc (c.zip-symbol-items.ensures.second.0) in
    fit_end c.loop-symbol.invariant.2 f c.requires
    (seen_all w f c.requires
    (zip_end (take w.count w.symbols) (take w.count w.stamps) c.loop-symbol.yielded
    c.into_iter-symbol-iterator.result c.loop-symbol.symbol-iterator c.next.new.self c.next.result first second
    c.loop-symbol.yielded_by c.in-None.is c.next.ensures.steps))
