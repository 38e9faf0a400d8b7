-- `reader::cursor::read_record` meets its contract: the record at the front is refused, or taken.
use Rattle.std.proofs.lemmas.Result.{err_from_is_err_and}
use Rattle.reader.proofs.Steps.{stops, goes_on}
use Rattle.reader.proofs.cursor.read_record.Goals as goal
use Rattle.reader.proofs.cursor.read_record.Goals.{in-None+in_ok-next-in-None, in-Some+in_ok-next-in-Some}

pub returns-in_err-next-in-None : goal.returns-in_err-next-in-None
returns-in_err-next-in-None c =
    let from = c.from_residual-in_err-next-in-None in
    let p = err_from_is_err_and from.result from.ensures.1 in
    rw (p.1, p.2, c.in-None.is)
    (λ r state. stops c.in_ok-record.ensures c.in_ok-record.record.fits (c.in_err-next-in-None.ensures r _ state))

pub returns-in_err-next-in-Some : goal.returns-in_err-next-in-Some
returns-in_err-next-in-Some c =
    let from = c.from_residual-in_err-next-in-Some in
    let p = err_from_is_err_and from.result from.ensures.1 in
    rw (p.1, p.2, c.in-Some.is)
    (λ r state. stops c.in_ok-record.ensures c.in_ok-record.record.fits (c.in_err-next-in-Some.ensures r state))

pub returns : goal.returns
returns c =
    let split = c.in_ok-record.ensures in
    let fits = c.in_ok-record.record.fits in
    elim c.match-cursor.branch [
      | in-None+in_ok-next-in-None w ↦
          rw (w.in-None.is, w.edges-is, w.next-is)
          (λ r state. goes_on split fits (w.in_ok-next-in-None.ensures r _ state))
      | in-Some+in_ok-next-in-Some w ↦
          rw (w.in-Some.is, w.edges-is, w.next-is)
          (λ r state. goes_on split fits (w.in_ok-next-in-Some.ensures r state))
    ]
