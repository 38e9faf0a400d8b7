-- `shares::count_shares` meets its promise: 40, 38, 25 and 43 by table, else the lines and the greatest share.
use Rattle.std.proofs.Common.{refl, inl, inr, arith}
use Rattle.std.proofs.lemmas.Result.{err_from_is_err_and}
use Rattle.model.proofs.Flags.{is_false, is_true}
use Rattle.shares.proofs.BatchLaws.{sixteen}
use Rattle.shares.proofs.SharesLaws.{bad_batch, bad_span, bad_table, passed, counted}
use Rattle.shares.proofs.count_shares.Goals.{then-count-lt1-via-then-count-lt1}
use Rattle.shares.proofs.count_shares.Goals.{then-count-lt1-via-else-count-lt1+then-count-gt-MOST_TABLES}
use Rattle.shares.proofs.count_shares.Goals as goal

pub returns-then-count-lt1 : goal.returns-then-count-lt1
returns-then-count-lt1 c =
    rw c.into.ensures (
    elim c.then-count-lt1.branch [
      | then-count-lt1-via-then-count-lt1 w ↦ bad_batch (inl (omega arith))
      | then-count-lt1-via-else-count-lt1+then-count-gt-MOST_TABLES w ↦ bad_batch (inr (omega arith))
    ]
    )

pub returns-then-not-span_ok : goal.returns-then-not-span_ok
returns-then-not-span_ok c =
    rw c.into-then-not-span_ok.ensures
    (bad_span c.args.batch c.args.cells.now c.args.rows.now c.args.pool.now c.args.events c.args.seconds
    (omega arith) (omega arith) (is_false c.span_ok.ensures c.if-not-span_ok.true))

pub returns-in_err-check_tables : goal.returns-in_err-check_tables
returns-in_err-check_tables c =
    let out = err_from_is_err_and c.from_residual.result c.from_residual.ensures.1 in
    rw (out.1, out.2)
    (bad_table c.args.batch c.args.cells.now c.args.rows.now c.args.pool.now c.args.events c.args.seconds
    (omega arith) (omega arith) (is_true c.span_ok.ensures c.if-not-span_ok.false) _ c.in_err-check_tables.ensures)

pub lay_lines-requires : goal.lay_lines-requires
lay_lines-requires c = (
  passed c.args.batch c.args.cells.now c.args.rows.now c.args.pool.now c.args.events c.args.seconds (omega arith)
      (omega arith) (is_true c.span_ok.ensures c.if-not-span_ok.false) c.in_ok-check_tables.ensures
      (sixteen c.args.batch _ c.well_formed.0),
  refl,
)

pub returns : goal.returns
returns c =
    counted c.args.batch c.args.cells.now c.args.rows.now c.args.pool.now c.args.events c.args.seconds (omega arith)
    (omega arith) (is_true c.span_ok.ensures c.if-not-span_ok.false) c.in_ok-check_tables.ensures
    (sixteen c.args.batch _ c.well_formed.0) c.lay_lines.ensures c.greatest_of-greatest.ensures
