-- `writer::write_rule`: 20 and 21, then 27, then the file.
use Rattle.std.proofs.Common.{arith}
use Rattle.writer.proofs.Written.{is_writable, writes_refused, writes_short, writes_file}
use Rattle.writer.proofs.write_rule.Goals as goal

pub returns-in_err-check_rule : goal.returns-in_err-check_rule
returns-in_err-check_rule c =
    writes_refused _ _ _ _ _ c.from_residual.ensures.1 c.in_err-check_rule.ensures

pub file_length-requires : goal.file_length-requires
file_length-requires c = is_writable _ _ c.in_ok-check_rule.ensures

pub returns-then-out-file_length : goal.returns-then-out-file_length
returns-then-out-file_length c =
    writes_short _ _ _ c.in_ok-check_rule.ensures (omega (arith, c.if-out-file_length.true, c.file_length.ensures))
    c.into.ensures

pub put_file-requires : goal.put_file-requires
put_file-requires c =
    (is_writable _ _ c.in_ok-check_rule.ensures, omega (arith, c.if-out-file_length.false, c.file_length.ensures))

pub returns : goal.returns
returns c =
    writes_file _ _ _ c.in_ok-check_rule.ensures (omega (arith, c.if-out-file_length.false, c.file_length.ensures))
    c.put_file.ensures
