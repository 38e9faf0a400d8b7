-- `writer::file_length`: the sizes, the locations, the edges.
use Rattle.std.proofs.Common.{refl, arith}
use Rattle.writer.proofs.Lengths.{whole_length}
use Rattle.writer.proofs.file_length.Goals as goal

pub returns : goal.returns
returns c =
    whole_length c.args.rule.head c.args.rule.edges.now refl refl (omega arith) (omega arith) c.edges_length.ensures.0
