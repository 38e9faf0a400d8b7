-- `inclusion::shaped` meets its contract: a table in shape is as the search takes it.
use Rattle.model.proofs.Flags.{is_true}
use Rattle.tables.specs.Views.{table_in}
use Rattle.inclusion.proofs.Refusing.{shape_celled}
use Rattle.inclusion.proofs.shaped.Goals as goal

pub invariant_of-result : goal.invariant_of-result
invariant_of-result c = record {
  celled = shape_celled (table_in c.args.table) (is_true c.in_shape.ensures c.if-not-in_shape.false);
}
