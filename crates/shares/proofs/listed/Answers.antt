-- `shares::listed` meets its contract: what a walk of the table asks holds of a table in shape.
use Rattle.std.proofs.Common.{◌≡◌, true}
use Rattle.model.specs.Walks.{in_shape}
use Rattle.model.proofs.Flags.{is_true}
use Rattle.tables.specs.Views.{table_in}
use Rattle.shares.proofs.ShapeLaws.{shape_sized, shape_celled, shape_rowed}
use Rattle.shares.proofs.listed.Goals as goal

pub invariant_of-result : goal.invariant_of-result
invariant_of-result c =
    let shape : in_shape (table_in c.args.table) ≡ true = is_true c.in_shape.ensures c.if-not-in_shape.false in
    record {
      shape = shape;
      sized = shape_sized (table_in c.args.table) shape;
      celled = shape_celled (table_in c.args.table) shape;
      rowed = shape_rowed (table_in c.args.table) shape;
    }
