-- `shares::lay_lines` meets its contract: a line for each table, zeros past them.
use Rattle.std.proofs.Common.{◌≡◌, ◌∙◌, ap, true, get_or}
use Rattle.model.specs.Tables.{Tables, no_built}
use Rattle.model.specs.Walks.{in_shape}
use Rattle.tables.specs.Views.{table_in}
use Rattle.shares.proofs.ShapeLaws.{shape_sized, shape_celled, shape_rowed}
use Rattle.shares.proofs.LaidLines.{laid_sound, line_room, laying_next}
use Rattle.shares.proofs.lay_lines.Goals as goal

pub invariant_of-tree : goal.invariant_of-tree
invariant_of-tree c =
    let sound = laid_sound c.loop-i.invariant c.requires.0 c.args.span.events_most c.loop-i-test.true in
    let shape : in_shape (table_in c.table.result) ≡ true = ap in_shape c.table.ensures ∙ sound.shape in
    record {
      shape = shape;
      sized = shape_sized (table_in c.table.result) shape;
      celled = shape_celled (table_in c.table.result) shape;
      rowed = shape_rowed (table_in c.table.result) shape;
    }

pub lay_line-requires : goal.lay_line-requires
lay_line-requires c =
    let k = c.loop-i.invariant in
    let sound = laid_sound k c.requires.0 c.args.span.events_most c.loop-i-test.true in
    let symbols : c.table.result.built.symbols ≡ (get_or c.args.tables.now c.loop-i.i no_built).symbols =
    ap (λ (t : Tables). t.built.symbols) c.table.ensures in
    (rw symbols sound.listed, line_room k c.requires.0 c.args.span.events_most c.loop-i-test.true)

pub loop-i-preserved : goal.loop-i-preserved
loop-i-preserved c =
    let b = c.behind-rest.ensures in
    laying_next c.loop-i.invariant c.requires.0 c.args.span.events_most c.loop-i-test.true c.table.ensures
    c.lay_line.ensures b.cells b.rows b.pool
