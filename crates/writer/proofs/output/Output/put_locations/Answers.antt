-- `writer::output::Output::put_locations`: the locations from one on are still to be put.
use Rattle.std.proofs.Common.{refl, ◌∙◌, ap, [], ◌∷◌, ◌+◌}
use Rattle.model.specs.Basics.{bit}
use Rattle.model.specs.Files.{number_bytes, numbers, location_records}
use Rattle.writer.proofs.Putting.{putting_start, putting_room, putting_next, putting_as, putting_end}
use Rattle.writer.proofs.Records.{locations_from, records_in, records_out, records_none}
use Rattle.writer.proofs.output.Output.put_locations.Goals as goal
use Rattle.writer.proofs.output.Output.put_locations.Goals.{then-has_bit, else-has_bit}

pub loop-location-init : goal.loop-location-init
loop-location-init c = putting_start refl c.requires

pub put-requires : goal.put-requires
put-requires c =
    let a = c.args in
    let i = c.loop-location.location in
    let is = ap (λ x. bit x a.mask) c.from.ensures in
    putting_room c.loop-location.invariant (numbers (number_bytes ∷ a.kind ∷ i ∷ []))
    (location_records a.kind (locations_from (i + 1) a.mask))
    (records_in a.kind i a.mask c.loop-location-test.true (c.if-has_bit.ensures ∙ is))

pub loop-location-preserved : goal.loop-location-preserved
loop-location-preserved c =
    let a = c.args in
    let i = c.loop-location.location in
    let is = ap (λ x. bit x a.mask) c.from.ensures in
    elim c.if-has_bit.branch [
      | then-has_bit w ↦
          rw w.self-is
          (putting_next c.loop-location.invariant (numbers (number_bytes ∷ a.kind ∷ i ∷ []))
          (location_records a.kind (locations_from (i + 1) a.mask))
          (records_in a.kind i a.mask c.loop-location-test.true (w.if-has_bit.ensures ∙ is)) w.put.ensures)
      | else-has_bit w ↦
          rw w.self-is
          (putting_as c.loop-location.invariant
          (records_out a.kind i a.mask c.loop-location-test.true (w.if-has_bit.ensures ∙ is)))
    ]

pub returns : goal.returns
returns c = putting_end c.loop-location.invariant (records_none c.args.kind _ c.args.mask c.loop-location-test.false)
