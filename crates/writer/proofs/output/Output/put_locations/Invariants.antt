-- `writer::output::Output::put_locations`: the locations from one on are still to be put.
use Rattle.model.specs.Files.{location_records}
use Rattle.model.specs.Layout.{locations_in}
use Rattle.writer.proofs.Putting.{Putting}
use Rattle.writer.proofs.Records.{locations_from}
use Rattle.writer.proofs.output.Output.put_locations.Given as goal

abbrev pub invariant-loop-location : goal.invariant-loop-location
invariant-loop-location l =
    Putting (location_records l.kind (locations_in l.mask)) (location_records l.kind (locations_from l.location l.mask))
    l.initial.self l.self
