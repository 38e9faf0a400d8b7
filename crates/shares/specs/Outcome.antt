-- The outcome of a count, as the record that crosses the call.
use Rattle.std.specs.Prelude.{◌*◌, Result, Ok, Err}
use Rattle.model.specs.declared.Shares.{Shares}
use Rattle.model.specs.declared.Refused.{Refused}
use Rattle.model.specs.Basics.{zeros}
use Rattle.model.specs.Faults.{fault_number}
use Rattle.model.specs.Shares.{line_width, most_tables}
use Rattle.shares.specs.declared.Counts.{Counts}

abbrev pub shares_in : Result Counts Refused → Shares
shares_in (Ok c) = record { number = 0; place = 0; greatest = c.greatest; lines = c.lines }
shares_in (Err r) = record {
  number = fault_number r.fault;
  place = r.place;
  greatest = 0;
  lines = zeros (line_width * most_tables);
}
