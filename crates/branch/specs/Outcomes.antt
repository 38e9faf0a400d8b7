-- The record that crosses a call, by the runner's outcome: all zero but what the outcome tells.
use Rattle.std.specs.Prelude.{ℕ, true, false, Result, Ok, Err, Some, None}
use Rattle.model.specs.declared.Refused.{Refused}
use Rattle.model.specs.declared.Branch.{Branch}
use Rattle.model.specs.Basics.{zeros}
use Rattle.model.specs.Words.{most_branch_events}
use Rattle.model.specs.Faults.{fault_number}
use Rattle.branch.specs.declared.Outcome.{Outcome}
use Rattle.branch.specs.declared.Outcome.TheVariants.{Accepts, Blank}

abbrev pub refused_branch : ℕ → ℕ → Branch
refused_branch number place = record {
  number = number;
  place = place;
  found = false;
  start = 0;
  edges = zeros most_branch_events;
  held = false;
  position = 0;
}

abbrev pub branch_in : Result Outcome Refused → Branch
branch_in (Ok (Accepts run)) = record {
  number = 0;
  place = 0;
  found = true;
  start = run.start;
  edges = run.edges;
  held = false;
  position = 0;
}
branch_in (Ok (Blank None)) = refused_branch 0 0
branch_in (Ok (Blank (Some position))) = record {
  number = 0;
  place = 0;
  found = false;
  start = 0;
  edges = zeros most_branch_events;
  held = true;
  position = position;
}
branch_in (Err r) = refused_branch (fault_number r.fault) r.place
