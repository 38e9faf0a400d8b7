-- Row 0 is the start row, every initial location with bases 0; and in the tables as built row 0 has its codes.
use mathlib.Core.Path.{◌≡◌, ◌∙◌}
use mathlib.Core.Bool.{true}
use Prim.Native.Nat.{ℕ}
use native.Mathlib.Omega.{arith}
use lib.ListN.{length}
use borrow.Author.Tests.{lt-ltb}
use Rattle.model.specs.Basics.{is_in}
use Rattle.model.specs.Rules.{Rule}
use Rattle.model.specs.Construction.{start_row, rows_of}
use Rattle.model.specs.Claims.{Starts, StartIs}
use Rattle.model.proofs.Logic.{is_in_lem, in_is}
use Rattle.model.proofs.RowSets.{start_has, start_of}
use Rattle.model.proofs.Discovery.{discovered}
use Rattle.model.proofs.TablePlaces.{every_place}

starts : (r : Rule) (code : ℕ) → is_in code (start_row r) ≡ true → Starts r code
starts r code h =
    let m = start_of r code (in_is code (start_row r) h) in
    record { location = m.member; initial = is_in_lem m.member r.initial m.is_in_lem; code_is = m.such }

start : (r : Rule) (code : ℕ) → Starts r code → is_in code (start_row r) ≡ true
start r code m =
    rw m.code_is
    (is_in_lem _ (start_row r) (start_has r m.location (in_is m.location r.initial m.initial)))

-- The claim.
pub start_is : StartIs
start_is = record {
  row_0 = λ r. (discovered r).start_is;
  starts = starts;
  start = start;
  codes_0 = λ r scratch cells rows pool valid fits.
      (every_place r scratch cells rows pool valid fits).codes 0
      (lt-ltb 0 (length (rows_of r)) (omega (arith, (discovered r).some)))
      ∙ (discovered r).start_is;
}
