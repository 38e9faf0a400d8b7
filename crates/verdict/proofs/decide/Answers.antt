-- `verdict::decide` meets its promise: whichever call refuses first, and where none does, the three promises give it.
use Rattle.std.proofs.Common.{◌≡◌, ◌∙◌, refl, sym}
use borrow.Author.Tests.{eq-eqb}
use Rattle.model.specs.declared.Fault.{Fault}
use Rattle.model.specs.Faults.{fault_number}
use Rattle.model.proofs.Decision.{unread, unbuilt, decided}
use Rattle.model.proofs.Faults.{refuses}
use Rattle.model.proofs.Logic.{no_way}
use Rattle.verdict.proofs.decide.Goals as goal

fault_not_zero : (f : Fault) → fault_number f ≡ 0 → ⊥
fault_not_zero f z = no_way (sym (refuses f 0) ∙ eq-eqb (fault_number f) 0 z)

pub returns-in-Err : goal.returns-in-Err
returns-in-Err c = unread _ _ _ _ _ _ _ _ _ _ _ c.in-Err.ensures (fault_not_zero _)

pub returns-in-Err-build_table : goal.returns-in-Err-build_table
returns-in-Err-build_table c =
    unbuilt _ _ _ _ _ _ _ _ _ _ _ _ _ _ _ _ c.in-Ok.ensures refl c.in-Err-build_table.ensures (fault_not_zero _)

pub returns : goal.returns
returns c =
    decided _ _ _ _ _ _ _ _ _ _ _ _ _ _ _ _ c.in-Ok.ensures refl c.in-Ok-build_table.ensures _ refl
    c.run_table.ensures
