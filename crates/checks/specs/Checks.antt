-- The edge at the front of a list of numbers: its fields in range, the group rules, and the number that refuses it.
use Rattle.std.specs.Prelude.{Bool, true, ◌&&◌, List, ℕ, ◌^◌, Result, Ok, Err, eqb, ltb, get_or}
use Rattle.model.specs.declared.Fault.{Fault}
use Rattle.model.specs.declared.Head.{Head}
use Rattle.model.specs.Basics.{pick}
use Rattle.model.specs.Texts.{groups_ok}
use Rattle.model.specs.Rules.{grouped_edge, text_ok, atoms_of, atoms_ok, integer_reset}
use Rattle.model.specs.Layout.{edge_in}
use Rattle.model.specs.Faults.{fault_number}

-- source, target, symbol and reset mask
abbrev pub fields_ok : Head → List ℕ → Bool
fields_ok h t =
    ltb (get_or t 1 0) h.locations && ltb (get_or t 2 0) h.locations && ltb (get_or t 3 0) h.symbols
    && ltb (get_or t 4 0) (2 ^ h.clocks)

-- a text of kind 6 keeps the group rules
abbrev pub text_kept : ℕ → List ℕ → Bool
text_kept kind text = pick (eqb kind grouped_edge) (groups_ok text) true

-- the fields, the group rules and each atom
abbrev pub in_range : Head → List ℕ → Bool
in_range h t = fields_ok h t && text_ok (edge_in t) && atoms_ok h.clocks (atoms_of (edge_in t))

-- 6 for a number outside its range or a text that breaks the group rules, 7 for resets that are not pinned, 0 for none
unfoldable pub edge_fault : Head → List ℕ → ℕ
edge_fault h t = pick (in_range h t) (pick (integer_reset (edge_in t)) 0 7) 6

-- the number of a fault, 0 for none
abbrev pub number_in : {A : Type 0} → Result A Fault → ℕ
number_in (Ok a) = 0
number_in (Err fault) = fault_number fault
