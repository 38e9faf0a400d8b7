-- The successor row is the paper's set: a code is in it exactly if some pair of the row and some edge that it allows,
-- given by number, make it; and the timer is reset exactly if one of these edges resets a clock.
use mathlib.Core.Path.{◌≡◌}
use mathlib.Core.Bool.{true}
use mathlib.Core.List.{List}
use Prim.Native.Nat.{ℕ}
use lib.Dec.{ltb}
use lib.ListN.{length, get_or}
use borrow.Author.Tests.{ltb-true, leb-true, lt-ltb, le-leb}
use Rattle.model.specs.Basics.{is_in}
use Rattle.model.specs.Rules.{Edge, Rule}
use Rattle.model.specs.Runs.{no_edge}
use Rattle.model.specs.Construction.{allows, row_resets, next_row}
use Rattle.model.specs.Claims.{Allowed, Makes, Resets, SuccessorsAre}
use Rattle.model.proofs.Logic.{In, is_in_lem, in_is, in_at, Numbered, in_number}
use Rattle.model.proofs.RowSets.{Leads, next_has, next_of, ResetsBy, reset_has, reset_of}

edge_in : (r : Rule) (n : ℕ) → ltb n (length r.edges) ≡ true → In (get_or r.edges n no_edge) r.edges
edge_in r n h = in_at no_edge r.edges n (ltb-true n (length r.edges) h)

module _ (r : Rule) (s i : ℕ) (row : List ℕ) where
  abbrev allowed_by :
      (pair : ℕ) (e : Edge) → In pair row → Numbered no_edge r.edges e → allows r s i pair e ≡ true
      → Allowed r s i row
  allowed_by pair e j n a = record {
    pair = pair;
    edge = n.number;
    pair_in = is_in_lem pair row j;
    edge_in = lt-ltb n.number (length r.edges) n.number_below;
    allows_it = rw n.at_number a;
  }

  made_by :
      (code pair : ℕ) (e : Edge) → In pair row → Numbered no_edge r.edges e
      → Leads r s i (row_resets r s i row) pair code e
      → Makes r s i row code
  made_by code pair e j n m =
      record { by = allowed_by pair e j n m.allowed; code_is = rw n.at_number m.code_is }

  pub made : (code : ℕ) → is_in code (next_row r s i row) ≡ true → Makes r s i row code
  made code h =
      let x = next_of r s i row code (in_is code (next_row r s i row) h) in
      let e = x.such in
      made_by code x.member e.member x.is_in_lem (in_number no_edge e.member r.edges e.is_in_lem) e.such

  pub makes : (code : ℕ) → Makes r s i row code → is_in code (next_row r s i row) ≡ true
  makes code m =
      let a : Allowed r s i row = m.by in
      is_in_lem code (next_row r s i row)
      (next_has r s i row a.pair code (in_is a.pair row a.pair_in)
      (record {
        member = get_or r.edges a.edge no_edge;
        is_in_lem = edge_in r a.edge a.edge_in;
        such = record { allowed = a.allows_it; code_is = m.code_is };
      }))

  reset_by :
      (pair : ℕ) (e : Edge) → In pair row → Numbered no_edge r.edges e → ResetsBy r s i pair e → Resets r s i row
  reset_by pair e j n m = record {
    by = allowed_by pair e j n m.allowed;
    resets_one = rw n.at_number (le-leb 1 e.resets m.some_clock);
  }

  pub reset : row_resets r s i row ≡ true → Resets r s i row
  reset h =
      let x = reset_of r s i row h in
      let e = x.such in
      reset_by x.member e.member x.is_in_lem (in_number no_edge e.member r.edges e.is_in_lem) e.such

  pub resets : Resets r s i row → row_resets r s i row ≡ true
  resets m =
      let a : Allowed r s i row = m.by in
      let e : Edge = get_or r.edges a.edge no_edge in
      reset_has r s i a.pair row (in_is a.pair row a.pair_in)
      (record {
        member = e;
        is_in_lem = edge_in r a.edge a.edge_in;
        such = record { allowed = a.allows_it; some_clock = leb-true 1 e.resets m.resets_one };
      })

pub successors_are : SuccessorsAre
successors_are = record {
  made = λ r s i code row. made r s i row code;
  makes = λ r s i code row. makes r s i row code;
  reset = reset;
  resets = resets;
}
