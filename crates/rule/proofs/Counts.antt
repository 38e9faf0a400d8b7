-- Kind and count of an edge in their ranges: its text stands whole in its places, and has as many numbers as they say.
use mathlib.Core.Path.{◌≡◌}
use mathlib.Core.Bool.{true, ◌&&◌}
use mathlib.Core.List.{List}
use Prim.Native.Nat.{ℕ, ◌-◌, ◌*◌, ◌/◌, ◌%◌, ◌≤◌}
use native.Mathlib.Omega.{arith}
use lib.Dec.{eqb, leb}
use lib.ListN.{length, get_or, drop, length-drop}
use lib.Seq.{length-take-le}
use borrow.Author.Tests.{eq-eqb, le-leb, leb-true}
use Rattle.model.specs.Rules.{Edge, plain_edge, grouped_edge, atom_width, most_atoms, most_text, sized}
use Rattle.model.specs.Layout.{edge_fields, edge_width, text_count, text_length, edge_in}
use Rattle.model.proofs.Logic.{by_test, and_left, and_right}
use Rattle.rule.specs.Checks.{count_ok}

-- the places of an edge's text
abbrev pub text_places : ℕ
text_places = edge_width - edge_fields

pub record Counted (kind count : ℕ) : Type 0 where
  pub length_most : text_length kind count ≤ text_places
  pub count_again : text_count kind (text_length kind count) ≡ count
  pub is_sized : (e : Edge) → e.kind ≡ kind → length e.text ≡ text_length kind count → sized e ≡ true

pub counted : (kind count : ℕ) → count_ok kind count ≡ true → Counted kind count
counted kind count h =
    by_test (eqb kind plain_edge)
    (λ five.
    let few : count ≤ most_atoms = leb-true count most_atoms (rw five at h) in
    record {
      length_most = rw five (omega arith);
      count_again = rw five (omega arith);
      is_sized = λ e k n.
          let long : length e.text ≡ atom_width * count = rw five at n in
          rw (
            k,
            five,
            le-leb (length e.text) (atom_width * most_atoms) (omega arith),
            eq-eqb (length e.text % atom_width) 0 (omega arith),
          );
    })
    (λ other.
    let g : (eqb kind grouped_edge && leb count most_text) ≡ true = rw other at h in
    let six : eqb kind grouped_edge ≡ true = and_left (eqb kind grouped_edge) (leb count most_text) g in
    let few : count ≤ most_text =
    leb-true count most_text (and_right (eqb kind grouped_edge) (leb count most_text) g) in
    record {
      length_most = rw other few;
      count_again = rw other;
      is_sized = λ e k n.
          let long : length e.text ≡ count = rw other at n in
          rw (k, other, six, le-leb (length e.text) most_text (omega arith));
    })

-- the count of a text that has a size of its kind
pub sized_counted :
    (e : Edge) → sized e ≡ true → count_ok e.kind (text_count e.kind (length e.text)) ≡ true
sized_counted e h =
    by_test (eqb e.kind plain_edge)
    (λ five.
    let g : (leb (length e.text) (atom_width * most_atoms) && eqb (length e.text % atom_width) 0) ≡ true =
    rw five at h in
    let few : length e.text ≤ atom_width * most_atoms =
    leb-true (length e.text) (atom_width * most_atoms)
    (and_left (leb (length e.text) (atom_width * most_atoms)) (eqb (length e.text % atom_width) 0) g) in
    rw five (le-leb (length e.text / atom_width) most_atoms (omega arith)))
    (λ other. rw other (rw other at h))

-- the text of the edge at the front of a table that holds the edge
pub text_long :
    (t : List ℕ) → edge_width ≤ length t → count_ok (get_or t 0 0) (get_or t 5 0) ≡ true
    → length (edge_in t).text ≡ text_length (get_or t 0 0) (get_or t 5 0)
text_long t long ok =
    length-take-le (text_length (get_or t 0 0) (get_or t 5 0)) (drop edge_fields t)
    (rw (length-drop edge_fields t) (omega (arith, (counted (get_or t 0 0) (get_or t 5 0) ok).length_most)))
