-- A cell is made of the row that a row leads to, found or added, and of whether the timer is reset; and the cells of a
-- symbol, of a row and of all rows one after another, each with the number that its next row keeps.
use mathlib.Core.Path.{◌≡◌, ◌∙◌, ap, ap₂, subst}
use mathlib.Core.Bool.{Bool}
use mathlib.Core.List.{List}
use Prim.Native.Nat.{ℕ, ◌+◌, ◌*◌}
use Rattle.std.specs.Prelude.{Ok, Err}
use lib.ListN.{length}
use Rattle.model.specs.declared.Fault.{Fault}
use Rattle.model.specs.Basics.{one_if, zeros}
use Rattle.model.specs.Rules.{Rule}
use Rattle.model.specs.Construction.{row_resets, next_row, row_at, number_of, with_row, cell_of}
use Rattle.pairs.specs.declared.Input.{Input}
use Rattle.bits.specs.Bits.{codes_in}
use Rattle.construct.specs.declared.Marked.{Marked}
use Rattle.construct.specs.declared.Progress.{Progress}
use Rattle.construct.specs.Marks.{NextMarked}
use Rattle.construct.specs.Rows.{Grown, Unfit, MarksNumbered}
use Rattle.construct.specs.Cells.{CellMade}

-- the codes that are marked, from the row's number
next_codes :
    (r : Rule) (row : ℕ) (at : Input) (rs : List (List ℕ)) {x marks₁ : List ℕ} {marked : Marked} → x ≡ row_at rs row
    → NextMarked r at x marks₁ marked
    → codes_in marks₁ ≡ next_row r at.symbol at.interval (row_at rs row)
next_codes r row at rs is_row next = next.marks_are.codes_are ∙ ap (next_row r at.symbol at.interval) is_row

-- the cell and the row that it leads to, placed; or no row
module _
    {says : List ℕ → Bool} (r : Rule) (row : ℕ) (at : Input) (rs : List (List ℕ)) {room : ℕ}
    {x marks marks₁ marks' rows' pool' : List ℕ} (marked : Marked) (is_row : x ≡ row_at rs row)
    (long : length marks₁ ≡ length marks) (next : NextMarked r at x marks₁ marked) where
  pub cell_made :
      {p : Progress} (cell : ℕ)
      → MarksNumbered says room (with_row (codes_in marks₁) rs) (number_of (codes_in marks₁) rs) marks₁ marks' rows'
      pool' (Ok p)
      → cell ≡ 2 * p.last + one_if marked.timer
      → CellMade says r row at rs room marks marks' rows' pool' (Ok (record { cell = cell; progress = p }))
  unfolding cell_of
  cell_made {p} cell put c = record {
    marks_zero = put.marks_zero ∙ ap zeros long;
    cell_made = record {
      grown = subst (λ (l : List ℕ). Grown says room (with_row l rs) rows' pool' p) (next_codes r row at rs is_row next)
          put.numbered.grown;
      cell_is =
          c
          ∙ ap₂ (λ (n : ℕ) (b : Bool). 2 * n + one_if b)
          (put.numbered.row_is ∙ ap (λ (l : List ℕ). number_of l rs) (next_codes r row at rs is_row next))
          (next.timer_is ∙ ap (row_resets r at.symbol at.interval) is_row);
    };
  }

  pub cell_refused :
      {fault : Fault}
      → MarksNumbered says room (with_row (codes_in marks₁) rs) (number_of (codes_in marks₁) rs) marks₁ marks' rows'
      pool' (Err fault)
      → CellMade says r row at rs room marks marks' rows' pool' (Err fault)
  cell_refused {fault} put = record {
    marks_zero = put.marks_zero ∙ ap zeros long;
    cell_made =
        subst (λ (l : List ℕ). Unfit room (length pool') (with_row l rs) fault) (next_codes r row at rs is_row next)
        put.numbered;
  }
