-- An edge's text, read from the whole table.
use mathlib.Core.Path.{◌≡◌, ◌∙◌}
use mathlib.Core.List.{List}
use Prim.Native.Nat.{ℕ, ◌+◌, ◌*◌}
use lib.ListN.{take, drop}
use lib.Seq.{drop-drop}
use Rattle.model.specs.Layout.{edge_fields, edge_width, text_length, edge_at}
use Rattle.edges.specs.Counts.{count_at}

-- the part of the table from the text's place on
pub text_read :
    (t : List ℕ) (e start n : ℕ) {r : List ℕ} → start ≡ edge_width * e
    → n ≡ text_length (edge_at e t).kind (count_at e t)
    → r ≡ take n (drop (start + edge_fields) t)
    → r ≡ (edge_at e t).text
text_read t e start n at long r = r ∙ rw (at, long, ← drop-drop edge_fields (edge_width * e) t)
