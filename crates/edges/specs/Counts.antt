-- The count of an edge of the table: of atoms for kind 5, of the numbers of its text for kind 6.
use Rattle.std.specs.Prelude.{List, ℕ, ◌*◌, get_or, drop}
use Rattle.model.specs.Layout.{edge_width}

abbrev pub count_at : ℕ → List ℕ → ℕ
count_at e t = get_or (drop (edge_width * e) t) 5 0
