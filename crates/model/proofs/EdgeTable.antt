-- The edge table by place: the edges from any number on, as a loop over the table meets them.
use mathlib.Core.Path.{◌≡◌, refl, ◌∙◌, ap}
use mathlib.Core.List.{List, ◌∷◌}
use Prim.Native.Nat.{ℕ, zero, suc, ◌+◌, ◌-◌, ◌*◌, ◌<◌}
use native.Mathlib.Omega.{arith}
use lib.ListN.{length, get_or, drop}
use lib.Seq.{drop-drop}
use Rattle.model.specs.Runs.{no_edge}
use Rattle.model.specs.Layout.{edge_width, edge_in, edges_in}

pub edges_length : (n : ℕ) (t : List ℕ) → length (edges_in n t) ≡ n
edges_length zero t = refl
edges_length (suc n) t = ap suc (edges_length n (drop edge_width t))

-- the edges from number e on are edge e and those from e + 1 on
pub edges_rest :
    (n e : ℕ) (t : List ℕ)
    → e < n
    → edges_in (n - e) (drop (edge_width * e) t)
    ≡ edge_in (drop (edge_width * e) t) ∷ edges_in (n - (e + 1)) (drop (edge_width * (e + 1)) t)
edges_rest n e t h =
    let a : n - e ≡ suc (n - (e + 1)) = omega arith in
    let b : edge_width * e + edge_width ≡ edge_width * (e + 1) = omega arith in
    rw (a, drop-drop edge_width (edge_width * e) t, b)

-- edge e of the table
pub edge_at_lem : (n e : ℕ) (t : List ℕ) → e < n → get_or (edges_in n t) e no_edge ≡ edge_in (drop (edge_width * e) t)
edge_at_lem zero e t h = absurd (omega arith)
edge_at_lem (suc n) zero t h = refl
edge_at_lem (suc n) (suc e) t h =
    let b : edge_width + edge_width * e ≡ edge_width * suc e = omega arith in
    edge_at_lem n e (drop edge_width t) (omega arith) ∙ rw (drop-drop (edge_width * e) edge_width t, b)
