-- What is still to be put at each turn of a loop: the next record, then those after it.
use mathlib.Core.Path.{◌≡◌, ◌∙◌, ap}
use mathlib.Core.Bool.{true, false}
use mathlib.Core.List.{List, [], ◌∷◌, ◌++◌}
use Prim.Native.Nat.{ℕ, suc, ◌+◌, ◌-◌, ◌*◌, ◌≤◌, ◌<◌}
use native.Mathlib.Omega.{arith}
use native.Mathlib.Numerals.{add-one}
use lib.ListN.{length, get_or, drop, drop_of_length-le}
use lib.Seq.{drop-cons}
use Rattle.model.specs.Basics.{pick, bit, bits_from}
use Rattle.model.specs.Rules.{most_locations}
use Rattle.model.specs.Files.{number_bytes, two, numbers, location_records, edge_record, edge_records}
use Rattle.model.specs.Layout.{edge_width, edge_at, edges_in}
use Rattle.model.proofs.EdgeTable.{edges_rest}

-- a table's numbers
pub numbers_rest :
    (vs : List ℕ) (i : ℕ) → i < length vs → numbers (drop i vs) ≡ two (get_or vs i 0) ++ numbers (drop (i + 1) vs)
numbers_rest vs i h = rw (drop-cons vs i 0 h, add-one i)

pub numbers_none : (vs : List ℕ) (i : ℕ) → length vs ≤ i → numbers (drop i vs) ≡ []
numbers_none vs i h = ap numbers (drop_of_length-le vs h)

-- the locations of a mask from one on
abbrev pub locations_from : ℕ → ℕ → List ℕ
locations_from i mask = bits_from (most_locations - i) i mask

-- a location, if it is in the mask
abbrev pub location_at : ℕ → ℕ → List ℕ
location_at i mask = pick (bit i mask) (i ∷ []) []

pub locations_rest :
    (i mask : ℕ) → i < most_locations → locations_from i mask ≡ location_at i mask ++ locations_from (i + 1) mask
unfolding bits_from
locations_rest i mask h =
    let e : most_locations - i ≡ suc (most_locations - (i + 1)) = omega arith in
    ap (λ (n : ℕ). bits_from n i mask) e ∙ rw (bits_from, add-one i)

pub locations_none : (i mask : ℕ) → most_locations ≤ i → locations_from i mask ≡ []
unfolding bits_from
locations_none i mask h = let e : most_locations - i ≡ 0 = omega arith in rw e

-- their records: the first one's, if it is in the mask, then the others'
module _ (kind i mask : ℕ) (h : i < most_locations) where
  pub records_in :
      true ≡ bit i mask
      → location_records kind (locations_from i mask)
      ≡ numbers (number_bytes ∷ kind ∷ i ∷ []) ++ location_records kind (locations_from (i + 1) mask)
  records_in q = ap (location_records kind) (locations_rest i mask h) ∙ rw (← q)

  pub records_out :
      false ≡ bit i mask
      → location_records kind (locations_from i mask) ≡ location_records kind (locations_from (i + 1) mask)
  records_out q = ap (location_records kind) (locations_rest i mask h) ∙ rw (← q)

pub records_none : (kind i mask : ℕ) → most_locations ≤ i → location_records kind (locations_from i mask) ≡ []
records_none kind i mask h = ap (location_records kind) (locations_none i mask h)

-- the edges of a table from one on
abbrev pub edges_from : ℕ → ℕ → List ℕ → List ℕ
edges_from e n t = edge_records (edges_in (n - e) (drop (edge_width * e) t))

pub edges_from_all : (n : ℕ) (t : List ℕ) → edges_from 0 n t ≡ edge_records (edges_in n t)
edges_from_all n t = let e : n - 0 ≡ n = omega arith in rw e

pub edges_from_rest :
    (n e : ℕ) (t : List ℕ) → e < n → edges_from e n t ≡ edge_record (edge_at e t) ++ edges_from (e + 1) n t
unfolding edge_records
edges_from_rest n e t h = ap edge_records (edges_rest n e t h)

pub edges_from_none : (n e : ℕ) (t : List ℕ) → n ≤ e → edges_from e n t ≡ []
unfolding edge_records
edges_from_none n e t h = let z : n - e ≡ 0 = omega arith in rw z
