-- The length of a rule's file, part by part, and at most 44,426 bytes for a valid rule.
use mathlib.Core.Path.{◌≡◌, refl}
use mathlib.Core.Bool.{true}
use mathlib.Core.List.{List, [], ◌∷◌, ◌++◌}
use Prim.Native.Nat.{ℕ, suc, ◌+◌, ◌*◌, ◌≤◌}
use native.Mathlib.Omega.{arith}
use lib.ListN.{length, length-append}
use Rattle.model.specs.Rules.{Edge, Rule, rising, edges_ok}
use Rattle.model.specs.Files.{location_records, edge_record, edge_records, file_with, rule_bytes}
use Rattle.model.proofs.Rising.{rising_least, rising_below, rising_rest}
use Rattle.model.proofs.Valid.{sizes_of, Parts}
use Rattle.model.proofs.ValidParts.{first_edge, other_edges, sized_of}
use Rattle.model.proofs.FileRead.{edge_record_length}

pub locations_length : (kind : ℕ) (xs : List ℕ) → length (location_records kind xs) ≡ 6 * length xs
locations_length kind [] = refl
locations_length kind (x ∷ xs) = omega (arith, locations_length kind xs)

-- an edge's record has at most 172 bytes
pub edges_length_most : (r : Rule) (es : List Edge) → edges_ok r es ≡ true → length (edge_records es) ≤ 172 * length es
unfolding edge_records
edges_length_most r [] h = omega arith
edges_length_most r (e ∷ es) h =
    let few = (sized_of e (first_edge r e es h).is_sized).length_most in
    let rest = edges_length_most r es (other_edges r e es h) in
    omega (arith, length-append (edge_record e) (edge_records es), edge_record_length e)

-- a rising list below l has at most l numbers
rising_count : (least l : ℕ) (xs : List ℕ) → least ≤ l → rising least l xs ≡ true → least + length xs ≤ l
rising_count least l [] h q = omega arith
rising_count least l (x ∷ xs) h q =
    let rest = rising_count (suc x) l xs (rising_below least l x xs q) (rising_rest least l x xs q) in
    omega (arith, rising_least least l x xs q)

pub rising_length : (l : ℕ) (xs : List ℕ) → rising 0 l xs ≡ true → length xs ≤ l
rising_length l xs q = omega (arith, rising_count 0 l xs (omega arith) q)

pub file_length :
    (r : Rule)
    → length (rule_bytes r)
    ≡ 10 + 6 * length r.initial + 6 * length r.final + length (edge_records r.edges)
unfolding file_with rule_bytes
file_length r =
    let edges_are : List ℕ = edge_records r.edges in
    let from_final : List ℕ = location_records 3 r.final ++ edges_are in
    let i = length-append (location_records 2 r.initial) from_final in
    let f = length-append (location_records 3 r.final) edges_are in
    omega (arith, i, f, locations_length 2 r.initial, locations_length 3 r.final)

pub file_length_most : (r : Rule) → Parts r → length (rule_bytes r) ≤ 44426
file_length_most r v =
    let l : r.locations ≤ 32 = (sizes_of r.locations r.symbols r.clocks v.sizes).locations_most in
    let i = rising_length r.locations r.initial v.initial_rises in
    let f = rising_length r.locations r.final v.final_rises in
    let e = edges_length_most r r.edges v.edges_ok in
    omega (arith, file_length r, v.edges_most)
