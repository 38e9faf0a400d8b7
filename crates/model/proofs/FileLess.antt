-- A file less its ceiling, record by record: a record is kept whole or left out whole. The file of a rule has nothing
-- to leave out, and with a ceiling it is left the file of the rule.
use mathlib.Core.Path.{◌≡◌, refl, ◌∙◌, ap}
use mathlib.Core.Bool.{Bool, true, false, not}
use mathlib.Core.List.{List, [], ◌∷◌, ◌++◌}
use Prim.Native.Nat.{ℕ, ◌+◌, ◌-◌, ◌*◌, ◌/◌, ◌%◌, ◌≤◌}
use native.Mathlib.Omega.{arith}
use lib.Dec.{eqb, leb}
use lib.ListN.{length}
use borrow.Author.Tests.{leb-true, ne_eqb}
use Rattle.model.specs.Basics.{pick, is_in}
use Rattle.model.specs.Rules.{Edge, Rule, kinds_rise}
use Rattle.model.specs.Files.{record_head, numbers, sizes_record, location_records, ceiling_record}
use Rattle.model.specs.Files.{edge_record, edge_records, file_with, rule_bytes, ceiling_bytes, less_past, less_ceiling}
use Rattle.model.specs.Files.{kinds_past, has_ceiling}
use Rattle.model.proofs.Logic.{and_left, and_right}
use Rattle.model.proofs.Bytes.{two_back, numbers_length}

-- the bytes left of a record, then the records after it
less_left :
    (xs rest : List ℕ) (keep : Bool)
    → less_past (length xs) keep (xs ++ rest) ≡ pick keep xs [] ++ less_ceiling rest
unfolding less_past
less_left [] [] true = refl
less_left [] [] false = refl
less_left [] (y ∷ rest) true = refl
less_left [] (y ∷ rest) false = refl
less_left (x ∷ xs) rest true = ap (λ (l : List ℕ). x ∷ l) (less_left xs rest true)
less_left (x ∷ xs) rest false = less_left xs rest false

kinds_left : (xs rest : List ℕ) → kinds_past (length xs) (xs ++ rest) ≡ kinds_past 0 rest
unfolding kinds_past
kinds_left [] rest = refl
kinds_left (x ∷ xs) rest = kinds_left xs rest

first_byte :
    (keep : Bool) (x : ℕ) (xs ys : List ℕ)
    → pick keep (x ∷ []) [] ++ (pick keep xs [] ++ ys) ≡ pick keep (x ∷ xs) [] ++ ys
first_byte true x xs ys = refl
first_byte false x xs ys = refl

-- a record at the front, whose body is the numbers vs
module _ (n kind : ℕ) (vs rest : List ℕ) (size : n ≡ 2 * length vs) where
  past_first : record_head + n - 1 ≡ length (n / 256 ∷ kind % 256 ∷ kind / 256 ∷ numbers vs)
  past_first = omega (arith, numbers_length vs)

  less_record :
      less_ceiling (numbers (n ∷ kind ∷ vs) ++ rest)
      ≡ pick (not (eqb kind 4)) (numbers (n ∷ kind ∷ vs)) [] ++ less_ceiling rest
  unfolding less_past
  less_record =
      let keep : Bool = not (eqb kind 4) in
      let bytes : List ℕ = n / 256 ∷ kind % 256 ∷ kind / 256 ∷ numbers vs in
      rw (two_back n, two_back kind, past_first)
      (ap (λ (l : List ℕ). pick keep (n % 256 ∷ []) [] ++ l) (less_left bytes rest keep)
      ∙ first_byte keep (n % 256) bytes (less_ceiling rest))

  kinds_record : kinds_past 0 (numbers (n ∷ kind ∷ vs) ++ rest) ≡ kind ∷ kinds_past 0 rest
  unfolding kinds_past
  kinds_record =
      let bytes : List ℕ = n / 256 ∷ kind % 256 ∷ kind / 256 ∷ numbers vs in
      rw (two_back n, two_back kind, past_first) (ap (λ (l : List ℕ). kind ∷ l) (kinds_left bytes rest))

-- locations, and edges to the end
less_locations :
    (kind : ℕ) (xs rest : List ℕ) → eqb kind 4 ≡ false
    → less_ceiling (location_records kind xs ++ rest) ≡ location_records kind xs ++ less_ceiling rest
less_locations kind [] rest h = refl
less_locations kind (x ∷ xs) rest h =
    less_record 2 kind (x ∷ []) (location_records kind xs ++ rest) refl
    ∙ rw h (ap (λ (l : List ℕ). numbers (2 ∷ kind ∷ x ∷ []) ++ l) (less_locations kind xs rest h))

kinds_locations :
    (kind : ℕ) (xs rest : List ℕ) → eqb 4 kind ≡ false
    → has_ceiling (location_records kind xs ++ rest) ≡ has_ceiling rest
kinds_locations kind [] rest h = refl
kinds_locations kind (x ∷ xs) rest h =
    ap (is_in 4) (kinds_record 2 kind (x ∷ []) (location_records kind xs ++ rest) refl)
    ∙ rw h (kinds_locations kind xs rest h)

abbrev edge_values : Edge → List ℕ
edge_values e = e.source ∷ e.target ∷ e.symbol ∷ e.resets ∷ e.text

edge_size : (e : Edge) → 8 + 2 * length e.text ≡ 2 * length (edge_values e)
edge_size e = omega arith

-- no edge is a ceiling
other_kind : (least : ℕ) (e : Edge) (es : List Edge) → 5 ≤ least → kinds_rise least (e ∷ es) ≡ true → 5 ≤ e.kind
other_kind least e es h rise =
    omega (arith, leb-true least e.kind (and_left (leb least e.kind) (kinds_rise e.kind es) rise))

less_edges :
    (least : ℕ) (es : List Edge) → 5 ≤ least → kinds_rise least es ≡ true
    → less_ceiling (edge_records es) ≡ edge_records es
unfolding less_past edge_records
less_edges least [] h rise = refl
less_edges least (e ∷ es) h rise =
    let high : 5 ≤ e.kind = other_kind least e es h rise in
    less_record (8 + 2 * length e.text) e.kind (edge_values e) (edge_records es) (edge_size e)
    ∙ rw (ne_eqb e.kind 4 (omega arith))
    (ap (λ (l : List ℕ). edge_record e ++ l)
    (less_edges e.kind es high (and_right (leb least e.kind) (kinds_rise e.kind es) rise)))

kinds_edges :
    (least : ℕ) (es : List Edge) → 5 ≤ least → kinds_rise least es ≡ true → has_ceiling (edge_records es) ≡ false
unfolding kinds_past edge_records
kinds_edges least [] h rise = refl
kinds_edges least (e ∷ es) h rise =
    let high : 5 ≤ e.kind = other_kind least e es h rise in
    ap (is_in 4) (kinds_record (8 + 2 * length e.text) e.kind (edge_values e) (edge_records es) (edge_size e))
    ∙ rw (ne_eqb 4 e.kind (omega arith))
    (kinds_edges e.kind es high (and_right (leb least e.kind) (kinds_rise e.kind es) rise))

-- the file of a rule, with what stands between locations and edges
module _ (between : List ℕ) (r : Rule) where
  less_file : less_ceiling (between ++ edge_records r.edges) ≡ edge_records r.edges
      → less_ceiling (file_with between r) ≡ rule_bytes r
  unfolding file_with rule_bytes
  less_file less =
      let sizes : List ℕ = r.locations ∷ r.symbols ∷ r.clocks ∷ [] in
      less_record 6 1 sizes _ refl
      ∙ ap (λ (l : List ℕ). sizes_record r ++ l)
      (less_locations 2 r.initial _ refl
      ∙ ap (λ (l : List ℕ). location_records 2 r.initial ++ l)
      (less_locations 3 r.final _ refl ∙ ap (λ (l : List ℕ). location_records 3 r.final ++ l) less))

  kinds_file : has_ceiling (file_with between r) ≡ has_ceiling (between ++ edge_records r.edges)
  unfolding file_with
  kinds_file =
      let sizes : List ℕ = r.locations ∷ r.symbols ∷ r.clocks ∷ [] in
      ap (is_in 4) (kinds_record 6 1 sizes _ refl)
      ∙ (kinds_locations 2 r.initial _ refl ∙ kinds_locations 3 r.final _ refl)

pub less_plain : (r : Rule) → kinds_rise 5 r.edges ≡ true → less_ceiling (rule_bytes r) ≡ rule_bytes r
unfolding rule_bytes
less_plain r rise = less_file [] r (less_edges 5 r.edges (omega arith) rise)

pub less_ceiled : (c : ℕ) (r : Rule) → kinds_rise 5 r.edges ≡ true → less_ceiling (ceiling_bytes c r) ≡ rule_bytes r
unfolding ceiling_bytes
less_ceiled c r rise =
    less_file (ceiling_record c) r
    (less_record 2 4 (c ∷ []) (edge_records r.edges) refl ∙ less_edges 5 r.edges (omega arith) rise)

pub plain_has_none : (r : Rule) → kinds_rise 5 r.edges ≡ true → has_ceiling (rule_bytes r) ≡ false
unfolding rule_bytes
plain_has_none r rise = kinds_file [] r ∙ kinds_edges 5 r.edges (omega arith) rise

pub ceiled_has_one : (c : ℕ) (r : Rule) → has_ceiling (ceiling_bytes c r) ≡ true
unfolding ceiling_bytes
ceiled_has_one c r =
    kinds_file (ceiling_record c) r ∙ ap (is_in 4) (kinds_record 2 4 (c ∷ []) (edge_records r.edges) refl)
