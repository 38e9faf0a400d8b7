-- The file of a rule with one record more is the file and that record; and the bytes of a record that was read are what
-- writing its numbers gives.
use mathlib.Core.Path.{◌≡◌, refl, sym, ◌∙◌, ap, ap₂}
use mathlib.Core.Bool.{true}
use mathlib.Core.List.{List, [], ◌∷◌, ◌++◌, append-nil, append_assoc}
use Prim.Native.Nat.{ℕ, suc, ◌+◌, ◌*◌, ◌≤◌}
use native.Mathlib.Omega.{arith}
use lib.ListN.{length, drop}
use lib.Seq.{drop-drop}
use Rattle.model.specs.Basics.{all_below}
use Rattle.model.specs.Rules.{Edge, Rule}
use Rattle.model.specs.Files.{number_at, record_head, body_length, kind_of, body_of, numbers_of, with_initial}
use Rattle.model.specs.Files.{with_final, with_edge, numbers, sizes_record, location_records, ceiling_record}
use Rattle.model.specs.Files.{edge_record, edge_records, file_with}
use Rattle.model.proofs.Bytes.{number_later, numbers_back}

-- records one after another
pub locations_append :
    (kind : ℕ) (xs ys : List ℕ) → location_records kind (xs ++ ys) ≡ location_records kind xs ++ location_records kind
    ys
locations_append kind [] ys = refl
locations_append kind (x ∷ xs) ys = ap (λ (l : List ℕ). numbers (2 ∷ kind ∷ x ∷ []) ++ l) (locations_append kind xs ys)

pub edges_append : (es fs : List Edge) → edge_records (es ++ fs) ≡ edge_records es ++ edge_records fs
unfolding edge_records
edges_append [] fs = refl
edges_append (e ∷ es) fs =
    ap (λ (l : List ℕ). edge_record e ++ l) (edges_append es fs)
    ∙ sym (append_assoc (edge_record e) (edge_records es) (edge_records fs))

-- parts in a row, with one more at the end
in_two : (a b k : List ℕ) → a ++ ((b ++ k) ++ []) ≡ (a ++ (b ++ [])) ++ k
in_two a b k = simp (append-nil, append_assoc)

in_three : (a b c k : List ℕ) → a ++ (b ++ ((c ++ k) ++ [])) ≡ (a ++ (b ++ (c ++ []))) ++ k
in_three a b c k = simp (append-nil, append_assoc)

after_three : (a b c k : List ℕ) → a ++ (b ++ (c ++ (k ++ []))) ≡ (a ++ (b ++ (c ++ []))) ++ k
after_three a b c k = simp (append-nil, append_assoc)

after_five : (a b c d e k : List ℕ) → a ++ (b ++ (c ++ (d ++ (e ++ (k ++ []))))) ≡ (a ++ (b ++ (c ++ (d ++ e)))) ++ k
after_five a b c d e k = simp (append-nil, append_assoc)

-- one record more, where nothing that stands behind it has been read
module _ (r : Rule) where
  pub writes_initial :
      (x : ℕ) → r.final ≡ [] → r.edges ≡ []
      → file_with [] (with_initial r x) ≡ file_with [] r ++ numbers (2 ∷ 2 ∷ x ∷ [])
  unfolding file_with edge_records
  writes_initial x f e =
      rw (f, e, locations_append 2 r.initial (x ∷ []))
      (in_two (sizes_record r) (location_records 2 r.initial) (numbers (2 ∷ 2 ∷ x ∷ [])))

  pub writes_final :
      (x : ℕ) → r.edges ≡ []
      → file_with [] (with_final r x) ≡ file_with [] r ++ numbers (2 ∷ 3 ∷ x ∷ [])
  unfolding file_with edge_records
  writes_final x e =
      let k : List ℕ = numbers (2 ∷ 3 ∷ x ∷ []) in
      rw (e, locations_append 3 r.final (x ∷ []))
      (in_three (sizes_record r) (location_records 2 r.initial) (location_records 3 r.final) k)

  pub writes_ceiling : (c : ℕ) → r.edges ≡ [] → file_with (ceiling_record c) r ≡ file_with [] r ++ ceiling_record c
  unfolding file_with edge_records
  writes_ceiling c e =
      rw e
      (after_three (sizes_record r) (location_records 2 r.initial) (location_records 3 r.final) (ceiling_record c))

  pub writes_edge :
      (between : List ℕ) (e : Edge) → file_with between (with_edge r e) ≡ file_with between r ++ edge_record e
  unfolding file_with edge_records
  writes_edge between e =
      rw (edges_append r.edges (e ∷ []))
      (after_five (sizes_record r) (location_records 2 r.initial) (location_records 3 r.final) between
      (edge_records r.edges) (edge_record e))

-- the numbers of a record that was read
pub head_numbers :
    (m : ℕ) (s : List ℕ) → numbers_of (suc (suc m)) s ≡ number_at 0 s ∷ number_at 1 s ∷ numbers_of m (drop 4 s)
head_numbers m s = rw (number_later 0 1 s, drop-drop 2 2 s)

pub three_numbers :
    (m : ℕ) (s : List ℕ)
    → numbers_of (suc (suc (suc m))) s ≡ number_at 0 s ∷ number_at 1 s ∷ number_at 2 s ∷ numbers_of m (drop 6 s)
three_numbers m s = head_numbers (suc m) s ∙ rw (number_later 0 2 s, drop-drop 2 4 s)

pub four_numbers :
    (m : ℕ) (s : List ℕ)
    → numbers_of (4 + m) s ≡ number_at 0 s ∷ number_at 1 s ∷ number_at 2 s ∷ number_at 3 s ∷ numbers_of m (drop 8 s)
four_numbers m s =
    let four : 4 + m ≡ suc (suc (suc (suc m))) = omega arith in
    rw four (three_numbers (suc m) s ∙ rw (number_later 0 3 s, drop-drop 2 6 s))

-- the bytes of a record whose body has m numbers
pub record_again :
    (s : List ℕ) (m kind : ℕ) (vs : List ℕ) → all_below 256 s ≡ true → record_head + body_length s ≤ length s
    → body_length s ≡ 2 * m → kind_of s ≡ kind → numbers_of m (body_of s) ≡ vs
    → numbers (body_length s ∷ kind ∷ vs) ++ drop (record_head + body_length s) s ≡ s
record_again s m kind vs b whole long k v =
    let size : record_head + body_length s ≡ 2 * suc (suc m) = omega arith in
    let all : numbers_of (suc (suc m)) s ≡ body_length s ∷ kind ∷ vs =
    head_numbers m s ∙ ap₂ (λ (x : ℕ) (l : List ℕ). body_length s ∷ x ∷ l) k v in
    ap₂ (λ (l : List ℕ) (j : ℕ). numbers l ++ drop j s) (sym all) size ∙ numbers_back (suc (suc m)) s b (omega arith)
