-- The file of a valid rule is made of bytes: each of its numbers fits two of them.
use mathlib.Core.Path.{◌≡◌, refl}
use mathlib.Core.Bool.{Bool, true, ◌&&◌}
use mathlib.Core.List.{List, [], ◌∷◌, ◌++◌}
use Prim.Native.Nat.{ℕ, zero, suc, ◌+◌, ◌-◌, ◌*◌, ◌%◌, ◌^◌, ◌≤◌, ◌<◌}
use native.Mathlib.Omega.{arith}
use lib.Pow.{pow_mono}
use lib.Dec.{eqb, ltb, leb}
use lib.ListN.{length, get_or, drop}
use borrow.Author.Tests.{lt-ltb, eqb-true}
use Rattle.model.specs.Basics.{pick, all_below}
use Rattle.model.specs.Texts.{atom_at, plain_atoms, atoms_past, most_levels, open_mark}
use Rattle.model.specs.Texts.{groups_past}
use Rattle.model.specs.Rules.{Atom, Edge, Rule, atoms_of, text_ok, sized, rising}
use Rattle.model.specs.Files.{numbers, sizes_record, location_records, edge_record}
use Rattle.model.specs.Files.{edge_records, file_with, rule_bytes}
use Rattle.model.proofs.Logic.{by_test, and_left, and_right, and_both, In, here, there}
use Rattle.model.proofs.Texts.{groups_mark, atoms_mark}
use Rattle.model.proofs.Valid.{AtomIn, EdgeIn, Valid}
use Rattle.model.proofs.ValidParts.{sized_of}
use Rattle.model.proofs.Rising.{rising_below, rising_rest}
use Rattle.model.proofs.Bytes.{all_below_append, numbers_are_bytes}

all_below_more : (m x : ℕ) (xs : List ℕ) → x < m → all_below m xs ≡ true → all_below m (x ∷ xs) ≡ true
all_below_more m x xs h b = and_both (ltb x m) (all_below m xs) (lt-ltb x m h) b

-- a record of one small number
small_record : (kind x : ℕ) → kind ≤ 5 → x ≤ 32 → all_below 256 (numbers (2 ∷ kind ∷ x ∷ [])) ≡ true
small_record kind x a b =
    numbers_are_bytes (2 ∷ kind ∷ x ∷ [])
    (all_below_more 65536 kind (x ∷ []) (omega arith) (all_below_more 65536 x [] (omega arith) refl))

locations_bytes :
    (kind least l : ℕ) (xs : List ℕ) → kind ≤ 5 → l ≤ 32 → rising least l xs ≡ true
    → all_below 256 (location_records kind xs) ≡ true
locations_bytes kind least l [] a b h = refl
locations_bytes kind least l (x ∷ xs) a b h =
    all_below_append 256 (numbers (2 ∷ kind ∷ x ∷ [])) (location_records kind xs)
    (small_record kind x a (omega (arith, rising_below least l x xs h)))
    (locations_bytes kind (suc x) l xs a b (rising_rest least l x xs h))

-- the numbers of a text are small: kind 5, atom by atom
plain_small :
    (k : ℕ) (t : List ℕ) → k ≤ 4 → length t % 3 ≡ 0 → ((a : Atom) → In a (plain_atoms t) → AtomIn k a)
    → all_below 65536 t ≡ true
plain_small k [] h n i = refl
plain_small k (c ∷ []) h n i = absurd (omega arith)
plain_small k (c ∷ d ∷ []) h n i = absurd (omega arith)
plain_small k (c ∷ d ∷ e ∷ t) h n i =
    let q = i (record { clock = c; relation = d; constant = e }) (here refl) in
    all_below_more 65536 c (d ∷ e ∷ t) (omega (arith, q.clock_below))
    (all_below_more 65536 d (e ∷ t) (omega (arith, q.relation_most))
    (all_below_more 65536 e t (omega (arith, q.constant_most))
    (plain_small k t h (omega arith) (λ b j. i b (there j)))))

-- kind 6: marks by the group rules, the numbers of an atom by its ranges
three_more :
    (t : List ℕ) → get_or t 0 0 < 65536 → get_or t 1 0 < 65536 → get_or t 2 0 < 65536
    → all_below 65536 (drop 3 t) ≡ true
    → all_below 65536 t ≡ true
three_more [] a b c h = refl
three_more (x ∷ []) a b c h = all_below_more 65536 x [] a refl
three_more (x ∷ y ∷ []) a b c h = all_below_more 65536 x (y ∷ []) a (all_below_more 65536 y [] b refl)
three_more (x ∷ y ∷ z ∷ t) a b c h =
    all_below_more 65536 x (y ∷ z ∷ t) a (all_below_more 65536 y (z ∷ t) b (all_below_more 65536 z t c h))

groups_small :
    (k n level groups atoms : ℕ) (t : List ℕ) → k ≤ 4 → groups_past n level groups atoms t ≡ true
    → ((a : Atom) → In a (atoms_past n t) → AtomIn k a)
    → all_below 65536 (drop n t) ≡ true
unfolding groups_past atoms_past
groups_small k zero level groups atoms [] h g i = refl
groups_small k (suc n) level groups atoms [] h g i = refl
groups_small k (suc n) level groups atoms (x ∷ t) h g i = groups_small k n level groups atoms t h g i
groups_small k zero level groups atoms (mark ∷ t) h was from =
    let g = rw (groups_mark level groups atoms mark t) at was in
    let i : (a : Atom) → In a (pick (eqb mark 3) (atom_at 0 t ∷ atoms_past 3 t) (atoms_past 0 t)) → AtomIn k a =
    rw (atoms_mark mark t) at from in
    by_test (eqb mark 3)
    (λ e.
    let g3 : (leb 1 atoms && groups_past 3 level groups (atoms - 1) t) ≡ true = rw e at g in
    let in3 : (a : Atom) → In a (atom_at 0 t ∷ atoms_past 3 t) → AtomIn k a = rw e at i in
    let q = in3 (atom_at 0 t) (here refl) in
    all_below_more 65536 mark t (omega (arith, eqb-true mark 3 e))
    (three_more t (omega (arith, q.clock_below)) (omega (arith, q.relation_most)) (omega (arith, q.constant_most))
    (groups_small k 3 level groups (atoms - 1) t h
    (and_right (leb 1 atoms) (groups_past 3 level groups (atoms - 1) t) g3)
    (λ a j. in3 a (there j)))))
    (λ e.
    let in0 : (a : Atom) → In a (atoms_past 0 t) → AtomIn k a = rw e at i in
    by_test (eqb mark 4)
    (λ f.
    let g4 : (leb 1 level && groups_past 0 (level - 1) groups atoms t) ≡ true = rw (e, f) at g in
    all_below_more 65536 mark t (omega (arith, eqb-true mark 4 f))
    (groups_small k 0 (level - 1) groups atoms t h
    (and_right (leb 1 level) (groups_past 0 (level - 1) groups atoms t) g4)
    in0))
    (λ f.
    let a : Bool = eqb mark (open_mark level) in
    let b : Bool = ltb (level + 1) most_levels in
    let c : Bool = leb 1 groups in
    let d : Bool = groups_past 0 (level + 1) (groups - 1) atoms t in
    let go : (a && b && c && d) ≡ true = rw (e, f) at g in
    let front : (a && b && c) ≡ true = and_left (a && b && c) d go in
    let m = eqb-true mark (open_mark level) (and_left a b (and_left (a && b) c front)) in
    all_below_more 65536 mark t (omega arith)
    (groups_small k 0 (level + 1) (groups - 1) atoms t h (and_right (a && b && c) d go) in0)))

text_small : (k : ℕ) (e : Edge) → k ≤ 4 → sized e ≡ true → text_ok e ≡ true
    → ((a : Atom) → In a (atoms_of e) → AtomIn k a)
    → all_below 65536 e.text ≡ true
text_small k e h s o i =
    by_test (eqb e.kind 5)
    (λ f.
    let g : (leb (length e.text) 24 && eqb (length e.text % 3) 0) ≡ true = rw f at s in
    let b =
    eqb-true (length e.text % 3) 0 (and_right (leb (length e.text) 24) (eqb (length e.text % 3) 0) g) in
    plain_small k e.text h b (rw f at i))
    (λ f.
    let g : (eqb e.kind 6 && leb (length e.text) 80) ≡ true = rw f at s in
    let six = and_left (eqb e.kind 6) (leb (length e.text) 80) g in
    groups_small k 0 0 8 16 e.text h (rw six at o) (rw f at i))

module _ (r : Rule) (v : Valid r) where
  edge_bytes : (e : Edge) → EdgeIn r e → all_below 256 (edge_record e) ≡ true
  edge_bytes e q =
      let masks : 2 ^ r.clocks ≤ 2 ^ 4 = pow_mono v.sizes.clocks_most in
      let l : r.locations ≤ 32 = v.sizes.locations_most in
      let n : ℕ = 8 + 2 * length e.text in
      let fits = sized_of e q.is_sized in
      let as_are : List ℕ = e.text in
      numbers_are_bytes (n ∷ e.kind ∷ e.source ∷ e.target ∷ e.symbol ∷ e.resets ∷ as_are)
      (all_below_more 65536 n (e.kind ∷ e.source ∷ e.target ∷ e.symbol ∷ e.resets ∷ as_are)
      (omega (arith, fits.length_most))
      (all_below_more 65536 e.kind (e.source ∷ e.target ∷ e.symbol ∷ e.resets ∷ as_are)
      (omega (arith, fits.kind_most))
      (all_below_more 65536 e.source (e.target ∷ e.symbol ∷ e.resets ∷ as_are) (omega (arith, q.source_below))
      (all_below_more 65536 e.target (e.symbol ∷ e.resets ∷ as_are) (omega (arith, q.target_below))
      (all_below_more 65536 e.symbol (e.resets ∷ as_are) (omega (arith, q.symbol_below, v.sizes.symbols_most))
      (all_below_more 65536 e.resets as_are (omega (arith, q.resets_below))
      (text_small r.clocks e v.sizes.clocks_most q.is_sized q.keeps_rules q.atoms_in)))))))

  edges_bytes : (es : List Edge) → ((e : Edge) → In e es → EdgeIn r e) → all_below 256 (edge_records es) ≡ true
  unfolding edge_records
  edges_bytes [] i = refl
  edges_bytes (e ∷ es) i =
      all_below_append 256 (edge_record e) (edge_records es) (edge_bytes e (i e (here refl)))
      (edges_bytes es (λ f j. i f (there j)))

  sizes_bytes : all_below 256 (sizes_record r) ≡ true
  sizes_bytes =
      let q = v.sizes in
      numbers_are_bytes (6 ∷ 1 ∷ r.locations ∷ r.symbols ∷ r.clocks ∷ [])
      (all_below_more 65536 r.locations (r.symbols ∷ r.clocks ∷ []) (omega (arith, q.locations_most))
      (all_below_more 65536 r.symbols (r.clocks ∷ []) (omega (arith, q.symbols_most))
      (all_below_more 65536 r.clocks [] (omega (arith, q.clocks_most)) refl)))

  pub valid_bytes : all_below 256 (rule_bytes r) ≡ true
  unfolding file_with rule_bytes
  valid_bytes =
      let l : r.locations ≤ 32 = v.sizes.locations_most in
      let edges_are : List ℕ = edge_records r.edges in
      let from_final : List ℕ = location_records 3 r.final ++ edges_are in
      let from_initial : List ℕ = location_records 2 r.initial ++ from_final in
      all_below_append 256 (sizes_record r) from_initial sizes_bytes
      (all_below_append 256 (location_records 2 r.initial) from_final
      (locations_bytes 2 0 r.locations r.initial (omega arith) l v.initial_rises)
      (all_below_append 256 (location_records 3 r.final) edges_are
      (locations_bytes 3 0 r.locations r.final (omega arith) l v.final_rises)
      (edges_bytes r.edges v.edges_in)))
