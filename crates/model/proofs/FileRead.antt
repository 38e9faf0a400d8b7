-- The file of a valid rule, with or without a ceiling, is accepted and spells that rule: its records are read one after
-- another, each a step.
use mathlib.Core.Path.{◌≡◌, refl, ◌∙◌, ap}
use mathlib.Core.Bool.{true, ◌&&◌}
use mathlib.Core.List.{List, [], ◌∷◌, ◌++◌, append-nil}
use Prim.Native.Nat.{ℕ, ◌+◌, ◌-◌, ◌*◌, ◌/◌, ◌%◌, ◌≤◌, ◌<◌}
use native.Mathlib.Omega.{arith}
use lib.Dec.{eqb, leb}
use lib.ListN.{length, length-append}
use lib.Seq.{append_snoc, drop_at}
use borrow.Author.Tests.{eqb-true, eq-eqb, leb-true}
use Rattle.model.specs.Basics.{within}
use Rattle.model.specs.Rules.{Edge, Rule, rule, pair_count, most_pairs, most_edges, most_constant, sizes_ok}
use Rattle.model.specs.Rules.{edge_ok, integer_reset, rising, sized, edges_ok, kinds_rise, valid_rule}
use Rattle.model.specs.Files.{number_at, record_head, body_ok, edge_from, past_last, no_rule, with_initial}
use Rattle.model.specs.Files.{with_final, with_edge, with_record, Spelt, read_rule, numbers, location_records}
use Rattle.model.specs.Files.{ceiling_record, edge_record, edge_records, file_with, rule_bytes}
use Rattle.model.specs.Files.{ceiling_bytes}
use Rattle.model.specs.Demands.{ReadBack, ValidIsSpelt, CeilingIsDropped}
use Rattle.model.proofs.Logic.{by_test, and_left, and_right, and_both, in_within}
use Rattle.model.proofs.Rising.{rising_least, rising_below, rising_rest}
use Rattle.model.proofs.Valid.{sizes_of, Parts, valid_parts, valid_pairs}
use Rattle.model.proofs.ValidParts.{EdgeOk, sized_of, first_edge, other_edges, same_sizes, past_last_lem}
use Rattle.model.proofs.Bytes.{two_back, numbers_length, numbers_read}
use Rattle.model.proofs.FileSoFar.{with_edge_lem}
use Rattle.model.proofs.FileSteps.{read_on, read_all, read_ends}
use Rattle.model.proofs.FileOutcomes.{spelt, end_fine}
use Rattle.model.proofs.FileRecords.{sizes, initial, final, ceiling, edge}
use Rattle.model.proofs.FileChecks.{read_record}

-- from the rule so far, after a record of at most this kind, the bytes left spell the whole rule
abbrev pub Reads : ℕ → Rule → List ℕ → Rule → Type 0
Reads most r s whole = (p last : ℕ) → last ≤ most → read_on p last r s ≡ spelt whole

-- no bytes left
end_reads :
    (r : Rule) → 1 ≤ r.locations → pair_count r ≤ most_pairs → (p last : ℕ) → read_on p last r [] ≡ spelt r
end_reads r h q p last = read_ends p last r [] refl ∙ end_fine p r h q

-- an edge's body, read
abbrev edge_bytes : Edge → List ℕ → List ℕ
edge_bytes e rest = numbers (e.source ∷ e.target ∷ e.symbol ∷ e.resets ∷ e.text) ++ rest

edge_read : (e : Edge) (rest : List ℕ) → edge_from e.kind (8 + 2 * length e.text) (edge_bytes e rest) ≡ e
edge_read e rest =
    let m : (8 + 2 * length e.text - 8) / 2 ≡ length e.text = omega arith in
    rw (
      m,
      two_back e.source,
      two_back e.target,
      two_back e.symbol,
      two_back e.resets,
      numbers_read
          e.text rest,
    )

pub edge_record_length : (e : Edge) → length (edge_record e) ≡ record_head + (8 + 2 * length e.text)
edge_record_length e =
    let n : ℕ = 8 + 2 * length e.text in
    let vs : List ℕ = e.source ∷ e.target ∷ e.symbol ∷ e.resets ∷ e.text in
    omega (arith, numbers_length (n ∷ e.kind ∷ vs))

-- a text of a size that its kind has makes a body of a length that its kind has
body_from : (e : Edge) → sized e ≡ true → body_ok e.kind (8 + 2 * length e.text) ≡ true
body_from e h =
    let n : ℕ = 8 + 2 * length e.text in
    by_test (eqb e.kind 5)
    (λ f.
    let g : (leb (length e.text) 24 && eqb (length e.text % 3) 0) ≡ true = rw f at h in
    let a = leb-true (length e.text) 24 (and_left (leb (length e.text) 24) (eqb (length e.text % 3) 0) g) in
    let b =
    eqb-true (length e.text % 3) 0 (and_right (leb (length e.text) 24) (eqb (length e.text % 3) 0) g) in
    rw (eqb-true e.kind 5 f)
    (and_both (within 8 56 n) (eqb ((n - 8) % 6) 0) (in_within 8 56 n (omega arith) (omega arith))
    (eq-eqb ((n - 8) % 6) 0 (omega arith))))
    (λ f.
    let g : (eqb e.kind 6 && leb (length e.text) 80) ≡ true = rw f at h in
    let a = leb-true (length e.text) 80 (and_right (eqb e.kind 6) (leb (length e.text) 80) g) in
    rw (eqb-true e.kind 6 (and_left (eqb e.kind 6) (leb (length e.text) 80) g))
    (and_both (within 8 168 n) (eqb (n % 2) 0) (in_within 8 168 n (omega arith) (omega arith))
    (eq-eqb (n % 2) 0 (omega arith))))

-- One record read of each kind.
pub edge_step :
    (p last : ℕ) (r : Rule) (e : Edge) (rest : List ℕ) → 1 ≤ r.locations → last ≤ e.kind
    → length r.edges < most_edges
    → EdgeOk r e
    → read_on p last r (edge_record e ++ rest)
    ≡ read_on (p + (record_head + (8 + 2 * length e.text))) e.kind (with_edge r e) rest
edge_step p last r e rest h b room ok =
    let n : ℕ = 8 + 2 * length e.text in
    let k : ℕ = e.kind in
    let back : edge_from k n (edge_bytes e rest) ≡ e = edge_read e rest in
    let fits = sized_of e ok.is_sized in
    let long : record_head + n ≤ length (edge_record e ++ rest) =
    omega (arith, length-append (edge_record e) rest, edge_record_length e) in
    read_record p last r (edge_record e ++ rest) k n (edge_bytes e rest) rest (two_back k) (two_back n) refl
    (drop_at (edge_record e) rest (record_head + n) (edge_record_length e)) long
    (edge fits.kind_least fits.kind_most (record {
      length_least = omega arith;
      length_most = omega (arith, fits.length_most);
      length_even = omega arith;
      length_ok = body_from e ok.is_sized;
      sizes_seen = h;
      no_fall = b;
      room = room;
      in_range = ap (edge_ok r) back ∙ ok.in_range;
      pinned = ap integer_reset back ∙ ok.pinned;
    }))
    ∙ (ap (λ (q : Rule). read_on (p + (record_head + n)) k q rest) (with_edge_lem r k n (edge_bytes e rest)
    fits.kind_least)
    ∙ ap (λ (f : Edge). read_on (p + (record_head + n)) k (with_edge r f) rest) back)

pub ceiling_step :
    (p last : ℕ) (r : Rule) (c : ℕ) (rest : List ℕ) → 1 ≤ r.locations → last ≤ 3 → c ≤ most_constant
    → read_on p last r (ceiling_record c ++ rest) ≡ read_on (p + 6) 4 r rest
unfolding with_record
ceiling_step p last r c rest h b most =
    let back : number_at 0 (numbers (c ∷ []) ++ rest) ≡ c = two_back c in
    read_record p last r (ceiling_record c ++ rest) 4 2 (numbers (c ∷ []) ++ rest) rest refl refl refl refl
    (omega arith)
    (ceiling refl
    (record {
      length_is = refl;
      sizes_seen = h;
      no_fall = omega arith;
      none_yet = λ e. omega arith;
      in_range = rw back most;
    }))

pub final_step :
    (p last : ℕ) (r : Rule) (x : ℕ) (rest : List ℕ) → 1 ≤ r.locations → last ≤ 3 → past_last r.final ≤ x
    → x < r.locations
    → read_on p last r (numbers (2 ∷ 3 ∷ x ∷ []) ++ rest) ≡ read_on (p + 6) 3 (with_final r x) rest
unfolding with_record
final_step p last r x rest h b past below =
    let back : number_at 0 (numbers (x ∷ []) ++ rest) ≡ x = two_back x in
    read_record p last r (numbers (2 ∷ 3 ∷ x ∷ []) ++ rest) 3 2 (numbers (x ∷ []) ++ rest) rest refl refl refl refl
    (omega arith)
    (final refl
    (record { length_is = refl; sizes_seen = h; no_fall = b; rises = rw back past; in_range = rw back below }))
    ∙ ap (λ (y : ℕ). read_on (p + 6) 3 (with_final r y) rest) back

pub initial_step :
    (p last : ℕ) (r : Rule) (x : ℕ) (rest : List ℕ) → 1 ≤ r.locations → last ≤ 2 → past_last r.initial ≤ x
    → x < r.locations
    → read_on p last r (numbers (2 ∷ 2 ∷ x ∷ []) ++ rest) ≡ read_on (p + 6) 2 (with_initial r x) rest
unfolding with_record
initial_step p last r x rest h b past below =
    let back : number_at 0 (numbers (x ∷ []) ++ rest) ≡ x = two_back x in
    read_record p last r (numbers (2 ∷ 2 ∷ x ∷ []) ++ rest) 2 2 (numbers (x ∷ []) ++ rest) rest refl refl refl refl
    (omega arith)
    (initial refl
    (record { length_is = refl; sizes_seen = h; no_fall = b; rises = rw back past; in_range = rw back below }))
    ∙ ap (λ (y : ℕ). read_on (p + 6) 2 (with_initial r y) rest) back

pub sizes_step :
    (p last : ℕ) (r : Rule) (l s k : ℕ) (rest : List ℕ) → r.locations ≡ 0 → sizes_ok l s k ≡ true
    → read_on p last r (numbers (6 ∷ 1 ∷ l ∷ s ∷ k ∷ []) ++ rest) ≡ read_on (p + 10) 1 (rule l s k [] [] []) rest
unfolding with_record
sizes_step p last r l s k rest none ok =
    read_record p last r (numbers (6 ∷ 1 ∷ l ∷ s ∷ k ∷ []) ++ rest) 1 6 (numbers (l ∷ s ∷ k ∷ []) ++ rest) rest
    refl refl refl refl
    (omega arith)
    (sizes refl
    (record { length_is = refl; none_yet = none; in_range = rw (two_back l, two_back s, two_back k) ok }))
    ∙ rw (two_back l, two_back s, two_back k)

-- All records of a kind.
edges_read :
    (l s k : ℕ) (i f : List ℕ) (least : ℕ) (done todo : List Edge) (whole : Rule) → 1 ≤ l
    → length done + length todo ≤ most_edges
    → edges_ok (rule l s k i f done) todo ≡ true
    → kinds_rise least todo ≡ true
    → ((p last : ℕ) → read_on p last (rule l s k i f (done ++ todo)) [] ≡ spelt whole)
    → Reads least (rule l s k i f done) (edge_records todo) whole
unfolding edge_records
edges_read l s k i f least done [] whole h most ok rise rest p last b = rw (append-nil done) at (rest p last)
edges_read l s k i f least done (e ∷ todo) whole h most ok rise rest p last b =
    edge_step p last (rule l s k i f done) e (edge_records todo) h
    (omega (arith, leb-true least e.kind (and_left (leb least e.kind) (kinds_rise e.kind todo) rise)))
    (omega arith)
    (first_edge (rule l s k i f done) e todo ok)
    ∙ edges_read l s k i f e.kind (done ++ (e ∷ [])) todo whole h
    (omega (arith, length-append done (e ∷ [])))
    (same_sizes (rule l s k i f (done ++ (e ∷ []))) (rule l s k i f done) todo refl refl refl
    ∙ other_edges (rule l s k i f done) e todo ok)
    (and_right (leb least e.kind) (kinds_rise e.kind todo) rise)
    (rw append_snoc rest)
    (p + (record_head + (8 + 2 * length e.text))) e.kind (omega arith)

finals_read :
    (l s k : ℕ) (i done todo rest : List ℕ) (whole : Rule) → 1 ≤ l → rising (past_last done) l todo ≡ true
    → Reads 3 (rule l s k i (done ++ todo) []) rest whole
    → Reads 3 (rule l s k i done []) (location_records 3 todo ++ rest) whole
finals_read l s k i done [] rest whole h q after p last b = rw (append-nil done) at (after p last b)
finals_read l s k i done (x ∷ todo) rest whole h q after p last b =
    final_step p last (rule l s k i done []) x (location_records 3 todo ++ rest) h b
    (rising_least (past_last done) l x todo q) (rising_below (past_last done) l x todo q)
    ∙ finals_read l s k i (done ++ (x ∷ [])) todo rest whole h
    (rw (past_last_lem done x) (rising_rest (past_last done) l x todo q))
    (rw append_snoc after)
    (p + 6) 3 (omega arith)

initials_read :
    (l s k : ℕ) (done todo rest : List ℕ) (whole : Rule) → 1 ≤ l → rising (past_last done) l todo ≡ true
    → Reads 2 (rule l s k (done ++ todo) [] []) rest whole
    → Reads 2 (rule l s k done [] []) (location_records 2 todo ++ rest) whole
initials_read l s k done [] rest whole h q after p last b = rw (append-nil done) at (after p last b)
initials_read l s k done (x ∷ todo) rest whole h q after p last b =
    initial_step p last (rule l s k done [] []) x (location_records 2 todo ++ rest) h b
    (rising_least (past_last done) l x todo q) (rising_below (past_last done) l x todo q)
    ∙ initials_read l s k (done ++ (x ∷ [])) todo rest whole h
    (rw (past_last_lem done x) (rising_rest (past_last done) l x todo q))
    (rw append_snoc after)
    (p + 6) 2 (omega arith)

-- The whole file, where what stands between locations and edges leaves the rule as it is.
abbrev no_edges_yet : Rule → Rule
no_edges_yet r = rule r.locations r.symbols r.clocks r.initial r.final []

abbrev Passes : List ℕ → Rule → Type 0
Passes between r =
    Reads 5 (no_edges_yet r) (edge_records r.edges) r → Reads 3 (no_edges_yet r) (between ++ edge_records r.edges) r

file_reads :
    (between : List ℕ) (r : Rule) → Passes between r → Parts r → pair_count r ≤ most_pairs
    → read_on 0 0 no_rule (file_with between r) ≡ spelt r
unfolding file_with
file_reads between r passed v few =
    let l : ℕ = r.locations in
    let s : ℕ = r.symbols in
    let k : ℕ = r.clocks in
    let h : 1 ≤ l = (sizes_of l s k v.sizes).locations_least in
    sizes_step 0 0 no_rule l s k _ refl v.sizes
    ∙ initials_read l s k [] r.initial _ r h v.initial_rises
    (λ p last b. finals_read l s k r.initial [] r.final _ r h v.final_rises
    (passed
    (edges_read l s k r.initial r.final 5 [] r.edges r h (omega (arith, v.edges_most))
    (same_sizes (no_edges_yet r) r r.edges refl refl refl ∙ v.edges_ok)
    v.kinds_rise
    (end_reads r h few)))
    p last (omega arith))
    10 1 (omega arith)

read_back :
    (between : List ℕ) (r : Rule) → Passes between r → valid_rule r ≡ true → ReadBack r (file_with between r)
read_back between r passed h =
    let e : read_rule (file_with between r) ≡ spelt r =
    read_all (file_with between r) ∙ file_reads between r passed (valid_parts r h) (valid_pairs r h) in
    record { accepted = ap (λ (x : Spelt). x.refused) e; spells = ap (λ (x : Spelt). x.rule_is) e }

pub valid_is_spelt : ValidIsSpelt
unfolding rule_bytes
valid_is_spelt r h = read_back [] r (λ edges p last b. edges p last (omega arith)) h

pub ceiling_is_dropped : CeilingIsDropped
unfolding ceiling_bytes
ceiling_is_dropped r c h top =
    let sized = sizes_of r.locations r.symbols r.clocks (valid_parts r h).sizes in
    let most : c ≤ most_constant = leb-true c most_constant top in
    read_back (ceiling_record c) r
    (λ edges p last b. ceiling_step p last (no_edges_yet r) c (edge_records r.edges) sized.locations_least b most
    ∙ edges (p + 6) 4 (omega arith))
    h
