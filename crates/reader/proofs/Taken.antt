-- A record taken, for each kind: its tests pass, and what cursor and table hold afterwards.
use Rattle.std.proofs.Common.{◌≡◌, ◌∙◌, refl, sym, ap, true, false, Bool, not, List, [], ◌∷◌, ℕ, ◌+◌, ◌-◌, ◌*◌, ◌^◌}
use Rattle.std.proofs.Common.{◌<◌, ◌≤◌, arith, add-one, append-nil, length, take, drop, length-append, Some, None}
use borrow.Rule.Slice.PartMut.{put_mid}
use lib.Dec.{ltb, leb}
use borrow.Author.Tests.{le-ltb, lt-leb, le-leb, eqb-true, eq-eqb, ne_eqb}
use Rattle.model.specs.declared.Fault.{Fault}
use Rattle.model.specs.declared.Fault.TheVariants.{EdgeTooMany}
use Rattle.model.specs.declared.Head.{Head}
use Rattle.model.specs.Basics.{pick, zeros, mask_of, refusal}
use Rattle.model.specs.Faults.{fault_number}
use Rattle.model.proofs.Faults.{refuses}
use Rattle.model.specs.Rules.{Edge, Rule, plain_edge, grouped_edge, most_constant, most_edges, sized, sizes_ok, edge_ok}
use Rattle.model.specs.Rules.{integer_reset}
use Rattle.model.specs.Files.{number_at, past_last, body_ok, edge_from}
use Rattle.model.specs.Files.{fields_body, most_plain_body, most_grouped_body, is_edge, with_edge, with_record}
use Rattle.model.specs.Files.{out_of_order, one_too_many, bad_sizes, out_of_range, not_pinned}
use Rattle.model.specs.Layout.{edge_width, head_of, edge_in, edge_numbers, edges_numbers, edge_table}
use Rattle.model.proofs.Logic.{no_way, and_left, in_within, within_most}
use Rattle.model.proofs.EdgesWritten.{edges_numbers_length, edge_written}
use Rattle.model.proofs.FileRecords.{SizesAllowed, sizes, Passed, passed_allowed}
use Rattle.model.proofs.FileSoFar.{sizes_so_far, record_so_far, with_edge_lem, sized_from}
use Rattle.model.proofs.MaskSets.{mask_last}
use Rattle.model.proofs.Readable.{table_length}
use Rattle.model.proofs.ValidParts.{past_last_lem}
use Rattle.checks.specs.Checks.{edge_fault}
use Rattle.checks.proofs.EdgeChecks.{fault_of_rule}
use Rattle.reader.specs.declared.cursor.Cursor.{Cursor}
use Rattle.reader.specs.declared.locations.Locations.{Locations}
use Rattle.reader.specs.declared.locations.Sizes.{Sizes}
use Rattle.reader.specs.declared.record.Kind.{Kind}
use Rattle.reader.specs.declared.record.Kind.TheVariants.{Sizes as FirstKind, Initial, Final, Ceiling, Plain, Grouped}
use Rattle.reader.specs.Records.{kind_number, LocationTaken}
use Rattle.reader.specs.State.{head_in, Holds, State, Taken, NotTaken}
use Rattle.reader.proofs.Faults.{in_order_2, in_order_3, in_order_4, in_order_5, refused_4, refused_6, refused_7}
use Rattle.reader.proofs.Tables.{table_with, next_zero, table_more}

abbrev pub cursor : Kind → Sizes → Locations → Locations → ℕ → Cursor
cursor last s initial finals count =
    record { last = last; sizes = s; initial = initial; finals = finals; count = count }

pub kind_most : (k : Kind) → kind_number k ≤ 6
kind_most FirstKind = omega arith
kind_most Initial = omega arith
kind_most Final = omega arith
kind_most Ceiling = omega arith
kind_most Plain = omega arith
kind_most Grouped = omega arith

-- an edge's body is short enough for its places
pub edge_most :
    (k : Kind) (body : List ℕ) → plain_edge ≤ kind_number k → body_ok (kind_number k) (length body) ≡ true
    → length body ≤ most_grouped_body
edge_most Plain body low ok =
    let most = within_most fields_body most_plain_body (length body) (and_left _ _ ok) in omega (arith, most)
edge_most Grouped body low ok = within_most fields_body most_grouped_body (length body) (and_left _ _ ok)
edge_most FirstKind body low ok = absurd (omega arith)
edge_most Initial body low ok = absurd (omega arith)
edge_most Final body low ok = absurd (omega arith)
edge_most Ceiling body low ok = absurd (omega arith)

-- the checks of an edge answer by two tests
abbrev fault_by : Bool → Bool → ℕ
fault_by a b = pick a (pick b 0 7) 6

fine : (a b : Bool) → fault_by a b ≡ 0 → (a ≡ true) × (b ≡ true)
fine true true z = (refl, refl)
fine true false z = absurd (omega arith)
fine false b z = absurd (omega arith)

-- a fault is not 0, and what one of its number refuses it refuses
fault_not_zero : (f : Fault) → fault_number f ≡ 0 → ⊥
fault_not_zero f z = no_way (sym (refuses f 0) ∙ eq-eqb (fault_number f) 0 z)

same_number :
    {last : ℕ} {r : Rule} {kind : ℕ} {body : List ℕ} {g : Fault} → NotTaken last r kind body g → (f : Fault)
    → fault_number f ≡ fault_number g → NotTaken last r kind body f
same_number q f n =
    record { refusal_is = λ p. q.refusal_is p ∙ ap (λ (m : ℕ). refusal m p) (sym n) }

-- the first record
pub sizes_taken :
    {r : Rule} {t : List ℕ} → State r None t → (k : Kind) → k ≡ FirstKind → (body : List ℕ)
    → body_ok (kind_number k) (length body) ≡ true → (s : Sizes) → s.locations ≡ number_at 0 body
    → s.symbols ≡ number_at 1 body → s.clocks ≡ number_at 2 body
    → sizes_ok (number_at 0 body) (number_at 1 body) (number_at 2 body) ≡ true
    → (initial finals : Locations) → initial.mask ≡ 0 → initial.least ≡ 0 → finals.mask ≡ 0 → finals.least ≡ 0
    → Taken 0 r (kind_number k) body t (cursor FirstKind s initial finals 0)
unfolding with_record mask_of edge_table
sizes_taken {r} {t} state k k_is body ok s l_is s_is c_is in_range initial finals mask least mask' least' =
    let ok' : body_ok 1 (length body) ≡ true = rw k_is at ok in
    let a : SizesAllowed r (length body) body = record {
      length_is = eqb-true (length body) 6 ok';
      none_yet = ap (λ (x : Rule). x.locations) state.held;
      in_range = in_range;
    } in
    rw k_is (record {
      allowed = sizes refl a;
      last_is = refl;
      state = record {
        held = record {
          so_far = sizes_so_far r (length body) body a;
          head_is = rw (l_is, s_is, c_is, mask, mask');
          start_is = least;
          end_is = least';
        };
        long = state.long;
        table_is = state.table_is ∙ rw state.held;
      };
    })

-- the records past it
module _ {r : Rule} {c : Cursor} {t : List ℕ} (state : State r (Some c) t) (body : List ℕ) where
  held : Holds r c
  held = state.held

  pub locations_is : c.sizes.locations ≡ r.locations
  locations_is = ap (λ (h : Head). h.locations) held.head_is

  pub count_is : c.count ≡ length r.edges
  count_is = ap (λ (h : Head). h.count) held.head_is

  -- a location more: it rises, and the rule has it
  module _ (ok : body_ok 2 (length body) ≡ true) (d : Locations) (x : ℕ) (x_is : x ≡ number_at 0 body) where
    initial_passed :
        kind_number c.last ≤ 2 → LocationTaken c.initial.mask c.initial.least x c.sizes.locations d.mask d.least
        → Passed (kind_number c.last) r 2 (length body) body
    initial_passed a p =
        let rises : ltb (number_at 0 body) (past_last r.initial) ≡ false =
        le-ltb (number_at 0 body) (past_last r.initial) (omega (arith, p.rises, held.start_is)) in
        let below : leb r.locations (number_at 0 body) ≡ false =
        lt-leb r.locations (number_at 0 body) (omega (arith, p.in_range, locations_is)) in
        record {
          of_length = ok;
          in_order = in_order_2 held body refl a ∙ rises;
          not_too_many = refl;
          good_sizes = refl;
          in_range = rw below;
          pinned = refl;
        }

    initial_taken_at :
        kind_number c.last ≤ 2 → LocationTaken c.initial.mask c.initial.least x c.sizes.locations d.mask d.least
        → Taken (kind_number c.last) r 2 body t (cursor Initial c.sizes d c.finals c.count)
    unfolding with_record edge_table
    initial_taken_at a p =
        let n : ℕ = number_at 0 body in
        let q = passed_allowed (kind_number c.last) r 2 (length body) body (initial_passed a p) in
        let mask : d.mask ≡ c.initial.mask + 2 ^ n = p.mask_is ∙ ap (λ (y : ℕ). c.initial.mask + 2 ^ y) x_is in
        record {
          allowed = q;
          last_is = refl;
          state = record {
            held = record {
              so_far = record_so_far (kind_number c.last) r held.so_far 2 (length body) body q;
              head_is = rw (mask, mask_last r.initial n)
                  (ap (λ (h : Head). record {
                    locations = h.locations;
                    symbols = h.symbols;
                    clocks = h.clocks;
                    starts = h.starts + 2 ^ n;
                    ends = h.ends;
                    count = h.count;
                  }) held.head_is);
              start_is = p.least_is ∙ (ap (λ (y : ℕ). y + 1) x_is ∙ (add-one n ∙ sym (past_last_lem r.initial n)));
              end_is = held.end_is;
            };
            long = state.long;
            table_is = state.table_is;
          };
        }

  pub initial_taken :
      (k : Kind) → k ≡ Initial → body_ok (kind_number k) (length body) ≡ true → (d : Locations) (x : ℕ)
      → x ≡ number_at 0 body → kind_number c.last ≤ kind_number k
      → LocationTaken c.initial.mask c.initial.least x c.sizes.locations d.mask d.least
      → Taken (kind_number c.last) r (kind_number k) body t (cursor k c.sizes d c.finals c.count)
  initial_taken k e ok d x x_is a p =
      let ok' : body_ok 2 (length body) ≡ true = rw e at ok in
      let b : kind_number c.last ≤ 2 = rw e at a in
      rw e (initial_taken_at ok' d x x_is b p)

  module _ (ok : body_ok 3 (length body) ≡ true) (d : Locations) (x : ℕ) (x_is : x ≡ number_at 0 body) where
    final_passed :
        kind_number c.last ≤ 3 → LocationTaken c.finals.mask c.finals.least x c.sizes.locations d.mask d.least
        → Passed (kind_number c.last) r 3 (length body) body
    final_passed a p =
        let rises : ltb (number_at 0 body) (past_last r.final) ≡ false =
        le-ltb (number_at 0 body) (past_last r.final) (omega (arith, p.rises, held.end_is)) in
        let below : leb r.locations (number_at 0 body) ≡ false =
        lt-leb r.locations (number_at 0 body) (omega (arith, p.in_range, locations_is)) in
        record {
          of_length = ok;
          in_order = in_order_3 held body refl a ∙ rises;
          not_too_many = refl;
          good_sizes = refl;
          in_range = rw below;
          pinned = refl;
        }

    final_taken_at :
        kind_number c.last ≤ 3 → LocationTaken c.finals.mask c.finals.least x c.sizes.locations d.mask d.least
        → Taken (kind_number c.last) r 3 body t (cursor Final c.sizes c.initial d c.count)
    unfolding with_record edge_table
    final_taken_at a p =
        let n : ℕ = number_at 0 body in
        let q = passed_allowed (kind_number c.last) r 3 (length body) body (final_passed a p) in
        let mask : d.mask ≡ c.finals.mask + 2 ^ n = p.mask_is ∙ ap (λ (y : ℕ). c.finals.mask + 2 ^ y) x_is in
        record {
          allowed = q;
          last_is = refl;
          state = record {
            held = record {
              so_far = record_so_far (kind_number c.last) r held.so_far 3 (length body) body q;
              head_is = rw (mask, mask_last r.final n)
                  (ap (λ (h : Head). record {
                    locations = h.locations;
                    symbols = h.symbols;
                    clocks = h.clocks;
                    starts = h.starts;
                    ends = h.ends + 2 ^ n;
                    count = h.count;
                  }) held.head_is);
              start_is = held.start_is;
              end_is = p.least_is ∙ (ap (λ (y : ℕ). y + 1) x_is ∙ (add-one n ∙ sym (past_last_lem r.final n)));
            };
            long = state.long;
            table_is = state.table_is;
          };
        }

  pub final_taken :
      (k : Kind) → k ≡ Final → body_ok (kind_number k) (length body) ≡ true → (d : Locations) (x : ℕ)
      → x ≡ number_at 0 body → kind_number c.last ≤ kind_number k
      → LocationTaken c.finals.mask c.finals.least x c.sizes.locations d.mask d.least
      → Taken (kind_number c.last) r (kind_number k) body t (cursor k c.sizes c.initial d c.count)
  final_taken k e ok d x x_is a p =
      let ok' : body_ok 3 (length body) ≡ true = rw e at ok in
      let b : kind_number c.last ≤ 3 = rw e at a in
      rw e (final_taken_at ok' d x x_is b p)

  -- a ceiling, dropped
  module _ (ok : body_ok 4 (length body) ≡ true) (a : kind_number c.last ≤ 4) (b : kind_number c.last ≡ 4 → ⊥)
      (in_range : number_at 0 body ≤ most_constant) where
    ceiling_passed : Passed (kind_number c.last) r 4 (length body) body
    ceiling_passed = record {
      of_length = ok;
      in_order = in_order_4 held body refl a ∙ ne_eqb (kind_number c.last) 4 b;
      not_too_many = refl;
      good_sizes = refl;
      in_range = rw (le-ltb most_constant (number_at 0 body) in_range);
      pinned = refl;
    }

    ceiling_taken_at : Taken (kind_number c.last) r 4 body t (cursor Ceiling c.sizes c.initial c.finals c.count)
    unfolding with_record
    ceiling_taken_at =
        let q = passed_allowed (kind_number c.last) r 4 (length body) body ceiling_passed in
        record {
          allowed = q;
          last_is = refl;
          state = record {
            held = record {
              so_far = record_so_far (kind_number c.last) r held.so_far 4 (length body) body q;
              head_is = held.head_is;
              start_is = held.start_is;
              end_is = held.end_is;
            };
            long = state.long;
            table_is = state.table_is;
          };
        }

  pub ceiling_taken :
      (k : Kind) → k ≡ Ceiling → body_ok (kind_number k) (length body) ≡ true → kind_number c.last ≤ kind_number k
      → (kind_number c.last ≡ 4 → ⊥) → number_at 0 body ≤ most_constant
      → Taken (kind_number c.last) r (kind_number k) body t (cursor k c.sizes c.initial c.finals c.count)
  ceiling_taken k e ok a b in_range =
      let ok' : body_ok 4 (length body) ≡ true = rw e at ok in
      let low : kind_number c.last ≤ 4 = rw e at a in
      rw e (ceiling_taken_at ok' low b in_range)

  -- edge 257
  pub edge_one_too_many :
      (k : Kind) → plain_edge ≤ kind_number k → kind_number c.last ≤ kind_number k → most_edges ≤ c.count
      → NotTaken (kind_number c.last) r (kind_number k) body EdgeTooMany
  edge_one_too_many k low a many =
      refused_4 (kind_number c.last) r (kind_number k) body (in_order_5 held body refl (kind_number k) low a)
      (rw (in_within plain_edge grouped_edge (kind_number k) low (kind_most k))
      (le-leb most_edges (length r.edges) (omega (arith, count_is))))

  -- an edge: its places in the table are zero, and once it stands there the table has one edge more
  module _ (k : Kind) (low : plain_edge ≤ kind_number k) (ok : body_ok (kind_number k) (length body) ≡ true)
      (room : c.count < most_edges) where
    abbrev e : Edge
    e = edge_from (kind_number k) (length body) body

    fits : sized e ≡ true
    fits = sized_from (kind_number k) (length body) body low (kind_most k) ok

    wide : length (edges_numbers r.edges) ≡ edge_width * c.count
    wide =
        edges_numbers_length r r.edges held.so_far.parts.edges_ok
        ∙ ap (λ (m : ℕ). edge_width * m) (sym count_is)

    width_is : edge_width * c.count + edge_width - edge_width * c.count ≡ edge_width
    width_is = omega arith

    places_zero_at : take edge_width (drop (edge_width * c.count) t) ≡ zeros edge_width
    places_zero_at = next_zero r t c.count wide state.table_is (omega (arith, state.long))

    pub places_zero :
        take (edge_width * c.count + edge_width - edge_width * c.count) (drop (edge_width * c.count) t)
        ≡ zeros edge_width
    places_zero = rw width_is places_zero_at

    is_edge_lem : is_edge (kind_number k) ≡ true
    is_edge_lem = in_within plain_edge grouped_edge (kind_number k) low (kind_most k)

    -- what the checks find of the edge at its place
    module _ (a : kind_number c.last ≤ kind_number k) (stored : List ℕ) (stored_is : stored ≡ edge_numbers e)
        (h : Head) (h_is : h ≡ head_in c) (f : ℕ) (f_is : f ≡ edge_fault h stored) where
      fault_is : f ≡ fault_by (edge_ok r e) (integer_reset e)
      fault_is =
          let is : edge_in stored ≡ e =
          ap edge_in (stored_is ∙ sym (append-nil (edge_numbers e))) ∙ edge_written e [] fits in
          let head : h ≡ head_of r = h_is ∙ held.head_is in
          f_is
          ∙ (fault_of_rule h r stored (ap (λ (x : Head). x.locations) head) (ap (λ (x : Head). x.symbols) head)
          (ap (λ (x : Head). x.clocks) head)
          ∙ ap (λ (x : Edge). fault_by (edge_ok r x) (integer_reset x)) is)

      order : out_of_order (kind_number c.last) r (kind_number k) body ≡ false
      order = in_order_5 held body refl (kind_number k) low a

      few : one_too_many r (kind_number k) ≡ false
      few = rw (is_edge_lem, lt-leb most_edges (length r.edges) (omega (arith, count_is)))

      sizes_none : bad_sizes (kind_number k) body ≡ false
      sizes_none = rw (ne_eqb (kind_number k) 1 (λ z. omega arith))

      range_is : out_of_range r (kind_number k) (length body) body ≡ not (edge_ok r e)
      range_is =
          rw (
            lt-leb (kind_number k) 3 (omega arith),
            le-leb 2 (kind_number k) (omega arith),
            ne_eqb (kind_number k) 4 (λ z. omega arith),
            is_edge_lem,
          )

      pinned_is : not_pinned (kind_number k) (length body) body ≡ not (integer_reset e)
      pinned_is = rw is_edge_lem

      -- 6 or 7, by its number
      pub edge_refused :
          (fault : Fault) → fault_number fault ≡ f → NotTaken (kind_number c.last) r (kind_number k) body fault
      edge_refused fault z = by_tests (edge_ok r e) (integer_reset e) refl refl (z ∙ fault_is)
        where
          by_tests :
              (a b : Bool) → edge_ok r e ≡ a → integer_reset e ≡ b → fault_number fault ≡ fault_by a b
              → NotTaken (kind_number c.last) r (kind_number k) body fault
          by_tests true true a_is b_is n = absurd (fault_not_zero fault n)
          by_tests true false a_is b_is n =
              same_number (refused_7 (kind_number c.last) r (kind_number k) body order few sizes_none
              (range_is ∙ ap not a_is) (pinned_is ∙ ap not b_is)) fault n
          by_tests false b a_is b_is n =
              same_number (refused_6 (kind_number c.last) r (kind_number k) body order few sizes_none
              (range_is ∙ ap not a_is)) fault n

      edge_passed : f ≡ 0 → Passed (kind_number c.last) r (kind_number k) (length body) body
      edge_passed z =
          let both = fine (edge_ok r e) (integer_reset e) (sym fault_is ∙ z) in
          record {
            of_length = ok;
            in_order = order;
            not_too_many = few;
            good_sizes = sizes_none;
            in_range = range_is ∙ ap not both.0;
            pinned = pinned_is ∙ ap not both.1;
          }

      pub edge_taken :
          f ≡ 0
          → Taken (kind_number c.last) r (kind_number k) body
          (put_mid (edge_width * c.count) (edge_width * c.count + edge_width - edge_width * c.count) t stored)
          (cursor k c.sizes c.initial c.finals (c.count + 1))
      edge_taken z =
          let t' : List ℕ =
          put_mid (edge_width * c.count) (edge_width * c.count + edge_width - edge_width * c.count) t stored in
          let t'_is : t' ≡ table_with c.count e t = rw (width_is, stored_is) in
          let q = passed_allowed (kind_number c.last) r (kind_number k) (length body) body (edge_passed z) in
          let rule_is : with_record r (kind_number k) (length body) body ≡ with_edge r e =
          with_edge_lem r (kind_number k) (length body) body low in
          let so_far = record_so_far (kind_number c.last) r held.so_far (kind_number k) (length body) body q in
          let is : t' ≡ edge_table (length t) (with_edge r e) =
          t'_is ∙ table_more r t c.count wide state.table_is e fits in
          let parts = rw rule_is at so_far.parts in
          let long : length t' ≡ length t =
          ap length is ∙ table_length (with_edge r e) parts (length t) state.long in
          record {
            allowed = q;
            last_is = refl;
            state = record {
              held = record {
                so_far = so_far;
                head_is = rw (rule_is, length-append r.edges (e ∷ []))
                    (ap (λ (x : Head). record {
                      locations = x.locations;
                      symbols = x.symbols;
                      clocks = x.clocks;
                      starts = x.starts;
                      ends = x.ends;
                      count = x.count + 1;
                    }) held.head_is);
                start_is = rw rule_is held.start_is;
                end_is = rw rule_is held.end_is;
              };
              long = omega (arith, state.long);
              table_is = is ∙ (ap (λ (m : ℕ). edge_table m (with_edge r e)) (sym long) ∙ rw rule_is);
            };
          }
