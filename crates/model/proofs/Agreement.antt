-- The walk of the one timer over the rows accepts what the runs accept. A pair of a row represents configurations: its
-- location is theirs and its bases track their ages. One way, the walk keeps a pair that represents where an accepting
-- run is; the other way, a row from which the walk accepts has a pair all of whose configurations are accepted.
use mathlib.Core.Path.{◌≡◌, refl, sym, ◌∙◌}
use mathlib.Core.Bool.{Bool, true, false}
use mathlib.Core.List.{List, [], ◌∷◌}
use Prim.Native.Nat.{ℕ, ◌+◌, ◌-◌, ◌≤◌}
use native.Mathlib.Omega.{arith}
use lib.ListN.{length}
use Rattle.model.specs.Basics.{pick}
use Rattle.model.specs.Rules.{Edge, Rule, guard_of, cm}
use Rattle.model.specs.Words.{Event, events_of}
use Rattle.model.specs.Runs.{older, zeroed, can_take, start_ages, accepts_from, accepts}
use Rattle.model.specs.Construction.{interval_of, code_of, location_of, bases_of, start_bases, start_row, allows}
use Rattle.model.specs.Construction.{row_resets, target_of, next_row, walks_from, walks}
use Rattle.model.specs.Demands.{WalkAgrees}
use Rattle.model.proofs.Logic.{same_truth, In, Some}
use Rattle.model.proofs.Valid.{Valid, valid_of, constant_below}
use Rattle.model.proofs.Regions.{Whole, whole_at_even}
use Rattle.model.proofs.Texts.{guard_atoms}
use Rattle.model.proofs.Clocks.{TracksAll, tracked_guards, advance_all, zero_all, zeroed_none, older_all}
use Rattle.model.proofs.Clocks.{zeros_track}
use Rattle.model.proofs.Codes.{digits_length, code_bases, start_bases_lem, location_back, bases_back}
use Rattle.model.proofs.Codes.{target_location, target_bases}
use Rattle.model.proofs.RowSets.{Reaches, next_has, next_of, no_reset, even_reset, final_has, final_of}
use Rattle.model.proofs.RowSets.{start_has, start_of}
use Rattle.model.proofs.Runs.{final_accepts, moves_accept, accepts_moves, start_accepts, accepts_start}
use Rattle.model.proofs.Words.{Ordered, fine_keeps}

-- the pair x represents the configuration (l, ages), the timer at age t
pub record Represents (r : Rule) (d t x l : ℕ) (ages : List ℕ) : Type 0 where
  pub location_is : location_of r x ≡ l
  pub tracks : TracksAll (cm r) d t (bases_of r x) ages

-- every configuration that the pair x represents is accepted; `reset` is the stamp of the last timer reset
abbrev pub AllAccepted : Rule → ℕ → List Event → ℕ → ℕ → ℕ → Type 0
AllAccepted r d vs last reset x =
    (l : ℕ) (ages : List ℕ) → Represents r d (last - reset) x l ages → accepts_from r d vs last l ages ≡ true

-- the timer's age and stamp after an event
timer_age : (timer : Bool) (stamp reset : ℕ) → pick timer 0 (stamp - reset) ≡ stamp - pick timer stamp reset
timer_age true stamp reset = omega arith
timer_age false stamp reset = refl

timer_stamp : (timer : Bool) (stamp reset : ℕ) → reset ≤ stamp → pick timer stamp reset ≤ stamp
timer_stamp true stamp reset h = omega arith
timer_stamp false stamp reset h = h

module _ (r : Rule) (valid : Valid r) (d : ℕ) (hd : 1 ≤ d) where
  -- an edge can be taken in a configuration exactly if a pair that represents it allows the edge
  agree :
      (x t l : ℕ) (ages : List ℕ) (v : Event) (e : Edge) → In e r.edges → Represents r d t x l ages
      → can_take d l ages v e ≡ allows r v.symbol (interval_of (cm r) d t) x e
  unfolding allows
  agree x t l ages v e j h =
      let n : length (bases_of r x) ≡ r.clocks = digits_length (code_bases r x) in
      rw (
        ← h.location_is,
        tracked_guards (cm r) d t (bases_of r x) ages (guard_of e) hd h.tracks
            (λ a i. rw n ((valid.edges_in e j).atoms_in a (guard_atoms e a i)).clock_below)
            (λ a i. constant_below r e a j (guard_atoms e a i)),
      )

  -- time passes
  waits :
      (x l last reset stamp : ℕ) (ages : List ℕ) → reset ≤ last → last ≤ stamp → Represents r d (last - reset) x l ages
      → Represents r d (stamp - reset) x l (older (stamp - last) ages)
  waits x l last reset stamp ages g k h =
      let e : stamp - reset ≡ (last - reset) + (stamp - last) = omega arith in
      record { location_is = h.location_is; tracks = rw e (older_all (stamp - last) h.tracks) }

  -- an edge is taken: the target represents where it leads, whether the timer is reset or not
  after_edge :
      (x t l s : ℕ) (ages : List ℕ) (e : Edge) (xs : List ℕ) (timer : Bool) → In x xs → In e r.edges
      → Represents r d t x l ages
      → allows r s (interval_of (cm r) d t) x e ≡ true
      → row_resets r s (interval_of (cm r) d t) xs ≡ timer
      → Represents r d (pick timer 0 t) (target_of r (interval_of (cm r) d t) timer x e) e.target
      (zeroed e.resets ages)
  after_edge x t l s ages e xs true j k h a f =
      let i : ℕ = interval_of (cm r) d t in
      let w : Whole (cm r) d t = whole_at_even (cm r) d t hd (even_reset r s i xs valid f) in
      record {
        location_is = target_location r i true x e;
        tracks =
            rw (target_bases r i true x e)
            (zero_all 0 e.resets (advance_all (cm r) d t (bases_of r x) ages hd w h.tracks));
      }
  after_edge x t l s ages e xs false j k h a f =
      let i : ℕ = interval_of (cm r) d t in
      record {
        location_is = target_location r i false x e;
        tracks =
            rw (
              target_bases r i false x e,
              no_reset r s i x e xs j k a f,
              zeroed_none 0 (bases_of r x),
              zeroed_none 0
                  ages,
            )
            h.tracks;
      }

  -- the same with the timer's age as the difference of two stamps
  after_event :
      (v : Event) (reset x l : ℕ) (ages : List ℕ) (e : Edge) (xs : List ℕ)
      → let i = interval_of (cm r) d (v.stamp - reset) in
      let timer = row_resets r v.symbol i xs in
      In x xs → In e r.edges → Represents r d (v.stamp - reset) x l ages
      → allows r v.symbol i x e ≡ true
      → Represents r d (v.stamp - pick timer v.stamp reset) (target_of r i timer x e) e.target
      (zeroed e.resets ages)
  after_event v reset x l ages e xs j k h a =
      let i : ℕ = interval_of (cm r) d (v.stamp - reset) in
      let timer : Bool = row_resets r v.symbol i xs in
      rw (timer_age timer v.stamp reset)
      at (after_edge x (v.stamp - reset) l v.symbol ages e xs timer j k h a refl)

  -- a pair of the row represents an accepted configuration: the walk accepts
  complete :
      (vs : List Event) (last reset x l : ℕ) (ages xs : List ℕ) → Ordered last vs → reset ≤ last → In x xs
      → Represents r d (last - reset) x l ages
      → accepts_from r d vs last l ages ≡ true
      → walks_from r d vs xs reset ≡ true
  unfolding walks_from
  complete [] last reset x l ages xs o g j h a =
      final_has r x xs j (rw h.location_is (sym (final_accepts r d last l ages) ∙ a))
  complete (v ∷ vs) last reset x l ages xs o g j h a =
      let i : ℕ = interval_of (cm r) d (v.stamp - reset) in
      let timer : Bool = row_resets r v.symbol i xs in
      let old : List ℕ = older (v.stamp - last) ages in
      let m = accepts_moves r d v vs last l ages a in
      let e : Edge = m.member in
      let now_is = waits x l last reset v.stamp ages g o.0 h in
      let al = sym (agree x (v.stamp - reset) l old v e m.is_in_lem now_is) ∙ m.such.can in
      complete vs v.stamp (pick timer v.stamp reset) (target_of r i timer x e) e.target
      (zeroed e.resets old)
      (next_row r v.symbol i xs)
      o.1
      (timer_stamp timer v.stamp reset (omega (arith, o.0)))
      (next_has r v.symbol i xs x (target_of r i timer x e) j
      (record { member = e; is_in_lem = m.is_in_lem; such = record { allowed = al; code_is = refl } }))
      (after_event v reset x l old e xs j m.is_in_lem now_is al)
      m.such.goes_on

  -- one step back: a pair that leads to one with all configurations accepted is such a pair itself
  leads_back :
      (v : Event) (vs : List Event) (last reset x z : ℕ) (xs : List ℕ) → reset ≤ last → last ≤ v.stamp
      → let i = interval_of (cm r) d (v.stamp - reset) in
      let timer = row_resets r v.symbol i xs in
      In x xs → Reaches r v.symbol i timer z x → AllAccepted r d vs v.stamp (pick timer v.stamp reset) z
      → AllAccepted r d (v ∷ vs) last reset x
  leads_back v vs last reset x z xs g o j m run l ages h =
      let i : ℕ = interval_of (cm r) d (v.stamp - reset) in
      let timer : Bool = row_resets r v.symbol i xs in
      let old : List ℕ = older (v.stamp - last) ages in
      let e : Edge = m.member in
      let now_is = waits x l last reset v.stamp ages g o h in
      let next : Represents r d (v.stamp - pick timer v.stamp reset) z e.target (zeroed e.resets old) =
      rw m.such.code_is (after_event v reset x l old e xs j m.is_in_lem now_is m.such.allowed) in
      moves_accept r d v vs last l ages e m.is_in_lem
      (record {
        can = agree x (v.stamp - reset) l old v e m.is_in_lem now_is ∙ m.such.allowed;
        goes_on = run e.target (zeroed e.resets old) next;
      })

  -- the walk accepts: some pair of the row has all its configurations accepted
  sound :
      (vs : List Event) (last reset : ℕ) (xs : List ℕ) → Ordered last vs → reset ≤ last
      → walks_from r d vs xs reset ≡ true
      → Some (AllAccepted r d vs last reset) xs
  unfolding walks_from
  sound [] last reset xs o g w =
      let f = final_of r xs w in
      record {
        member = f.member;
        is_in_lem = f.is_in_lem;
        such = λ l ages h. final_accepts r d last l ages ∙ (rw h.location_is at f.such);
      }
  sound (v ∷ vs) last reset xs o g w =
      let i : ℕ = interval_of (cm r) d (v.stamp - reset) in
      let timer : Bool = row_resets r v.symbol i xs in
      let was = timer_stamp timer v.stamp reset (omega arith) in
      let k = sound vs v.stamp (pick timer v.stamp reset) (next_row r v.symbol i xs) o.1 was w in
      let m = next_of r v.symbol i xs k.member k.is_in_lem in
      record {
        member = m.member;
        is_in_lem = m.is_in_lem;
        such = leads_back v vs last reset m.member k.member xs g o.0 m.is_in_lem m.such k.such;
      }

  -- a start pair represents its location with all ages 0
  start_represents : (l : ℕ) → Represents r d 0 (code_of r l (start_bases r)) l (start_ages r)
  start_represents l = record {
    location_is = location_back r l (start_bases r) (start_bases_lem r);
    tracks = rw (bases_back r l (start_bases r) (start_bases_lem r)) (zeros_track (cm r) d r.clocks);
  }

  walks_if : (vs : List Event) → Ordered 0 vs → accepts r d vs ≡ true → walks r d vs ≡ true
  unfolding walks
  walks_if vs o h =
      let m = accepts_start r d vs h in
      let l : ℕ = m.member in
      complete vs 0 0 (code_of r l (start_bases r)) l (start_ages r) (start_row r) o (omega arith)
      (start_has r l m.is_in_lem)
      (start_represents l)
      m.such

  only_walks : (vs : List Event) → Ordered 0 vs → walks r d vs ≡ true → accepts r d vs ≡ true
  unfolding walks
  only_walks vs o h =
      let g = sound vs 0 0 (start_row r) o (omega arith) h in
      let m = start_of r g.member g.is_in_lem in
      start_accepts r d vs m.member m.is_in_lem
      (g.such m.member (start_ages r) (at_code g.member m.member m.such))
    where
      at_code : (x l : ℕ) → x ≡ code_of r l (start_bases r) → Represents r d 0 x l (start_ages r)
      at_code x l e = rw e (start_represents l)

  pub agreement : (vs : List Event) → Ordered 0 vs → walks r d vs ≡ accepts r d vs
  agreement vs o = same_truth (walks r d vs) (accepts r d vs) (only_walks vs o) (walks_if vs o)

pub walk_agrees : WalkAgrees
walk_agrees r d most symbols stamps v w =
    let k = fine_keeps r.symbols d most symbols stamps w in
    agreement r (valid_of r v) d k.grain_least (events_of symbols stamps) k.stamps_ordered
