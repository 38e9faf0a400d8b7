-- All clocks of a pair: bases that track the ages of a configuration meet the same guards, and go on tracking them as
-- time passes, at a timer reset, and where an edge zeroes clocks.
use mathlib.Core.Path.{◌≡◌, refl}
use mathlib.Core.Bool.{true, ◌&&◌}
use mathlib.Core.List.{List, [], ◌∷◌}
use Prim.Native.Nat.{ℕ, zero, suc, ◌+◌, ◌*◌, ◌/◌, ◌%◌, ◌^◌, ◌≤◌, ◌<◌}
use native.Mathlib.Omega.{arith}
use native.Mathlib.Nat.{zero-div}
use lib.Dec.{eqb, ltb, leb}
use lib.ListN.{length, get_or}
use borrow.Author.Tests.{eqb-true, ltb-true, leb-true}
use Rattle.model.specs.Basics.{pick, zeros, bit}
use Rattle.model.specs.Texts.{Atom, Members, outer}
use Rattle.model.specs.Rules.{is_pinned}
use Rattle.model.specs.Guards.{meets, guard}
use Rattle.model.specs.Runs.{older, zeroed_from}
use Rattle.model.specs.Construction.{interval_of, region_of, regions_of, regions_hold, advanced}
use Rattle.model.specs.Claims.{tracks, tracks_all, atoms_within, atoms_up_to, GuardsAgree}
use Rattle.model.proofs.Logic.{no_way, by_test, and_left, and_right, In, here, there}
use Rattle.model.proofs.Texts.{Within, within_atoms, outer_within}
use Rattle.model.proofs.Guards.{same_tests}
use Rattle.model.proofs.Pins.{pinned_reads}
use Rattle.model.proofs.Regions.{Tracks, near, far, side, related_agrees, even_region, Whole, advance_one}
use Rattle.model.proofs.Regions.{zero_one, older_one}

pub data TracksAll (c d t : ℕ) : List ℕ → List ℕ → Type 0 where
  none : TracksAll c d t [] []
  more :
      {b a : ℕ} {bs ages : List ℕ} → Tracks c d t b a → TracksAll c d t bs ages → TracksAll c d t (b ∷ bs) (a ∷ ages)

tracks_at :
    {c d t : ℕ} {bs ages : List ℕ} → TracksAll c d t bs ages → (i : ℕ) → i < length bs
    → Tracks c d t (get_or bs i 0) (get_or ages i 0)
tracks_at none i h = absurd (omega arith)
tracks_at (more o r) zero h = o
tracks_at (more o r) (suc i) h = tracks_at r i (omega arith)

-- what a clock reads
pub region_at :
    (c i : ℕ) (bs : List ℕ) (k : ℕ) → k < length bs → get_or (regions_of c i bs) k 0 ≡ region_of c (get_or bs k 0) i
region_at c i [] k h = absurd (omega arith)
region_at c i (b ∷ bs) zero h = refl
region_at c i (b ∷ bs) (suc k) h = region_at c i bs k (omega arith)

-- a guard answers over ages what it answers over regions, its clocks and constants in their ranges
pub tracked_guards :
    (c d t : ℕ) (bs ages : List ℕ) (m : Members) → 1 ≤ d → TracksAll c d t bs ages
    → ((a : Atom) → Within a m → a.clock < length bs)
    → ((a : Atom) → Within a m → a.constant ≤ c)
    → guard d ages m ≡ guard 2 (regions_of c (interval_of c d t) bs) m
tracked_guards c d t bs ages m hd r clock_in constant_in =
    same_tests 0 (meets d ages) (meets 2 (regions_of c (interval_of c d t) bs)) m agree
  where
    agree : (a : Atom) → Within a m → meets d ages a ≡ meets 2 (regions_of c (interval_of c d t) bs) a
    agree a i =
        let b : ℕ = get_or bs a.clock 0 in
        let g : ℕ = get_or ages a.clock 0 in
        let e : a.constant * 2 ≡ 2 * a.constant = omega arith in
        rw (region_at c (interval_of c d t) bs a.clock (clock_in a i), e)
        (related_agrees a.relation g (a.constant * d) (region_of c b (interval_of c d t)) a.constant
        (side c d t b g a.constant hd (constant_in a i) (tracks_at r a.clock (clock_in a i))))

-- ages and regions give the same answer
tracks_one : (c d t b a : ℕ) → tracks c d t b a ≡ true → Tracks c d t b a
tracks_one c d t b a h =
    by_test (leb b c) (λ e. near (leb-true b c e) (eqb-true a (b * d + t) (rw e at h)))
    (λ e.
    let both : (eqb b (suc c) && ltb (c * d) a) ≡ true = rw e at h in
    far (eqb-true b (suc c) (and_left (eqb b (suc c)) (ltb (c * d) a) both))
    (ltb-true (c * d) a (and_right (eqb b (suc c)) (ltb (c * d) a) both)))

tracks_each : (c d t : ℕ) (bs ages : List ℕ) → tracks_all c d t bs ages ≡ true → TracksAll c d t bs ages
tracks_each c d t [] [] h = none
tracks_each c d t [] (a ∷ ages) h = no_way h
tracks_each c d t (b ∷ bs) [] h = no_way h
tracks_each c d t (b ∷ bs) (a ∷ ages) h =
    let one : tracks c d t b a ≡ true = and_left (tracks c d t b a) (tracks_all c d t bs ages) h in
    let rest : tracks_all c d t bs ages ≡ true = and_right (tracks c d t b a) (tracks_all c d t bs ages) h in
    more {b = b} {a = a} (tracks_one c d t b a one) (tracks_each c d t bs ages rest)

atom_up_to :
    (k c : ℕ) (xs : List Atom) → atoms_up_to k c xs ≡ true → (a : Atom) → In a xs → (a.clock < k) × (a.constant ≤ c)
atom_up_to k c [] h a x'' = elim x'' [ ]
atom_up_to k c (x ∷ xs) h a (here e) =
    let both : (ltb x.clock k && leb x.constant c) ≡ true =
    and_left (ltb x.clock k && leb x.constant c) (atoms_up_to k c xs) h in
    rw e (
      ltb-true x.clock k (and_left (ltb x.clock k) (leb x.constant c) both),
      leb-true x.constant c (and_right (ltb x.clock k) (leb x.constant c) both),
    )
atom_up_to k c (x ∷ xs) h a (there i) =
    atom_up_to k c xs (and_right (ltb x.clock k && leb x.constant c) (atoms_up_to k c xs) h) a i

pub guards_agree : GuardsAgree
guards_agree c d t bs ages m hd r w =
    tracked_guards c d t bs ages m (leb-true 1 d hd) (tracks_each c d t bs ages r) (λ a i. (each a i).0)
    (λ a i. (each a i).1)
  where
    each : (a : Atom) → Within a m → (a.clock < length bs) × (a.constant ≤ c)
    each a i = atom_up_to (length bs) c (atoms_within m) w a (within_atoms m a i)

-- a pinned guard holds at even intervals only: some clock's region is twice a constant
pub even_guard :
    (c i : ℕ) (bs : List ℕ) (m : Members) → ((a : Atom) → Within a m → a.clock < length bs)
    → is_pinned (outer m) ≡ true
    → regions_hold c i bs m ≡ true
    → i % 2 ≡ 0
even_guard c i bs m clock_in h met =
    let p = pinned_reads 2 (regions_of c i bs) m met h in
    let a : Atom = p.member in
    let region_is : region_of c (get_or bs a.clock 0) i ≡ a.constant * 2 =
    rw (region_at c i bs a.clock (clock_in a (outer_within m a p.is_in_lem))) at p.such in
    even_region c (get_or bs a.clock 0) i a.constant (omega (arith, region_is))

-- a timer reset
advance_half :
    (c d q b a : ℕ) → 1 ≤ d → Tracks c d (q * d) b a
    → Tracks c d 0 (pick (ltb c (b + 2 * q / 2)) (suc c) (b + 2 * q / 2)) a
advance_half c d q b a hd o = let e : 2 * q / 2 ≡ q = omega arith in rw e (advance_one c d q b a hd o)

advance_by :
    {c d : ℕ} (q : ℕ) {bs ages : List ℕ} → 1 ≤ d → TracksAll c d (q * d) bs ages
    → TracksAll c d 0 (advanced c (2 * q) bs) ages
advance_by q hd none = none
advance_by {c} {d} q hd (more {b = b} {a = a} o r) = more (advance_half c d q b a hd o) (advance_by q hd r)

pub advance_all :
    (c d t : ℕ) (bs ages : List ℕ) → 1 ≤ d → Whole c d t → TracksAll c d t bs ages
    → TracksAll c d 0 (advanced c (interval_of c d t) bs) ages
advance_all c d t bs ages hd w r = rw w.interval_is (advance_by w.count hd (rw w.age_is at r))

-- clocks zeroed at a timer reset
pub zero_all :
    {c d : ℕ} {bs ages : List ℕ} (i mask : ℕ) → TracksAll c d 0 bs ages
    → TracksAll c d 0 (zeroed_from i mask bs) (zeroed_from i mask ages)
zero_all i mask none = none
zero_all i mask (more o r) = more (zero_one (bit i mask) o) (zero_all (suc i) mask r)

-- no clock zeroed
pub zeroed_none : (i : ℕ) (xs : List ℕ) → zeroed_from i 0 xs ≡ xs
zeroed_none i [] = refl
zeroed_none i (x ∷ xs) = rw (zero-div (2 ^ i), zeroed_none (suc i) xs)

-- time passes
pub older_all :
    {c d t : ℕ} {bs ages : List ℕ} (s : ℕ) → TracksAll c d t bs ages → TracksAll c d (t + s) bs (older s ages)
older_all s none = none
older_all s (more o r) = more (older_one s o) (older_all s r)

-- bases 0 track ages 0 at time 0
pub zeros_track : (c d n : ℕ) → TracksAll c d 0 (zeros n) (zeros n)
zeros_track c d zero = none
zeros_track c d (suc n) = more {b = 0} {a = 0} (near (omega arith) (omega arith)) (zeros_track c d n)
