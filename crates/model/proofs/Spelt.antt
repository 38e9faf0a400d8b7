-- Levels spelt with marks: what is spelt is read back, it keeps the group rules exactly if it has no more levels,
-- groups and atoms than they allow, and no other text keeps them.
use mathlib.Core.Path.{◌≡◌, refl, sym, ◌∙◌, ap, ap₂}
use mathlib.Core.Bool.{Bool, true, false, ◌&&◌}
use mathlib.Core.List.{List, [], ◌∷◌, ◌++◌, append_assoc, append-nil}
use Prim.Native.Nat.{ℕ, zero, suc, ◌+◌, ◌-◌, ◌≤◌, ◌<◌}
use native.Mathlib.Omega.{arith}
use native.Mathlib.Numerals.{add-one}
use lib.Dec.{eqb, ltb, leb}
use lib.ListN.{length, length-append}
use borrow.Author.Tests.{eqb-true, eq-eqb, ne_eqb, ltb-true, lt-ltb, leb-true, le-leb}
use Rattle.model.specs.Basics.{pick}
use Rattle.model.specs.Texts.{Atom, Members, end, atom, group, first, rest, opens_group, with_atom, with_group}
use Rattle.model.specs.Texts.{levels_past, levels, members_in, atoms_past, is_atom, closes, open_mark, most_levels}
use Rattle.model.specs.Texts.{most_groups, most_grouped_atoms, groups_past, groups_ok}
use Rattle.model.specs.Claims.{spelt, levels_in, groups_in, atoms_within, TextsAre}
use Rattle.model.proofs.Logic.{no_way, by_test, same_truth, and_left, and_right, and_both, larger_left}
use Rattle.model.proofs.Logic.{larger_right, larger_most, two, less, least}
use Rattle.model.proofs.Texts.{levels_mark, groups_mark, atoms_mark}

-- members behind members
follow : Members → Members → Members
follow end x = x
follow (atom a m) x = atom a (follow m x)
follow (group g m) x = group g (follow m x)

follow_end : (m : Members) → follow m end ≡ m
unfolding follow
follow_end end = refl
follow_end (atom a m) = ap (atom a) (follow_end m)
follow_end (group g m) = ap (group g) (follow_end m)

-- the mark that opens a group is 1 or 2
open_least : (level : ℕ) → 1 ≤ open_mark level
open_least level = omega arith

open_most : (level : ℕ) → open_mark level ≤ 2
open_most level = omega arith

open_opens : (level : ℕ) → opens_group (open_mark level) ≡ true
open_opens level = go (open_mark level) (open_least level) (open_most level)
  where
    go : (mark : ℕ) → 1 ≤ mark → mark ≤ 2 → opens_group mark ≡ true
    go mark a b =
        elim (two mark 2) [
          | less h ↦ let e : mark ≡ 1 = omega arith in rw e
          | least h ↦ let e : mark ≡ 2 = omega arith in rw e
        ]

no_atom_mark : (level : ℕ) → eqb (open_mark level) is_atom ≡ false
no_atom_mark level = ne_eqb (open_mark level) is_atom (λ e. omega (arith, open_most level, e))

no_close_mark : (level : ℕ) → eqb (open_mark level) closes ≡ false
no_close_mark level = ne_eqb (open_mark level) closes (λ e. omega (arith, open_most level, e))

levels_open : (level : ℕ) (t : List ℕ) → levels (open_mark level ∷ t) ≡ with_group (levels t)
levels_open level t = levels_mark (open_mark level) t ∙ rw (no_atom_mark level, open_opens level)

levels_close : (t : List ℕ) → levels (closes ∷ t) ≡ end ∷ levels t
unfolding levels_past
levels_close t = refl

-- What is spelt before a text stands in its first level, before what was there.
record ReadFirst (m : Members) (s t : List ℕ) : Type 0 where
  first_is : first (levels s) ≡ follow m (first (levels t))
  rest_is : rest (levels s) ≡ rest (levels t)

read_first : (level : ℕ) (m : Members) (t : List ℕ) → ReadFirst m (spelt level m ++ t) t
unfolding follow levels_past
read_first level end t = record { first_is = refl; rest_is = refl }
read_first level (atom a m) t =
    let p = read_first level m t in
    record { first_is = ap (atom a) p.first_is; rest_is = p.rest_is }
read_first level (group g m) t =
    let inner : List ℕ = spelt (level + 1) g in
    let behind : List ℕ = spelt level m ++ t in
    let q = read_first (level + 1) g (closes ∷ behind) in
    let p = read_first level m t in
    let whole : levels (spelt level (group g m) ++ t) ≡ with_group (levels (inner ++ (closes ∷ behind))) =
    levels_open level ((inner ++ (closes ∷ spelt level m)) ++ t)
    ∙ ap (λ (l : List ℕ). with_group (levels l)) (append_assoc inner (closes ∷ spelt level m) t) in
    let within_is : first (levels (inner ++ (closes ∷ behind))) ≡ g = q.first_is ∙ follow_end g in
    record {
      first_is = ap first whole ∙ ap₂ group within_is (ap first q.rest_is ∙ p.first_is);
      rest_is = ap rest whole ∙ (ap rest q.rest_is ∙ p.rest_is);
    }

read_back : (m : Members) → members_in (spelt 0 m) ≡ m
unfolding levels_past
read_back m =
    ap members_in (sym (append-nil (spelt 0 m))) ∙ ((read_first 0 m []).first_is ∙ follow_end m)

-- its atoms, in order
atoms_open : (level : ℕ) (t : List ℕ) → atoms_past 0 (open_mark level ∷ t) ≡ atoms_past 0 t
atoms_open level t = atoms_mark (open_mark level) t ∙ rw (no_atom_mark level)

atoms_spelt : (level : ℕ) (m : Members) (t : List ℕ) → atoms_past 0 (spelt level m ++ t) ≡ atoms_within m ++ atoms_past
    0 t
unfolding atoms_past
atoms_spelt level end t = refl
atoms_spelt level (atom a m) t = ap (λ (l : List Atom). a ∷ l) (atoms_spelt level m t)
atoms_spelt level (group g m) t =
    atoms_open level ((spelt (level + 1) g ++ (closes ∷ spelt level m)) ++ t)
    ∙ (ap (atoms_past 0) (append_assoc (spelt (level + 1) g) (closes ∷ spelt level m) t)
    ∙ (atoms_spelt (level + 1) g (closes ∷ (spelt level m ++ t))
    ∙ (ap (λ (l : List Atom). atoms_within g ++ l) (atoms_spelt level m t)
    ∙ sym (append_assoc (atoms_within g) (atoms_within m) (atoms_past 0 t)))))

atoms_back : (m : Members) → atoms_past 0 (spelt 0 m) ≡ atoms_within m
unfolding atoms_past
atoms_back m =
    ap (atoms_past 0) (sym (append-nil (spelt 0 m))) ∙ (atoms_spelt 0 m [] ∙ append-nil (atoms_within m))

-- The group rules over what is spelt: it takes its groups and atoms off what is allowed, and goes so deep.
rules_open :
    (level groups atoms : ℕ) (t : List ℕ)
    → groups_past 0 level groups atoms (open_mark level ∷ t)
    ≡ (ltb (level + 1) most_levels && leb 1 groups && groups_past 0 (level + 1) (groups - 1) atoms t)
rules_open level groups atoms t =
    groups_mark level groups atoms (open_mark level) t
    ∙ rw (no_atom_mark level, no_close_mark level, eq-eqb (open_mark level) (open_mark level) refl)

rules_close :
    (level groups atoms : ℕ) (t : List ℕ)
    → groups_past 0 (level + 1) groups atoms (closes ∷ t) ≡ groups_past 0 level groups atoms t
rules_close level groups atoms t =
    let back : level + 1 - 1 ≡ level = omega arith in
    groups_mark (level + 1) groups atoms closes t ∙ rw (le-leb 1 (level + 1) (omega arith), back)

record Allowed (level groups atoms : ℕ) (m : Members) (t : List ℕ) : Type 0 where
  levels_most : level + levels_in m ≤ most_levels
  groups_most : groups_in m ≤ groups
  atoms_most : length (atoms_within m) ≤ atoms
  behind : groups_past 0 level (groups - groups_in m) (atoms - length (atoms_within m)) t ≡ true

allowed_of :
    (level groups atoms : ℕ) (m : Members) (t : List ℕ) → level < most_levels
    → groups_past 0 level groups atoms (spelt level m ++ t) ≡ true
    → Allowed level groups atoms m t
unfolding groups_past
allowed_of level groups atoms end t deep h =
    let g : groups - 0 ≡ groups = omega arith in
    let a : atoms - 0 ≡ atoms = omega arith in
    record {
      levels_most = omega arith;
      groups_most = omega arith;
      atoms_most = omega arith;
      behind = rw (g, a) h;
    }
allowed_of level groups atoms (atom x m) t deep h =
    let one : Bool = leb 1 atoms in
    let more : Bool = groups_past 0 level groups (atoms - 1) (spelt level m ++ t) in
    let some : 1 ≤ atoms = leb-true 1 atoms (and_left one more h) in
    let p = allowed_of level groups (atoms - 1) m t deep (and_right one more h) in
    let left : atoms - 1 - length (atoms_within m) ≡ atoms - suc (length (atoms_within m)) = omega arith in
    record {
      levels_most = p.levels_most;
      groups_most = p.groups_most;
      atoms_most = omega (arith, p.atoms_most);
      behind = rw left at p.behind;
    }
allowed_of level groups atoms (group g m) t deep h =
    let behind_group : List ℕ = spelt level m ++ t in
    let inner : List ℕ = spelt (level + 1) g ++ (closes ∷ behind_group) in
    let opened :
    (ltb (level + 1) most_levels && leb 1 groups && groups_past 0 (level + 1) (groups - 1) atoms inner) ≡ true =
    sym
    (rules_open level groups atoms ((spelt (level + 1) g ++ (closes ∷ spelt level m)) ++ t)
    ∙ ap
    (λ (l : List ℕ). ltb (level + 1) most_levels && leb 1 groups && groups_past 0 (level + 1) (groups - 1) atoms l)
    (append_assoc (spelt (level + 1) g) (closes ∷ spelt level m) t))
    ∙ h in
    let a : Bool = ltb (level + 1) most_levels in
    let b : Bool = leb 1 groups in
    let d : Bool = groups_past 0 (level + 1) (groups - 1) atoms inner in
    let shallow : level + 1 < most_levels =
    ltb-true (level + 1) most_levels (and_left a b (and_left (a && b) d opened)) in
    let some : 1 ≤ groups = leb-true 1 groups (and_right a b (and_left (a && b) d opened)) in
    let q =
    allowed_of (level + 1) (groups - 1) atoms g (closes ∷ behind_group) shallow (and_right (a && b) d opened) in
    let p =
    allowed_of level (groups - 1 - groups_in g) (atoms - length (atoms_within g)) m t deep
    (sym
    (rules_close level (groups - 1 - groups_in g) (atoms - length (atoms_within g)) behind_group)
    ∙ q.behind) in
    let groups_left : groups - 1 - groups_in g - groups_in m ≡ groups - suc (groups_in g + groups_in m) =
    omega (arith, q.groups_most, p.groups_most) in
    let atoms_left :
    atoms - length (atoms_within g) - length (atoms_within m) ≡ atoms - length (atoms_within g ++ atoms_within m) =
    omega (arith, length-append (atoms_within g) (atoms_within m), q.atoms_most, p.atoms_most) in
    record {
      levels_most =
          omega (
            arith,
            larger_most (levels_in g + 1) (levels_in m) (most_levels - level) (omega (arith, q.levels_most))
                (omega (arith, p.levels_most)),
          );
      groups_most = omega (arith, q.groups_most, p.groups_most);
      atoms_most = omega (arith, length-append (atoms_within g) (atoms_within m), q.atoms_most, p.atoms_most);
      behind = rw (groups_left, atoms_left) at p.behind;
    }

of_allowed :
    (level groups atoms : ℕ) (m : Members) (t : List ℕ) → Allowed level groups atoms m t
    → groups_past 0 level groups atoms (spelt level m ++ t) ≡ true
unfolding groups_past
of_allowed level groups atoms end t p =
    let g : groups - 0 ≡ groups = omega arith in
    let a : atoms - 0 ≡ atoms = omega arith in
    rw (g, a) at p.behind
of_allowed level groups atoms (atom x m) t p =
    let left : atoms - suc (length (atoms_within m)) ≡ atoms - 1 - length (atoms_within m) = omega arith in
    and_both (leb 1 atoms) (groups_past 0 level groups (atoms - 1) (spelt level m ++ t))
    (le-leb 1 atoms (omega (arith, p.atoms_most)))
    (of_allowed level groups (atoms - 1) m t
    (record {
      levels_most = p.levels_most;
      groups_most = p.groups_most;
      atoms_most = omega (arith, p.atoms_most);
      behind = rw left at p.behind;
    }))
of_allowed level groups atoms (group g m) t p =
    let behind_group : List ℕ = spelt level m ++ t in
    let inner : List ℕ = spelt (level + 1) g ++ (closes ∷ behind_group) in
    let a : Bool = ltb (level + 1) most_levels in
    let b : Bool = leb 1 groups in
    let d : Bool = groups_past 0 (level + 1) (groups - 1) atoms inner in
    let count = length-append (atoms_within g) (atoms_within m) in
    let groups_left : groups - suc (groups_in g + groups_in m) ≡ groups - 1 - groups_in g - groups_in m = omega arith in
    let atoms_left :
    atoms - length (atoms_within g ++ atoms_within m) ≡ atoms - length (atoms_within g) - length (atoms_within m) =
    omega (arith, count) in
    let behind_is : groups_past 0 level (groups - 1 - groups_in g) (atoms - length (atoms_within g)) behind_group
    ≡ true =
    of_allowed level (groups - 1 - groups_in g) (atoms - length (atoms_within g)) m t
    (record {
      levels_most = omega (arith, p.levels_most, larger_right (levels_in g + 1) (levels_in m));
      groups_most = omega (arith, p.groups_most);
      atoms_most = omega (arith, p.atoms_most, count);
      behind = rw (groups_left, atoms_left) at p.behind;
    }) in
    let inside : d ≡ true =
    of_allowed (level + 1) (groups - 1) atoms g (closes ∷ behind_group)
    (record {
      levels_most = omega (arith, p.levels_most, larger_left (levels_in g + 1) (levels_in m));
      groups_most = omega (arith, p.groups_most);
      atoms_most = omega (arith, p.atoms_most, count);
      behind =
          rules_close level (groups - 1 - groups_in g) (atoms - length (atoms_within g)) behind_group ∙ behind_is;
    }) in
    rules_open level groups atoms ((spelt (level + 1) g ++ (closes ∷ spelt level m)) ++ t)
    ∙ (ap
    (λ (l : List ℕ). ltb (level + 1) most_levels && leb 1 groups && groups_past 0 (level + 1) (groups - 1) atoms l)
    (append_assoc (spelt (level + 1) g) (closes ∷ spelt level m) t)
    ∙ and_both (a && b) d
    (and_both a b
    (lt-ltb (level + 1) most_levels
    (omega (arith, p.levels_most, larger_left (levels_in g + 1) (levels_in m), levels_some g)))
    (le-leb 1 groups (omega (arith, p.groups_most))))
    inside)
  where
    levels_some : (x : Members) → 1 ≤ levels_in x
    levels_some end = omega arith
    levels_some (atom y x) = levels_some x
    levels_some (group y x) = omega (arith, larger_left (levels_in y + 1) (levels_in x))

rules_kept :
    (m : Members)
    → groups_ok (spelt 0 m)
    ≡ (leb (levels_in m) most_levels && leb (groups_in m) most_groups && leb (length (atoms_within m))
    most_grouped_atoms)
unfolding groups_past
rules_kept m =
    let a : Bool = leb (levels_in m) most_levels in
    let b : Bool = leb (groups_in m) most_groups in
    let c : Bool = leb (length (atoms_within m)) most_grouped_atoms in
    let whole : groups_ok (spelt 0 m) ≡ groups_ok (spelt 0 m ++ []) = ap groups_ok (sym (append-nil (spelt 0 m))) in
    same_truth (groups_ok (spelt 0 m)) (a && b && c)
    (λ h.
    let p = allowed_of 0 most_groups most_grouped_atoms m [] (omega arith) (sym whole ∙ h) in
    and_both (a && b) c
    (and_both a b (le-leb (levels_in m) most_levels (omega (arith, p.levels_most)))
    (le-leb (groups_in m) most_groups p.groups_most))
    (le-leb (length (atoms_within m)) most_grouped_atoms p.atoms_most))
    (λ h.
    let ab : (a && b) ≡ true = and_left (a && b) c h in
    whole
    ∙ of_allowed 0 most_groups most_grouped_atoms m []
    (record {
      levels_most = omega (arith, leb-true (levels_in m) most_levels (and_left a b ab));
      groups_most = leb-true (groups_in m) most_groups (and_right a b ab);
      atoms_most = leb-true (length (atoms_within m)) most_grouped_atoms (and_right (a && b) c h);
      behind = refl;
    }))

-- Only what is spelt keeps them: the levels that are open, spelt one after the other, are the text.
spelt_all : ℕ → List Members → List ℕ
spelt_all zero ms = spelt 0 (first ms)
spelt_all (suc level) ms = spelt (suc level) (first ms) ++ (closes ∷ spelt_all level (rest ms))

spelt_atom :
    (level : ℕ) (a : Atom) (ms : List Members)
    → spelt_all level (with_atom a ms) ≡ is_atom ∷ a.clock ∷ a.relation ∷ a.constant ∷ spelt_all level ms
unfolding spelt_all
spelt_atom zero a ms = refl
spelt_atom (suc level) a ms = refl

spelt_group :
    (level : ℕ) (ms : List Members)
    → spelt_all level (with_group ms)
    ≡ open_mark level ∷ (spelt (level + 1) (first ms) ++ (closes ∷ spelt_all level (rest ms)))
unfolding spelt_all
spelt_group zero ms = refl
spelt_group (suc level) ms =
    ap (λ (l : List ℕ). open_mark (suc level) ∷ l)
    (append_assoc (spelt (suc level + 1) (first ms)) (closes ∷ spelt (suc level) (first (rest ms)))
    (closes ∷ spelt_all level (rest (rest ms))))

spelt_inner :
    (level : ℕ) (ms : List Members)
    → spelt_all (level + 1) ms ≡ spelt (level + 1) (first ms) ++ (closes ∷ spelt_all level (rest ms))
unfolding spelt_all
spelt_inner level ms = rw (add-one level)

-- an atom that is not cut has three numbers
data Three (t : List ℕ) : Type 0 where
  three : (c r k : ℕ) (behind : List ℕ) → t ≡ c ∷ r ∷ k ∷ behind → Three t

three_of : (level groups atoms : ℕ) (t : List ℕ) → groups_past 3 level groups atoms t ≡ true → Three t
unfolding groups_past
three_of level groups atoms [] h = no_way h
three_of level groups atoms (c ∷ []) h = no_way h
three_of level groups atoms (c ∷ r ∷ []) h = no_way h
three_of level groups atoms (c ∷ r ∷ k ∷ t) h = three c r k t refl

Only : ℕ → List ℕ → Type 0
Only level t = spelt_all level (levels t) ≡ t

only_end : (level : ℕ) → eqb level 0 ≡ true → Only level []
unfolding spelt_all levels_past Only
only_end zero h = refl
only_end (suc level) h = absurd (omega (arith, eqb-true (suc level) 0 h))

only_atom : (level c r k : ℕ) (t : List ℕ) → Only level t → Only level (is_atom ∷ c ∷ r ∷ k ∷ t)
unfolding levels_past Only
only_atom level c r k t h =
    spelt_atom level (record { clock = c; relation = r; constant = k }) (levels t)
    ∙ ap (λ (l : List ℕ). is_atom ∷ c ∷ r ∷ k ∷ l) h

only_close : (level : ℕ) (t : List ℕ) → 1 ≤ level → Only (level - 1) t → Only level (closes ∷ t)
unfolding spelt_all levels_past Only
only_close zero t some h = absurd (omega arith)
only_close (suc level) t some h =
    let back : suc level - 1 ≡ level = omega arith in
    ap (λ (l : List ℕ). closes ∷ l) (rw back at h)

only_open : (level : ℕ) (t : List ℕ) → Only (level + 1) t → Only level (open_mark level ∷ t)
unfolding Only
only_open level t h =
    ap (spelt_all level) (levels_open level t)
    ∙ (spelt_group level (levels t)
    ∙ ap (λ (l : List ℕ). open_mark level ∷ l) (sym (spelt_inner level (levels t)) ∙ h))

only_levels :
    (n level groups atoms : ℕ) (t : List ℕ) → length t ≤ n → groups_past 0 level groups atoms t ≡ true → Only level t
unfolding groups_past
only_levels zero level groups atoms [] fits h = only_end level h
only_levels zero level groups atoms (mark ∷ t) fits h = absurd (omega arith)
only_levels (suc n) level groups atoms [] fits h = only_end level h
only_levels (suc n) level groups atoms (mark ∷ t) fits h =
    by_test (eqb mark is_atom)
    (λ e.
    let both : (leb 1 atoms && groups_past 3 level groups (atoms - 1) t) ≡ true = rw e at rules in
    let p : groups_past 3 level groups (atoms - 1) t ≡ true =
    and_right (leb 1 atoms) (groups_past 3 level groups (atoms - 1) t) both in
    rw (eqb-true mark is_atom e)
    (at_atom t (three_of level groups (atoms - 1) t p) p (λ u f q. only_levels n level groups (atoms - 1) u f q)
    (omega arith)))
    (λ e.
    by_test (eqb mark closes)
    (λ f.
    let both : (leb 1 level && groups_past 0 (level - 1) groups atoms t) ≡ true = rw (e, f) at rules in
    let b : Bool = groups_past 0 (level - 1) groups atoms t in
    rw (eqb-true mark closes f)
    (only_close level t (leb-true 1 level (and_left (leb 1 level) b both))
    (only_levels n (level - 1) groups atoms t (omega arith) (and_right (leb 1 level) b both))))
    (λ f.
    let a : Bool = eqb mark (open_mark level) in
    let b : Bool = ltb (level + 1) most_levels in
    let c : Bool = leb 1 groups in
    let d : Bool = groups_past 0 (level + 1) (groups - 1) atoms t in
    let opened : (a && b && c && d) ≡ true = rw (e, f) at rules in
    let front : (a && b && c) ≡ true = and_left (a && b && c) d opened in
    rw (eqb-true mark (open_mark level) (and_left a b (and_left (a && b) c front)))
    (only_open level t
    (only_levels n (level + 1) (groups - 1) atoms t (omega arith) (and_right (a && b && c) d opened)))))
  where
    rules :
        pick (eqb mark is_atom) (leb 1 atoms && groups_past 3 level groups (atoms - 1) t)
        (pick (eqb mark closes) (leb 1 level && groups_past 0 (level - 1) groups atoms t)
        (eqb mark (open_mark level) && ltb (level + 1) most_levels && leb 1 groups
        && groups_past 0 (level + 1) (groups - 1) atoms t))
        ≡ true
    rules = sym (groups_mark level groups atoms mark t) ∙ h

    at_atom :
        (s : List ℕ) → Three s → groups_past 3 level groups (atoms - 1) s ≡ true
        → ((u : List ℕ) → length u ≤ n → groups_past 0 level groups (atoms - 1) u ≡ true → Only level u)
        → length s ≤ n
        → Only level (is_atom ∷ s)
    at_atom s (three c r k u e) p ih fits =
        let q : groups_past 3 level groups (atoms - 1) (c ∷ r ∷ k ∷ u) ≡ true = rw e at p in
        let long : length (c ∷ r ∷ k ∷ u) ≤ n = rw e at fits in
        rw e (only_atom level c r k u (ih u (omega arith) q))

only_spelt : (t : List ℕ) → groups_ok t ≡ true → spelt 0 (members_in t) ≡ t
unfolding spelt_all Only
only_spelt t h = only_levels (length t) 0 most_groups most_grouped_atoms t (omega arith) h

pub texts_are : TextsAre
texts_are = record {
  read_back = read_back;
  atoms_back = atoms_back;
  rules_kept = rules_kept;
  only_spelt = only_spelt;
}
