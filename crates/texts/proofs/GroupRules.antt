-- The group rules under way: the numbers passed keep them, so what is left decides.
use mathlib.Core.Path.{◌≡◌, refl, sym, ◌∙◌, ap}
use mathlib.Core.Bool.{false, ◌&&◌}
use mathlib.Core.List.{List, [], ◌∷◌}
use Prim.Native.Nat.{ℕ, zero, suc, ◌+◌, ◌-◌, ◌≤◌, ◌<◌}
use native.Mathlib.Omega.{arith}
use lib.Dec.{eqb, ltb, leb}
use lib.ListN.{length, get_or, drop}
use borrow.Author.Tests.{eq-eqb, ne_eqb, le-leb, lt-leb, lt-ltb, le-ltb}
use Rattle.model.specs.Basics.{pick}
use Rattle.model.specs.Texts.{open_mark, groups_past, groups_ok, most_levels, most_groups, most_grouped_atoms}
use Rattle.model.proofs.Texts.{groups_mark}
use Rattle.texts.specs.declared.Mark.{Mark}
use Rattle.texts.specs.declared.Mark.TheVariants.{IsAtom, Closes}
use Rattle.texts.specs.Marks.{mark_of}
use Rattle.texts.proofs.Marks.{after, mark_front, no_numbers, read_as, same_number}

pub record Ruled (text left : List ℕ) (level groups atoms : ℕ) : Type 0 where
  pub level_most : level < most_levels
  pub rest_is : groups_past 0 level groups atoms left ≡ groups_ok text

pub ruled_start : (text : List ℕ) → Ruled text text 0 most_groups most_grouped_atoms
ruled_start text = record { level_most = omega arith; rest_is = refl }

-- numbers passed over
rules_past :
    (n level groups atoms : ℕ) (t : List ℕ) → n ≤ length t
    → groups_past n level groups atoms t ≡ groups_past 0 level groups atoms (drop n t)
unfolding groups_past
rules_past zero level groups atoms t h = refl
rules_past (suc n) level groups atoms [] h = absurd (omega arith)
rules_past (suc n) level groups atoms (x ∷ t) h = rules_past n level groups atoms t (omega arith)

rules_short :
    (n level groups atoms : ℕ) (t : List ℕ) → length t < n → groups_past n level groups atoms t ≡ false
unfolding groups_past
rules_short zero level groups atoms t h = absurd (omega arith)
rules_short (suc n) level groups atoms [] h = rw (ne_eqb (suc n) 0 (omega arith))
rules_short (suc n) level groups atoms (x ∷ t) h = rules_short n level groups atoms t (omega arith)

module _
    {text left : List ℕ} {level groups atoms : ℕ} (inv : Ruled text left level groups atoms) (h : 1 ≤ length left)
  where
    abbrev number : ℕ
    number = get_or left 0 0

    here_rules :
        pick (eqb number 3) (leb 1 atoms && groups_past 3 level groups (atoms - 1) (after left))
        (pick (eqb number 4) (leb 1 level && groups_past 0 (level - 1) groups atoms (after left))
        (eqb number (open_mark level) && ltb (level + 1) most_levels && leb 1 groups
        && groups_past 0 (level + 1) (groups - 1) atoms (after left)))
        ≡ groups_ok text
    here_rules =
        sym (groups_mark level groups atoms number (after left))
        ∙ (ap (groups_past 0 level groups atoms) (sym (mark_front left h)) ∙ inv.rest_is)

    module _ (m : IsAtom ≡ mark_of number) where
      at_atom_rules : (leb 1 atoms && groups_past 3 level groups (atoms - 1) (after left)) ≡ groups_ok text
      at_atom_rules = rw (read_as number m) at here_rules

      pub no_atoms : atoms < 1 → false ≡ groups_ok text
      no_atoms k = rw (lt-leb 1 atoms k) at at_atom_rules

      pub cut_atom : 1 ≤ atoms → length (after left) < 3 → false ≡ groups_ok text
      cut_atom a k =
          rw (le-leb 1 atoms a, rules_short 3 level groups (atoms - 1) (after left) k) at at_atom_rules

      pub ruled_atom :
          1 ≤ atoms → 3 ≤ length (after left) → Ruled text (drop 3 (after left)) level groups (atoms - 1)
      ruled_atom a k = record {
        level_most = inv.level_most;
        rest_is =
            rw (← rules_past 3 level groups (atoms - 1) (after left) k)
            (rw (le-leb 1 atoms a) at at_atom_rules);
      }

    module _ (m : Closes ≡ mark_of number) where
      at_close_rules : (leb 1 level && groups_past 0 (level - 1) groups atoms (after left)) ≡ groups_ok text
      at_close_rules = rw (read_as number m) at here_rules

      pub no_level : level < 1 → false ≡ groups_ok text
      no_level k = rw (lt-leb 1 level k) at at_close_rules

      pub ruled_close : 1 ≤ level → Ruled text (after left) (level - 1) groups atoms
      ruled_close k = record {
        level_most = omega (arith, inv.level_most);
        rest_is = rw (le-leb 1 level k) at at_close_rules;
      }

    module _
        {mark opening : Mark} (e : mark ≡ mark_of number) (o : opening ≡ mark_of (open_mark level))
        (n : mark ≡ IsAtom → ⊥) (m : mark ≡ Closes → ⊥)
      where
        at_open_rules :
            (eqb number (open_mark level) && ltb (level + 1) most_levels && leb 1 groups
            && groups_past 0 (level + 1) (groups - 1) atoms (after left))
            ≡ groups_ok text
        at_open_rules =
            let k : number ≡ 3 → ⊥ = λ q. n (e ∙ ap mark_of q) in
            let l : number ≡ 4 → ⊥ = λ q. m (e ∙ ap mark_of q) in
            rw (ne_eqb number 3 k, ne_eqb number 4 l) at here_rules

        pub wrong_mark : (mark ≡ opening → ⊥) → false ≡ groups_ok text
        wrong_mark k =
            let q : number ≡ open_mark level → ⊥ = λ r. k (e ∙ (ap mark_of r ∙ sym o)) in
            rw (ne_eqb number (open_mark level) q) at at_open_rules

        opened : mark ≡ opening → number ≡ open_mark level
        opened k = same_number number (open_mark level) (sym e ∙ (k ∙ o)) (omega arith) (omega arith)

        pub too_deep : mark ≡ opening → most_levels ≤ level + 1 → false ≡ groups_ok text
        too_deep k d =
            rw (eq-eqb number (open_mark level) (opened k), le-ltb (level + 1) most_levels d) at at_open_rules

        pub no_groups : mark ≡ opening → level + 1 < most_levels → groups < 1 → false ≡ groups_ok text
        no_groups k d g =
            rw (
              eq-eqb number (open_mark level) (opened k),
              lt-ltb (level + 1) most_levels d,
              lt-leb 1 groups g,
            ) at at_open_rules

        pub ruled_open :
            mark ≡ opening → level + 1 < most_levels → 1 ≤ groups
            → Ruled text (after left) (level + 1) (groups - 1) atoms
        ruled_open k d g = record {
          level_most = d;
          rest_is =
              rw (
                eq-eqb number (open_mark level) (opened k),
                lt-ltb (level + 1) most_levels d,
                le-leb 1 groups g,
              ) at at_open_rules;
        }

pub ruled_end :
    {text left : List ℕ} {level groups atoms : ℕ} → Ruled text left level groups atoms → length left < 1
    → eqb level 0 ≡ groups_ok text
unfolding groups_past
ruled_end {left = left} inv h = rw (no_numbers left h) at inv.rest_is
