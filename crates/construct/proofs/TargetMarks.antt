-- The targets of a pair and of a row, marked edge by edge and pair by pair, as the construction puts them in.
use mathlib.Core.Path.{◌≡◌, refl, sym, ◌∙◌, ap}
use mathlib.Core.Bool.{Bool, true, false}
use mathlib.Core.List.{List, [], ◌∷◌, ◌++◌}
use Prim.Native.Nat.{ℕ, suc, ◌+◌, ◌≤◌, ◌<◌}
use native.Mathlib.Omega.{arith}
use native.Mathlib.Numerals.{add-one}
use lib.ListN.{length, get_or, take, drop, drop_of_length-le}
use lib.Seq.{take-suc, take_all, drop-cons}
use Rattle.model.specs.declared.Head.{Head}
use Rattle.model.specs.Basics.{pick}
use Rattle.model.specs.Rules.{Edge, Rule, pair_count}
use Rattle.model.specs.Runs.{no_edge}
use Rattle.model.specs.Layout.{rule_in, rule_refusal}
use Rattle.model.specs.Construction.{with_code, location_of, allows, row_resets, target_of, pair_targets, row_targets}
use Rattle.model.specs.Construction.{next_row}
use Rattle.model.proofs.Valid.{valid_of}
use Rattle.model.proofs.Readable.{passes_valid}
use Rattle.model.proofs.CodeBounds.{target_below}
use Rattle.codes.specs.declared.Scale.{Scale}
use Rattle.pairs.specs.declared.Input.{Input}
use Rattle.codes.specs.Codes.{Scaled}
use Rattle.bits.specs.declared.Span.{Span}
use Rattle.bits.specs.Bits.{codes_in, InSpan, CanMark, MarksAre}
use Rattle.construct.specs.Leaving.{leaving_from, edge_of, next_place, Linked}
use Rattle.construct.specs.Marks.{Enough, NextMarked}
use Rattle.construct.proofs.LeavingLaws.{Standing, standing_from, next_is, next_later}
use Rattle.construct.proofs.EdgeLaws.{edge_count, edge_in_lem, targets_from}

-- The targets by the edges passed are marked; edge e is the next that leaves.
pub record Pairing
    (h : Head) (t : List ℕ) (at : Input) (timer : Bool) (x e : ℕ) (row marks : List ℕ) (span : Span) : Type 0 where
  pub standing : Standing (rule_in h t).edges (location_of (rule_in h t) x) at.symbol e
  pub in_span : InSpan marks span
  pub rest :
      pair_targets (rule_in h t) at.symbol at.interval timer x (drop e (rule_in h t).edges) (codes_in marks)
      ≡ pair_targets (rule_in h t) at.symbol at.interval timer x (rule_in h t).edges row

pub pairing_start :
    (h : Head) (t : List ℕ) (at : Input) (timer : Bool) (x e : ℕ) (marks : List ℕ) (span : Span)
    → e ≡ leaving_from (rule_in h t).edges (location_of (rule_in h t) x) at.symbol 0
    → InSpan marks span
    → Pairing h t at timer x e (codes_in marks) marks span
pairing_start h t at timer x e marks span q s =
    rw q
    (record {
      standing = standing_from (rule_in h t).edges (location_of (rule_in h t) x) at.symbol 0 (omega arith);
      in_span = s;
      rest = sym (targets_from (rule_in h t) at.symbol at.interval timer x (codes_in marks) 0);
    })

module _
    {h : Head} {t : List ℕ} {at : Input} {timer : Bool} {x e : ℕ} {row marks : List ℕ} {span : Span}
    (inv : Pairing h t at timer x e row marks span) where
  abbrev r : Rule
  r = rule_in h t

  abbrev edge : Edge
  edge = edge_of r.edges e

  -- the targets by edge e, and by those after it
  from_here :
      e < h.count
      → pair_targets r at.symbol at.interval timer x (drop (suc e) r.edges)
      (pick (allows r at.symbol at.interval x edge)
      (with_code (target_of r at.interval timer x edge) (codes_in marks))
      (codes_in marks))
      ≡ pair_targets r at.symbol at.interval timer x r.edges row
  from_here l =
      ap
      (λ (es : List Edge). pair_targets r at.symbol at.interval timer x es (codes_in marks))
      (sym (drop-cons r.edges e no_edge (omega (arith, edge_count h t))))
      ∙ inv.rest

  module _
      {z : Scale} {lent links : List ℕ} (passed : (rule_refusal h t).number ≡ 0) (scaled : Scaled (rule_in h t) z)
      (enough : Enough (rule_in h t) lent) (linked : Linked (rule_in h t) links) (l : e < h.count) where
    pub pairing_can :
        {to : ℕ} → to ≡ target_of r at.interval timer x edge → length marks ≡ length lent → CanMark marks span to
    pairing_can {to} is_to long =
        let small : to < pair_count r =
        rw is_to (target_below r at.interval timer x edge (edge_in_lem h t passed scaled l)) in
        record {
          in_span = inv.in_span;
          code_below = omega (arith, enough.marks_long);
          code_most = omega (arith, (valid_of r (passes_valid h t passed)).pairs_most);
        }

    -- from the next edge on, once the targets by edge e are marked
    go_on :
        (n : ℕ) (marks' : List ℕ) (span' : Span) → n ≡ get_or links (next_place e) 0
        → codes_in marks'
        ≡ pick (allows r at.symbol at.interval x edge)
        (with_code (target_of r at.interval timer x edge) (codes_in marks))
        (codes_in marks)
        → InSpan marks' span'
        → Pairing h t at timer x n row marks' span'
    go_on n marks' span' k c s =
        rw (k ∙ next_is linked inv.standing (omega (arith, edge_count h t)))
        (record {
          standing =
              standing_from r.edges (location_of r x) at.symbol (suc e) (omega (arith, edge_count h t));
          in_span = s;
          rest =
              sym (targets_from r at.symbol at.interval timer x (codes_in marks') (suc e))
              ∙ (ap (pair_targets r at.symbol at.interval timer x (drop (suc e) r.edges)) c ∙ from_here l);
        })

    pub pairing_next :
        {b : Bool} {to : ℕ} (n : ℕ) (marks' : List ℕ) (span' : Span)
        → b ≡ allows r at.symbol at.interval x edge
        → b ≡ true
        → to ≡ target_of r at.interval timer x edge
        → MarksAre (with_code to (codes_in marks)) marks' span'
        → n ≡ get_or links (next_place e) 0
        → Pairing h t at timer x n row marks' span'
    pairing_next n marks' span' q y g m k =
        go_on n marks' span' k (m.codes_are ∙ (rw (g, sym q ∙ y))) m.in_span

    pub pairing_skip :
        {b : Bool} (n : ℕ) (marks' : List ℕ) (span' : Span) → b ≡ allows r at.symbol at.interval x edge
        → b ≡ false
        → marks' ≡ marks
        → span' ≡ span
        → n ≡ get_or links (next_place e) 0
        → Pairing h t at timer x n row marks' span'
    pairing_skip n marks' span' q y f g k =
        go_on n marks' span' k (rw (f, sym q ∙ y)) (rw (f, g) inv.in_span)

    -- the next edge comes later
    pub pairing_later : (n : ℕ) → n ≡ get_or links (next_place e) 0 → e < n
    pairing_later n k =
        rw (k ∙ next_is linked inv.standing (omega (arith, edge_count h t)))
        (next_later r.edges (location_of r x) at.symbol e)

  pub pairing_end :
      h.count ≤ e
      → MarksAre (pair_targets (rule_in h t) at.symbol at.interval timer x (rule_in h t).edges row) marks span
  pairing_end l = record {
    codes_are =
        ap
        (λ (es : List Edge). pair_targets r at.symbol at.interval timer x es (codes_in marks))
        (sym (drop_of_length-le r.edges {i = e} (omega (arith, edge_count h t))))
        ∙ inv.rest;
    in_span = inv.in_span;
  }

-- The targets of the first n pairs of a row are marked.
targets_pairs :
    (r : Rule) (s i : ℕ) (timer : Bool) (xs : List ℕ) (x : ℕ) (row : List ℕ)
    → row_targets r s i timer (xs ++ (x ∷ [])) row ≡ pair_targets r s i timer x r.edges (row_targets r s i timer xs row)
targets_pairs r s i timer [] x row = refl
targets_pairs r s i timer (y ∷ xs) x row = targets_pairs r s i timer xs x (pair_targets r s i timer y r.edges row)

pub record Rowing
    (h : Head) (t : List ℕ) (at : Input) (timer : Bool) (row : List ℕ) (n : ℕ) (marks : List ℕ) (span : Span)
    : Type 0 where
  pub turns : n ≤ length row
  pub marks_are :
      MarksAre (row_targets (rule_in h t) at.symbol at.interval timer (take n row) []) marks span

pub rowing_start :
    (h : Head) (t : List ℕ) (at : Input) (timer : Bool) (row marks : List ℕ) (span : Span) → MarksAre [] marks span
    → Rowing h t at timer row 0 marks span
rowing_start h t at timer row marks span m = record { turns = omega arith; marks_are = m }

module _
    {h : Head} {t : List ℕ} {at : Input} {timer : Bool} {row : List ℕ} {n : ℕ} {marks : List ℕ} {span : Span}
    (inv : Rowing h t at timer row n marks span) where
  pub rowing_next :
      (marks' : List ℕ) (span' : Span) → n < length row
      → MarksAre
      (pair_targets (rule_in h t) at.symbol at.interval timer (get_or row n 0) (rule_in h t).edges (codes_in marks))
      marks'
      span'
      → Rowing h t at timer row (n + 1) marks' span'
  rowing_next marks' span' l m = record {
    turns = omega arith;
    marks_are = record {
      codes_are =
          m.codes_are
          ∙ rw (inv.marks_are.codes_are, add-one n, take-suc row n 0 l)
          (sym (targets_pairs (rule_in h t) at.symbol at.interval timer (take n row) (get_or row n 0) []));
      in_span = m.in_span;
    };
  }

  pub rowing_end :
      length row ≤ n → MarksAre (row_targets (rule_in h t) at.symbol at.interval timer row []) marks span
  rowing_end l = rw (take_all n row l) at inv.marks_are

-- marks of another length have room too
pub enough_again :
    {r : Rule} {lent : List ℕ} (marks : List ℕ) → Enough r lent → length marks ≡ length lent → Enough r marks
enough_again marks enough e = record { marks_long = rw e enough.marks_long }

-- the next row, from whether the timer is reset and the targets
pub next_marked :
    (h : Head) (t : List ℕ) (at : Input) (row marks' : List ℕ) (timer : Bool) (span : Span)
    → timer ≡ row_resets (rule_in h t) at.symbol at.interval row
    → MarksAre (row_targets (rule_in h t) at.symbol at.interval timer row []) marks' span
    → NextMarked (rule_in h t) at row marks' (record { timer = timer; span = span })
unfolding next_row
next_marked h t at row marks' timer span k m = record {
  timer_is = k;
  marks_are = record {
    codes_are =
        m.codes_are
        ∙ ap (λ (b : Bool). row_targets (rule_in h t) at.symbol at.interval b row []) k;
    in_span = m.in_span;
  };
}
