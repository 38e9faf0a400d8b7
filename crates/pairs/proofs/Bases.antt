-- Bases at an edge's target, as the loop makes them in place: brought forward, or zero where the edge resets their
-- clock.
use Rattle.std.proofs.Common.{◌≡◌, refl, sym, ◌∙◌, ap, Bool, true, false, List, [], ◌∷◌, ◌++◌, append_assoc, append-nil}
use Rattle.std.proofs.Common.{ℕ, suc, ◌+◌, ◌≤◌, ◌<◌, arith, add-one, length, get_or, take, drop}
use Rattle.std.proofs.lemmas.List.{drop-set-lt}
use lib.ListN.{set, length-set}
use lib.Seq.{take-suc-set, drop-cons, take-length, drop-length}
use Rattle.model.specs.Basics.{pick}
use Rattle.model.specs.Rules.{most_clocks}
use Rattle.model.specs.Runs.{zeroed_from}
use Rattle.model.specs.Construction.{advanced}
use Rattle.pairs.specs.Pairs.{moved_base, moved_bases}

-- The bases of the clocks before k are moved, with those still to come they are the bases at the target.
pub record Moving (mask : ℕ) (timer : Bool) (c i k : ℕ) (bases next : List ℕ) : Type 0 where
  pub turns : k ≤ most_clocks
  pub long : length next ≡ most_clocks
  pub all_are :
      take k next ++ zeroed_from k mask (pick timer (advanced c i (drop k next)) (drop k next))
      ≡ moved_bases mask timer c i bases

pub moving_start :
    (mask : ℕ) (timer : Bool) (c i : ℕ) (bases : List ℕ) → length bases ≡ most_clocks
    → Moving mask timer c i 0 bases bases
moving_start mask timer c i bases h = record { turns = omega arith; long = h; all_are = refl }

-- one base more
moved_cons :
    (mask : ℕ) (timer : Bool) (c i k b : ℕ) (bs : List ℕ)
    → zeroed_from k mask (pick timer (advanced c i (b ∷ bs)) (b ∷ bs))
    ≡ moved_base mask k timer c i b ∷ zeroed_from (suc k) mask (pick timer (advanced c i bs) bs)
moved_cons mask true c i k b bs = refl
moved_cons mask false c i k b bs = refl

moved_none : (mask : ℕ) (timer : Bool) (c i k : ℕ) → zeroed_from k mask (pick timer (advanced c i []) []) ≡ []
moved_none mask true c i k = refl
moved_none mask false c i k = refl

moved_rest :
    (mask : ℕ) (timer : Bool) (c i k : ℕ) (bases : List ℕ) → k < length bases
    → zeroed_from k mask (pick timer (advanced c i (drop k bases)) (drop k bases))
    ≡ moved_base mask k timer c i (get_or bases k 0)
    ∷ zeroed_from (suc k) mask (pick timer (advanced c i (drop (suc k) bases)) (drop (suc k) bases))
moved_rest mask timer c i k bases h =
    ap (λ (l : List ℕ). zeroed_from k mask (pick timer (advanced c i l) l)) (drop-cons bases k 0 h)
    ∙ moved_cons mask timer c i k (get_or bases k 0) (drop (suc k) bases)

module _ {mask : ℕ} {timer : Bool} {c i k : ℕ} {bases next : List ℕ} (inv : Moving mask timer c i k bases next) where
  pub moving_next :
      (b : ℕ) → k < most_clocks → b ≡ moved_base mask k timer c i (get_or next k 0)
      → Moving mask timer c i (k + 1) bases (set next k b)
  moving_next b h e =
      let inside : k < length next = omega (arith, inv.long) in
      let front : take (k + 1) (set next k b) ≡ take k next ++ (b ∷ []) =
      rw (add-one k) (take-suc-set next k b inside) in
      let later : List ℕ = drop (suc k) next in
      let kept : drop (k + 1) (set next k b) ≡ later = rw (add-one k) (drop-set-lt (suc k) next k b (omega arith)) in
      let rest : List ℕ = zeroed_from (suc k) mask (pick timer (advanced c i later) later) in
      record {
        turns = omega arith;
        long = length-set next k b ∙ inv.long;
        all_are =
            rw (front, kept, add-one k, append_assoc (take k next) (b ∷ []) rest, e)
            (rw (← moved_rest mask timer c i k next inside) inv.all_are);
      }

  pub moving_end : most_clocks ≤ k → next ≡ moved_bases mask timer c i bases
  moving_end h =
      let e : k ≡ length next = omega (arith, inv.turns, inv.long) in
      let none : drop k next ≡ [] = rw e (drop-length next) in
      let whole : take k next ≡ next = rw e (take-length next) in
      sym (append-nil next) ∙ (rw (none, whole, moved_none mask timer c i k) at inv.all_are)
