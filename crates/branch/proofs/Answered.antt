-- What the whole runner answers: the refusal with all else zero, or the least run, or what held the rule back.
use Rattle.std.specs.Prelude.{Option, Some, None, Result, Ok, Err}
use Rattle.std.proofs.Common.{IsErrAnd}
use mathlib.Core.Path.{◌≡◌, refl, sym}
use mathlib.Core.Bool.{Bool, true, false}
use mathlib.Core.List.{List, [], ◌∷◌}
use Prim.Native.Nat.{ℕ}
use Rattle.model.specs.declared.Head.{Head}
use Rattle.model.specs.declared.Answer.{Answer}
use Rattle.model.specs.declared.Fault.{Fault}
use Rattle.model.specs.declared.Refused.{Refused}
use Rattle.model.specs.Basics.{fine, filled}
use Rattle.model.specs.Words.{most_branch_events, events_of}
use Rattle.model.specs.Runs.{start_ages, Path, no_path, least_from, least_start, least_run, held_back}
use Rattle.model.specs.Layout.{rule_in}
use Rattle.model.specs.Promises.{ChecksRule, ChecksWord, branch_of, RunsBranches}
use Rattle.model.specs.Faults.{fault_number, answer_in}
use Rattle.model.proofs.Logic.{no_way, by_test}
use Rattle.model.proofs.Faults.{refuses}
use Rattle.model.proofs.Inputs.{Checked, rule_refused, word_refused, both_passed}
use Rattle.model.proofs.Inputs.{Refused as RefusedInput}
use Rattle.branch.specs.declared.Run.{Run}
use Rattle.branch.specs.declared.Outcome.{Outcome}
use Rattle.branch.specs.declared.Outcome.TheVariants.{Accepts, Blank}
use Rattle.branch.specs.Branches.{begun, least_of, Begins}
use Rattle.branch.specs.Outcomes.{refused_branch, branch_in}
use Rattle.branch.proofs.Lowest.{held_none}

-- an error is handed on as it is
pub handed_on :
    (r : Result Outcome Refused) (e f : Refused) → IsErrAnd r (λ x. x ≡ e)
    → ◌≡◌ {A = Result (Unit {0}) Refused} (Err e) (Err f)
    → r ≡ Err f
handed_on (Ok a) e f h q = absurd h
handed_on (Err x) e f h q = cc (h, q)

-- no fault has number 0
counted : (f : Fault) → fault_number f ≡ 0 → ⊥
counted f z = let h = refuses f 0 in cc (rw z at h)

-- A run that is not found is no run.
not_found :
    (head : Head) (edges : List ℕ) (d : ℕ) (symbols stamps ls : List ℕ)
    → (least_start (rule_in head edges) d (events_of symbols stamps) ls).found ≡ false
    → least_start (rule_in head edges) d (events_of symbols stamps) ls ≡ no_path
unfolding least_start
not_found head edges d symbols stamps [] h = refl
not_found head edges d symbols stamps (l ∷ ls) h =
    by_test (least_from (rule_in head edges) d (events_of symbols stamps) 0 l (start_ages (rule_in head edges))).found
    (λ e. no_way (sym (rw e at h)))
    (λ e. rw e (not_found head edges d symbols stamps ls (rw e at h)))

begun_none : (p : Path) (t : Bool) → p.found ≡ t → None ≡ begun p → t ≡ false
begun_none p true f e =
    let k : None ≡ Some (record { start = p.start; edges = filled most_branch_events p.taken }) = rw f at e in
    absurd (cc)
begun_none p false f e = refl

begun_some :
    (p : Path) (t : Bool) (run : Run) → p.found ≡ t → Some run ≡ begun p
    → (t ≡ true) × (run ≡ record { start = p.start; edges = filled most_branch_events p.taken })
begun_some p true run f e =
    let k : Some run ≡ Some (record { start = p.start; edges = filled most_branch_events p.taken }) = rw f at e in
    (refl, cc)
begun_some p false run f e = let k : Some run ≡ None = rw f at e in absurd (cc)

-- no run: what held the rule back
blank_is : (g : Option ℕ) → branch_in (Ok (Blank g)) ≡ branch_of fine no_path g
blank_is None = refl
blank_is (Some n) = refl

-- a run: nothing held the rule back
accepts_is :
    (p : Path) → p.found ≡ true
    → branch_in (Ok (Accepts (record { start = p.start; edges = filled most_branch_events p.taken })))
    ≡ branch_of fine p None
accepts_is p f = rw f

module _ (head : Head) (edges : List ℕ) (d : ℕ) (symbols stamps : List ℕ) where
  -- a refusal by a check
  refusal_is :
      (a : Answer) → RefusedInput head edges d most_branch_events symbols stamps a
      → RunsBranches head edges d symbols stamps (refused_branch a.number a.place)
  refusal_is a f = record { answer_is = rw (f.answer_is, f.not_passed) }

  pub rule_refusal_is :
      (r : Result Outcome Refused) (e : Refused) → r ≡ Err e
      → ChecksRule head edges (answer_in {A = Unit {0}} (λ u. 0) (Err e))
      → RunsBranches head edges d symbols stamps (branch_in r)
  rule_refusal_is r e q c =
      rw q (refusal_is _ (rule_refused head edges d most_branch_events symbols stamps _ c (counted e.fault)))

  module _ (rule_ok : ChecksRule head edges (record { number = 0; place = 0; value = 0 })) where
    pub word_refusal_is :
        (r : Result Outcome Refused) (e : Refused) → r ≡ Err e
        → ChecksWord head.symbols d most_branch_events symbols stamps (answer_in {A = Unit {0}} (λ u. 0) (Err e))
        → RunsBranches head edges d symbols stamps (branch_in r)
    word_refusal_is r e q w =
        rw q
        (refusal_is _
        (word_refused head edges d most_branch_events symbols stamps _ _ rule_ok w refl (counted e.fault)))

    module _
        (word_ok :
        ChecksWord head.symbols d most_branch_events symbols stamps (record { number = 0; place = 0; value = 0 }))
        (xs ts : List ℕ) (xs_are : xs ≡ symbols) (ts_are : ts ≡ stamps)
      where
        checked : Checked head edges d most_branch_events symbols stamps
        checked = both_passed head edges d most_branch_events symbols stamps _ _ rule_ok word_ok refl refl

        pub begins : Begins head xs ts
        begins =
            rw (xs_are, ts_are)
            (record {
              clocks_most = checked.clocks_most;
              edges_most = checked.count_most;
              counts_equal = checked.keeps.lengths_equal;
              events_most = checked.keeps.events_most;
              stamps_ordered = checked.keeps.stamps_ordered;
            })

        least : Path
        least = least_of head edges d symbols stamps

        pub run_is_least :
            (run : Run) → Some run ≡ begun (least_of head edges d xs ts)
            → RunsBranches head edges d symbols stamps (branch_in (Ok (Accepts run)))
        run_is_least run h =
            let p : Path = least_of head edges d symbols stamps in
            let e : Some run ≡ begun p = rw (xs_are, ts_are) at h in
            let some = begun_some p p.found run refl e in
            record {
              answer_is =
                  rw (checked.passes_both, some.1, ← held_none head edges d symbols stamps some.0)
                  (accepts_is p some.0);
            }

        pub none_is_least :
            (g : Option ℕ) → None ≡ begun (least_of head edges d xs ts)
            → g ≡ held_back (rule_in head edges) d (events_of xs ts)
            → RunsBranches head edges d symbols stamps (branch_in (Ok (Blank g)))
        unfolding least_run
        none_is_least g h b =
            let p : Path = least_of head edges d symbols stamps in
            let e : None ≡ begun p = rw (xs_are, ts_are) at h in
            let held : g ≡ held_back (rule_in head edges) d (events_of symbols stamps) = rw (xs_are, ts_are) at b in
            let none : p ≡ no_path =
            not_found head edges d symbols stamps (rule_in head edges).initial (begun_none p p.found refl e) in
            record { answer_is = rw (checked.passes_both, ← held, none) (blank_is g) }
