-- 2.10 from the bytes: two files read and built, then asked, speak of the rules that the files' records spell.
use mathlib.Core.Path.{◌≡◌, refl, sym, ◌∙◌, ap, ap₂}
use mathlib.Core.Bool.{Bool, true, false, ◌||◌, not}
use mathlib.Core.List.{List}
use Prim.Native.Nat.{ℕ, ◌≤◌}
use native.Mathlib.Omega.{arith}
use lib.Dec.{eqb, ltb}
use lib.ListN.{length}
use borrow.Author.Tests.{eqb-true, eq-eqb}
use Rattle.model.specs.declared.Inclusion.{Inclusion}
use Rattle.model.specs.Basics.{within, Refusal, fine, refuse, passes, ◌⨾◌}
use Rattle.model.specs.Rules.{Rule}
use Rattle.model.specs.Files.{read_rule}
use Rattle.model.specs.Tables.{Tables}
use Rattle.model.specs.Walks.{in_shape, shape_refusal}
use Rattle.model.specs.Lists.{list_grain}
use Rattle.model.specs.Inclusion.{joint_count, most_joint_states, inclusion_refusal, SomeOnlyFirst}
use Rattle.model.specs.Promises.{Searched, holds, shown, too_long, ChecksInclusion}
use Rattle.model.specs.Demands.{FileTable, TwoFiles, RefusesFiles, TwoFilesRefused}
use Rattle.model.specs.Claims.{AsBuilt, OfRules, Asked}
use Rattle.model.proofs.Logic.{by_test, no_way}
use Rattle.model.proofs.Numbers.{Among, none, some, among_refuse, among_then, among_none, among_never}
use Rattle.model.proofs.Calls.{outside, Read, read, Made, made}
use Rattle.model.proofs.ThreeCalls.{first_none, second_none}
use Rattle.model.proofs.Inclusions.{built_shape, built_symbols, holds_of_rules, comparable, inclusion_answers}

-- a file's table is its rule's, as built
pub file_built : (file : List ℕ) (t : Tables) → FileTable file t → AsBuilt (read_rule file).rule_is t
file_built file t f =
    let r : Rule = (read_rule file).rule_is in
    let zero_read : f.reading.number ≡ 0 =
    first_none file f.edges f.edges' f.reading f.reads f.not_1_to_8 f.not_20 in
    let x : Read file f.edges f.edges' f.reading =
    read file f.edges f.edges' f.reading f.reads zero_read in
    let zero_built : f.building.number ≡ 0 =
    second_none f.reading.head f.edges' f.scratch f.scratch' f.cells f.cells' f.rows f.rows'
    f.pool f.pool' f.building r x.passes_both x.spells_it f.builds f.not_22_to_24 in
    let y : Made r f.scratch f.cells f.cells' f.rows f.rows' f.pool f.pool' f.building =
    made f.reading.head f.edges' f.scratch f.scratch' f.cells f.cells' f.rows f.rows'
    f.pool f.pool' f.building r x.passes_both x.spells_it f.builds zero_built in
    record {
      valid = x.valid;
      scratch = length f.scratch;
      cells = length f.cells;
      rows = length f.rows;
      pool = length f.pool;
      fits = y.fits;
      tables_are = f.tables_are ∙ y.tables_are;
    }

-- so 25 does not occur, and only 35 and 36 can be met before the search
only_35_36 : (t u : Tables) (n : ℕ) → in_shape t ≡ true → in_shape u ≡ true → Among 35 36 (inclusion_refusal t u n)
unfolding inclusion_refusal shape_refusal
only_35_36 t u n a b =
    let states : ℕ = joint_count t.built u.built in
    let unequal : Bool = not (eqb t.built.symbols u.built.symbols) in
    let too_many : Bool = ltb most_joint_states states || ltb n states in
    rw (a, b)
    (among_then (refuse unequal 35 0) (refuse too_many 36 0) (among_refuse unequal 35 0 (omega arith) (omega arith))
    (among_refuse too_many 36 0 (omega arith) (omega arith)))

module _ (file other : List ℕ) (t u : Tables) (f : FileTable file t) (g : FileTable other u) where
  abbrev r : Rule
  r = (read_rule file).rule_is

  abbrev q : Rule
  q = (read_rule other).rule_is

  first_built : AsBuilt r t
  first_built = file_built file t f

  second_built : AsBuilt q u
  second_built = file_built other u g

  tested : (n : ℕ) → Among 35 36 (inclusion_refusal t u n)
  tested n = only_35_36 t u n (built_shape r t first_built) (built_shape q u second_built)

  passed : (n : ℕ) → within 35 37 (inclusion_refusal t u n).number ≡ false → passes (inclusion_refusal t u n) ≡ true
  passed n w =
      let none : inclusion_refusal t u n ≡ fine =
      among_none (inclusion_refusal t u n) (tested n)
      (λ low high. outside 35 37 (inclusion_refusal t u n).number w low (omega (arith, high))) in
      ap passes none

  -- equal S of the tables is equal S of the rules
  same_test : eqb t.built.symbols u.built.symbols ≡ eqb r.symbols q.symbols
  same_test = ap₂ eqb (built_symbols r t first_built) (built_symbols q u second_built)

  rules : eqb r.symbols q.symbols ≡ true → OfRules r q t u
  rules e = holds_of_rules r q t u first_built second_built (eqb-true r.symbols q.symbols e)

  -- 35 before the search
  tested_35 : (n : ℕ) → eqb (inclusion_refusal t u n).number 35 ≡ not (eqb r.symbols q.symbols)
  unfolding inclusion_refusal shape_refusal
  tested_35 n =
      let states : ℕ = joint_count t.built u.built in
      rw (built_shape r t first_built, built_shape q u second_built, ← same_test)
      (by_s (eqb t.built.symbols u.built.symbols) (ltb most_joint_states states || ltb n states))
    where
      by_s : (s m : Bool) → eqb (refuse (not s) 35 0 ⨾ refuse m 36 0).number 35 ≡ not s
      by_s true true = refl
      by_s true false = refl
      by_s false m = refl

  -- past the tests S is equal
  same_s : (n : ℕ) → passes (inclusion_refusal t u n) ≡ true → eqb r.symbols q.symbols ≡ true
  same_s n h =
      sym same_test ∙ eq-eqb t.built.symbols u.built.symbols (comparable t u n h).same_symbols

-- past 25, 35 and 36 only 37 has a number
answered_0 :
    (t u : Tables) (xs xs' ts ts' : List ℕ) (answer : Inclusion) → Searched t u xs xs' ts ts' answer
    → within 35 37 answer.number ≡ false
    → (answer.number ≡ 0) × (answer.place ≡ 0)
answered_0 t u xs xs' ts ts' answer (holds e i p q) w =
    (ap (λ (x : Inclusion). x.number) e, ap (λ (x : Inclusion). x.place) e)
answered_0 t u xs xs' ts ts' answer (shown vs e r b o m p q) w =
    (ap (λ (x : Inclusion). x.number) e, ap (λ (x : Inclusion). x.place) e)
answered_0 t u xs xs' ts ts' answer (too_long e x m p q) w =
    let n : answer.number ≡ 37 = ap (λ (x : Inclusion). x.number) e in
    absurd (outside 35 37 answer.number w (omega (arith, n)) (omega (arith, n)))

module _
    (t u : Tables) (scratch scratch' xs xs' ts ts' : List ℕ) (answer : Inclusion)
    (promise : ChecksInclusion t u scratch scratch' xs xs' ts ts' answer)
  where
    abbrev call : Asked
    call = record {
      first = t;
      second = u;
      scratch = scratch;
      scratch' = scratch';
      symbols = xs;
      symbols' = xs';
      stamps = ts;
      stamps' = ts';
      answer = answer;
      promise = promise;
    }

    number_is : passes (inclusion_refusal t u (length scratch)) ≡ false
        → answer.number ≡ (inclusion_refusal t u (length scratch)).number
    number_is z = ap (λ (x : Inclusion). x.number) (promise.refused z).0

pub two_files : TwoFiles
two_files file other t u scratch scratch' xs xs' ts ts' answer f g promise w =
    let test : Refusal = inclusion_refusal t u (length scratch) in
    let pass : passes test ≡ true =
    by_test (passes test) (λ z. z)
    (λ z.
    passed file other t u f g (length scratch)
    (rw (number_is t u scratch scratch' xs xs' ts ts' answer promise z) at w)) in
    let zero = answered_0 t u xs xs' ts ts' answer (promise.searched pass).1 w in
    let of_rules = rules file other t u f g (same_s file other t u f g (length scratch) pass) in
    let a = inclusion_answers (call t u scratch scratch' xs xs' ts ts' answer promise) in
    record {
      not_refused = zero;
      yes_is_so = λ y. of_rules.rules_included (a.yes_is_so y);
      so_is_yes = λ i. a.so_is_yes pass (of_rules.tables_lent i);
      shows = λ n. of_rules.only_rule _ _ (a.shows zero.0 n);
      shows_events = λ n. a.shows_events zero.0 n;
      none_shorter = λ d vs o. a.none_shorter zero.0 d vs (of_rules.only_table d vs o);
    }

-- a search that is done answers 0 or 37
searched_number :
    (t u : Tables) (xs xs' ts ts' : List ℕ) (answer : Inclusion) → Searched t u xs xs' ts ts' answer
    → (eqb answer.number 25 ≡ false) × (eqb answer.number 35 ≡ false)
searched_number t u xs xs' ts ts' answer (holds e i p q) = (rw e, rw e)
searched_number t u xs xs' ts ts' answer (shown vs e r b o m p q) = (rw e, rw e)
searched_number t u xs xs' ts ts' answer (too_long e x m p q) = (rw e, rw e)

-- and if 37, then there is a word
searched_37 :
    (t u : Tables) (xs xs' ts ts' : List ℕ) (answer : Inclusion) → Searched t u xs xs' ts ts' answer
    → answer.number ≡ 37
    → SomeOnlyFirst t u
searched_37 t u xs xs' ts ts' answer (holds e i p q) n =
    absurd (omega (arith, n, ap (λ (x : Inclusion). x.number) e))
searched_37 t u xs xs' ts ts' answer (shown vs e r b o m p q) n =
    absurd (omega (arith, n, ap (λ (x : Inclusion). x.number) e))
searched_37 t u xs xs' ts ts' answer (too_long e x m p q) n = x

pub two_files_refused : TwoFilesRefused
two_files_refused file other t u scratch scratch' xs xs' ts ts' answer f g promise =
    by_test (passes (inclusion_refusal t u (length scratch))) searched refused
  where
    n : ℕ
    n = length scratch

    r : Rule
    r = (read_rule file).rule_is

    q : Rule
    q = (read_rule other).rule_is

    refused : passes (inclusion_refusal t u n) ≡ false → RefusesFiles r q xs ts answer
    refused z =
        let e : answer.number ≡ (inclusion_refusal t u n).number =
        number_is t u scratch scratch' xs xs' ts ts' answer promise z in
        let most : (inclusion_refusal t u n).number ≤ 36 = at_most (tested file other t u f g n) in
        let not_37 : answer.number ≡ 37 → ⊥ = λ m. omega (arith, m, e, most) in
        record {
          never_25 =
              ap (λ (x : ℕ). eqb x 25) e
              ∙ among_never (inclusion_refusal t u n) 25 (tested file other t u f g n) (omega arith) (omega arith);
          exactly_35 = ap (λ (x : ℕ). eqb x 35) e ∙ tested_35 file other t u f g n;
          not_so = λ m i. not_37 m;
          none_fits = λ m d vs o. absurd (not_37 m);
        }
      where
        at_most : {x : Refusal} → Among 35 36 x → x.number ≤ 36
        at_most (none h) = rw h (omega arith)
        at_most (some l h) = h

    searched : passes (inclusion_refusal t u n) ≡ true → RefusesFiles r q xs ts answer
    searched z =
        let end = (promise.searched z).1 in
        let numbers = searched_number t u xs xs' ts ts' answer end in
        let s : eqb r.symbols q.symbols ≡ true = same_s file other t u f g n z in
        let of_rules = rules file other t u f g s in
        let a = inclusion_answers (call t u scratch scratch' xs xs' ts ts' answer promise) in
        record {
          never_25 = numbers.0;
          exactly_35 = numbers.1 ∙ ap not (sym s);
          not_so = λ m i.
              let w = searched_37 t u xs xs' ts ts' answer end m in
              no_way (sym w.only.not_accepted
              ∙ of_rules.tables_lent i list_grain w.word w.only.keeps w.fits w.only.accepted);
          none_fits = λ m d vs o. a.none_fits m d vs (of_rules.only_table d vs o);
        }
