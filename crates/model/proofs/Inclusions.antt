-- What is claimed of inclusion: tables as built allow what their rules allow; what one call answers and shows; two
-- outcomes of one call differ only in the word.
use mathlib.Core.Path.{◌≡◌, sym, ◌∙◌, ap, ap₂, subst}
use mathlib.Core.Bool.{Bool, true, false, ◌||◌, not}
use mathlib.Core.List.{List}
use Prim.Native.Nat.{ℕ, suc, ◌-◌, ◌≤◌}
use native.Mathlib.Omega.{arith}
use lib.Dec.{eqb, ltb}
use lib.ListN.{length, take, drop}
use lib.Seq.{take_at, drop_at}
use borrow.Author.Tests.{eqb-true, eqb-false, not-false}
use Rattle.model.specs.declared.Answer.{Answer}
use Rattle.model.specs.declared.Inclusion.{Inclusion}
use Rattle.model.specs.Basics.{one_if, lesser, zeros, filled, Refusal, refusal, fine, refuse, passes, ◌⨾◌}
use Rattle.model.specs.Rules.{Rule}
use Rattle.model.specs.Words.{Event, events_of, most_events, word_refusal}
use Rattle.model.specs.Runs.{accepts}
use Rattle.model.specs.Tables.{Tables, tables_of, tables_by}
use Rattle.model.specs.Walks.{in_shape, shape_refusal, table_accepts}
use Rattle.model.specs.Lists.{list_grain, symbols_of, stamps_of}
use Rattle.model.specs.Inclusion.{keeps_any, stamps_fit, Included, OnlyFirst, SomeOnlyFirst, NoneBelow}
use Rattle.model.specs.Inclusion.{joint_count}
use Rattle.model.specs.Inclusion.{most_joint_states, Comparable, inclusion_refusal, word_room}
use Rattle.model.specs.Promises.{run_refusal, RunsTable, inclusion, Searched, holds, shown, too_long}
use Rattle.model.specs.Claims.{AsBuilt, HoldsOfRules, Asked, shown_by}
use Rattle.model.specs.Claims.{AnswersInclusion, InclusionAnswers, ButForTheWord, OneInclusion}
use Rattle.model.proofs.Logic.{by_test, no_way, lesser_left}
use Rattle.model.proofs.Refusals.{refused_false, first_passes, then_passes}
use Rattle.model.proofs.Numbers.{Among, none, some, among_refuse, among_then}
use Rattle.model.proofs.Words.{keeps_fine}
use Rattle.model.proofs.Agreement.{walk_agrees}
use Rattle.model.proofs.TableWalk.{table_walks}
use Rattle.model.proofs.Shape.{built_in_shape}
use Rattle.model.proofs.Lists.{events_back, symbols_length, stamps_length}
use Rattle.model.proofs.JointWalk.{KeepsAny, keeps_of}

-- A word of any number of events, as two lists, keeps the word rules for so many.
word_fine :
    (s d most : ℕ) (vs : List Event) → keeps_any s d vs ≡ true → length vs ≤ most
    → word_refusal s d most (symbols_of vs) (stamps_of vs) ≡ fine
word_fine s d most vs h few =
    let k : KeepsAny s d vs = keeps_of s d vs h in
    keeps_fine s d most (symbols_of vs) (stamps_of vs)
    (record {
      grain_least = k.least;
      grain_most = k.most;
      lengths_equal = symbols_length vs ∙ sym (stamps_length vs);
      events_most = omega (arith, few, symbols_length vs);
      symbols_below = rw (events_back vs) k.below;
      stamps_ordered = rw (events_back vs) k.ordered;
    })

-- A table as built is in shape, and accepts what its rule accepts.
module _ (r : Rule) (t : Tables) (b : AsBuilt r t) where
  pub built_shape : in_shape t ≡ true
  built_shape =
      ap in_shape b.tables_are ∙ built_in_shape r b.scratch b.cells b.rows b.pool b.valid b.fits

  pub built_symbols : t.built.symbols ≡ r.symbols
  unfolding tables_of tables_by
  built_symbols = rw b.tables_are

  pub built_accepts :
      (d : ℕ) (vs : List Event) → keeps_any r.symbols d vs ≡ true → table_accepts t d vs ≡ accepts r d vs
  built_accepts d vs h =
      let xs : List ℕ = symbols_of vs in
      let ts : List ℕ = stamps_of vs in
      let n : ℕ = length vs in
      let w : word_refusal r.symbols d n xs ts ≡ fine = word_fine r.symbols d n vs h (omega arith) in
      let made : Tables = tables_of r b.cells b.rows b.pool in
      let e : table_accepts made d (events_of xs ts) ≡ accepts r d (events_of xs ts) =
      table_walks r b.scratch b.cells b.rows b.pool d n xs ts b.valid b.fits w
      ∙ walk_agrees r d n xs ts b.valid w in
      ap (λ (x : Tables). table_accepts x d vs) b.tables_are ∙ rw (events_back vs) at e

pub holds_of_rules : HoldsOfRules
holds_of_rules r q t u a b s =
    let first : (d : ℕ) (vs : List Event) → keeps_any r.symbols d vs ≡ true → table_accepts t d vs ≡ accepts r d vs =
    built_accepts r t a in
    let second : (d : ℕ) (vs : List Event) → keeps_any r.symbols d vs ≡ true → table_accepts u d vs ≡ accepts q d vs =
    λ d vs k. built_accepts q u b d vs (rw s at k) in
    let table_keeps : (d : ℕ) (vs : List Event) → keeps_any r.symbols d vs ≡ true
    → keeps_any t.built.symbols d vs ≡ true =
    λ d vs k. rw (built_symbols r t a) k in
    let rule_keeps : (d : ℕ) (vs : List Event) → keeps_any t.built.symbols d vs ≡ true
    → keeps_any r.symbols d vs ≡ true =
    λ d vs k. rw (built_symbols r t a) at k in
    record {
      rules_included = λ i d vs k y. sym (second d vs k) ∙ i d vs (table_keeps d vs k) (first d vs k ∙ y);
      tables_included = λ i d vs k y.
          second d vs (rule_keeps d vs k)
          ∙ i d vs (rule_keeps d vs k) (sym (first d vs (rule_keeps d vs k)) ∙ y);
      tables_lent = λ i d vs k fit y.
          second d vs (rule_keeps d vs k)
          ∙ i d vs (rule_keeps d vs k) fit (sym (first d vs (rule_keeps d vs k)) ∙ y);
      only_rule = λ d vs o.
          let k : keeps_any r.symbols d vs ≡ true = rule_keeps d vs o.keeps in
          record {
            keeps = k;
            accepted = sym (first d vs k) ∙ o.accepted;
            not_accepted = sym (second d vs k) ∙ o.not_accepted;
          };
      only_table = λ d vs o. record {
        keeps = table_keeps d vs o.keeps;
        accepted = first d vs o.keeps ∙ o.accepted;
        not_accepted = second d vs o.keeps ∙ o.not_accepted;
      };
    }

-- two outcomes of a search
module _ (t u : Tables) where
  never : {A : Type 0} (d : ℕ) (vs : List Event) → Included t u → OnlyFirst t u d vs → A
  never d vs i o = no_way (sym o.not_accepted ∙ i d vs o.keeps o.accepted)

  symbols_past : (n : ℕ) (vs : List Event) → drop (length vs) (filled n (symbols_of vs)) ≡ zeros (n - length vs)
  symbols_past n vs =
      drop_at (symbols_of vs) (zeros (n - length (symbols_of vs))) (length vs) (symbols_length vs)
      ∙ ap (λ (k : ℕ). zeros (n - k)) (symbols_length vs)

  stamps_past : (n : ℕ) (vs : List Event) → drop (length vs) (filled n (stamps_of vs)) ≡ zeros (n - length vs)
  stamps_past n vs =
      drop_at (stamps_of vs) (zeros (n - length (stamps_of vs))) (length vs) (stamps_length vs)
      ∙ ap (λ (k : ℕ). zeros (n - k)) (stamps_length vs)

  -- both leave zeros and say the same
  both_zero :
      (scratch' scratch'' symbols symbols' symbols'' stamps stamps' stamps'' : List ℕ) (answer other : Inclusion)
      → scratch' ≡ scratch''
      → answer ≡ other
      → symbols' ≡ zeros (length symbols)
      → stamps' ≡ zeros (length stamps)
      → symbols'' ≡ zeros (length symbols)
      → stamps'' ≡ zeros (length stamps)
      → ButForTheWord scratch' scratch'' symbols' symbols'' stamps' stamps'' answer other
  both_zero ss' ss'' symbols symbols' symbols'' stamps stamps' stamps'' answer other f e p q p' q' = record {
    same_answer = e;
    same_scratch = f;
    same_symbols = ap (drop answer.events) (p ∙ sym p');
    same_stamps = ap (drop answer.events) (q ∙ sym q');
  }

  one_search :
      (ss' ss'' xs xs' xs'' ts ts' ts'' : List ℕ) (a b : Inclusion) → ss' ≡ ss'' → Searched t u xs xs' ts ts' a
      → Searched t u xs xs'' ts ts'' b
      → ButForTheWord ss' ss'' xs' xs'' ts' ts'' a b
  one_search ss' ss'' xs xs' xs'' ts ts' ts'' a b f (holds e i p q) (holds e' i' p' q') =
      both_zero ss' ss'' xs xs' xs'' ts ts' ts'' a b f (e ∙ sym e') p q p' q'
  one_search ss' ss'' xs xs' xs'' ts ts' ts'' a b f (holds e i p q) (shown vs e' r z o m p' q') =
      never list_grain vs i o
  one_search ss' ss'' xs xs' xs'' ts ts' ts'' a b f (holds e i p q) (too_long e' x m p' q') =
      never list_grain x.word i x.only
  one_search ss' ss'' xs xs' xs'' ts ts' ts'' a b f (shown vs e r z o m p q) (holds e' i p' q') =
      never list_grain vs i o
  one_search ss' ss'' xs xs' xs'' ts ts' ts'' a b f (shown vs e r z o m p q) (shown ws e' r' z' o' m' p' q') =
      let n : length vs ≡ length ws = omega (arith, m list_grain ws o', m' list_grain vs o) in
      let k : a.events ≡ length vs = ap (λ (x : Inclusion). x.events) e in
      record {
        same_answer = e ∙ ap (inclusion fine false) n ∙ sym e';
        same_scratch = f;
        same_symbols =
            rw (k, p, p')
            (symbols_past (length xs) vs ∙ ap (λ (y : ℕ). zeros (length xs - y)) n ∙ sym (symbols_past (length xs) ws)
            ∙ ap (λ (y : ℕ). drop y (filled (length xs) (symbols_of ws))) (sym n));
        same_stamps =
            rw (k, q, q')
            (stamps_past (length ts) vs ∙ ap (λ (y : ℕ). zeros (length ts - y)) n ∙ sym (stamps_past (length ts) ws)
            ∙ ap (λ (y : ℕ). drop y (filled (length ts) (stamps_of ws))) (sym n));
      }
  one_search ss' ss'' xs xs' xs'' ts ts' ts'' a b f (shown vs e r z o m p q) (too_long e' x m' p' q') =
      absurd (omega (arith, r, m' list_grain vs o))
  one_search ss' ss'' xs xs' xs'' ts ts' ts'' a b f (too_long e x m p q) (holds e' i p' q') =
      never list_grain x.word i x.only
  one_search ss' ss'' xs xs' xs'' ts ts' ts'' a b f (too_long e x m p q) (shown vs e' r z o m' p' q') =
      absurd (omega (arith, r, m list_grain vs o))
  one_search ss' ss'' xs xs' xs'' ts ts' ts'' a b f (too_long e x m p q) (too_long e' x' m' p' q') =
      both_zero ss' ss'' xs xs' xs'' ts ts' ts'' a b f (e ∙ sym e') p q p' q'

pub one_inclusion : OneInclusion
one_inclusion t u scratch scratch' scratch'' xs xs' xs'' ts ts' ts'' a b p q =
    by_test (passes (inclusion_refusal t u (length scratch)))
    (λ z.
    one_search t u scratch' scratch'' xs xs' xs'' ts ts' ts'' a b ((p.searched z).0 ∙ sym (q.searched z).0)
    (p.searched z).1
    (q.searched z).1)
    (λ z.
    let x = p.refused z in
    let y = q.refused z in
    record {
      same_answer = x.0 ∙ sym y.0;
      same_scratch = x.1 ∙ sym y.1;
      same_symbols = ap (drop a.events) (x.2 ∙ sym y.2);
      same_stamps = ap (drop a.events) (x.3 ∙ sym y.3);
    })

-- what 25, 35 and 36 let pass
pub comparable : (t u : Tables) (n : ℕ) → passes (inclusion_refusal t u n) ≡ true → Comparable t u
unfolding inclusion_refusal shape_refusal
comparable t u n h =
    let states : ℕ = joint_count t.built u.built in
    let same_s : Bool = eqb t.built.symbols u.built.symbols in
    let a : Refusal = refuse (not (in_shape t)) 25 0 in
    let b : Refusal = refuse (not (in_shape u)) 25 0 in
    let c : Refusal = refuse (not same_s) 35 0 in
    let d : Refusal = refuse (ltb most_joint_states states || ltb n states) 36 0 in
    let h0 : (a ⨾ b ⨾ c ⨾ d).number ≡ 0 = eqb-true (a ⨾ b ⨾ c ⨾ d).number 0 h in
    let h1 : (b ⨾ c ⨾ d).number ≡ 0 = then_passes a (b ⨾ c ⨾ d) h0 in
    let h2 : (c ⨾ d).number ≡ 0 = then_passes b (c ⨾ d) h1 in
    record {
      first_shape = not-false (in_shape t) (refused_false (not (in_shape t)) 24 0 (first_passes a (b ⨾ c ⨾ d) h0));
      second_shape = not-false (in_shape u) (refused_false (not (in_shape u)) 24 0 (first_passes b (c ⨾ d) h1));
      same_symbols =
          eqb-true t.built.symbols u.built.symbols
          (not-false same_s (refused_false (not same_s) 34 0 (first_passes c d h2)));
    }

-- none is 37
below_37 : (t u : Tables) (n : ℕ) → (inclusion_refusal t u n).number ≤ 36
unfolding inclusion_refusal shape_refusal
below_37 t u n =
    let states : ℕ = joint_count t.built u.built in
    let unequal : Bool = not (eqb t.built.symbols u.built.symbols) in
    let too_many : Bool = ltb most_joint_states states || ltb n states in
    let d : Refusal = refuse too_many 36 0 in
    let c : Refusal = refuse unequal 35 0 ⨾ d in
    let b : Refusal = refuse (not (in_shape u)) 25 0 ⨾ c in
    most
    (among_then (refuse (not (in_shape t)) 25 0) b (among_refuse (not (in_shape t)) 25 0 (omega arith) (omega arith))
    (among_then (refuse (not (in_shape u)) 25 0) c (among_refuse (not (in_shape u)) 25 0 (omega arith) (omega arith))
    (among_then (refuse unequal 35 0) d (among_refuse unequal 35 0 (omega arith) (omega arith))
    (among_refuse too_many 36 0 (omega arith) (omega arith)))))
  where
    most : {f : Refusal} → Among 25 36 f → f.number ≤ 36
    most (none e) = rw e (omega arith)
    most (some l h) = h

-- the table runner on a word at D = 2 that keeps the rules
run_says :
    (t : Tables) (vs : List Event) (xs ts : List ℕ) (answer : Answer) (says : Bool) → in_shape t ≡ true
    → keeps_any t.built.symbols list_grain vs ≡ true
    → length vs ≤ most_events
    → xs ≡ symbols_of vs
    → ts ≡ stamps_of vs
    → table_accepts t list_grain vs ≡ says
    → RunsTable t.built t.cells t.rows t.pool list_grain xs ts answer
    → answer ≡ record { number = 0; place = 0; value = one_if says }
unfolding run_refusal shape_refusal
run_says t vs xs ts answer says shape keeps few e f v p =
    let w : word_refusal t.built.symbols list_grain most_events (symbols_of vs) (stamps_of vs) ≡ fine =
    word_fine t.built.symbols list_grain most_events vs keeps few in
    p.answer_is ∙ rw (e, f, shape, w, events_back vs, v)

-- One call.
module _ (c : Asked) where
  abbrev t : Tables
  t = c.first

  abbrev u : Tables
  u = c.second

  abbrev tested : Refusal
  tested = inclusion_refusal t u (length c.scratch)

  said_no : {A : Type 0} (f : Refusal) (n : ℕ) → c.answer ≡ inclusion f false n → c.answer.included ≡ true → A
  said_no f n e y = no_way (sym (ap (λ (x : Inclusion). x.included) e) ∙ y)

  said_yes : {A : Type 0} → c.answer ≡ inclusion fine true 0 → c.answer.included ≡ false → A
  said_yes e f = no_way (sym f ∙ ap (λ (x : Inclusion). x.included) e)

  number_of : (f : Refusal) (b : Bool) (n : ℕ) → c.answer ≡ inclusion f b n → c.answer.number ≡ f.number
  number_of f b n e = ap (λ (x : Inclusion). x.number) e

  events_of_lem : (f : Refusal) (b : Bool) (n : ℕ) → c.answer ≡ inclusion f b n → c.answer.events ≡ n
  events_of_lem f b n e = ap (λ (x : Inclusion). x.events) e

  answers_refused : passes tested ≡ false → c.answer ≡ inclusion tested false 0 → AnswersInclusion c
  answers_refused z e =
      let some : c.answer.number ≡ 0 → ⊥ =
      λ n. eqb-false tested.number 0 z (sym (number_of tested false 0 e) ∙ n) in
      record {
        yes_is_so = said_no tested 0 e;
        so_is_yes = λ y i. no_way (sym z ∙ y);
        shows = λ n f. absurd (some n);
        shows_events = λ n f. absurd (some n);
        none_shorter = λ n d vs o. absurd (some n);
        none_fits = λ n d vs o.
            absurd (omega (arith, n, number_of tested false 0 e, below_37 t u (length c.scratch)));
        first_says_yes = λ a n f r. absurd (some n);
        second_says_no = λ a n f r. absurd (some n);
      }

  answers_yes : c.answer ≡ inclusion fine true 0 → Included t u → AnswersInclusion c
  answers_yes e i = record {
    yes_is_so = λ y. i;
    so_is_yes = λ z j. ap (λ (x : Inclusion). x.included) e;
    shows = λ n f. said_yes e f;
    shows_events = λ n f. said_yes e f;
    none_shorter = λ n d vs o. never t u d vs i o;
    none_fits = λ n d vs o. never t u d vs i o;
    first_says_yes = λ a n f r. said_yes e f;
    second_says_no = λ a n f r. said_yes e f;
  }

  answers_long :
      c.answer ≡ inclusion (refusal 37 0) false 0 → SomeOnlyFirst t u
      → NoneBelow (suc (word_room c.symbols c.stamps)) t u
      → AnswersInclusion c
  answers_long e x m =
      let some : c.answer.number ≡ 0 → ⊥ = λ n. omega (arith, n, number_of (refusal 37 0) false 0 e) in
      record {
        yes_is_so = said_no (refusal 37 0) 0 e;
        so_is_yes = λ z i.
            no_way (sym x.only.not_accepted
            ∙ i list_grain x.word x.only.keeps x.fits x.only.accepted);
        shows = λ n f. absurd (some n);
        shows_events = λ n f. absurd (some n);
        none_shorter = λ n d vs o. absurd (some n);
        none_fits = λ n d vs o. m d vs o;
        first_says_yes = λ a n f r. absurd (some n);
        second_says_no = λ a n f r. absurd (some n);
      }

  module _ (vs : List Event) (e : c.answer ≡ inclusion fine false (length vs)) (z : passes tested ≡ true)
      (room : length vs ≤ word_room c.symbols c.stamps) (fit : stamps_fit vs ≡ true)
      (o : OnlyFirst t u list_grain vs)
      (m : NoneBelow (length vs) t u) (p : c.symbols' ≡ filled (length c.symbols) (symbols_of vs))
      (q : c.stamps' ≡ filled (length c.stamps) (stamps_of vs)) where
    count_is : c.answer.events ≡ length vs
    count_is = events_of_lem fine false (length vs) e

    symbols_are : take c.answer.events c.symbols' ≡ symbols_of vs
    symbols_are =
        ap₂ (λ (n : ℕ) (xs : List ℕ). take n xs) count_is p
        ∙ take_at (symbols_of vs) (zeros (length c.symbols - length (symbols_of vs))) (length vs) (symbols_length vs)

    stamps_are : take c.answer.events c.stamps' ≡ stamps_of vs
    stamps_are =
        ap₂ (λ (n : ℕ) (ts : List ℕ). take n ts) count_is q
        ∙ take_at (stamps_of vs) (zeros (length c.stamps - length (stamps_of vs))) (length vs) (stamps_length vs)

    word_is : shown_by c ≡ vs
    word_is = ap₂ events_of symbols_are stamps_are ∙ events_back vs

    few : length vs ≤ most_events
    few = omega (arith, room, lesser_left most_events (lesser (length c.symbols) (length c.stamps)))

    both : Comparable t u
    both = comparable t u (length c.scratch) z

    answers_word : AnswersInclusion c
    answers_word = record {
      yes_is_so = said_no fine (length vs) e;
      so_is_yes = λ y i. no_way (sym o.not_accepted ∙ i list_grain vs o.keeps fit o.accepted);
      shows = λ n f. subst (λ (ws : List Event). OnlyFirst t u list_grain ws) (sym word_is) o;
      shows_events = λ n f. ap length word_is ∙ sym count_is;
      none_shorter = λ n d ws r. omega (arith, count_is, m d ws r);
      none_fits = λ n d ws r. absurd (omega (arith, n, number_of fine false (length vs) e));
      first_says_yes = λ a n f r.
          run_says t vs (take c.answer.events c.symbols') (take c.answer.events c.stamps') a true
          both.first_shape o.keeps few symbols_are stamps_are o.accepted r;
      second_says_no = λ a n f r.
          run_says u vs (take c.answer.events c.symbols') (take c.answer.events c.stamps') a false
          both.second_shape (rw (← both.same_symbols) o.keeps) few symbols_are stamps_are o.not_accepted r;
    }

  answers_searched :
      passes tested ≡ true → Searched t u c.symbols c.symbols' c.stamps c.stamps' c.answer
      → AnswersInclusion c
  answers_searched z (holds e i p q) = answers_yes e i
  answers_searched z (shown vs e r b o m p q) = answers_word vs e z r b o m p q
  answers_searched z (too_long e x m p q) = answers_long e x m

pub inclusion_answers : InclusionAnswers
inclusion_answers c =
    by_test (passes (inclusion_refusal c.first c.second (length c.scratch)))
    (λ z. answers_searched c z (c.promise.searched z).1)
    (λ z. answers_refused c z (c.promise.refused z).0)
