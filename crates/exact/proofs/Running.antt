-- The events one after another: the refusal met and what is accepted, from the configurations so far over the events
-- still to come, are those of the whole word.
use Rattle.std.proofs.Common.{◌≡◌, ◌<◌, ◌≤◌, ◌+◌, ◌-◌, ◌*◌, ◌^◌, ◌⊎◌, inl, inr, ℕ, Bool, List, [], ◌∷◌, length, Result}
use Rattle.std.proofs.Common.{Ok, Err, refl, sym, ◌∙◌, ap, arith, add-one}
use Rattle.std.specs.Result.{IsErrAnd}
use Rattle.std.proofs.Math.Nat.{le_of_mul-le-mul_right, lt_of_mul-lt-mul_right}
use borrow.Author.Tests.{lt-ltb, le-ltb}
use Rattle.model.specs.declared.Head.{Head}
use Rattle.model.specs.declared.Refused.{Refused}
use Rattle.model.specs.declared.Fault.TheVariants.{NoRoomForConfiguration}
use Rattle.model.specs.Faults.{answer_in}
use Rattle.model.specs.Basics.{one_if, fine, refusal}
use Rattle.model.specs.Rules.{Rule}
use Rattle.model.specs.Words.{Event, events_of}
use Rattle.model.specs.Runs.{accepts, Config, by_configs, start_configs, room_refusal_from, room_refusal}
use Rattle.model.specs.Layout.{rule_in}
use Rattle.model.proofs.Words.{Ordered}
use Rattle.model.proofs.Configs.{accepts_some, event_some, start_some, end_some, Aged, aged_start, aged_configs}
use Rattle.model.proofs.Configs.{configs_symbol}
use Rattle.ages.specs.Ages.{with_symbol}
use Rattle.exact.specs.declared.bank.Bank.{Bank}
use Rattle.exact.specs.Chunks.{any_final}
use Rattle.exact.specs.Banks.{configs_of, Filled}
use Rattle.exact.specs.Ready.{by_configs_of, Stepping}
use Rattle.exact.specs.Runs.{answer_with, Started}
use Rattle.exact.proofs.Chunks.{configs_length}
use Rattle.exact.proofs.Starting.{starts_are}

-- more configurations than a bank has room for, and as many or fewer
pub over_by_room : (room n k : ℕ) → room * (k + 1) < n * (k + 1) → room < n
over_by_room room n k h = lt_of_mul-lt-mul_right (k + 1) h

pub held_by_room : (room n k : ℕ) → n * (k + 1) ≤ room * (k + 1) → n ≤ room
held_by_room room n k h = le_of_mul-le-mul_right h (omega arith)

no_events : (xs ts : List ℕ) → length xs ≡ 0 → events_of xs ts ≡ []
no_events [] ts h = refl
no_events (x ∷ xs) ts h = absurd (omega arith)

-- 26 where there are more configurations than room, whichever events follow
pub over_room :
    (r : Rule) (d room i last : ℕ) (cs : List Config) (vs : List Event) → room < length cs
    → room_refusal_from r d room i last cs vs ≡ refusal 26 i
unfolding room_refusal_from
over_room r d room i last cs [] h = rw (lt-ltb room (length cs) h)
over_room r d room i last cs (v ∷ vs) h = rw (lt-ltb room (length cs) h, room_refusal_from)

event_room :
    (r : Rule) (d room i last : ℕ) (cs : List Config) (v : Event) (vs : List Event) → length cs ≤ room
    → room_refusal_from r d room i last cs (v ∷ vs)
    ≡ room_refusal_from r d room (i + 1) v.stamp (by_configs r d v (v.stamp - last) cs []) vs
unfolding room_refusal_from
event_room r d room i last cs v vs h = rw (add-one i, le-ltb room (length cs) h, room_refusal_from)

end_room :
    (r : Rule) (d room i last : ℕ) (cs : List Config) → length cs ≤ room
    → room_refusal_from r d room i last cs [] ≡ fine
unfolding room_refusal_from
end_room r d room i last cs h = rw (le-ltb room (length cs) h)

-- a refusal that was handed on
pub handed_on :
    (r : Result Bool Refused) (e f : Refused) → IsErrAnd r (λ x. x ≡ e)
    → ◌≡◌ {A = Result (Unit {0}) Refused} (Err e) (Err f)
    → r ≡ Err f
handed_on (Ok a) e f h q = absurd h
handed_on (Err x) e f h q = cc (h, q)

module _ (head : Head) (edges : List ℕ) (d : ℕ) (symbols stamps : List ℕ) (room : ℕ) where
  abbrev rule : Rule
  rule = rule_in head edges

  -- the numbers of a bank
  abbrev size : ℕ
  size = room * (head.clocks + 1)

  abbrev word : List Event
  word = events_of symbols stamps

  -- no room for the configurations, after so many events or before the first
  pub full_is :
      (r : Result Bool Refused) (e : Refused) (i : ℕ) → r ≡ Err e → e.fault ≡ NoRoomForConfiguration → e.place ≡ i
      → room_refusal rule d room word ≡ refusal 26 i
      → answer_in one_if r ≡ answer_with head edges d symbols stamps room
  full_is r e i q f p met = rw (q, f, p, met)

  -- xs and ts are left, i events are done
  pub record Running (i last : ℕ) (xs ts : List ℕ) (from to : Bank) : Type 0 where
    pub from_clocks : from.clocks ≡ head.clocks
    pub to_clocks : to.clocks ≡ head.clocks
    pub from_size : length from.numbers.now ≡ size
    pub to_size : length to.numbers.now ≡ size
    pub equal : length xs ≡ length ts
    pub aged : Aged last (configs_of from)
    pub ordered : Ordered last (events_of xs ts)
    pub refusal_is :
        room_refusal_from rule d room i last (configs_of from) (events_of xs ts) ≡ room_refusal rule d room word
    pub accepts_is : accepts_some rule d (events_of xs ts) last (configs_of from) ≡ accepts rule d word

  pub running :
      (i : ℕ) (xs ts : List ℕ) (from to : Bank) → Started head symbols stamps room from to
      → length symbols ≡ length stamps → i ≡ 0
      → xs ≡ symbols
      → ts ≡ stamps
      → Running i 0 xs ts from to
  unfolding room_refusal
  running i xs ts from to started same z e f =
      let there : configs_of from ≡ start_configs rule rule.initial =
      started.starts_there ∙ sym (starts_are head edges) in
      record {
        from_clocks = started.from_clocks;
        to_clocks = started.to_clocks;
        from_size = started.from_size;
        to_size = started.to_size;
        equal = rw (e, f) same;
        aged = rw there (aged_start rule 0 rule.initial);
        ordered = rw (e, f) started.begins.stamps_ordered;
        refusal_is = rw (z, e, f, there);
        accepts_is = rw (e, f, there) (start_some rule d word);
      }

  module _ {i last : ℕ} {xs ts : List ℕ} {from to : Bank} (inv : Running i last xs ts from to) where
    there_most : length (configs_of from) ≤ room
    there_most =
        held_by_room room (length (configs_of from)) head.clocks
        (rw (configs_length from.clocks from.held from.numbers.now)
        (rw (inv.from_clocks, inv.from_size) at from.held_fits))

    -- an event is left
    module _ (x t delay : ℕ) (xs' ts' : List ℕ) (e : xs ≡ x ∷ xs') (f : ts ≡ t ∷ ts') (delay_is : delay ≡ t - last)
      where
        abbrev event : Event
        event = record { symbol = x; stamp = t }

        in_order : (last ≤ t) × Ordered t (events_of xs' ts')
        in_order = rw (e, f) at inv.ordered

        pub step_ready : t < 2 ^ 32 → Stepping head.clocks delay from to
        step_ready small = record {
          from_clocks = inv.from_clocks;
          to_clocks = inv.to_clocks;
          ages_below = (last, inv.aged, omega (arith, in_order.0, delay_is, small));
        }

        -- the configurations that the event leads to
        abbrev after : List Config
        after = by_configs rule d event (t - last) (configs_of from) []

        after_is : by_configs_of head edges d x delay (configs_of from) ≡ after
        after_is =
            rw delay_is
            (configs_symbol rule d (with_symbol x) event (t - last) (configs_of from) [] refl)

        -- the refusal and what is accepted, from what the event leads to
        next_refusal : room_refusal_from rule d room (i + 1) t after (events_of xs' ts') ≡ room_refusal rule d room word
        next_refusal =
            sym (event_room rule d room i last (configs_of from) event (events_of xs' ts') there_most)
            ∙ (rw (e, f) at inv.refusal_is)

        next_accepts : accepts_some rule d (events_of xs' ts') t after ≡ accepts rule d word
        next_accepts =
            event_some rule d event (events_of xs' ts') last (configs_of from) ∙ (rw (e, f) at inv.accepts_is)

        pub running_full :
            length to.numbers.now
            < length (by_configs_of head edges d x delay (configs_of from)) * (to.clocks + 1)
            → room_refusal rule d room word ≡ refusal 26 (i + 1)
        running_full h =
            let over : room < length after =
            over_by_room room (length after) head.clocks (rw (after_is, inv.to_clocks, inv.to_size) at h) in
            sym next_refusal ∙ over_room rule d room (i + 1) t after (events_of xs' ts') over

        -- the banks change places
        pub running_next :
            (to' : Bank) → Filled to (by_configs_of head edges d x delay (configs_of from)) to'
            → Running (i + 1) t xs' ts' to' from
        running_next to' filled =
            let there : configs_of to' ≡ after = filled.configs_are ∙ after_is in
            record {
              from_clocks = filled.clocks_are ∙ inv.to_clocks;
              to_clocks = inv.from_clocks;
              from_size = filled.size_is ∙ inv.to_size;
              to_size = inv.from_size;
              equal =
                  omega (arith, ap (λ (l : List ℕ). length l) e, ap (λ (l : List ℕ). length l) f, inv.equal);
              aged = rw there (aged_configs rule d event last t (configs_of from) [] in_order.0 inv.aged tt);
              ordered = in_order.1;
              refusal_is = rw there next_refusal;
              accepts_is = rw there next_accepts;
            }

    -- no event is left
    pub running_end :
        (final : Bool) → (length xs ≡ 0) ⊎ (length ts ≡ 0) → final ≡ any_final head.ends (configs_of from)
        → answer_in {A = Bool} one_if (Ok final) ≡ answer_with head edges d symbols stamps room
    unfolding rule_in
    running_end final h t =
        let none : events_of xs ts ≡ [] =
        no_events xs ts (elim h [ inl z ↦ z | inr z ↦ omega (arith, z, inv.equal) ]) in
        let met : room_refusal rule d room word ≡ fine =
        sym inv.refusal_is
        ∙ (ap (room_refusal_from rule d room i last (configs_of from)) none
        ∙ end_room rule d room i last (configs_of from) there_most) in
        let verdict : final ≡ accepts rule d word =
        t
        ∙ (sym (end_some rule d last (configs_of from))
        ∙ (ap (λ (vs : List Event). accepts_some rule d vs last (configs_of from)) (sym none) ∙ inv.accepts_is)) in
        rw (met, verdict)
