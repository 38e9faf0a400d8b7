-- Does one rule allow only what another allows (2.10)? Words of any number of events; what only the first accepts; the
-- joint states of two tables, and when they are too many (25, 35, 36).
use Rattle.std.specs.Prelude.{◌≡◌, Bool, true, false, ◌&&◌, ◌||◌, not, List, ℕ, ◌*◌, ◌^◌, ◌≤◌, eqb, ltb, length, take}
use Rattle.model.specs.declared.Built.{Built}
use Rattle.model.specs.declared.Inclusion.{Inclusion}
use Rattle.model.specs.Basics.{lesser, all_below, Refusal, refuse, passes, ◌⨾◌}
use Rattle.model.specs.Rules.{Rule}
use Rattle.model.specs.Words.{Event, events_of, most_events, grain_ok, events_refusal}
use Rattle.model.specs.Runs.{accepts}
use Rattle.model.specs.Tables.{Tables}
use Rattle.model.specs.Walks.{built_width, in_shape, shape_refusal, table_accepts}
use Rattle.model.specs.Lists.{list_grain, stamps_of}

-- a word over S symbols: any legal D, and events of any number that keep the word rules
abbrev pub keeps_any : ℕ → ℕ → List Event → Bool
keeps_any s d vs = grain_ok d && passes (events_refusal s 1 0 vs)

-- what a rule or a table says of every word
abbrev pub Says : Type 0
Says = ℕ → List Event → Bool

-- every word that the first accepts the second accepts
abbrev pub AllowsOnly : ℕ → Says → Says → Type 0
AllowsOnly s first second =
    (d : ℕ) (vs : List Event) → keeps_any s d vs ≡ true → first d vs ≡ true → second d vs ≡ true

-- the same of words with stamps of 32 bits, as a call takes them
abbrev pub stamps_fit : List Event → Bool
stamps_fit vs = all_below (2 ^ 32) (stamps_of vs)

abbrev pub AllowsOnlyLent : ℕ → Says → Says → Type 0
AllowsOnlyLent s first second =
    (d : ℕ) (vs : List Event) → keeps_any s d vs ≡ true → stamps_fit vs ≡ true → first d vs ≡ true → second d vs ≡ true

-- a word that only the first accepts
pub record Refutes (s : ℕ) (first second : Says) (d : ℕ) (vs : List Event) : Type 0 where
  pub keeps : keeps_any s d vs ≡ true
  pub accepted : first d vs ≡ true
  pub not_accepted : second d vs ≡ false

-- both, of two tables and of two rules
abbrev pub Included : Tables → Tables → Type 0
Included t u = AllowsOnly t.built.symbols (table_accepts t) (table_accepts u)

abbrev pub OnlyFirst : Tables → Tables → ℕ → List Event → Type 0
OnlyFirst t u d vs = Refutes t.built.symbols (table_accepts t) (table_accepts u) d vs

abbrev pub RuleIncluded : Rule → Rule → Type 0
RuleIncluded r q = AllowsOnly r.symbols (accepts r) (accepts q)

abbrev pub OnlyFirstRule : Rule → Rule → ℕ → List Event → Type 0
OnlyFirstRule r q d vs = Refutes r.symbols (accepts r) (accepts q) d vs

-- there is such a word, with D = 2 and stamps of 32 bits; none has fewer than n events, whatever its D and its stamps
pub record SomeOnlyFirst (t u : Tables) : Type 0 where
  pub word : List Event
  pub fits : stamps_fit word ≡ true
  pub only : OnlyFirst t u list_grain word

abbrev pub NoneBelow : ℕ → Tables → Tables → Type 0
NoneBelow n t u = (d : ℕ) (vs : List Event) → OnlyFirst t u d vs → n ≤ length vs

-- what 25 and 35 let pass
pub record Comparable (t u : Tables) : Type 0 where
  pub first_shape : in_shape t ≡ true
  pub second_shape : in_shape u ≡ true
  pub same_symbols : t.built.symbols ≡ u.built.symbols

-- R · W states of one table, and the joint states of two
abbrev pub state_count : Built → ℕ
state_count b = b.rows * built_width b

abbrev pub joint_count : Built → Built → ℕ
joint_count a b = state_count a * state_count b

abbrev pub most_joint_states : ℕ
most_joint_states = 1000000

-- 25: first table, then second. 35: unequal S. 36: more joint states than 1,000,000 or than the scratch has numbers.
unfoldable pub inclusion_refusal : Tables → Tables → ℕ → Refusal
inclusion_refusal t u scratch =
    let states = joint_count t.built u.built in
    shape_refusal t ⨾ shape_refusal u ⨾ refuse (not (eqb t.built.symbols u.built.symbols)) 35 0
    ⨾ refuse (ltb most_joint_states states || ltb scratch states) 36 0

-- the events that the lent word room can show, and the word shown in it
abbrev pub word_room : List ℕ → List ℕ → ℕ
word_room symbols stamps = lesser most_events (lesser (length symbols) (length stamps))

abbrev pub shown_in : Inclusion → List ℕ → List ℕ → List Event
shown_in answer symbols stamps = events_of (take answer.events symbols) (take answer.events stamps)
