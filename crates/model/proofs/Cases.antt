-- What vectors share: a refusal that is found beside the one that it must be; the head record and the edge table of the
-- worked case; a rule that forks.
use mathlib.Core.Path.{◌≡◌, refl}
use mathlib.Core.Bool.{Bool, true, ◌&&◌}
use mathlib.Core.List.{List, [], ◌∷◌, ◌++◌}
use Prim.Native.Nat.{ℕ}
use lib.Dec.{eqb}
use lib.ListN.{replicate}
use Rattle.model.specs.declared.Head.{Head}
use Rattle.model.specs.declared.Built.{Built}
use Rattle.model.specs.Basics.{mask_of, bits_from, Refusal, refusal, fine}
use Rattle.model.specs.Rules.{Edge, Rule, rule, cm, pair_count, valid_rule}
use Rattle.model.specs.Layout.{head_of, edges_numbers, edge_table, rule_in, is_readable, rule_refusal}

pub data Case : Type 0 where
  case : (found must_be : Refusal) → Case

unfoldable pub all_met : List Case → Bool
all_met [] = true
all_met (case found must_be ∷ xs) =
    eqb found.number must_be.number && eqb found.place must_be.place && all_met xs

abbrev pub zero_head : Head
zero_head = record { locations = 0; symbols = 0; clocks = 0; starts = 0; ends = 0; count = 0 }

abbrev pub zero_built : Built
zero_built = record { locations = 0; symbols = 0; clocks = 0; top = 0; ends = 0; rows = 0; total = 0 }

-- 2 edges of 86 numbers, and as many zeros as are asked for
abbrev pub worked_head : Head
worked_head = record { locations = 2; symbols = 2; clocks = 1; starts = 1; ends = 1; count = 2 }

abbrev pub worked_edges : ℕ → List ℕ
worked_edges unused =
    (5 ∷ 0 ∷ 1 ∷ 0 ∷ 1 ∷ 1 ∷ 0 ∷ 2 ∷ 1 ∷ replicate 77 0)
    ++ ((5 ∷ 1 ∷ 0 ∷ 1 ∷ 0 ∷ 1 ∷ 0 ∷ 3 ∷ 1 ∷ replicate 77 0) ++ replicate unused 0)

-- Location 0 forks: symbol 0 has two edges back to it, symbol 1 leads to 0 and to 1, symbol 2 leads back with the clock
-- reset, at age 1, or as it is; from 1, symbol 1 leads to 1. Location 1 is final.
unfoldable pub free_edge : ℕ → ℕ → ℕ → Edge
free_edge source target symbol =
    record { kind = 5; source = source; target = target; symbol = symbol; resets = 0; text = [] }

unfoldable pub forks : Rule
forks =
    rule 2 3 1 (0 ∷ []) (1 ∷ [])
    (free_edge 0 0 0
    ∷ free_edge 0 0 0
    ∷ free_edge 0 0 1
    ∷ free_edge 0 1 1
    ∷ free_edge 1 1 1
    ∷ record { kind = 5; source = 0; target = 0; symbol = 2; resets = 1; text = 0 ∷ 2 ∷ 1 ∷ [] }
    ∷ free_edge 0 0 2
    ∷ [])

-- both pass 20 and 21; without a number of the table, or without the head record, the worked case does not
pub worked_passes : rule_refusal worked_head (worked_edges 21844) ≡ fine
unfolding mask_of bits_from cm pair_count valid_rule edges_numbers edge_table rule_in is_readable rule_refusal
worked_passes = refl

-- the worked case with 17 locations: 51 pairs, which two numbers of scratch hold
unfoldable pub wide_head : Head
wide_head = record { locations = 17; symbols = 2; clocks = 1; starts = 1; ends = 1; count = 2 }

pub wide_passes : rule_refusal wide_head (worked_edges 21844) ≡ fine
unfolding mask_of bits_from cm pair_count valid_rule edges_numbers edge_table rule_in is_readable rule_refusal wide_head
wide_passes = refl

pub forks_passes : rule_refusal (head_of forks) (edge_table 22016 forks) ≡ fine
unfolding mask_of bits_from cm pair_count valid_rule edges_numbers edge_table rule_in is_readable rule_refusal
    free_edge forks
forks_passes = refl

pub short_refused : rule_refusal worked_head (worked_edges 21843) ≡ refusal 20 0
unfolding rule_refusal
short_refused = refl

pub both_refused : rule_refusal zero_head (worked_edges 21843) ≡ refusal 20 0
unfolding rule_refusal
both_refused = refl

pub head_refused : rule_refusal zero_head (worked_edges 21844) ≡ refusal 21 0
unfolding mask_of bits_from cm pair_count valid_rule edges_numbers edge_table rule_in is_readable rule_refusal
head_refused = refl
