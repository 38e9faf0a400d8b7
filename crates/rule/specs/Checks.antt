-- The direct test of a head record and an edge table, part by part.
use Rattle.std.specs.Prelude.{Bool, ◌&&◌, List, ℕ, zero, suc, ◌+◌, ◌-◌, ◌^◌, eqb, ltb, leb, get_or, take, drop}
use Rattle.model.specs.declared.Head.{Head}
use Rattle.model.specs.Basics.{pick}
use Rattle.model.specs.Rules.{plain_edge, grouped_edge, pair_count, most_pairs, most_edges, most_atoms, most_text}
use Rattle.model.specs.Rules.{sizes_ok}
use Rattle.model.specs.Layout.{edge_fields, edge_width, text_length, rule_in}
use Rattle.numbers.specs.Lent.{all_zero}
use Rattle.checks.specs.Checks.{edge_fault}

-- the head record: sizes in range, no location at or past L in either set, edge count in range
unfoldable pub head_good : Head → Bool
head_good h =
    sizes_ok h.locations h.symbols h.clocks && ltb h.starts (2 ^ h.locations)
    && ltb h.ends (2 ^ h.locations)
    && leb h.count most_edges

-- a kind that edges have, and a count that the kind has: of atoms for kind 5, of the numbers of its text for kind 6
abbrev pub count_ok : ℕ → ℕ → Bool
count_ok kind count =
    pick (eqb kind plain_edge) (leb count most_atoms) (eqb kind grouped_edge && leb count most_text)

-- the same of the edge at the front of a table
abbrev pub front_counted : List ℕ → Bool
front_counted t = count_ok (get_or t 0 0) (get_or t 5 0)

-- where the unused places of the edge at the front of a table begin
abbrev pub past_text : List ℕ → ℕ
past_text t = edge_fields + text_length (get_or t 0 0) (get_or t 5 0)

-- the places of text that this edge does not have
abbrev pub unused_zero : List ℕ → Bool
unused_zero t = all_zero (take (edge_width - past_text t) (drop (past_text t) t))

-- the edge at the front of a table: kind and count, no number that refuses it, and its unused places zero
unfoldable pub edge_good : Head → List ℕ → Bool
edge_good h t = front_counted t && eqb (edge_fault h t) 0 && unused_zero t

-- the first n edges, of a kind from `least` on that never falls, and zeros up to the end of the table
unfoldable pub edges_good : Head → ℕ → ℕ → List ℕ → Bool
edges_good h least zero t = all_zero t
edges_good h least (suc n) t =
    leb least (get_or t 0 0) && edge_good h t && edges_good h (get_or t 0 0) n (drop edge_width t)

abbrev pub pairs_good : Head → List ℕ → Bool
pairs_good h t = leb (pair_count (rule_in h t)) most_pairs
