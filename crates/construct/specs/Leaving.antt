-- The edges that leave a location on a symbol, linked one to the next, so that a pair looks at no others.
use Rattle.std.specs.Prelude.{◌≡◌, ◌&&◌, List, [], ◌∷◌, ℕ, suc, ◌+◌, ◌*◌, ◌≤◌, ◌<◌, ltb, length, get_or, drop}
use Rattle.edges.specs.Leaving.{leaves_on}
use Rattle.model.specs.Basics.{pick}
use Rattle.model.specs.Rules.{Edge, Rule, most_locations, most_symbols}
use Rattle.model.specs.Runs.{no_edge}

-- the first edge that leaves l on s, of edges numbered from n on; the number past them if there is none
abbrev pub first_leaving : ℕ → ℕ → ℕ → List Edge → ℕ
first_leaving l s n [] = n
first_leaving l s n (e ∷ es) = pick (leaves_on l s e) n (first_leaving l s (suc n) es)

-- the first from edge n on
abbrev pub leaving_from : List Edge → ℕ → ℕ → ℕ → ℕ
leaving_from es l s n = first_leaving l s n (drop n es)

abbrev pub edge_of : List Edge → ℕ → Edge
edge_of es n = get_or es n no_edge

-- The links: a place to each location and symbol, for the first edge; then a place to an edge, for the next like it.
abbrev pub first_links : ℕ
first_links = 512

abbrev pub link_count : ℕ
link_count = 768

abbrev pub first_place : ℕ → ℕ → ℕ
first_place l s = most_symbols * l + s

abbrev pub next_place : ℕ → ℕ
next_place n = first_links + n

-- a location or a symbol that no rule has is left by no edge
abbrev pub first_link : ℕ → ℕ → ℕ → List ℕ → ℕ
first_link count l s links =
    pick (ltb l most_locations && ltb s most_symbols) (get_or links (first_place l s) 0) count

-- the edges from n on are linked
pub record LinkedFrom (es : List Edge) (n : ℕ) (links : List ℕ) : Type 0 where
  pub long : length links ≡ link_count
  pub firsts :
      (l s : ℕ) → l < most_locations → s < most_symbols
      → get_or links (first_place l s) 0 ≡ leaving_from es l s n
  pub nexts :
      (k : ℕ) → n ≤ k → k < length es
      → get_or links (next_place k) 0 ≡ leaving_from es (edge_of es k).source (edge_of es k).symbol (suc k)

-- all edges of a rule are
abbrev pub Linked : Rule → List ℕ → Type 0
Linked r links = LinkedFrom r.edges 0 links
