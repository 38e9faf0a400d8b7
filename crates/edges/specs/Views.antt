-- What an edge and a rule that stand in an edge table are.
use Rattle.std.specs.Prelude.{List, ℕ, ◌*◌, drop}
use Rattle.model.specs.Rules.{Edge, Rule}
use Rattle.model.specs.Layout.{edge_width, edge_in, rule_in}
use Rattle.edges.specs.declared.StoredEdge.{StoredEdge}
use Rattle.edges.specs.declared.StoredRule.{StoredRule}

-- the numbers of the table from an edge's first one on
abbrev pub numbers_of : StoredEdge → List ℕ
numbers_of edge = drop (edge_width * edge.number) edge.table.now

abbrev pub edge_of : StoredEdge → Edge
edge_of edge = edge_in (numbers_of edge)

abbrev pub rule_of : StoredRule → Rule
rule_of rule = rule_in rule.head rule.edges.now
