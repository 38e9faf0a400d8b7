-- `branch::held::held_back` meets its contract: nothing without events, else the lowest edge.
use mathlib.Core.Path.{sym, ◌∙◌}
use borrow.Author.Tests.{eqb-true, eq-eqb}
use Rattle.model.proofs.Logic.{no_way}
use Rattle.branch.proofs.Lowest.{held_empty, held_by}
use Rattle.branch.proofs.held.held_back.Goals as goal

pub returns-then-is_empty : goal.returns-then-is_empty
returns-then-is_empty c =
    held_empty c.args.rule.head c.args.rule.edges.now c.args.grain c.args.events.symbols.now c.args.events.stamps.now
    (eqb-true _ 0 (sym c.if-is_empty.ensures))

pub lowest_leaving-requires : goal.lowest_leaving-requires
lowest_leaving-requires c = (c.requires.begins.clocks_most, c.requires.begins.edges_most)

pub returns : goal.returns
returns c =
    held_by c.args.rule.head c.args.rule.edges.now c.args.grain c.args.events.symbols.now c.args.events.stamps.now _
    c.requires.none (λ e. no_way (c.if-is_empty.ensures ∙ eq-eqb _ 0 e)) c.requires.begins.counts_equal
    c.lowest_leaving.ensures
