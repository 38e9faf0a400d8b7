-- `rule::readable`: the direct test is `is_readable`.
use Rattle.std.proofs.Common.{◌∙◌, sym, arith}
use Rattle.rule.proofs.Checked.{readable_is, good_head, pairs_good_lem}
use Rattle.rule.proofs.readable.Goals as goal

pub returns-then-not-head_ok : goal.returns-then-not-head_ok
returns-then-not-head_ok c =
    let is = readable_is c.args.rule.head c.args.rule.edges.now (omega arith) (omega arith) c.requires in
    sym (is ∙ rw (sym c.if-not-head_ok.ensures))

pub edges_ok-requires : goal.edges_ok-requires
edges_ok-requires c = ((good_head _ (sym c.if-not-head_ok.ensures)).count_most, c.requires)

pub returns-then-edges_ok : goal.returns-then-edges_ok
returns-then-edges_ok c =
    let h = c.args.rule.head in
    let t = c.args.rule.edges.now in
    let head_good = sym c.if-not-head_ok.ensures in
    let edges_good = sym c.if-edges_ok.ensures in
    let is = readable_is h t (omega arith) (omega arith) c.requires in
    pairs_good_lem h t _ head_good c.requires edges_good c.pairs.ensures
    ∙ sym (is ∙ rw (head_good, edges_good))

pub returns-else-edges_ok : goal.returns-else-edges_ok
returns-else-edges_ok c =
    let is = readable_is c.args.rule.head c.args.rule.edges.now (omega arith) (omega arith) c.requires in
    c.if-edges_ok.false ∙ sym (is ∙ rw (sym c.if-not-head_ok.ensures, sym c.if-edges_ok.ensures))
