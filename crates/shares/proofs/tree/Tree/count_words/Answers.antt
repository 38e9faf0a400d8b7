-- `shares::tree::Tree::count_words` meets its contract: the word of no event is counted by row 0, the longer words
-- below the root.
use Rattle.std.proofs.Common.{◌≡◌, refl, ◌+◌, ◌*◌, arith}
use Rattle.model.specs.Lists.{list_grain, stamp_count}
use Rattle.shares.proofs.TreeWhole.{root_node, root_roomy, root_alone, whole_long, whole_tree}
use Rattle.shares.proofs.tree.Tree.count_words.Goals as goal

pub tally-requires : goal.tally-requires
tally-requires c =
    let stamps_are : list_grain * c.args.seconds + 1 ≡ stamp_count c.args.seconds = omega arith in
    let e = c.stored_at.ensures in (
      root_node c.args.self.now.sized c.requires stamps_are,
      root_roomy _ c.requires stamps_are e.0 e.1 c.if-counts-gt1.true,
    )

pub shape_of-counts-then-counts-gt1 : goal.shape_of-counts-then-counts-gt1
shape_of-counts-then-counts-gt1 c =
    let stamps_are : list_grain * c.args.seconds + 1 ≡ stamp_count c.args.seconds = omega arith in
    let e = c.stored_at.ensures in
    whole_long _ c.requires stamps_are e.0 e.1 c.if-counts-gt1.true c.tally.ensures

pub returns-then-counts-gt1 : goal.returns-then-counts-gt1
returns-then-counts-gt1 c =
    let stamps_are : list_grain * c.args.seconds + 1 ≡ stamp_count c.args.seconds = omega arith in
    let e = c.stored_at.ensures in
    whole_tree _ c.requires stamps_are e.0 e.1 c.if-counts-gt1.true c.tally.ensures

pub returns-else-counts-gt1 : goal.returns-else-counts-gt1
returns-else-counts-gt1 c =
    let e = c.stored_at.ensures in
    root_alone _ c.requires refl e.0 e.1 c.if-counts-gt1.false
