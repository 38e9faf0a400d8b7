-- `shares::lengths::list_lengths` meets its contract: with no stamp there is the empty word alone, and each turn adds a
-- stamp.
use Rattle.std.proofs.Common.{◌≡◌, ◌∙◌, length, replicate, arith, rules}
use Rattle.shares.proofs.LengthLaws.{listing_long, listing_start, listing_turn, listing_end}
use Rattle.shares.proofs.lengths.list_lengths.Goals as goal

pub loop-stamp-init : goal.loop-stamp-init
loop-stamp-init c =
    let zeroed : c.fill.new.self ≡ replicate (length c.args.lengths.now) 0 = search rules in
    listing_start c.args.lengths.now zeroed _ _ c.requires

pub loop-stamp-preserved : goal.loop-stamp-preserved
loop-stamp-preserved c =
    listing_turn c.loop-stamp.invariant (search rules) c.add_stamp.ensures.0 c.add_stamp.ensures.1

pub shape_of-lengths : goal.shape_of-lengths
shape_of-lengths c =
    let zeroed : c.fill.new.self ≡ replicate (length c.args.lengths.now) 0 = search rules in
    c.loop-stamp.invariant.same_length ∙ listing_long c.args.lengths.now zeroed

pub returns : goal.returns
returns c =
    let zeroed : c.fill.new.self ≡ replicate (length c.args.lengths.now) 0 = search rules in
    listing_end c.loop-stamp.invariant (listing_long c.args.lengths.now zeroed) (omega arith) (search rules)
