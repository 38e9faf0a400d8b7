-- `inclusion::scan::note` meets its contract: two stores, each to a part that was 0.
use Rattle.inclusion.proofs.Parts.{tail_below, noted_stores}
use Rattle.inclusion.proofs.scan.note.Goals as goal

pub bounds-scratch-tail : goal.bounds-scratch-tail
bounds-scratch-tail c = let k = c.requires in tail_below k.0 _ k.1 k.2

pub bounds-scratch-tail-2 : goal.bounds-scratch-tail-2
bounds-scratch-tail-2 c = let k = c.requires in tail_below k.0 _ k.1 k.2

pub returns : goal.returns
returns c = let a = c.args in noted_stores a.scratch.now a.tail a.x a.mark
