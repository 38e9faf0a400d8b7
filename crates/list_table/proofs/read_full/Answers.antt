-- What one more read brings stands behind what was read before it.
use Rattle.std.proofs.Common.{◌≡◌, ℕ, ◌+◌, ◌≤◌, List, ◌++◌, length, take}
use Rattle.std.proofs.Common.{rules, sym, ap, ◌∙◌, subst, length-take-le}
use Rattle.std.proofs.Math.Seq.{take-append-add}
use Rattle.std.proofs.lemmas.List.{take-append-le}
use Rattle.std.proofs.KnownBytes.{Consumes-trans}
use Rattle.std.specs.Io.KnownBytes.{Consumes}
use borrow.Rule.Slice.PartMut.{put_mid, post_of}
use Rattle.list_table.proofs.read_full.Goals as goal

front : (a k n : ℕ) (xs ys : List ℕ) → a ≤ length xs → n ≤ length ys
    → take (a + n) (put_mid a k xs ys) ≡ take a xs ++ take n ys
front a k n xs ys within fits =
    let rest = ys ++ post_of a k xs in
    ap (λ m. take (m + n) (take a xs ++ rest)) (sym (length-take-le a xs within))
    ∙ take-append-add (take a xs) rest n
    ∙ ap (λ zs. take a xs ++ zs) (take-append-le n ys (post_of a k xs) fits)

pub loop-size-preserved : goal.loop-size-preserved
loop-size-preserved g c = record {
  in_bounds = search rules;
  bytes =
      subst (Consumes _ _)
      (sym (front c.loop-size.size _ c.in_ok-count.count c.loop-size.buffer c.read.new.buf
      c.loop-size.invariant.in_bounds c.in_ok-count.ensures.bound.0))
      (Consumes-trans _ _ _ _ _ c.loop-size.invariant.bytes c.in_ok-count.ensures.bytes.0);
}
