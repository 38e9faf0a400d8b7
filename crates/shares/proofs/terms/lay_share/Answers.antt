-- `shares::terms::lay_share` meets its contract: what is divided by is not 0.
use Rattle.shares.proofs.TermLaws.{by_some}
use Rattle.shares.proofs.terms.lay_share.Goals as goal

pub nonzero_div-numerator : goal.nonzero_div-numerator
nonzero_div-numerator c = by_some _ _ c.greatest_common-by.ensures

pub nonzero_div-denominator : goal.nonzero_div-denominator
nonzero_div-denominator c = by_some _ _ c.greatest_common-by.ensures
