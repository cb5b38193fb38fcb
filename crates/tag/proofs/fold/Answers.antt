-- `tag::fold` meets its contract: its rule is computed at the powers of two.
-- Assumes nothing.
use Rattle.tag.proofs.Words.{fold-rule}
use Rattle.tag.proofs.fold.Goals as goal

pub returns : goal.returns
returns c = fold-rule c.args.t c.ranges.t.fits
