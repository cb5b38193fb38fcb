-- `bitmap_find::top_ones` meets its contract. Assumes nothing.
use Rattle.bitmap_find.proofs.TopRows.{top-ones}
use Rattle.bitmap_find.proofs.top_ones.Goals as goal

pub returns : goal.returns
returns c = top-ones _ _ c.ranges.x.fits c.leading_ones.ensures
