-- `bitmap_find::first_ones` meets its contract. Assumes nothing.
use Rattle.bitmap_find.proofs.Rows.{first-ones}
use Rattle.bitmap_find.proofs.first_ones.Goals as goal

pub returns : goal.returns
returns c = first-ones _ _ c.ranges.x.fits c.trailing_ones.ensures
