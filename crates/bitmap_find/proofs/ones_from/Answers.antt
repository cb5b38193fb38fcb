-- `bitmap_find::ones_from` meets its contract. Assumes nothing.
use native.Mathlib.Omega.{arith}
use Rattle.bitmap_find.proofs.TopRows.{ones-from}
use Rattle.bitmap_find.proofs.ones_from.Goals as goal

pub returns : goal.returns
returns c = ones-from _ _ _ c.ranges.x.fits (omega arith) c.trailing_ones.ensures
