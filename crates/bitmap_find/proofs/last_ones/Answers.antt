-- `bitmap_find::last_ones` meets its contract. Assumes nothing.
use native.Mathlib.Omega.{arith}
use Rattle.bitmap_find.proofs.Rows.{last-ones}
use Rattle.bitmap_find.proofs.last_ones.Goals as goal

pub returns : goal.returns
returns c = last-ones _ _ _ (omega arith) c.leading_ones.ensures
