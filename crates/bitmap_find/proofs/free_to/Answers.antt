-- `bitmap_find::free_to` meets its contract. Assumes nothing.
use native.Mathlib.Omega.{arith}
use Rattle.bitmap_find.proofs.TopRows.{window}
use Rattle.bitmap_find.proofs.free_to.Goals as goal

pub returns : goal.returns
returns c = window _ _ _ _ _ (omega arith) c.back_from-q.ensures c.look-w.ensures
