-- `bitmap_find::free_from` meets its contract. Assumes nothing.
use Rattle.bitmap_find.proofs.Rows.{free-from}
use Rattle.bitmap_find.proofs.free_from.Goals as goal

pub returns : goal.returns
returns c = free-from _ _ _ _ c.look-w.ensures
