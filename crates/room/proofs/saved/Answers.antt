-- `room::saved` meets its contract. Assumes nothing.
use Rattle.room.proofs.Laws.{saved-same}
use Rattle.room.proofs.saved.Goals as goal

pub returns : goal.returns
returns c = saved-same _ _ c.entries_held.ensures c.count_after-entries.ensures c.next_held-next.ensures c.last_held-last.ensures
