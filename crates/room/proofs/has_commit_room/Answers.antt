-- `room::has_commit_room` meets its contract. Assumes nothing.
use Rattle.room.proofs.Laws.{room-same}
use Rattle.room.proofs.has_commit_room.Goals as goal

pub returns : goal.returns
returns c = room-same _ _ _ _ _ c.next_held-next.ensures c.entries_held.ensures c.data_sectors-count.ensures
