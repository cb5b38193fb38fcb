-- `room::is_number` meets its contract. Assumes nothing.
use Rattle.room.proofs.Laws.{number-beyond, number-known}
use Rattle.room.proofs.is_number.Goals as goal

pub returns-then-entries_held-v : goal.returns-then-entries_held-v
returns-then-entries_held-v c = number-beyond _ _ c.entries_held.ensures c.if-entries_held-v.true

pub returns : goal.returns
returns c = number-known _ _ c.entries_held.ensures c.if-entries_held-v.false
