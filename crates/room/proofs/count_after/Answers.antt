-- `room::count_after` meets its contract. Assumes nothing.
use Rattle.room.proofs.Laws.{count-adds, count-keeps}
use Rattle.room.proofs.count_after.Goals as goal

pub returns-then-v-n : goal.returns-then-v-n
returns-then-v-n c = count-adds _ _ c.if-v-n.true

pub returns : goal.returns
returns c = count-keeps _ _ c.if-v-n.false
