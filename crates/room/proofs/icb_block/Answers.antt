-- `room::icb_block` meets its contract. Assumes nothing.
use native.Mathlib.Omega.{arith}
use Rattle.room.proofs.Laws.{data-few, icb-same}
use Rattle.room.proofs.icb_block.Goals as goal

pub overflow_add-block : goal.overflow_add-block
overflow_add-block c = omega (arith, c.next_held-next.ensures, c.requires.1, data-few _ _ _ c.entries_held.ensures c.data_sectors-count.ensures c.requires.0)

pub returns : goal.returns
returns c = icb-same _ _ _ _ c.next_held-next.ensures c.entries_held.ensures c.data_sectors-count.ensures
