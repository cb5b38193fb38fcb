-- `room::committed` meets its contract. Assumes nothing.
use native.Mathlib.Omega.{arith}
use Rattle.room.proofs.Laws.{icb-near, committed-same}
use Rattle.room.proofs.committed.Goals as goal

pub overflow_add-result : goal.overflow_add-result
overflow_add-result c = omega (arith, c.icb_block-k.ensures, icb-near _ c.requires.0, c.requires.1)

pub returns : goal.returns
returns c = committed-same _ c.entries_held-entries.ensures c.icb_block-k.ensures
