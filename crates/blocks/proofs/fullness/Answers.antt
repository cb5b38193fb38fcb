-- `blocks::fullness` meets its contract: what the call on a write-once disc answers, with its number. Assumes nothing.
use Rattle.blocks.proofs.Laws.{measured-so}
use Rattle.blocks.proofs.fullness.Goals as goal

pub returns : goal.returns
returns c = measured-so _ _ c.fullness.ensures
