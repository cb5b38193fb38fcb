-- `blocks::forecast` meets its contract: what the call on a write-once disc answers, with its number. Assumes nothing.
use Rattle.blocks.proofs.Laws.{forecast-so}
use Rattle.blocks.proofs.forecast.Goals as goal

pub returns : goal.returns
returns c = forecast-so _ _ c.forecast.ensures
