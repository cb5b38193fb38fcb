-- `model::is_whole` meets its contract: each test is the definition's. Assumes nothing.
use Rattle.model.proofs.SparingPlaces.{whole-off, whole-on}
use Rattle.model.proofs.is_whole.Goals as goal

pub returns-then-at-ne0 : goal.returns-then-at-ne0
returns-then-at-ne0 c s l tables size = whole-off _ _ c.if-at-ne0.true

pub returns : goal.returns
returns c s l tables size = whole-on _ _ c.if-at-ne0.false
