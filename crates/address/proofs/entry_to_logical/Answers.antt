-- `address::entry_to_logical` meets its contract: each return is a case of the definition. Assumes nothing.
use Rattle.address.specs.Translation.{none}
use Rattle.address.proofs.Laws.{unused, used}
use Rattle.address.proofs.entry_to_logical.Goals as goal

pub returns-then-entry-eq-NONE : goal.returns-then-entry-eq-NONE
unfolding none
returns-then-entry-eq-NONE c = unused _ c.if-entry-eq-NONE.true

pub returns : goal.returns
unfolding none
returns c = used _ c.if-entry-eq-NONE.false
