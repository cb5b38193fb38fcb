-- `address::virtual_to_logical` meets its contract: past the end 12, and else what the entry names. Assumes nothing.
use mathlib.Core.Path.{refl}
use Rattle.address.proofs.Laws.{told-logical, no-entry, entered}
use Rattle.address.proofs.virtual_to_logical.Goals as goal

pub returns-then-entries-i : goal.returns-then-entries-i
returns-then-entries-i c = let told = told-logical _ _ (no-entry _ _ c.if-entries-i.true) in record { value = told.0; result_value = told.1 }

pub returns : goal.returns
returns c = let told = told-logical _ _ (entered _ _ c.if-entries-i.false refl c.entry_to_logical.ensures) in record { value = told.0; result_value = told.1 }
