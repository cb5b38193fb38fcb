-- `sparing_written::begin_table` meets its contract: cleared, then field by field. Assumes nothing.
use Prim.Native.Nat.{ℕ}
use mathlib.Core.Path.{ap, ◌∙◌}
use lib.ListN.{replicate}
use Rattle.fields.specs.Regid.{identifier, regid}
use Rattle.sparing_written.proofs.Written.{begun-written}
use Rattle.model.specs.Sparing.{sparing_name}
use Rattle.sparing_written.proofs.begin_table.Goals as goal

pub returns : goal.returns
unfolding sparing_name regid identifier
returns c = begun-written _ _ _ _ _ _ (c.clear.ensures ∙ ap (λ (n : ℕ). replicate n 0) c.requires) c.write_regid.ensures c.write.ensures c.write-2.ensures
