-- `sparing_written::put_entry` meets its contract, its two numbers one after the other. Assumes nothing.
use mathlib.Core.Path.{◌∙◌}
use native.Mathlib.Omega.{arith}
use Rattle.sparing_written.proofs.Written.{entry-written}
use Rattle.sparing_written.proofs.put_entry.Goals as goal

pub returns : goal.returns
returns c = c.write-2.ensures ∙ entry-written _ _ _ _ _ (omega arith) c.write.ensures
