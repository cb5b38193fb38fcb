-- `fields::Number::read` of u32 meets its contract. The bytes are those of the field (`field-copied`). Assumes nothing.
use native.Mathlib.Omega.{arith}
use mathlib.Core.Path.{◌∙◌}
use Rattle.fields.proofs.Laws.{field-copied}
use Rattle.fields.proofs.U32Number.read.Goals as goal

pub returns : goal.returns
returns c = c.from_le_bytes.ensures ∙ field-copied 3 c.args.s.now _ c.args.at _ (omega arith) c.copy_from_slice.ensures.after
