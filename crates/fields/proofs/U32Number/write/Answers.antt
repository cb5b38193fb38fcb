-- `fields::Number::write` of u32 meets its contract. The bytes are the number's digits (`digits-lent`). Assumes nothing.
use native.Mathlib.Omega.{arith}
use mathlib.Core.Path.{◌∙◌}
use Rattle.fields.proofs.Laws.{digits-lent}
use Rattle.fields.proofs.U32Number.write.Goals as goal

pub returns : goal.returns
returns c = digits-lent 4 c.args.s.now _ c.args.at _ c.args.self (omega arith) (c.copy_from_slice.ensures.after ∙ c.to_le_bytes.ensures)
