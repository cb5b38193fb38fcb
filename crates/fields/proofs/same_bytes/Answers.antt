-- `fields::same_bytes` meets its contract. std's test is the same (`same_eq`). Assumes nothing.
use mathlib.Core.Path.{◌∙◌}
use Rattle.fields.proofs.Laws.{same_eq}
use Rattle.fields.proofs.same_bytes.Goals as goal

pub returns : goal.returns
returns c = c.eq.ensures ∙ same_eq c.args.a.now c.args.b.now
