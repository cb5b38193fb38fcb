-- `once_open::look_up` meets its contract: the first N entries tell of v what the table tells. Assumes nothing.
use Rattle.std.proofs.Common.{◌∙◌, arith}
use Rattle.once_open.proofs.Laws.{block-same}
use Rattle.once_open.proofs.look_up.Goals as goal

pub returns : goal.returns
returns c = c.virtual_to_logical.ensures.value ∙ block-same _ _ _ c.entries_held-n.ensures (omega (arith, c.entries_held-n.ensures, c.requires))
