-- `list_run::tell` meets its contract: past the end of the replies nothing is set. Assumes nothing.
use mathlib.Core.Path.{sym}
use lib.Seq.{set_out}
use Rattle.list_run.proofs.tell.Goals as goal

pub returns-else-i-replies : goal.returns-else-i-replies
returns-else-i-replies c = sym (set_out _ _ _ c.if-i-replies.false)
