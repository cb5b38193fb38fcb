-- `examine::is_placed` meets its contract: each kind by its law. Assumes nothing.
use Rattle.std.proofs.Common.{◌∙◌}
use Rattle.examine.proofs.Laws.{placed-once, placed-tables, few-in}
use Rattle.examine.proofs.is_placed.Goals as goal

pub is_aligned-requires : goal.is_aligned-requires
is_aligned-requires c = few-in c.requires c.in-Rewritable.is

pub returns-in-WriteOnce : goal.returns-in-WriteOnce
returns-in-WriteOnce c = placed-once _ _ _ _ c.in-WriteOnce.is

pub returns-in-Rewritable : goal.returns-in-Rewritable
returns-in-Rewritable c = c.is_aligned.ensures ∙ placed-tables _ _ _ _ c.in-Rewritable.is
