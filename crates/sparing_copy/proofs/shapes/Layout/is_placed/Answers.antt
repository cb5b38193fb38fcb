-- `sparing_copy::Layout::is_placed` meets its contract, test by test. Assumes nothing.
use Rattle.std.proofs.Common.{sym, ◌∙◌}
use Rattle.sparing_copy.proofs.Places.{placed_off, placed-met}
use Rattle.sparing_copy.proofs.shapes.Layout.is_placed.Goals as goal

pub returns-then-is_whole : goal.returns-then-is_whole
returns-then-is_whole c = placed-met _ _ _ (sym (c.is_whole.ensures _ _ _ _) ∙ c.if-is_whole.true) c.is_apart_from_tables.ensures

pub returns-else-is_whole : goal.returns-else-is_whole
returns-else-is_whole c = c.if-is_whole.false ∙ placed_off _ _ (sym (c.is_whole.ensures _ _ _ _) ∙ c.if-is_whole.false)
