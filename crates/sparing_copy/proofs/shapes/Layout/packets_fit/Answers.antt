-- `sparing_copy::Layout::packets_fit` meets its contract, test by test. Assumes nothing.
use Rattle.std.proofs.Common.{sym, ◌∙◌}
use Rattle.sparing_copy.proofs.Rule.{packets-off, packets-apart, packets-clear}
use Rattle.sparing_copy.proofs.shapes.Layout.packets_fit.Goals as goal

pub returns-else-mapped_fit : goal.returns-else-mapped_fit
returns-else-mapped_fit c = c.if-mapped_fit.false ∙ packets-off _ _ (sym c.mapped_fit.ensures.value ∙ c.if-mapped_fit.false)

pub returns-then-none_inside : goal.returns-then-none_inside
returns-then-none_inside c = c.if-none_inside.true ∙ packets-apart _ _ c.requires.originals (sym c.mapped_fit.ensures.value ∙ c.if-mapped_fit.true) (sym c.none_inside.ensures ∙ c.if-none_inside.true)

pub returns-else-none_inside : goal.returns-else-none_inside
returns-else-none_inside c = packets-clear _ _ (sym c.mapped_fit.ensures.value ∙ c.if-mapped_fit.true) _ c.originals_clear.ensures
