-- `model::is_outside` meets its contract: each test is the definition's. Assumes nothing.
use mathlib.Core.Path.{sym, ◌∙◌}
use borrow.Author.Tests.{not-true, not-false}
use Rattle.model.proofs.SparingPlaces.{outside-off, outside-before, outside-after}
use Rattle.model.proofs.is_outside.Goals as goal

pub returns-then-not-is_whole : goal.returns-then-not-is_whole
returns-then-not-is_whole c tables size = outside-off _ _ (sym (c.is_whole.ensures _ _ _ _) ∙ not-true _ c.if-not-is_whole.true-raw)

pub returns-then-at-s : goal.returns-then-at-s
returns-then-at-s c tables size = outside-before _ _ (sym (c.is_whole.ensures _ _ _ _) ∙ not-false _ c.if-not-is_whole.false-raw) c.if-at-s.true

pub returns : goal.returns
returns c tables size = outside-after _ _ (sym (c.is_whole.ensures _ _ _ _) ∙ not-false _ c.if-not-is_whole.false-raw) c.if-at-s.false
