-- `examine::is_aligned` meets its contract: each test is the definition's. Assumes nothing.
use Rattle.std.proofs.Common.{◌∙◌}
use Rattle.examine.proofs.Laws.{aligned-start, aligned-span, aligned-tables, outside-alike}
use Rattle.examine.proofs.is_aligned.Goals as goal

pub returns-then-s-ne0 : goal.returns-then-s-ne0
returns-then-s-ne0 c = aligned-start _ c.if-s-ne0.true

pub returns-then-l-ne0 : goal.returns-then-l-ne0
returns-then-l-ne0 c = aligned-span _ c.if-s-ne0.false c.if-l-ne0.true

pub returns : goal.returns
returns c = c.are_outside.ensures ∙ outside-alike _ _ _ _ 0 _ ∙ aligned-tables _ c.if-s-ne0.false c.if-l-ne0.false
