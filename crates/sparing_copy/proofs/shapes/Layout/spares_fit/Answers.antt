-- `sparing_copy::Layout::spares_fit` meets its contract: by their number, then by their places. Assumes nothing.
use Rattle.std.proofs.Common.{◌∙◌, arith}
use borrow.Author.Tests.{lt-leb}
use Rattle.sparing_copy.proofs.Rule.{spares-long, spares-short}
use Rattle.sparing_copy.proofs.shapes.Layout.spares_fit.Goals as goal

pub returns-else-spares-le-MOST_ENTRIES : goal.returns-else-spares-le-MOST_ENTRIES
returns-else-spares-le-MOST_ENTRIES c = lt-leb _ _ c.if-spares-le-MOST_ENTRIES.false ∙ spares-long _ _ (omega arith)

pub returns-else-spares-self : goal.returns-else-spares-self
returns-else-spares-self c = lt-leb _ _ c.if-spares-self.false ∙ spares-long _ _ (omega arith)

pub returns-then-spares-self : goal.returns-then-spares-self
returns-then-spares-self c = spares-short _ _ _ (omega arith) c.spares_placed.ensures
