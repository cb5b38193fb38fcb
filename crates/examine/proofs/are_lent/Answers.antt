-- `examine::are_lent` meets its contract. Assumes nothing.
use Rattle.std.proofs.Common.{refl, le-leb}
use borrow.Author.Tests.{lt-leb}
use Rattle.fields.proofs.Tests.{fails, holds}
use Rattle.model.specs.Examine.{lent_table}
use Rattle.examine.proofs.are_lent.Goals as goal

pub returns-then-table-lt-TABLE : goal.returns-then-table-lt-TABLE
unfolding lent_table
returns-then-table-lt-TABLE c = fails _ (lt-leb 4096 _ c.if-table-lt-TABLE.true)

pub returns : goal.returns
unfolding lent_table
returns c = holds (le-leb 4096 _ c.if-table-lt-TABLE.false) refl
