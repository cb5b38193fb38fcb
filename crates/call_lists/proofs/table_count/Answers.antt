-- `call_lists::table_count` meets its contract: the test is the definition's. Assumes nothing.
use borrow.Author.Tests.{lt-ltb, le-ltb}
use Rattle.call_lists.proofs.table_count.Goals as goal

pub returns-then-n-lt-TOO_MANY : goal.returns-then-n-lt-TOO_MANY
returns-then-n-lt-TOO_MANY c = simp (lt-ltb _ _ c.if-n-lt-TOO_MANY.true)

pub returns : goal.returns
returns c = simp (le-ltb _ _ c.if-n-lt-TOO_MANY.false)
