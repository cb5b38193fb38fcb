-- `examine::is_held` meets its contract: each test is one of the definition's, in another order. Assumes nothing.
use Rattle.std.proofs.Common.{sym, ◌∙◌, arith}
use Rattle.examine.proofs.Laws.{held-many, held-last, held_next, held-entries, held-other}
use Rattle.examine.proofs.is_held.Goals as goal

pub returns-then-entries-gt-MOST_ENTRIES : goal.returns-then-entries-gt-MOST_ENTRIES
returns-then-entries-gt-MOST_ENTRIES c maps bytes = held-many _ _ _ c.in-WriteOnce.is (omega arith)

pub returns-then-next-last : goal.returns-then-next-last
returns-then-next-last c maps bytes = held-last _ _ _ c.in-WriteOnce.is (omega arith)

pub returns-then-not-is_next : goal.returns-then-not-is_next
returns-then-not-is_next c maps bytes = held_next _ _ _ c.in-WriteOnce.is (sym (c.is_next.ensures bytes) ∙ c.if-not-is_next.true)

pub returns-else-not-is_next : goal.returns-else-not-is_next
returns-else-not-is_next c maps bytes = c.are_below.ensures
    ∙ held-entries _ _ _ c.in-WriteOnce.is
    c.if-entries-gt-MOST_ENTRIES.false
    c.if-next-last.false
    (sym (c.is_next.ensures bytes) ∙ c.if-not-is_next.false)

pub returns-in-Rewritable : goal.returns-in-Rewritable
returns-in-Rewritable c maps bytes = held-other _ _ _ c.in-Rewritable.is
