-- `sparing_writes::is_of` meets its contract, by cases. Assumes nothing.
use Rattle.std.proofs.Common.{sym, ◌∙◌, ne_eqb}
use Rattle.sparing_writes.proofs.Order.{is-of-other, is-of-own}
use Rattle.sparing_writes.proofs.is_of.Goals as goal

pub returns-else-is_own : goal.returns-else-is_own
returns-else-is_own c = ne_eqb _ _ c.if-is_own.false ∙ is-of-other _ _ _ _ (λ e. c.if-is_own.false (c.sequence_at.ensures _ ∙ e))

pub returns-then-is_own : goal.returns-then-is_own
returns-then-is_own c = is-of-own _ _ _ _ _ (sym (c.sequence_at.ensures _) ∙ c.if-is_own.true) c.counts_beside.ensures
