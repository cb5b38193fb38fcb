-- `sparing_copies::copy_agrees` meets its contract, case by case. Assumes nothing.
use Rattle.std.proofs.Common.{sym, ap, ◌∙◌, arith}
use Rattle.fields.proofs.Laws.{same_true, same-equal}
use Rattle.model.specs.Sparing.{table_at}
use Rattle.model.proofs.Basics.{differ}
use Rattle.sparing_copies.proofs.Copies.{counts-short, agrees-other, agrees-same, agrees-uncounted}
use Rattle.sparing_copies.proofs.copy_agrees.Goals as goal

pub returns-then-t-at : goal.returns-then-t-at
returns-then-t-at c = agrees-same _ _ _ _ _ (ap (table_at _) (sym c.if-t-at.true))

pub returns-then-sequence_at-sequence : goal.returns-then-sequence_at-sequence
returns-then-sequence_at-sequence c = agrees-other _ _ _ _ _ (λ e. c.if-sequence_at-sequence.true (c.sequence_at.ensures _ ∙ e))

pub same_table-requires : goal.same_table-requires
same_table-requires c = record { t_in_bounds = (omega arith, omega arith); by_index = counts-short _ _ _ _ c.requires.at_value c.requires.count_bound.1 }

pub returns-then-same_table : goal.returns-then-same_table
returns-then-same_table c = c.if-same_table.true ∙ agrees-same _ _ _ _ _ (same_true _ _ (sym (c.same_table.ensures _) ∙ c.if-same_table.true))

pub returns-else-same_table : goal.returns-else-same_table
returns-else-same_table c = agrees-uncounted _ _ _ _ _ _ (sym (c.sequence_at.ensures _) ∙ c.if-sequence_at-sequence.false) (λ e. differ (same-equal _ _ e) (sym (c.same_table.ensures _) ∙ c.if-same_table.false)) c.copy_counts.ensures
