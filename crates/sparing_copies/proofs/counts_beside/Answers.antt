-- `sparing_copies::counts_beside` meets its contract: by the bytes, then by the mark. Assumes nothing.
use Rattle.std.proofs.Common.{sym, ◌∙◌, arith}
use Rattle.fields.proofs.Laws.{same_true}
use Rattle.sparing_copies.proofs.Copies.{counts-short, counts-alike}
use Rattle.sparing_copies.proofs.counts_beside.Goals as goal

pub same_copy-requires : goal.same_copy-requires
same_copy-requires c = record { t_in_bounds = (omega arith, omega arith); by_index = counts-short _ _ _ _ c.requires.at_value c.requires.count_bound.1 }

pub returns-then-same_copy : goal.returns-then-same_copy
returns-then-same_copy c = counts-alike _ _ _ _ _ (same_true _ _ (sym (c.same_copy.ensures _) ∙ c.if-same_copy.true)) c.requires.at_value
