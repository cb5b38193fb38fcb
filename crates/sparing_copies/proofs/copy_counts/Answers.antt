-- `sparing_copies::copy_counts` meets its contract: by the mark, then by the bytes. Assumes nothing.
use Rattle.std.proofs.Common.{refl, ap, ◌∙◌, ne_eqb}
use Rattle.sparing_copies.proofs.Copies.{counts-blank, counts-recorded, span-part}
use Rattle.model.specs.Disc.{sector}
use Rattle.model.specs.Sparing.{copy_fits}
use Rattle.sparing_copies.proofs.copy_counts.Goals as goal

pub returns-else-is_recorded : goal.returns-else-is_recorded
returns-else-is_recorded c = ne_eqb _ _ c.if-is_recorded.false ∙ counts-blank _ _ _ _ c.if-is_recorded.false

pub returns-then-is_recorded : goal.returns-then-is_recorded
unfolding sector
returns-then-is_recorded c = counts-recorded _ _ _ _ _ c.if-is_recorded.true (c.copy_fits.ensures ∙ ap (copy_fits _) (span-part _ _ _ _ 2048 c.start_of-from.ensures.0 refl))
