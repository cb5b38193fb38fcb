-- `sparing_writes::write_picked` meets its contract, by cases. Assumes nothing.
use Rattle.sparing_writes.proofs.Laws.{picked-new, picked-kept}
use Rattle.sparing_writes.proofs.write_picked.Goals as goal

pub returns-then-at-place : goal.returns-then-at-place
returns-then-at-place c = picked-new _ _ _ _ _ _ _ c.if-at-place.true c.write_sector.ensures

pub returns-else-at-place : goal.returns-else-at-place
returns-else-at-place c = picked-kept _ _ _ _ _ _ _ c.if-at-place.false c.write_again.ensures
