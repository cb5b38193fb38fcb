-- `bitmap_written::turn_run` meets its contract: the bits, then the tag. Assumes nothing.
use Rattle.bitmap.proofs.Windows.{state-small}
use Rattle.bitmap_written.proofs.Laws.{changed-ready}
use Rattle.bitmap_written.proofs.turn_run.Goals as goal

pub renew-requires : goal.renew-requires
renew-requires c = let p = c.requires in
    changed-ready _ _ _ _ _ c.change.ensures p.1 (state-small _) p.0
