-- `bitmap_written::fill` meets its contract. Assumes nothing.
use native.Mathlib.Omega.{arith}
use lib.ListN.{length-take, length-drop}
use Rattle.bitmap.proofs.Windows.{state-small}
use Rattle.bitmap_written.proofs.Rows.{filled}
use Rattle.bitmap_written.proofs.fill.Goals as goal

pub returns : goal.returns
returns c = let p = c.requires in
    filled _ _ _ _ _ _ _ _ p.0 (state-small _) p.3 p.2 (omega arith) (simp (length-take, length-drop) (omega (arith, p.0))) c.whole_byte.ensures (c.fill.ensures.after (λ y e. e))
