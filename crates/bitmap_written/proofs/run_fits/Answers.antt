-- `bitmap_written::run_fits` meets its contract. Assumes nothing.
use Prim.Native.Nat.{◌+◌}
use mathlib.Core.Path.{subst}
use Rattle.bitmap.specs.Scan.{FirstOf}
use Rattle.bitmap.proofs.Windows.{state-small}
use Rattle.bitmap_written.proofs.Calls.{state-told}
use Rattle.bitmap_written.proofs.run_fits.Goals as goal

pub returns-then-end-bitmap : goal.returns-then-end-bitmap
returns-then-end-bitmap c = let fits = c.if-end-bitmap.true in
    let a = c.args in
    let next = subst (λ v. FirstOf a.bitmap.bytes.now v a.first (a.first + a.count) c.next_in.result) c.other.ensures c.next_in.ensures in
    state-told _ _ _ _ _ fits.0 fits.1 (state-small _) _ next
