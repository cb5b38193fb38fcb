-- `bitmap_written::ones_between` meets its contract. Assumes nothing.
use Prim.Native.Nat.{◌^◌, ◌≤◌}
use native.Mathlib.Omega.{arith}
use lib.Pow.{pow_mono}
use Rattle.bitmap_written.proofs.Rows.{weight}
use Rattle.bitmap_written.proofs.ones_between.Goals as goal

pub overflow_sub-result : goal.overflow_sub-result
overflow_sub-result c = let a = c.args in
    let lo = weight a.low (omega arith) in
    let hi = weight a.high (omega arith) in
    let up : 2 ^ a.low ≤ 2 ^ a.high = pow_mono (omega arith) in
    omega (arith, lo, hi, up)
