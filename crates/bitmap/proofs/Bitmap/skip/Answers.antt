use Prim.Native.Nat.{suc, ◌+◌, ◌*◌}
use native.Mathlib.Omega.{arith}
use native.Mathlib.Decide.{dec_le}
use Rattle.fields.proofs.Laws.{by-dec}
use Rattle.bitmap.proofs.Windows.{none_here, state-small}
use Rattle.bitmap.proofs.Bitmap.skip.Goals as goal

pub loop-i-preserved : goal.loop-i-preserved
loop-i-preserved c = let v = c.loop-i in
    let e = c.none-none.ensures in
    λ k l u h.
    by-dec
    (λ z. v.invariant k l z h)
    (λ z. none_here _ c.args.self.small _ (c.args.q + 8 * v.i) _ _ (state-small _) c.read.ensures e.free e.allocated c.if-read-none.false k (omega (arith, z)) (omega arith) h)
    (dec_le (suc k) (8 * (c.args.q + 8 * v.i)))
